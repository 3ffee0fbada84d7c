use Rattle.std.proofs.Common.{subst, ℤ}
use Rattle.chrono_instant.specs.Offsets.{IsOffset}
use Rattle.chrono_stamps.proofs.MailLemmas.{zone_ascii}
use Rattle.chrono_stamps.proofs.rfc2822_writer.put_zone.Goals as goal

pub returns-clause-ascii : goal.returns-clause-ascii
returns-clause-ascii g c =
    zone_ascii c.args.offset (subst (λ (x : ℤ). IsOffset x) c.local_minus_utc-seconds.ensures.value c.local_minus_utc-seconds.ensures.in_range)
