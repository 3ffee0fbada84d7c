use Rattle.std.proofs.Common.{rules}
use Rattle.chrono_pattern.proofs.ZonedPartLemmas.{fits_stamp}
use Rattle.chrono_pattern.proofs.date_time_parts.named_moment.Goals as goal

pub returns-in-Some-clause-every : goal.returns-in-Some-clause-every
returns-in-Some-clause-every c = λ m shown named fits.
    let each = fits_stamp c.args.parts.now c.in-Some.stamp m c.args.offset c.in-Some.is fits in
    c.stamped_moment.ensures.every m shown each.date each.time (search rules)
