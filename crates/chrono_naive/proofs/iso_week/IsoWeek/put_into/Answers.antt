use Rattle.std.proofs.Common.{subst}
use Rattle.std.specs.Int.{IsInRange}
use Rattle.chrono_naive.specs.Fields.{IsIsoYear}
use Rattle.chrono_naive.proofs.DateTextLemmas.{IsAscii-iso_week_text}
use Rattle.chrono_naive.proofs.iso_week.IsoWeek.put_into.Goals as goal

pub returns-clause-ascii : goal.returns-clause-ascii
returns-clause-ascii g c =
    IsAscii-iso_week_text c.args.self.now (subst IsIsoYear c.year.ensures.value c.year.ensures.in_range)
    (subst (IsInRange 1 53) c.week.ensures.value c.week.ensures.in_range)
