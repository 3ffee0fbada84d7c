use Rattle.std.proofs.Common.{◌∙◌, arith}
use Rattle.std.proofs.lemmas.Bool.Decides.{nat_tests}
use Rattle.chrono_calendar.proofs.Weeks.{weeks_of_iso_year-flags}
use Rattle.chrono_calendar.proofs.year_flags.YearFlags.nisoweeks.Goals as goal
use Rattle.chrono_calendar.proofs.year_flags.YearFlags.nisoweeks.Goals.{in_default, in_default-2, in-1, in-1-2}

pub returns-clause-weeks : goal.returns-clause-weeks
returns-clause-weeks c = λ y e.
    let weeks = weeks_of_iso_year-flags y c.bits.result (c.bits.ensures.value ∙ e) in
    elim c.match-matches.branch [
      | in_default w ↦ grind (arith, nat_tests)
      | in_default-2 w ↦ grind (arith, nat_tests)
      | in-1 w ↦ grind (arith, nat_tests)
      | in-1-2 w ↦ grind (arith, nat_tests)
    ]
