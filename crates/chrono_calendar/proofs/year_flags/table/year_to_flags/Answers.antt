use Rattle.std.proofs.Common.{◌≡◌, true, pos, refl}
use Rattle.chrono_calendar.specs.Days.{days_before_year, days_of_years}
use Rattle.chrono_calendar.specs.Flags.{flags_of_year}
use Rattle.chrono_calendar.specs.declared.year_flags.table.TheConstants.{YEAR_TO_FLAGS}
use Rattle.chrono_calendar.proofs.Entries.{follows, entry}
use Rattle.chrono_calendar.proofs.year_flags.table.year_to_flags.Goals as goal

flags_tested : follows (λ y. flags_of_year (pos y)) 0 YEAR_TO_FLAGS ≡ true
unfolding flags_of_year days_before_year days_of_years
flags_tested = refl

pub returns-clause-value : goal.returns-clause-value
returns-clause-value c = entry (λ y. flags_of_year (pos y)) YEAR_TO_FLAGS flags_tested c.args.year c.requires
