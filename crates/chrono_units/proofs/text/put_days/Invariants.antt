-- What is put and the days that are left are all days.
use Rattle.std.proofs.Common.{◌≡◌, ◌+◌, ◌-◌, ◌*◌, ◌≤◌, ◌++◌, length}
use Rattle.chrono_units.specs.WeekdayText.{days_text, further_days_text}
use Rattle.chrono_units.proofs.text.put_days.Given as goal

abbrev pub invariant-loop-day : goal.invariant-loop-day
invariant-loop-day g l = record {
  text : l.text ++ further_days_text l.days ≡ l.fn.text ++ days_text l.fn.days;
  fits : length l.text + 5 * length l.days ≤ length l.fn.text + (5 * length l.fn.days - 2);
}

abbrev pub decreases-loop-day : goal.decreases-loop-day
decreases-loop-day g l = length l.days
