-- What is put and the days that are left are all days.
use Rattle.std.proofs.Common.{◌≡◌, ◌+◌, ◌*◌, ◌≤◌, ◌++◌, length}
use Rattle.chrono_units.specs.WeekdaySet.{walk}
use Rattle.chrono_units.specs.declared.weekday.Weekday.TheVariants.{Mon}
use Rattle.caltool_form.specs.Private.{listed_days_text}
use Rattle.caltool_form.proofs.Days.{members}
use Rattle.caltool_form.proofs.texts.push_listed_days.Given as goal

abbrev pub invariant-loop-left : goal.invariant-loop-left
invariant-loop-left g l = record {
  text : l.out ++ listed_days_text (members l.days l.left l.day) ≡ l.fn.out ++ listed_days_text (walk l.fn.days Mon);
  fits : length l.out + 5 * l.left ≤ length l.fn.out + 35;
}

abbrev pub decreases-loop-left : goal.decreases-loop-left
decreases-loop-left g l = l.left
