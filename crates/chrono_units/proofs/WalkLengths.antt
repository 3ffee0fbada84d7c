-- How long a walk over a set is.
use Rattle.std.proofs.Common.{◌≡◌, ◌≤◌, length, refl, arith}
use Rattle.std.proofs.lemmas.List.Sums.{length-filter, count_by-le-length}
use Rattle.chrono_units.specs.declared.weekday.Weekday.{Weekday}
use Rattle.chrono_units.specs.declared.weekday.Weekday.TheVariants.{Mon, Tue, Wed, Thu, Fri, Sat, Sun}
use Rattle.chrono_units.specs.WeekdaySet.{DaySet, contains, week_from, walk}

seven_days : (start : Weekday) → length (week_from start) ≡ 7
seven_days Mon = refl
seven_days Tue = refl
seven_days Wed = refl
seven_days Thu = refl
seven_days Fri = refl
seven_days Sat = refl
seven_days Sun = refl

pub length-walk-le : (set : DaySet) (start : Weekday) → length (walk set start) ≤ 7
length-walk-le set start = omega (arith, length-filter (contains set) (week_from start), count_by-le-length (contains set) (week_from start), seven_days start)
