-- The sets of the fields, one by one.
use Rattle.std.proofs.Common.{◌≡◌, Bool, refl}
use Rattle.chrono_sets.specs.FiniteSets.{FiniteSet}
use Rattle.chrono_cron.specs.declared.field_sets.FieldSets.{FieldSets}
use Rattle.chrono_cron.specs.declared.named_days.MonthDays.{MonthDays}

abbrev named : (from_end nearest last nth : FiniteSet) → Bool → MonthDays
named from_end nearest last nth workday =
    record { from_end = from_end; nearest_workdays = nearest; last_workday = workday; last_weekdays = last; nth_weekdays = nth }

pub same_sets : (s : FieldSets) (minutes hours days months weekdays from_end nearest last nth : FiniteSet) (workday either follows : Bool)
    → minutes ≡ s.minutes → hours ≡ s.hours → days ≡ s.days → months ≡ s.months → weekdays ≡ s.weekdays
    → from_end ≡ s.month_days.from_end → nearest ≡ s.month_days.nearest_workdays → last ≡ s.month_days.last_weekdays
    → nth ≡ s.month_days.nth_weekdays → workday ≡ s.month_days.last_workday → either ≡ s.either → follows ≡ s.follows_clock
    → record { minutes = minutes; hours = hours; days = days; months = months; weekdays = weekdays; month_days = named from_end nearest last nth workday; either = either; follows_clock = follows } ≡ s
same_sets s minutes hours days months weekdays from_end nearest last nth workday either follows a b c d e f g h i j k l = rw (a, b, c, d, e, f, g, h, i, j, k, l) refl
