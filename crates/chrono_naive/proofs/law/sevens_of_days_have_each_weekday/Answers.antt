use Rattle.std.proofs.Common.{Some, refl, sym}
use Rattle.chrono_calendar.specs.Days.{month_of, year_of}
use Rattle.chrono_calendar.proofs.GivenWeekdays.{given_nth_weekday, nth_weekday-named, nth_weekday-of_day}
use Rattle.chrono_calendar.proofs.MonthMoveLaws.{year_of-range}
use Rattle.chrono_naive.proofs.law.sevens_of_days_have_each_weekday.Goals as goal

pub returns-clause-nth : goal.returns-clause-nth
returns-clause-nth c = λ n k date. nth_weekday-of_day n k (year_of-range n date)

pub returns-clause-is : goal.returns-clause-is
returns-clause-is c = λ n k d date. (
  (λ named. let known = given_nth_weekday (Some n) (year_of n) (month_of n) k d (sym named) in (known.3, known.4.0, known.4.1)),
  (λ place. nth_weekday-named n (year_of n) (month_of n) k d (year_of-range n date) refl refl place.0 place.1 place.2),
)
