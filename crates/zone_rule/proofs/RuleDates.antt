-- The date of a rule's day is the day that is counted for it.
use Rattle.std.proofs.Common.{◌≡◌, ◌∙◌, ℕ, ◌+◌, ℤ, Option, Some, None, IsSome, ◌==◌, refl, sym}
use Rattle.std.proofs.lemmas.Bool.{cond_both}
use Rattle.std.specs.Int.{IsInRange}
use Rattle.std.specs.Option.{option_or}
use Rattle.chrono_units.specs.Years.{IsYear}
use Rattle.chrono_units.specs.declared.weekday.Weekday.{Weekday}
use Rattle.chrono_calendar.specs.Weeks.{date_of_nth_weekday}
use Rattle.chrono_calendar.proofs.GivenWeekdays.{given_nth_weekday}
use Rattle.zone_rule.specs.Changes.{day_in_year}
use Rattle.zone_rule.specs.RuleDays.{date_of_rule_day, date_of_week, ordinal_of_julian}
use Rattle.zone_rule.specs.declared.rule_day.RuleDay.{RuleDay}
use Rattle.zone_rule.specs.declared.rule_day.RuleDay.TheVariants.{Week, Julian, FromZero}
use Rattle.zone_rule.proofs.DaysInYears.{date_of_week-number, date_of_yo-number, day_in_year-from_zero, day_in_year-julian}

-- a month has the weekday only if it is one, and the year too
nth_given : (y : ℤ) (m n : ℕ) (d : Weekday) → IsSome (date_of_nth_weekday y m d n) → IsYear y × IsInRange 1 12 m
nth_given y m n d some = let given = (given_nth_weekday (date_of_nth_weekday y m d n) y m n d refl).0.0 some in (given.0, given.1)

one_given : (a b : Option ℤ) (P : Type 0) → (IsSome a → P) → (IsSome b → P) → IsSome (option_or a b) → P
one_given None b P f g some = g some
one_given (Some x) b P f g some = f refl

week_given : (y : ℤ) (m n : ℕ) (d : Weekday) → IsSome (date_of_week y m n d) → IsYear y × IsInRange 1 12 m
week_given y m n d =
    cond_both (n == 5) (option_or (date_of_nth_weekday y m d 5) (date_of_nth_weekday y m d 4)) (date_of_nth_weekday y m d n) (λ o. IsSome o → IsYear y × IsInRange 1 12 m)
    (λ is some. one_given (date_of_nth_weekday y m d 5) (date_of_nth_weekday y m d 4) (IsYear y × IsInRange 1 12 m) (nth_given y m 5 d) (nth_given y m 4 d) some)
    (λ is_not some. nth_given y m n d some)

some_is : (o : Option ℤ) (n : ℤ) → o ≡ Some n → IsSome o
some_is o n is = rw is refl

pub rule_date-number : (y : ℤ) (day : RuleDay) (n : ℤ) → date_of_rule_day y day ≡ Some n → day_in_year y day ≡ n
rule_date-number y (Week m w d) n is =
    let given = week_given y m w d (some_is (date_of_week y m w d) n is) in
    sym (date_of_week-number n y m w d given.0 given.1 (sym is))
rule_date-number y (Julian k) n is = day_in_year-julian y k ∙ sym (date_of_yo-number n y (ordinal_of_julian y k) (sym is))
rule_date-number y (FromZero k) n is = day_in_year-from_zero y k ∙ sym (date_of_yo-number n y (k + 1) (sym is))
