-- The numbers of the weekdays give the days back.
use Rattle.std.proofs.Common.{◌≡◌, ℕ, ◌<◌, ◌==◌, refl, ap, sym, ◌∙◌, arith, true}
use Rattle.std.proofs.lemmas.Bool.{agree_below_at, eqb-true}
use Rattle.chrono_units.specs.declared.weekday.Weekday.{Weekday}
use Rattle.chrono_units.specs.declared.weekday.Weekday.TheVariants.{Mon, Tue, Wed, Thu, Fri, Sat, Sun}
use Rattle.chrono_units.specs.Weekday.{days_from_monday, weekday_from_monday}
use Rattle.chrono_units.specs.WeekdaySet.{weekday_eq}

-- a day's number is below 7
pub days_from_monday-lt : (d : Weekday) → days_from_monday d < 7
days_from_monday-lt = elim [ Mon ↦ omega arith | Tue ↦ omega arith | Wed ↦ omega arith | Thu ↦ omega arith | Fri ↦ omega arith | Sat ↦ omega arith | Sun ↦ omega arith ]

-- the day of a day's number is that day
pub weekday_from_monday-days_from_monday : (d : Weekday) → weekday_from_monday (days_from_monday d) ≡ d
weekday_from_monday-days_from_monday = elim [ Mon ↦ refl | Tue ↦ refl | Wed ↦ refl | Thu ↦ refl | Fri ↦ refl | Sat ↦ refl | Sun ↦ refl ]

-- the number of a number's day is that number
pub days_from_monday-weekday_from_monday : (n : ℕ) → n < 7 → days_from_monday (weekday_from_monday n) ≡ n
days_from_monday-weekday_from_monday n h =
    eqb-true _ _ (agree_below_at (λ k. days_from_monday (weekday_from_monday k) == k) (λ k. true) 7 n refl h)

-- two days with one number are one day
pub same_weekday : (d e : Weekday) → days_from_monday d ≡ days_from_monday e → d ≡ e
same_weekday d e h = sym (weekday_from_monday-days_from_monday d) ∙ ap weekday_from_monday h ∙ weekday_from_monday-days_from_monday e

pub weekday_eq-true : (d e : Weekday) → weekday_eq d e ≡ true → d ≡ e
weekday_eq-true d e h = same_weekday d e (eqb-true _ _ h)
