-- Days that each part of a rule names, which a search passes over by none.
use Rattle.std.proofs.Common.{◌≡◌, ◌==◌, ℕ, ◌+◌, ◌-◌, ◌<◌, ◌≤◌, true, false, Bool, not, ◌||◌, inl, inr, refl, ap, ◌∙◌, arith, ℤ, pos, ◌+ℤ◌, ◌≤ℤ◌, int_le}
use Rattle.std.proofs.lemmas.Bool.{and_from, and_parts, and_right, cases_lt, false≢true}
use Rattle.std.proofs.Math.Bool.{or-true}
use Rattle.chrono_datetime.specs.Days.{day_of, month_of}
use Rattle.chrono_datetime.specs.Weekday.{days_from_monday}
use Rattle.chrono_datetime.specs.Weeks.{weekday_of}
use Rattle.chrono_datetime.proofs.IsoWeeks.{days_from_monday-of}
use Rattle.chrono_datetime.proofs.Signed.{signed}
use Rattle.chrono_sets.specs.FiniteSets.{has}
use Rattle.chrono_rules.specs.ByParts.{fills_day, fills_month, fills_weekday, has_numbers, in_week, on_month_day, on_weekday, on_year_day, passes}
use Rattle.chrono_rules.specs.Instances.{in_interval, in_positions, is_member, not_after}
use Rattle.chrono_rules.specs.RuleParts.{lacks_month_days, lacks_months, lacks_weekdays, lacks_weeks, lacks_year_days}
use Rattle.chrono_rules.specs.declared.rule.Frequency.{Frequency}
use Rattle.chrono_rules.specs.declared.rule.Frequency.TheVariants.{Daily, Monthly, Weekly, Yearly}
use Rattle.chrono_rules.specs.declared.rule.Rule.{Rule}

-- what the start fills in is no part of the rule
pub no_month_filled : (f : Frequency) (r : Rule) → lacks_months r ≡ false → fills_month f r ≡ false
unfolding fills_month
no_month_filled Daily r named = refl
no_month_filled Weekly r named = refl
no_month_filled Monthly r named = refl
no_month_filled Yearly r named = rw named refl

pub no_day_filled : (f : Frequency) (r : Rule) → lacks_month_days r ≡ false → fills_day f r ≡ false
unfolding fills_day
no_day_filled Daily r named = refl
no_day_filled Weekly r named = refl
no_day_filled Monthly r named = rw named refl
no_day_filled Yearly r named = rw named refl

pub lacks_filled_weekday : (f : Frequency) (r : Rule) → fills_weekday f r ≡ true → lacks_weekdays r ≡ true
unfolding fills_weekday
lacks_filled_weekday Daily r fills = absurd (false≢true fills)
lacks_filled_weekday Weekly r fills = fills
lacks_filled_weekday Monthly r fills = absurd (false≢true fills)
lacks_filled_weekday Yearly r fills = (and_parts _ _ (and_parts _ _ fills).1).0

-- one of two gaps is none, and where it is none its test holds
pub either : (a b : Bool) (front back : ℕ) → (front ≡ 0 → a ≡ true) → (back ≡ 0 → b ≡ true) → (0 < front → 0 < back → ⊥) → (a || b) ≡ true
either a b front back at-front at-back some = elim (cases_lt 0 front) [
  | inl ahead ↦ elim (cases_lt 0 back) [
    | inl behind ↦ absurd (some ahead behind)
    | inr none ↦ rw (at-back (omega (arith, none))) (or-true a)
  ]
  | inr none ↦ rw (at-front (omega (arith, none))) refl
]

-- weekdays without a number
pub off_weekday : (r : Rule) (n d : ℤ) (j : ℕ) → has_numbers r.frequency ≡ false → d ≡ n +ℤ pos j → j < 7
    → (days_from_monday (weekday_of n) + j < 7 → has r.weekdays.every (days_from_monday (weekday_of n) + j) ≡ false)
    → (7 ≤ days_from_monday (weekday_of n) + j → has r.weekdays.every (0 + (days_from_monday (weekday_of n) + j - 7)) ≡ false)
    → on_weekday r d ≡ false
unfolding on_weekday
off_weekday r n d j plain at few ahead around =
    let there = days_from_monday-of d in
    let here = days_from_monday-of n in
    let none : has r.weekdays.every (days_from_monday (weekday_of d)) ≡ false = elim (cases_lt (days_from_monday (weekday_of n) + j) 7) [
      | inl less ↦ let place : days_from_monday (weekday_of d) ≡ days_from_monday (weekday_of n) + j = omega (arith, signed, at, few, less, here, there) in ap (has r.weekdays.every) place ∙ ahead less
      | inr more ↦ let place : days_from_monday (weekday_of d) ≡ 0 + (days_from_monday (weekday_of n) + j - 7) = omega (arith, signed, at, few, more, here, there) in ap (has r.weekdays.every) place ∙ around more
    ] in
    rw (none, plain) refl

pub every_such_day : (r : Rule) (n : ℤ) → has r.weekdays.every (days_from_monday (weekday_of n)) ≡ true → on_weekday r n ≡ true
unfolding on_weekday
every_such_day r n is = rw is refl

-- a day that BYSETPOS does not name
pub off_position : (r : Rule) (start n : ℤ) → in_positions r start n ≡ false → is_member r start n ≡ false
unfolding is_member
off_position r start n out =
    and_right (int_le start n) _ (and_right (not_after r.end n) _ (and_right (in_interval r start n) _ (and_right (passes r start n) _ out)))

-- a day that every part names
pub named_by_all : (r : Rule) (start n : ℤ)
    → (not (fills_weekday r.frequency r) || (days_from_monday (weekday_of n) == days_from_monday (weekday_of start))) ≡ true
    → (not (fills_day r.frequency r) || (day_of n == day_of start)) ≡ true
    → (not (fills_month r.frequency r) || (month_of n == month_of start)) ≡ true
    → (lacks_months r || has r.months (month_of n)) ≡ true
    → (lacks_month_days r || on_month_day r n) ≡ true
    → (lacks_weekdays r || on_weekday r n) ≡ true
    → (lacks_year_days r || on_year_day r n) ≡ true
    → (lacks_weeks r || in_week r n) ≡ true
    → passes r start n ≡ true
unfolding passes
named_by_all r start n own-weekday own-day own-month month month-day weekday year-day week =
    and_from _ _ (and_from _ _ own-weekday (and_from _ _ own-day own-month))
    (and_from _ _ month (and_from _ _ month-day (and_from _ _ weekday (and_from _ _ year-day week))))

pub found : (r : Rule) (start n : ℤ) → start ≤ℤ n → not_after r.end n ≡ true → in_interval r start n ≡ true → passes r start n ≡ true → in_positions r start n ≡ true → is_member r start n ≡ true
unfolding is_member
found r start n begun before counts named placed =
    let from : int_le start n ≡ true = grind (arith, signed, begun) in
    and_from _ _ from (and_from _ _ before (and_from _ _ counts (and_from _ _ named placed)))
