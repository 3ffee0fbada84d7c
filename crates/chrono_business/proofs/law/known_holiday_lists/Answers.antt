use Rattle.std.proofs.Common.{◌≡◌, ℕ, zero, suc, ◌<◌, ◌||◌, Bool, true, false, List, [], ◌∷◌, length, inl, inr, Option, Some, None, refl, sym, ap, ◌∙◌, arith, ℤ, pos}
use Rattle.std.specs.Prelude.{slice_index_or}
use Rattle.std.specs.Ordering.{int_eq}
use Rattle.std.specs.List.{All}
use Rattle.std.proofs.lemmas.Bool.Decides.{Decides-int_eq}
use Rattle.std.proofs.lemmas.Bool.{false≢true}
use Rattle.std.proofs.lemmas.List.Elements.{All-cons, All-nil}
use Rattle.chrono_datetime.specs.declared.Weekday.TheVariants.{Sat, Sun}
use Rattle.chrono_datetime.specs.declared.Month.TheVariants.{January}
use Rattle.chrono_datetime.specs.WeekdaySet.{DaySet, set_of}
use Rattle.chrono_datetime.specs.Days.{IsDate, date_of_day, date_of_ymd, days_before_year, days_of_months_in, days_of_years}
use Rattle.chrono_datetime.proofs.Signed.{signed}
use Rattle.chrono_business.specs.declared.holiday_rule.HolidayDay.TheVariants.{Fixed}
use Rattle.chrono_business.specs.declared.holiday_rule.HolidayRule.{HolidayRule}
use Rattle.chrono_business.specs.declared.holiday_rule.Moved.TheVariants.{Stays}
use Rattle.chrono_business.specs.HolidayRules.{holiday_named, date_of_rule, from_saturday, from_sunday, rule_of}
use Rattle.chrono_datetime.specs.RisingDates.{AreRising}
use Rattle.chrono_business.specs.OpenDays.{is_holiday, is_workday}
use Rattle.chrono_business.proofs.law.known_holiday_lists.Goals as goal

abbrev weekend : DaySet
weekend = set_of (Sat ∷ Sun ∷ [])

abbrev new_year : HolidayRule
new_year = rule_of (Fixed January 1) Stays (pos 2_000) (pos 2_100)

pub returns-clause-of_year : goal.returns-clause-of_year
unfolding date_of_rule holiday_named from_saturday from_sunday date_of_ymd date_of_day days_before_year days_of_years days_of_months_in
returns-clause-of_year c = record {
  place = 0;
  within = omega arith;
  year = pos 2_024;
  from = omega (arith, signed);
  to = omega (arith, signed);
  date = λ r. refl;
}

in_2025 : date_of_rule new_year (pos 2_025) ≡ Some (pos 739_252)
unfolding date_of_rule holiday_named from_saturday from_sunday date_of_ymd date_of_day days_before_year days_of_years days_of_months_in
in_2025 = refl

abbrev number : Option ℤ → ℤ
number None = pos 0
number (Some n) = n

other_year : (place : ℕ) (year : ℤ) → place < 1 → year ≡ pos 2_025 → ((r : HolidayRule) → date_of_rule (slice_index_or (new_year ∷ []) place r) year ≡ Some (pos 738_886)) → ⊥
other_year zero year within same date =
    let found : Some (pos 739_252) ≡ Some (pos 738_886) = sym in_2025 ∙ (ap (date_of_rule new_year) (sym same) ∙ date new_year) in
    let days : pos 739_252 ≡ pos 738_886 = ap number found in
    omega (arith, signed, days)
other_year (suc place) year within same date = omega (arith, within)

pub returns-clause-of_other_year : goal.returns-clause-of_other_year
returns-clause-of_other_year c = λ is. other_year is.place is.year is.within (omega (arith, signed, is.from, is.to)) is.date

some : (xs : List ℤ) → is_holiday xs (pos 738_886) ≡ true → 0 < length xs
some [] h = absurd (false≢true h)
some (x ∷ xs) h = omega arith

pub returns-clause-too_many : goal.returns-clause-too_many
returns-clause-too_many c = λ xs rising all. some xs (all (pos 738_886) refl)

rising : AreRising (pos 738_886 ∷ [])
rising i j d low within = absurd (omega (arith, low, within))

each : (d : ℤ) → d ≡ pos 738_886 → is_holiday (pos 738_886 ∷ []) d ≡ true
each d e = rw e refl

pub returns-clause-not_too_many : goal.returns-clause-not_too_many
returns-clause-not_too_many c = λ h. let more : 1 < 1 = h (pos 738_886 ∷ []) rising each in omega (arith, more)

or_false : (b : Bool) → (b || false) ≡ true → b ≡ true
or_false true h = refl
or_false false h = h

only : (d : ℤ) → is_holiday (pos 738_886 ∷ []) d ≡ true → d ≡ pos 738_886
only d h = sym ((Decides-int_eq (pos 738_886) d).0 (or_false (int_eq (pos 738_886) d) h))

pub returns-clause-added : goal.returns-clause-added
returns-clause-added c = record {
  holidays = record {
    dates = All-cons IsDate (pos 738_886) [] (omega (arith, signed), omega (arith, signed)) (All-nil IsDate);
    rising = rising;
    workdays = All-cons (λ h. is_workday weekend h ≡ true) (pos 738_886) [] refl (All-nil (λ h. is_workday weekend h ≡ true));
  };
  only = λ d h. inr (only d h, rw (only d h) refl);
  kept = λ d h. absurd (false≢true h);
  each = λ d e work. each d e;
}

pub returns-clause-lacking : goal.returns-clause-lacking
returns-clause-lacking c = λ are. false≢true (are.each (pos 738_886) refl refl)

pub returns-clause-other : goal.returns-clause-other
returns-clause-other c = λ are. elim (are.only (pos 738_887) refl) [
  | inl h ↦ false≢true h
  | inr h ↦ omega (arith, signed, h.0)
]

pub returns-clause-more : goal.returns-clause-more
returns-clause-more c = λ are. elim (are.only (pos 738_887) refl) [
  | inl h ↦ false≢true h
  | inr h ↦ omega (arith, signed, h.0)
]

pub returns-clause-dropped : goal.returns-clause-dropped
returns-clause-dropped c = λ are. false≢true (are.kept (pos 738_887) refl)

no-day : (P : ℤ → Type 0) → All P []
no-day P k d within = absurd (omega (arith, within))

saturday : is_workday weekend (pos 738_884) ≡ false
saturday = refl

pub returns-clause-saturday : goal.returns-clause-saturday
returns-clause-saturday c = record {
  holidays = record {
    dates = no-day IsDate;
    rising = λ i j d low within. absurd (omega (arith, low, within));
    workdays = no-day (λ h. is_workday weekend h ≡ true);
  };
  only = λ d h. absurd (false≢true h);
  kept = λ d h. absurd (false≢true h);
  each = λ d e work. absurd (false≢true (sym saturday ∙ (sym (ap (is_workday weekend) e) ∙ work)));
}
