-- Holidays to which the dates of rules are added, one rule after another and year after year.
use Rattle.std.proofs.Common.{◌≡◌, ℕ, ◌+◌, ◌<◌, ◌≤◌, true, false, ◌||◌, ◌⊎◌, inl, inr, List, [], length, drop, take, Some, sym, ap, ◌∙◌, arith, ℤ, pos, ◌+ℤ◌, ◌≤ℤ◌, ◌<ℤ◌}
use Rattle.std.specs.Prelude.{slice_index_or}
use Rattle.std.specs.Ordering.{int_eq}
use Rattle.std.proofs.lemmas.Bool.{false≢true, or_cases, or_left}
use Rattle.std.proofs.lemmas.Bool.Decides.{Decides-int_eq}
use Rattle.std.proofs.lemmas.Int.{by_lt_z}
use Rattle.std.proofs.lemmas.List.{get_or_default, take-append-drop}
use Rattle.std.proofs.lemmas.List.Folds.{list_any-append, list_any_at, list_any_more}
use Rattle.chrono_datetime.specs.WeekdaySet.{DaySet}
use Rattle.chrono_datetime.proofs.Signed.{signed}
use Rattle.chrono_business.specs.declared.holiday_rule.HolidayRule.{HolidayRule}
use Rattle.chrono_business.specs.HolidayRules.{date_of_rule}
use Rattle.chrono_business.specs.OpenDays.{AreHolidays, is_holiday, is_workday}
use Rattle.chrono_business.specs.HolidayLists.{AreHolidaysWith, AreTooMany, IsOfRules}
use Rattle.std.proofs.Math.Bool.{or-true}

-- ---- days of P, to which those of Q are added

pub with-none : (weekend : DaySet) (P : ℤ → Type 0) (xs : List ℤ) → AreHolidays weekend xs → ((d : ℤ) → P d → ⊥) → AreHolidaysWith weekend xs P xs
with-none weekend P xs are none = record {
  holidays = are;
  only = λ d h. inl h;
  kept = λ d h. h;
  each = λ d p workday. absurd (none d p);
}

pub with-same : (weekend : DaySet) (P Q : ℤ → Type 0) (zs xs : List ℤ) → AreHolidaysWith weekend zs P xs → ((d : ℤ) → P d → Q d) → ((d : ℤ) → Q d → P d) → AreHolidaysWith weekend zs Q xs
with-same weekend P Q zs xs w there back = record {
  holidays = w.holidays;
  only = λ d h. elim (w.only d h) [ inl was ↦ inl was | inr p ↦ inr (there d p.0, p.1) ];
  kept = w.kept;
  each = λ d q workday. w.each d (back d q) workday;
}

pub with-more : (weekend : DaySet) (P Q R : ℤ → Type 0) (zs xs ys : List ℤ) → AreHolidaysWith weekend zs P xs → AreHolidaysWith weekend xs Q ys → ((d : ℤ) → P d → R d) → ((d : ℤ) → Q d → R d) → ((d : ℤ) → R d → P d ⊎ Q d) → AreHolidaysWith weekend zs R ys
with-more weekend P Q R zs xs ys first next p_is q_is parts = record {
  holidays = next.holidays;
  only = λ d h. elim (next.only d h) [
    | inl was ↦ elim (first.only d was) [ inl old ↦ inl old | inr p ↦ inr (p_is d p.0, p.1) ]
    | inr q ↦ inr (q_is d q.0, q.1)
  ];
  kept = λ d h. next.kept d (first.kept d h);
  each = λ d r workday. elim (parts d r) [
    | inl p ↦ next.kept d (first.each d p workday)
    | inr q ↦ next.each d q workday
  ];
}

-- what is too much on the way is too much in the end
pub too_many-more : (weekend : DaySet) (P Q R : ℤ → Type 0) (zs xs : List ℤ) (n m : ℕ) → AreHolidaysWith weekend zs P xs → ((d : ℤ) → P d → R d) → ((d : ℤ) → Q d → R d) → n ≡ m → AreTooMany (λ d. (is_holiday xs d ≡ true) ⊎ (Q d × (is_workday weekend d ≡ true))) n → AreTooMany (λ d. (is_holiday zs d ≡ true) ⊎ (R d × (is_workday weekend d ≡ true))) m
too_many-more weekend P Q R zs xs n m first p_is q_is same many = λ ys rise all.
    let long = many ys rise (λ d e. elim e [
      | inl was ↦ elim (first.only d was) [ inl old ↦ all d (inl old) | inr p ↦ all d (inr (p_is d p.0, p.1)) ]
      | inr q ↦ all d (inr (q_is d q.0, q.1))
    ]) in
    omega (arith, same, long)

-- ---- rules one after another

-- the day d is the date of one of the first i rules of the year
pub record IsOfFirst (rules : List HolidayRule) (i : ℕ) (year d : ℤ) : Type 0 where
  pub place : ℕ
  pub within : place < i
  pub date : (r : HolidayRule) → date_of_rule (slice_index_or rules place r) year ≡ Some d

pub first-none : (rules : List HolidayRule) (year d : ℤ) → IsOfFirst rules 0 year d → ⊥
first-none rules year d h = omega (arith, h.within)

pub first-more : (rules : List HolidayRule) (i : ℕ) (year d : ℤ) → IsOfFirst rules i year d → IsOfFirst rules (i + 1) year d
first-more rules i year d h = record { place = h.place; within = omega (arith, h.within); date = h.date }

pub first-next : (rules : List HolidayRule) (i : ℕ) (r : HolidayRule) (year d : ℤ) → i < length rules → date_of_rule (slice_index_or rules i r) year ≡ Some d → IsOfFirst rules (i + 1) year d
first-next rules i r year d within date = record {
  place = i;
  within = omega arith;
  date = λ q. ap (λ (rule : HolidayRule). date_of_rule rule year) (sym (get_or_default rules i r q within)) ∙ date;
}

pub first-parts : (rules : List HolidayRule) (i : ℕ) (r : HolidayRule) (year d : ℤ) → IsOfFirst rules (i + 1) year d → IsOfFirst rules i year d ⊎ (date_of_rule (slice_index_or rules i r) year ≡ Some d)
first-parts rules i r year d h =
    by_lt_z (pos h.place) (pos i)
    (λ lt. inl (record { place = h.place; within = omega (arith, signed, lt); date = h.date }))
    (λ ge.
    let same : i ≡ h.place = omega (arith, signed, ge, h.within) in
    inr (ap (λ k. date_of_rule (slice_index_or rules k r) year) same ∙ h.date r))

pub first-is : (rules : List HolidayRule) (i : ℕ) (year d : ℤ) → i ≤ length rules → IsOfFirst rules i year d → IsOfRules rules year year d
first-is rules i year d end h = record {
  place = h.place;
  within = omega (arith, end, h.within);
  year = year;
  from = omega (arith, signed);
  to = omega (arith, signed);
  date = h.date;
}

pub all-first : (rules : List HolidayRule) (i : ℕ) (year d : ℤ) → i ≡ length rules → IsOfRules rules year year d → IsOfFirst rules i year d
all-first rules i year d end h =
    let same : h.year ≡ year = omega (arith, signed, h.from, h.to) in
    record {
      place = h.place;
      within = omega (arith, end, h.within);
      date = λ r. ap (date_of_rule (slice_index_or rules h.place r)) (sym same) ∙ h.date r;
    }

-- ---- years one after another

pub years-none : (rules : List HolidayRule) (first last d : ℤ) → last <ℤ first → IsOfRules rules first last d → ⊥
years-none rules first last d none h = omega (arith, signed, none, h.from, h.to)

pub years-more : (rules : List HolidayRule) (first last later d : ℤ) → last ≤ℤ later → IsOfRules rules first last d → IsOfRules rules first later d
years-more rules first last later d more h = record {
  place = h.place;
  within = h.within;
  year = h.year;
  from = h.from;
  to = omega (arith, signed, more, h.to);
  date = h.date;
}

pub years-from : (rules : List HolidayRule) (first year last d : ℤ) → first ≤ℤ year → year ≤ℤ last → IsOfRules rules year year d → IsOfRules rules first last d
years-from rules first year last d low high h = record {
  place = h.place;
  within = h.within;
  year = h.year;
  from = omega (arith, signed, low, h.from);
  to = omega (arith, signed, high, h.to);
  date = h.date;
}

pub years-parts : (rules : List HolidayRule) (first last year later d : ℤ) → year ≡ last +ℤ pos 1 → later ≤ℤ year → IsOfRules rules first later d → IsOfRules rules first last d ⊎ IsOfRules rules year year d
years-parts rules first last year later d next end h =
    by_lt_z last h.year
    (λ gt. inr (record { place = h.place; within = h.within; year = h.year; from = omega (arith, signed, gt, next); to = omega (arith, signed, end, h.to); date = h.date }))
    (λ le. inl (record { place = h.place; within = h.within; year = h.year; from = h.from; to = le; date = h.date }))

-- ---- no days yet

pub no_holidays : (weekend : DaySet) → AreHolidays weekend []
no_holidays weekend = record {
  dates = λ k d within. absurd (omega arith);
  rising = λ i j d order within. absurd (omega arith);
  workdays = λ k d within. absurd (omega arith);
}

pub only-new : (weekend : DaySet) (P : ℤ → Type 0) (xs : List ℤ) → AreHolidaysWith weekend [] P xs → (d : ℤ) → is_holiday xs d ≡ true → P d
only-new weekend P xs w d h = elim (w.only d h) [ inl none ↦ absurd (false≢true none) | inr p ↦ p.0 ]

pub too_many-new : (weekend : DaySet) (P : ℤ → Type 0) (n : ℕ) → AreTooMany (λ d. (is_holiday [] d ≡ true) ⊎ (P d × (is_workday weekend d ≡ true))) n → AreTooMany (λ d. P d × (is_workday weekend d ≡ true)) n
too_many-new weekend P n many = λ xs rise all.
    many xs rise (λ d e. elim e [ inl none ↦ absurd (false≢true none) | inr p ↦ all d p ])

-- ---- the days of a list, one after another

pub with-day : (weekend : DaySet) (zs xs : List ℤ) (x : ℤ) → AreHolidays weekend xs → ((d : ℤ) → is_holiday xs d ≡ true → (is_holiday zs d ≡ true) ⊎ ((d ≡ x) × (is_workday weekend x ≡ true))) → ((d : ℤ) → is_holiday zs d ≡ true → is_holiday xs d ≡ true) → (is_workday weekend x ≡ true → is_holiday xs x ≡ true) → AreHolidaysWith weekend zs (λ d. d ≡ x) xs
with-day weekend zs xs x are only kept here = record {
  holidays = are;
  only = λ d h. elim (only d h) [ inl was ↦ inl was | inr new ↦ inr (new.0, ap (is_workday weekend) new.0 ∙ new.1) ];
  kept = kept;
  each = λ d same workday. ap (is_holiday xs) same ∙ here (ap (is_workday weekend) (sym same) ∙ workday);
}

pub list-parts : (xs : List ℤ) (i : ℕ) (r d : ℤ) → i < length xs → r ≡ slice_index_or xs i r → is_holiday (take (i + 1) xs) d ≡ true → (is_holiday (take i xs) d ≡ true) ⊎ (d ≡ r)
list-parts xs i r d within is h =
    elim (or_cases (is_holiday (take i xs) d) (int_eq (slice_index_or xs i r) d) (sym (list_any_more (λ e. int_eq e d) xs i r within) ∙ h)) [
      | inl was ↦ inl was
      | inr here ↦ inr (sym (is ∙ (Decides-int_eq (slice_index_or xs i r) d).0 here))
    ]

pub list-more : (xs : List ℤ) (i : ℕ) (r d : ℤ) → i < length xs → is_holiday (take i xs) d ≡ true → is_holiday (take (i + 1) xs) d ≡ true
list-more xs i r d within h = list_any_more (λ e. int_eq e d) xs i r within ∙ or_left (is_holiday (take i xs) d) (int_eq (slice_index_or xs i r) d) h

pub list-next : (xs : List ℤ) (i : ℕ) (r d : ℤ) → i < length xs → d ≡ slice_index_or xs i r → is_holiday (take (i + 1) xs) d ≡ true
list-next xs i r d within same =
    list_any_more (λ e. int_eq e d) xs i r within
    ∙ (ap (λ t. is_holiday (take i xs) d || t) ((Decides-int_eq (slice_index_or xs i r) d).1 (sym same)) ∙ or-true (is_holiday (take i xs) d))

-- a day that stands in the list is one of it
pub list-in : (xs : List ℤ) (i : ℕ) (r d : ℤ) → i < length xs → d ≡ slice_index_or xs i r → is_holiday xs d ≡ true
list-in xs i r d within same = list_any_at (λ e. int_eq e d) xs i r within ((Decides-int_eq (slice_index_or xs i r) d).1 (sym same))

pub list-front : (xs : List ℤ) (i : ℕ) (d : ℤ) → is_holiday (take i xs) d ≡ true → is_holiday xs d ≡ true
list-front xs i d h =
    ap (λ (l : List ℤ). is_holiday l d) (sym (take-append-drop i xs))
    ∙ (list_any-append (λ e. int_eq e d) (take i xs) (drop i xs) ∙ or_left (is_holiday (take i xs) d) (is_holiday (drop i xs) d) h)

pub too_many-day : (weekend : DaySet) (zs : List ℤ) (x : ℤ) (n : ℕ) → AreTooMany (λ d. (is_holiday zs d ≡ true) ⊎ ((d ≡ x) × (is_workday weekend x ≡ true))) n → AreTooMany (λ d. (is_holiday zs d ≡ true) ⊎ ((d ≡ x) × (is_workday weekend d ≡ true))) n
too_many-day weekend zs x n many = λ xs rise all.
    many xs rise (λ d e. elim e [ inl was ↦ all d (inl was) | inr new ↦ all d (inr (new.0, ap (is_workday weekend) new.0 ∙ new.1)) ])
