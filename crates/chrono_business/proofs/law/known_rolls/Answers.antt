use Rattle.std.proofs.Common.{◌≡◌, ℕ, ◌-◌, ◌≤◌, [], ◌∷◌, inl, inr, refl, sym, ◌∙◌, arith, ℤ, pos, ◌+ℤ◌, ◌-ℤ◌, ◌≤ℤ◌, true, Some}
use Rattle.std.proofs.lemmas.Bool.{false≢true}
use Rattle.chrono_datetime.specs.declared.Weekday.{Weekday}
use Rattle.chrono_datetime.specs.declared.Weekday.TheVariants.{Mon, Tue, Wed, Thu, Fri, Sat, Sun}
use Rattle.chrono_datetime.specs.WeekdaySet.{contains, set_of}
use Rattle.chrono_datetime.specs.Weeks.{weekday_of}
use Rattle.chrono_datetime.specs.Years.{month_length}
use Rattle.chrono_datetime.specs.Days.{date_of_ymd, days_before_year, days_of_months_in, days_of_years}
use Rattle.chrono_datetime.specs.MonthMoves.{InSameMonth, month_first_of, month_last_of}
use Rattle.chrono_datetime.specs.Recurrence.{count_between, count_where}
use Rattle.chrono_datetime.proofs.Signed.{signed}
use Rattle.chrono_datetime.proofs.MonthDays.{month-days}
use Rattle.chrono_datetime.proofs.NamedDates.{date_of_ymd-name}
use Rattle.chrono_business.specs.OpenDays.{Closed, closed, is_open, open_days}
use Rattle.chrono_business.specs.Rolls.{IsLastOpen, IsNextOpen}
use Rattle.chrono_business.proofs.Ranks.{closed-between}
use Rattle.chrono_business.proofs.RollLemmas.{begins_closed-early, ends_closed-late, nearest-last, nearest-next, open_and_closed}
use Rattle.chrono_business.proofs.law.known_rolls.Goals as goal

next : (c : Closed) (d e : ℤ) → is_open c e ≡ true → d ≤ℤ e → open_days c d e ≡ 0 → IsNextOpen c d e
next c d e is low none = record { passes = is; not_before = low; least = λ f from to. closed-between c d e f none from to }

last : (c : Closed) (d e : ℤ) → is_open c e ≡ true → e ≤ℤ d → open_days c (e +ℤ pos 1) (d +ℤ pos 1) ≡ 0 → IsLastOpen c d e
last c d e is high none = record {
  passes = is;
  not_after = high;
  greatest = λ f from to. closed-between c (e +ℤ pos 1) (d +ℤ pos 1) f none (omega (arith, signed, from)) (omega (arith, signed, to));
}

abbrev weekends : Closed
weekends = closed (set_of (Sat ∷ Sun ∷ [])) []

abbrev new_year : Closed
new_year = closed (set_of (Sat ∷ Sun ∷ [])) (pos 738_886 ∷ [])

abbrev tuesday : Closed
tuesday = closed (set_of (Sat ∷ Sun ∷ [])) (pos 738_887 ∷ [])

-- the ends of the two months
last_named : (n y : ℤ) (m d : ℕ) → date_of_ymd y m d ≡ Some n → month_last_of n ≡ n +ℤ pos (month_length y m - d)
last_named n y m d e = let name = date_of_ymd-name n y m d e in rw (name.0, name.1, name.2) refl

first_named : (n y : ℤ) (m d : ℕ) → date_of_ymd y m d ≡ Some n → month_first_of n ≡ n -ℤ pos (d - 1)
first_named n y m d e = let name = date_of_ymd-name n y m d e in rw name.2 refl

march_ends : month_last_of (pos 738_975) ≡ pos 738_976
unfolding date_of_ymd days_before_year days_of_years days_of_months_in
march_ends = last_named (pos 738_975) (pos 2024) 3 30 refl

june_begins : month_first_of (pos 739_038) ≡ pos 739_038
unfolding date_of_ymd days_before_year days_of_years days_of_months_in
june_begins = first_named (pos 739_038) (pos 2024) 6 1 refl

to_april : IsNextOpen weekends (pos 738_975) (pos 738_977)
unfolding is_open count_between count_where
to_april = next weekends (pos 738_975) (pos 738_977) refl (omega (arith, signed)) refl

to_march : IsLastOpen weekends (pos 738_975) (pos 738_974)
unfolding is_open count_between count_where
to_march = last weekends (pos 738_975) (pos 738_974) refl (omega (arith, signed)) refl

to_june : IsNextOpen weekends (pos 739_038) (pos 739_040)
unfolding is_open count_between count_where
to_june = next weekends (pos 739_038) (pos 739_040) refl (omega (arith, signed)) refl

to_may : IsLastOpen weekends (pos 739_038) (pos 739_037)
unfolding is_open count_between count_where
to_may = last weekends (pos 739_038) (pos 739_037) refl (omega (arith, signed)) refl

from_sunday : IsNextOpen weekends (pos 738_976) (pos 738_977)
unfolding is_open count_between count_where
from_sunday = next weekends (pos 738_976) (pos 738_977) refl (omega (arith, signed)) refl

to_friday : IsLastOpen weekends (pos 738_976) (pos 738_974)
unfolding is_open count_between count_where
to_friday = last weekends (pos 738_976) (pos 738_974) refl (omega (arith, signed)) refl

months_differ : (n m y z : ℤ) (p q d e : ℕ) → date_of_ymd y p d ≡ Some n → date_of_ymd z q e ≡ Some m → (p ≡ q → ⊥) → InSameMonth n m → ⊥
months_differ n m y z p q d e first second differ same =
    differ ((date_of_ymd-name n y p d first).1 ∙ (same.1 ∙ sym (date_of_ymd-name m z q e second).1))

pub returns-clause-following : goal.returns-clause-following
returns-clause-following c = to_april

pub returns-clause-preceding : goal.returns-clause-preceding
returns-clause-preceding c = to_may

pub returns-clause-modified_following : goal.returns-clause-modified_following
returns-clause-modified_following c =
    inr (to_march, ends_closed-late weekends (pos 738_975) (pos 738_977) to_april.least (omega (arith, signed, march_ends)))

pub returns-clause-not_into_april : goal.returns-clause-not_into_april
unfolding date_of_ymd days_before_year days_of_years days_of_months_in
returns-clause-not_into_april c = elim [
  | inl h ↦ months_differ (pos 738_977) (pos 738_975) (pos 2024) (pos 2024) 4 3 1 30 refl refl (λ e. omega (arith, e)) h.1
  | inr h ↦ omega (arith, signed, h.0.not_after)
]

pub returns-clause-modified_preceding : goal.returns-clause-modified_preceding
returns-clause-modified_preceding c =
    inr (to_june, begins_closed-early weekends (pos 739_038) (pos 739_037) to_may.greatest (omega (arith, signed, june_begins)))

pub returns-clause-not_into_may : goal.returns-clause-not_into_may
unfolding date_of_ymd days_before_year days_of_years days_of_months_in
returns-clause-not_into_may c = elim [
  | inl h ↦ months_differ (pos 739_037) (pos 739_038) (pos 2024) (pos 2024) 5 6 31 1 refl refl (λ e. omega (arith, e)) h.1
  | inr h ↦ omega (arith, signed, h.0.not_before)
]

pub returns-clause-nearest : goal.returns-clause-nearest
returns-clause-nearest c =
    nearest-last weekends (pos 738_975) (pos 738_977) (pos 738_974) to_april to_march (omega (arith, signed))

pub returns-clause-nearest_later : goal.returns-clause-nearest_later
unfolding is_open count_between count_where
returns-clause-nearest_later c =
    nearest-next new_year (pos 738_885) (pos 738_887) (pos 738_883) (next new_year (pos 738_885) (pos 738_887) refl (omega (arith, signed)) refl) (last new_year (pos 738_885) (pos 738_883) refl (omega (arith, signed)) refl) (omega (arith, signed))

pub returns-clause-nearest_sunday : goal.returns-clause-nearest_sunday
returns-clause-nearest_sunday c =
    nearest-next weekends (pos 738_976) (pos 738_977) (pos 738_974) from_sunday to_friday (omega (arith, signed))

pub returns-clause-nearest_tuesday : goal.returns-clause-nearest_tuesday
unfolding is_open count_between count_where
returns-clause-nearest_tuesday c =
    nearest-next tuesday (pos 738_887) (pos 738_888) (pos 738_886) (next tuesday (pos 738_887) (pos 738_888) refl (omega (arith, signed)) refl) (last tuesday (pos 738_887) (pos 738_886) refl (omega (arith, signed)) refl) (omega (arith, signed))

pub returns-clause-isda_saturday : goal.returns-clause-isda_saturday
returns-clause-isda_saturday c = inr (to_march, refl)

pub returns-clause-isda_sunday : goal.returns-clause-isda_sunday
returns-clause-isda_sunday c = inl (from_sunday, refl)

pub returns-clause-isda_monday : goal.returns-clause-isda_monday
unfolding is_open count_between count_where
returns-clause-isda_monday c =
    inl (next new_year (pos 738_886) (pos 738_887) refl (omega (arith, signed)) refl, refl)

pub returns-clause-isda_tuesday : goal.returns-clause-isda_tuesday
unfolding is_open count_between count_where
returns-clause-isda_tuesday c =
    inr (last tuesday (pos 738_887) (pos 738_886) refl (omega (arith, signed)) refl, refl)

pub returns-clause-isda_not_back_on_sunday : goal.returns-clause-isda_not_back_on_sunday
returns-clause-isda_not_back_on_sunday c = elim [
  | inl h ↦ omega (arith, signed, h.0.not_before)
  | inr h ↦ false≢true (sym h.1)
]

pub returns-clause-isda_wednesday : goal.returns-clause-isda_wednesday
returns-clause-isda_wednesday c = refl

pub returns-clause-isda_thursday : goal.returns-clause-isda_thursday
returns-clause-isda_thursday c = refl

pub returns-clause-isda_friday : goal.returns-clause-isda_friday
returns-clause-isda_friday c = refl

pub returns-clause-following_open : goal.returns-clause-following_open
unfolding is_open count_between count_where
returns-clause-following_open c = next weekends (pos 738_977) (pos 738_977) refl (omega (arith, signed)) refl

pub returns-clause-preceding_open : goal.returns-clause-preceding_open
unfolding is_open count_between count_where
returns-clause-preceding_open c = last weekends (pos 739_037) (pos 739_037) refl (omega (arith, signed)) refl

monday_open : is_open weekends (pos 738_977) ≡ true
unfolding is_open
monday_open = refl

friday_open : is_open weekends (pos 739_037) ≡ true
unfolding is_open
friday_open = refl

pub returns-clause-following_not_tuesday : goal.returns-clause-following_not_tuesday
returns-clause-following_not_tuesday c = λ h.
    open_and_closed weekends (pos 738_977) monday_open (h.least (pos 738_977) (omega (arith, signed)) (omega (arith, signed)))

pub returns-clause-preceding_not_thursday : goal.returns-clause-preceding_not_thursday
returns-clause-preceding_not_thursday c = λ h.
    open_and_closed weekends (pos 739_037) friday_open (h.greatest (pos 739_037) (omega (arith, signed)) (omega (arith, signed)))

-- 29 March and 3 June
good_friday_open : is_open weekends (pos 738_974) ≡ true
unfolding is_open
good_friday_open = refl

june_open : is_open weekends (pos 739_040) ≡ true
unfolding is_open
june_open = refl

pub returns-clause-ends_closed : goal.returns-clause-ends_closed
returns-clause-ends_closed c =
    ends_closed-late weekends (pos 738_975) (pos 738_977) to_april.least (omega (arith, signed, march_ends))

pub returns-clause-ends_open : goal.returns-clause-ends_open
returns-clause-ends_open c = λ h.
    open_and_closed weekends (pos 738_974) good_friday_open (h (pos 738_974) (omega (arith, signed)) (refl, refl))

sunday_in_june : (f : ℤ) → InSameMonth f (pos 739_039) → pos 739_038 ≤ℤ f
unfolding date_of_ymd days_before_year days_of_years days_of_months_in
sunday_in_june f month =
    let begins : month_first_of (pos 739_039) ≡ pos 739_038 = first_named (pos 739_039) (pos 2024) 6 2 refl in
    omega (arith, signed, begins, ((month-days (pos 739_039) f).0 month).0)

pub returns-clause-begins_closed : goal.returns-clause-begins_closed
unfolding is_open count_between count_where
returns-clause-begins_closed c = λ f high month.
    closed-between weekends (pos 739_038) (pos 739_040) f refl (sunday_in_june f month) (omega (arith, signed, high))

pub returns-clause-begins_open : goal.returns-clause-begins_open
returns-clause-begins_open c = λ h.
    open_and_closed weekends (pos 739_040) june_open (h (pos 739_040) (omega (arith, signed)) (refl, refl))

pub returns-clause-month_open : goal.returns-clause-month_open
unfolding date_of_ymd days_before_year days_of_years days_of_months_in
returns-clause-month_open c = λ h.
    let friday = date_of_ymd-name (pos 738_974) (pos 2024) 3 29 refl in
    let saturday = date_of_ymd-name (pos 738_975) (pos 2024) 3 30 refl in
    open_and_closed weekends (pos 738_974) good_friday_open (h (pos 738_974) (sym friday.0 ∙ saturday.0, sym friday.1 ∙ saturday.1))

always : (d : Weekday) → contains (set_of (Mon ∷ Tue ∷ Wed ∷ Thu ∷ Fri ∷ Sat ∷ Sun ∷ [])) d ≡ true
always Mon = refl
always Tue = refl
always Wed = refl
always Thu = refl
always Fri = refl
always Sat = refl
always Sun = refl

pub returns-clause-month_closed : goal.returns-clause-month_closed
unfolding is_open
returns-clause-month_closed c = λ f month. rw (always (weekday_of f)) refl

-- the 2nd, 4th, 8th and 9th of March
saturday_with_monday : InSameMonth (pos 738_949) (pos 738_947)
unfolding date_of_ymd days_before_year days_of_years days_of_months_in
saturday_with_monday =
    let monday = date_of_ymd-name (pos 738_949) (pos 2024) 3 4 refl in
    let saturday = date_of_ymd-name (pos 738_947) (pos 2024) 3 2 refl in
    (sym monday.0 ∙ saturday.0, sym monday.1 ∙ saturday.1)

saturday_with_friday : InSameMonth (pos 738_953) (pos 738_954)
unfolding date_of_ymd days_before_year days_of_years days_of_months_in
saturday_with_friday =
    let friday = date_of_ymd-name (pos 738_953) (pos 2024) 3 8 refl in
    let saturday = date_of_ymd-name (pos 738_954) (pos 2024) 3 9 refl in
    (sym friday.0 ∙ saturday.0, sym friday.1 ∙ saturday.1)

fourth_open : is_open weekends (pos 738_949) ≡ true
unfolding is_open
fourth_open = refl

eighth_open : is_open weekends (pos 738_953) ≡ true
unfolding is_open
eighth_open = refl

second_of_january_open : is_open new_year (pos 738_887) ≡ true
unfolding is_open
second_of_january_open = refl

pub returns-clause-isda_not_on_on_saturday : goal.returns-clause-isda_not_on_on_saturday
returns-clause-isda_not_on_on_saturday c = elim [
  | inl h ↦ false≢true h.1
  | inr h ↦ omega (arith, signed, h.0.not_after)
]

pub returns-clause-unadjusted_not_on : goal.returns-clause-unadjusted_not_on
returns-clause-unadjusted_not_on c = λ h. omega (arith, signed, h)

pub returns-clause-nearest_not_farther : goal.returns-clause-nearest_not_farther
returns-clause-nearest_not_farther c = λ h.
    let near : 2 ≤ 1 = h.nearest (pos 738_974) (omega (arith, signed), omega (arith, signed)) good_friday_open in omega (arith, near)

pub returns-clause-nearest_not_earlier : goal.returns-clause-nearest_not_earlier
returns-clause-nearest_not_earlier c = λ h.
    let later : pos 738_887 ≤ℤ pos 738_883 = h.later (pos 738_887) (omega (arith, signed), omega (arith, signed)) second_of_january_open refl in
    omega (arith, signed, later)

pub returns-clause-modified_following_not_back : goal.returns-clause-modified_following_not_back
returns-clause-modified_following_not_back c = elim [
  | inl h ↦ omega (arith, signed, h.0.not_before)
  | inr h ↦ open_and_closed weekends (pos 738_949) fourth_open (h.1 (pos 738_949) (omega (arith, signed)) saturday_with_monday)
]

pub returns-clause-modified_preceding_not_on : goal.returns-clause-modified_preceding_not_on
returns-clause-modified_preceding_not_on c = elim [
  | inl h ↦ omega (arith, signed, h.0.not_after)
  | inr h ↦ open_and_closed weekends (pos 738_953) eighth_open (h.1 (pos 738_953) (omega (arith, signed)) saturday_with_friday)
]
