-- The days of a month, and those between a day and the end of an earlier or the beginning of a later month.
use Rattle.std.proofs.Common.{◌≡◌, ℕ, ◌+◌, ◌-◌, ◌%◌, ◌<◌, ◌≤◌, inl, inr, Bool, true, false, ◌||◌, refl, sym, ap, ◌∙◌, arith, ℤ, pos, ◌+ℤ◌, ◌-ℤ◌, ◌≤ℤ◌, ◌<ℤ◌, Option, Some, None, IfSome, IfNone, IsSome, ◌↔◌, ap₂, to_z, of_z, w32}
use Rattle.std.proofs.lemmas.Bool.{cases_lt}
use Rattle.std.proofs.lemmas.Int.{by_lt_z, to_z-of_z}
use Rattle.chrono_datetime.specs.Years.{IsYear, month_length}
use Rattle.chrono_datetime.specs.Days.{IsCalendarName, year_of, month_of, day_of}
use Rattle.chrono_datetime.specs.MonthMoves.{InSameMonth, month_length_of}
use Rattle.chrono_datetime.specs.Weekday.{days_from_sunday}
use Rattle.chrono_datetime.specs.Weeks.{weekday_of}
use Rattle.chrono_datetime.proofs.MonthPlaces.{month_after_last, month_before_first, place-bounds, places, weekday_at}
use Rattle.chrono_datetime.proofs.MonthDays.{day_of-bounds}
use Rattle.chrono_datetime.proofs.MonthOrder.{month_of-range}
use Rattle.chrono_datetime.proofs.Rising.{month_index_of-rises}
use Rattle.chrono_datetime.proofs.Signed.{signed}
use Rattle.chrono_datetime.proofs.Years.{year_fits}
use Rattle.chrono_sets.specs.FiniteSets.{FiniteSet, has}
use Rattle.chrono_cron.specs.declared.field_sets.FieldSets.{FieldSets}
use Rattle.chrono_cron.specs.DaySearch.{InMonthOrNoDay}
use Rattle.chrono_cron.specs.Due.{either_or_both, is_day, is_listed_day, is_named_by_place, is_named_by_weekday}

-- a set of the days of a month by their weekdays has those that the schedule has
by_weekday : (s : FieldSets) (w : FiniteSet) (n d : ℤ) (before : ℕ) → InSameMonth d n → before ≡ (days_from_sunday (weekday_of n) + 35 - day_of n) % 7 → ((k : ℕ) → k < 40 → has w k ≡ has s.weekdays ((k + before) % 7)) → has w (day_of d) ≡ has s.weekdays (days_from_sunday (weekday_of d))
by_weekday s w n d before same is weeks =
    weeks (day_of d) (omega (arith, place-bounds d)) ∙ ap (has s.weekdays) (weekday_at n d before same is)

-- a set of the days that are listed by either of two sets, or by both
pub listed_at : (s : FieldSets) (u x y : FiniteSet) (d : ℤ) → has u (day_of d) ≡ either_or_both s.either (has x (day_of d)) (has y (day_of d)) → has x (day_of d) ≡ (has s.days (day_of d) || is_named_by_place s.month_days (day_of d) (month_length_of d - day_of d) (days_from_sunday (weekday_of d))) → has y (day_of d) ≡ (has s.weekdays (days_from_sunday (weekday_of d)) || is_named_by_weekday s.month_days (day_of d) (month_length_of d - day_of d) (days_from_sunday (weekday_of d))) → has u (day_of d) ≡ is_listed_day s d
unfolding is_listed_day
listed_at s u x y d together by_day by_weekday = together ∙ ap₂ (either_or_both s.either) by_day by_weekday

or_none : (a b : Bool) → b ≡ false → a ≡ (a || b)
or_none true b none = refl
or_none false b none = sym none

-- where no day is named
pub listed_plainly : (s : FieldSets) (u w : FiniteSet) (n d : ℤ) (before : ℕ) → ((p follow w : ℕ) → is_named_by_place s.month_days p follow w ≡ false) → ((p follow w : ℕ) → is_named_by_weekday s.month_days p follow w ≡ false) → InSameMonth d n → before ≡ (days_from_sunday (weekday_of n) + 35 - day_of n) % 7 → ((k : ℕ) → k < 40 → has w k ≡ has s.weekdays ((k + before) % 7)) → ((k : ℕ) → has u k ≡ either_or_both s.either (has s.days k) (has w k)) → has u (day_of d) ≡ is_listed_day s d
listed_plainly s u w n d before no_place no_weekday same is weeks together =
    let p = day_of d in
    let follow = month_length_of d - p in
    let weekday = days_from_sunday (weekday_of d) in
    listed_at s u s.days w d (together p) (or_none (has s.days p) _ (no_place p follow weekday)) (by_weekday s w n d before same is weeks ∙ or_none (has s.weekdays weekday) _ (no_weekday p follow weekday))

-- a test of the places of a month, of their distance from its end and of their weekdays, at a day of the month
pub place_test : (set : FiniteSet) (test : ℕ → ℕ → ℕ → Bool) (n d : ℤ) (length before : ℕ) → InSameMonth d n → length ≡ month_length_of n → before ≡ (days_from_sunday (weekday_of n) + 35 - day_of n) % 7 → ((k : ℕ) → 1 ≤ k → k ≤ length → has set k ≡ test k (length - k) ((k + before) % 7)) → has set (day_of d) ≡ test (day_of d) (month_length_of d - day_of d) (days_from_sunday (weekday_of d))
place_test set test n d length before same is_length is_before places =
    let lengths : month_length_of d ≡ month_length_of n = ap₂ month_length same.0 same.1 in
    let whole : length ≡ month_length_of d = omega (arith, is_length, lengths) in
    let bounds = day_of-bounds d in
    places (day_of d) (omega (arith, bounds)) (omega (arith, bounds, whole))
    ∙ ap₂ (λ l w. test (day_of d) (l - day_of d) w) whole (weekday_at n d before same is_before)

-- where days are named
pub listed_or_named : (s : FieldSets) (u x y m v w : FiniteSet) (n d : ℤ) (length before : ℕ) → InSameMonth d n → length ≡ month_length_of n → before ≡ (days_from_sunday (weekday_of n) + 35 - day_of n) % 7 → ((k : ℕ) → k < 40 → has w k ≡ has s.weekdays ((k + before) % 7)) → ((k : ℕ) → 1 ≤ k → k ≤ length → has m k ≡ is_named_by_place s.month_days k (length - k) ((k + before) % 7)) → ((k : ℕ) → 1 ≤ k → k ≤ length → has v k ≡ is_named_by_weekday s.month_days k (length - k) ((k + before) % 7)) → ((k : ℕ) → has x k ≡ (has s.days k || has m k)) → ((k : ℕ) → has y k ≡ (has w k || has v k)) → ((k : ℕ) → has u k ≡ either_or_both s.either (has x k) (has y k)) → has u (day_of d) ≡ is_listed_day s d
listed_or_named s u x y m v w n d length before same is_length is weeks places weekdays by_day by_week together =
    listed_at s u x y d (together (day_of d))
    (by_day (day_of d) ∙ ap (λ b. has s.days (day_of d) || b) (place_test m (is_named_by_place s.month_days) n d length before same is_length is places))
    (by_week (day_of d) ∙ ap₂ (λ a b. a || b) (by_weekday s w n d before same is weeks) (place_test v (is_named_by_weekday s.month_days) n d length before same is_length is weekdays))

-- a day by its own place and weekday, where no day is named
pub listed-day : (s : FieldSets) (d : ℤ) → ((p follow w : ℕ) → is_named_by_place s.month_days p follow w ≡ false) → ((p follow w : ℕ) → is_named_by_weekday s.month_days p follow w ≡ false) → either_or_both s.either (has s.days (day_of d)) (has s.weekdays (days_from_sunday (weekday_of d))) ≡ is_listed_day s d
unfolding is_listed_day
listed-day s d no_place no_weekday =
    ap₂ (either_or_both s.either)
    (or_none (has s.days (day_of d)) _ (no_place (day_of d) (month_length_of d - day_of d) (days_from_sunday (weekday_of d))))
    (or_none (has s.weekdays (days_from_sunday (weekday_of d))) _ (no_weekday (day_of d) (month_length_of d - day_of d) (days_from_sunday (weekday_of d))))

-- no day of a month that is none of the schedule's
pub no_day : (s : FieldSets) (d : ℤ) → has s.months (month_of d) ≡ false → is_day s d ≡ false
unfolding is_day
no_day s d none = rw none refl

-- of the months from one up to before another none is the schedule's
abbrev pub NoMonths : FieldSets → ℕ → ℕ → Type 0
NoMonths s from end = (j : ℕ) → from ≤ j → j < end → has s.months j ≡ false

-- no month is one of the schedule's
pub no_day_of_no_month : (s : FieldSets) (d : ℤ) → NoMonths s 1 13 → is_day s d ≡ false
no_day_of_no_month s d none =
    let range = month_of-range d in
    no_day s d (none (month_of d) (omega (arith, range)) (omega (arith, range)))

-- ---- later months

-- a later day of the year, in a month before an end
pub later_in_year : (s : FieldSets) (n d : ℤ) (end : ℕ) → n ≤ℤ d → year_of d ≡ year_of n → month_of d < end → NoMonths s (month_of n + 1) end → InMonthOrNoDay s n d
later_in_year s n d end low year high none =
    let rises = month_index_of-rises n d low in
    let from : month_of n ≤ month_of d = omega (arith, signed, rises, year, month_of-range n, month_of-range d) in
    elim (cases_lt (month_of n) (month_of d)) [
      | inl lt ↦ inr (no_day s d (none (month_of d) (omega (arith, lt)) high))
      | inr le ↦ inl (year, omega (arith, from, le))
    ]

-- up to the first of a month of the same year
pub before_later_month : (s : FieldSets) (n d e : ℤ) → n ≤ℤ d → d <ℤ e → day_of e ≡ 1 → year_of e ≡ year_of n → NoMonths s (month_of n + 1) (month_of e) → InMonthOrNoDay s n d
before_later_month s n d e low high first year none =
    let rises = month_index_of-rises n d low in
    let less = month_before_first d e first high in
    let same : year_of d ≡ year_of n = omega (arith, signed, rises, less, year, month_of-range n, month_of-range d, month_of-range e) in
    later_in_year s n d (month_of e) low same (omega (arith, signed, less, same, year, month_of-range d, month_of-range e)) none

-- up to the first of a month of the next year
pub before_next_year : (s : FieldSets) (n d e : ℤ) → n ≤ℤ d → d <ℤ e → day_of e ≡ 1 → year_of e ≡ year_of n +ℤ pos 1 → NoMonths s (month_of n + 1) 13 → NoMonths s 1 (month_of e) → InMonthOrNoDay s n d
before_next_year s n d e low high first year none next =
    let rises = month_index_of-rises n d low in
    let less = month_before_first d e first high in
    let range = month_of-range d in
    by_lt_z (year_of n) (year_of d)
    (λ lt. inr (no_day s d (next (month_of d) (omega (arith, range)) (omega (arith, signed, less, lt, year, range, month_of-range e)))))
    (λ ge. later_in_year s n d 13 low (omega (arith, signed, rises, ge, range, month_of-range n)) (omega (arith, range)) none)

-- ---- earlier months

pub earlier_in_year : (s : FieldSets) (n d : ℤ) (from : ℕ) → d ≤ℤ n → year_of d ≡ year_of n → from ≤ month_of d → NoMonths s from (month_of n) → InMonthOrNoDay s n d
earlier_in_year s n d from high year low none =
    let rises = month_index_of-rises d n high in
    let end : month_of d ≤ month_of n = omega (arith, signed, rises, year, month_of-range n, month_of-range d) in
    elim (cases_lt (month_of d) (month_of n)) [
      | inl lt ↦ inr (no_day s d (none (month_of d) low lt))
      | inr le ↦ inl (year, omega (arith, end, le))
    ]

-- back to the last of a month of the same year
pub after_earlier_month : (s : FieldSets) (n d e : ℤ) → d ≤ℤ n → e <ℤ d → day_of e ≡ month_length_of e → year_of e ≡ year_of n → NoMonths s (month_of e + 1) (month_of n) → InMonthOrNoDay s n d
after_earlier_month s n d e high low last year none =
    let rises = month_index_of-rises d n high in
    let more = month_after_last d e last low in
    let same : year_of d ≡ year_of n = omega (arith, signed, rises, more, year, month_of-range n, month_of-range d, month_of-range e) in
    earlier_in_year s n d (month_of e + 1) high same (omega (arith, signed, more, same, year, month_of-range d, month_of-range e)) none

-- back to the last of a month of the year before
pub after_previous_year : (s : FieldSets) (n d e : ℤ) → d ≤ℤ n → e <ℤ d → day_of e ≡ month_length_of e → year_of e +ℤ pos 1 ≡ year_of n → NoMonths s 1 (month_of n) → NoMonths s (month_of e + 1) 13 → InMonthOrNoDay s n d
after_previous_year s n d e high low last year none before =
    let rises = month_index_of-rises d n high in
    let more = month_after_last d e last low in
    let range = month_of-range d in
    by_lt_z (year_of d) (year_of n)
    (λ lt. inr (no_day s d (before (month_of d) (omega (arith, signed, more, lt, year, range, month_of-range e)) (omega (arith, range)))))
    (λ ge. earlier_in_year s n d 1 high (omega (arith, signed, rises, ge, range, month_of-range n)) (omega (arith, range)) none)

-- ---- the days of a month

-- a day of a month that is the schedule's, by a set of those listed
pub is_day-listed : (s : FieldSets) (u : FiniteSet) (d : ℤ) → has s.months (month_of d) ≡ true → has u (day_of d) ≡ is_listed_day s d → is_day s d ≡ has u (day_of d)
unfolding is_day
is_day-listed s u d month listed = rw month (sym listed)

pub no_listed_day : (s : FieldSets) (u : FiniteSet) (n d : ℤ) → has s.months (month_of n) ≡ true → ((d : ℤ) → InSameMonth d n → has u (day_of d) ≡ is_listed_day s d) → InSameMonth d n → has u (day_of d) ≡ false → is_day s d ≡ false
no_listed_day s u n d month listed same none =
    is_day-listed s u d (ap (has s.months) same.1 ∙ month) (listed d same) ∙ none

pub listed_day : (s : FieldSets) (u : FiniteSet) (n d : ℤ) → has s.months (month_of n) ≡ true → ((d : ℤ) → InSameMonth d n → has u (day_of d) ≡ is_listed_day s d) → InSameMonth d n → has u (day_of d) ≡ true → is_day s d ≡ true
listed_day s u n d month listed same some =
    is_day-listed s u d (ap (has s.months) same.1 ∙ month) (listed d same) ∙ some

-- what is so of each date with a name is so of the date that was made of it
pub if_named : (o : Option ℤ) (y : ℤ) (m k : ℕ) (P : ℤ → Type 0) → IfSome o (λ e. year_of e ≡ y) → IfSome o (λ e. month_of e ≡ m) → IfSome o (λ e. day_of e ≡ k) → ((e : ℤ) → year_of e ≡ y → month_of e ≡ m → day_of e ≡ k → P e) → IfSome o P
if_named None y m k P year month day so = tt
if_named (Some e) y m k P year month day so = so e year month day

-- and what is so where there is no such date
pub if_unnamed : (o : Option ℤ) (y : ℤ) (m k : ℕ) (P : Type 0) → (IsSome o ↔ (IsYear y × IsCalendarName y m k)) → ((IsYear y × IsCalendarName y m k → ⊥) → P) → IfNone o P
if_unnamed None y m k P exists so = so (λ named. let no = exists.1 named in cc)
if_unnamed (Some e) y m k P exists so = tt

-- ---- the months of a walk

pub next_year_fits : (y : ℤ) → IsYear y → to_z w32 (of_z w32 (to_z w32 (of_z w32 y) +ℤ pos 1)) ≡ y +ℤ pos 1
next_year_fits y year =
    ap (λ z. to_z w32 (of_z w32 (z +ℤ pos 1))) (year_fits y year) ∙ to_z-of_z w32 (y +ℤ pos 1) (omega (arith, signed, year))

pub previous_year_fits : (y : ℤ) → IsYear y → to_z w32 (of_z w32 (to_z w32 (of_z w32 y) -ℤ pos 1)) ≡ y -ℤ pos 1
previous_year_fits y year =
    ap (λ z. to_z w32 (of_z w32 (z -ℤ pos 1))) (year_fits y year) ∙ to_z-of_z w32 (y -ℤ pos 1) (omega (arith, signed, year))

-- ---- loops over months

pub later_passed : (s : FieldSets) (start n d : ℤ) → ((d : ℤ) → start ≤ℤ d → d <ℤ n → is_day s d ≡ false) → (n ≤ℤ d → InMonthOrNoDay s n d) → (n ≤ℤ d → InSameMonth d n → is_day s d ≡ false) → start ≤ℤ d → is_day s d ≡ false
later_passed s start n d before passed month low =
    by_lt_z d n (λ lt. before d low lt) (λ ge. elim (passed ge) [ inl same ↦ month ge same | inr none ↦ none ])

pub earlier_passed : (s : FieldSets) (start n d : ℤ) → ((d : ℤ) → n <ℤ d → d ≤ℤ start → is_day s d ≡ false) → (d ≤ℤ n → InMonthOrNoDay s n d) → (d ≤ℤ n → InSameMonth d n → is_day s d ≡ false) → d ≤ℤ start → is_day s d ≡ false
earlier_passed s start n d after passed month high =
    by_lt_z n d (λ lt. after d lt high) (λ ge. elim (passed ge) [ inl same ↦ month ge same | inr none ↦ none ])
