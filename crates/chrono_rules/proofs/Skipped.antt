-- What the parts of a rule pass over.
use Rattle.std.proofs.Common.{◌≡◌, ◌==◌, ℕ, ◌+◌, ◌-◌, ◌%◌, ◌/◌, ◌<◌, ◌≤◌, Bool, slice_index_or, true, false, cond, sym, ◌&&◌, ◌||◌, not, inl, inr, refl, ap, ◌∙◌, arith, ℤ, pos, ◌+ℤ◌, ◌-ℤ◌, ◌≤ℤ◌, ◌<ℤ◌}
use Rattle.std.proofs.lemmas.Bool.{and_right, cases_lt, ne_eqb}
use Rattle.std.specs.Int.{IsInRange}
use Rattle.chrono_datetime.specs.Days.{IsDate, day_of, days_before_year, month_of, ordinal_of, year_of}
use Rattle.chrono_datetime.specs.MonthMoves.{month_index, month_index_of, month_length_of}
use Rattle.chrono_datetime.specs.Weekday.{days_from_monday, days_since}
use Rattle.chrono_datetime.specs.Weeks.{week_first_of, weekday_of}
use Rattle.chrono_datetime.specs.Years.{year_length}
use Rattle.chrono_datetime.proofs.Names.{ordinal_name_of-number}
use Rattle.chrono_datetime.proofs.IsoWeeks.{days_from_monday-of}
use Rattle.chrono_datetime.proofs.MonthDays.{day_of-bounds, later_in_month}
use Rattle.chrono_datetime.proofs.NamedDates.{number-ordinal_name}
use Rattle.chrono_datetime.proofs.Signed.{signed}
use Rattle.chrono_rules.specs.ByParts.{counted_place, counts_in_month, days_behind, filled, fills_day, fills_month, fills_weekday, has_numbers, in_week, names_weekday, on_month_day, on_weekday, on_year_day, passes}
use Rattle.chrono_sets.specs.FiniteSets.{FiniteSet, has, is_empty, no_numbers}
use Rattle.chrono_sets.proofs.Members.{has-none}
use Rattle.chrono_rules.specs.Instances.{is_member}
use Rattle.chrono_rules.specs.RuleParts.{lacks_month_days, lacks_months, lacks_weekdays, lacks_weeks, lacks_year_days, lists_nth}
use Rattle.chrono_rules.specs.declared.rule.Rule.{Rule}
use Rattle.chrono_rules.proofs.Passed.{no_pass}
use Rattle.chrono_rules.proofs.YearsOfDates.{in_year_date, same_year}
use Rattle.chrono_rules.proofs.Months.{in_month, same_length}
use Rattle.std.proofs.Math.Bool.{and-false}

-- ---- a part that a day does not pass

pub other_month : (r : Rule) (start d : ℤ) → lacks_months r ≡ false → has r.months (month_of d) ≡ false → is_member r start d ≡ false
unfolding passes
other_month r start d named none = no_pass r start d (and_right (filled r start d) _ (rw (named, none) refl))

pub not_start_month : (r : Rule) (start d : ℤ) → fills_month r.frequency r ≡ true → (month_of d == month_of start) ≡ false → is_member r start d ≡ false
unfolding passes
not_start_month r start d fills other =
    let month : (not (fills_month r.frequency r) || (month_of d == month_of start)) ≡ false = rw (fills, other) refl in
    let rest = and_right (not (fills_day r.frequency r) || (day_of d == day_of start)) (not (fills_month r.frequency r) || (month_of d == month_of start)) month in
    let out : filled r start d ≡ false = and_right (not (fills_weekday r.frequency r) || (days_from_monday (weekday_of d) == days_from_monday (weekday_of start))) _ rest in
    no_pass r start d (rw out refl)

pub not_month_day : (r : Rule) (start d : ℤ) → lacks_month_days r ≡ false → on_month_day r d ≡ false → is_member r start d ≡ false
unfolding passes
not_month_day r start d named none =
    no_pass r start d (and_right (filled r start d) _ (and_right (lacks_months r || has r.months (month_of d)) _ (rw (named, none) refl)))

pub not_start_day : (r : Rule) (start d : ℤ) → fills_day r.frequency r ≡ true → (day_of d == day_of start) ≡ false → is_member r start d ≡ false
unfolding passes
not_start_day r start d fills other =
    let day : (not (fills_day r.frequency r) || (day_of d == day_of start)) ≡ false = rw (fills, other) refl in
    let rest : ((not (fills_day r.frequency r) || (day_of d == day_of start)) && (not (fills_month r.frequency r) || (month_of d == month_of start))) ≡ false = rw day refl in
    let out : filled r start d ≡ false = and_right (not (fills_weekday r.frequency r) || (days_from_monday (weekday_of d) == days_from_monday (weekday_of start))) _ rest in
    no_pass r start d (rw out refl)

pub not_weekday : (r : Rule) (start d : ℤ) → lacks_weekdays r ≡ false → on_weekday r d ≡ false → is_member r start d ≡ false
unfolding passes
not_weekday r start d named none =
    no_pass r start d (and_right (filled r start d) _ (and_right (lacks_months r || has r.months (month_of d)) _ (and_right (lacks_month_days r || on_month_day r d) _ (rw (named, none) refl))))

pub not_year_day : (r : Rule) (start d : ℤ) → lacks_year_days r ≡ false → on_year_day r d ≡ false → is_member r start d ≡ false
unfolding passes
not_year_day r start d named none =
    no_pass r start d (and_right (filled r start d) _ (and_right (lacks_months r || has r.months (month_of d)) _ (and_right (lacks_month_days r || on_month_day r d) _ (and_right (lacks_weekdays r || on_weekday r d) _ (rw (named, none) refl)))))

-- a day of a week that BYWEEKNO does not name
pub week-same : (r : Rule) (n d : ℤ) → week_first_of d r.week_start ≡ week_first_of n r.week_start → in_week r d ≡ in_week r n
unfolding in_week
week-same r n d same =
    ap (λ (m : ℤ). has r.weeks (1 + (ordinal_of (m +ℤ pos 3) - 1) / 7) || has r.weeks_from_end (1 + (year_length (year_of (m +ℤ pos 3)) - ordinal_of (m +ℤ pos 3)) / 7)) same

pub not_week : (r : Rule) (start d : ℤ) → lacks_weeks r ≡ false → in_week r d ≡ false → is_member r start d ≡ false
unfolding passes
not_week r start d named none =
    no_pass r start d (and_right (filled r start d) _ (and_right (lacks_months r || has r.months (month_of d)) _ (and_right (lacks_month_days r || on_month_day r d) _ (and_right (lacks_weekdays r || on_weekday r d) _ (and_right (lacks_year_days r || on_year_day r d) _ (rw (named, none) refl))))))

pub not_start_weekday : (r : Rule) (start d : ℤ) → fills_weekday r.frequency r ≡ true → (days_from_monday (weekday_of d) == days_from_monday (weekday_of start)) ≡ false → is_member r start d ≡ false
unfolding passes
not_start_weekday r start d fills other =
    let out : filled r start d ≡ false = rw (fills, other) refl in
    no_pass r start d (rw out refl)

-- months in a row behind those so far
pub months_on : (r : Rule) (start day d y : ℤ) (m months gap j : ℕ) → month_index y m ≡ month_index_of day +ℤ pos months
    → ((d : ℤ) (j : ℕ) → j < months → month_index_of d ≡ month_index_of day +ℤ pos j → is_member r start d ≡ false)
    → ((d : ℤ) (j : ℕ) → j < gap → month_index_of d ≡ month_index y m +ℤ pos j → is_member r start d ≡ false)
    → j < months + gap → month_index_of d ≡ month_index_of day +ℤ pos j → is_member r start d ≡ false
months_on r start day d y m months gap j here before ahead lt at = elim (cases_lt j months) [
  | inl less ↦ before d j less at
  | inr more ↦ ahead d (j - months) (omega (arith, lt, more)) (omega (arith, signed, at, here, more))
]

-- a later day stands so many places further where numbered weekdays count: in its month, or in its year
place_later : (r : Rule) (n d : ℤ) (j : ℕ) (b : Bool) → counts_in_month r.frequency r ≡ b → IsDate n → d ≡ n +ℤ pos j → j ≤ days_behind r n → (counted_place r d ≡ counted_place r n + j) × (days_behind r d ≡ days_behind r n - j)
place_later r n d j true counts date at last =
    let here : counted_place r n ≡ day_of n = ap (λ b. cond b (day_of n) (ordinal_of n)) counts in
    let there : counted_place r d ≡ day_of d = ap (λ b. cond b (day_of d) (ordinal_of d)) counts in
    let behind : days_behind r n ≡ month_length_of n - day_of n = ap (λ b. cond b (month_length_of n - day_of n) (year_length (year_of n) - ordinal_of n)) counts in
    let rest : days_behind r d ≡ month_length_of d - day_of d = ap (λ b. cond b (month_length_of d - day_of d) (year_length (year_of d) - ordinal_of d)) counts in
    let it = later_in_month n d j at (omega (arith, last, behind, day_of-bounds n)) in
    let length : month_length_of d ≡ month_length_of n = same_length n d it.month.0 it.month.1 in
    (omega (arith, here, there, it.day), omega (arith, behind, rest, it.day, length))
place_later r n d j false counts date at last =
    let here : counted_place r n ≡ ordinal_of n = ap (λ b. cond b (day_of n) (ordinal_of n)) counts in
    let there : counted_place r d ≡ ordinal_of d = ap (λ b. cond b (day_of d) (ordinal_of d)) counts in
    let behind : days_behind r n ≡ year_length (year_of n) - ordinal_of n = ap (λ b. cond b (month_length_of n - day_of n) (year_length (year_of n) - ordinal_of n)) counts in
    let rest : days_behind r d ≡ year_length (year_of d) - ordinal_of d = ap (λ b. cond b (month_length_of d - day_of d) (year_length (year_of d) - ordinal_of d)) counts in
    let low : n ≤ℤ d = omega (arith, signed, at) in
    let high : d <ℤ (((n +ℤ pos 1) +ℤ pos (year_length (year_of n))) -ℤ pos (ordinal_of n)) = omega (arith, signed, at, last, behind, (ordinal_name_of-number n).exists) in
    let year = same_year n d low high (in_year_date n d low high date) in
    let length = ap (λ (y : ℤ). year_length y) year in
    let day : ordinal_of d ≡ ordinal_of n + j = omega (arith, signed, at, number-ordinal_name n, number-ordinal_name d, ap (λ (y : ℤ). days_before_year y) year) in
    (omega (arith, here, there, day), omega (arith, behind, rest, day, length))

pub named_later : (r : Rule) (n d : ℤ) (j w p b : ℕ) (x : Bool) → IsDate n → d ≡ n +ℤ pos j → j ≤ days_behind r n → w ≡ (days_from_monday (weekday_of n) + j) % 7 → p ≡ counted_place r n + j → b ≡ days_behind r n - j → names_weekday r w p b ≡ x → on_weekday r d ≡ x
unfolding on_weekday
named_later r n d j w p b x date at last week-is place-is behind-is named =
    let it = place_later r n d j (counts_in_month r.frequency r) refl date at last in
    let week : days_from_monday (weekday_of d) ≡ w = omega (arith, signed, at, week-is, days_from_monday-of n, days_from_monday-of d) in
    ap (λ w. names_weekday r w (counted_place r d) (days_behind r d)) week
    ∙ (ap (λ p. names_weekday r w p (days_behind r d)) (it.0 ∙ sym place-is)
    ∙ (ap (λ b. names_weekday r w p b) (it.1 ∙ sym behind-is) ∙ named))

-- a weekday of which neither each day is named nor the one by its numbers
pub not_named : (r : Rule) (w p b front back : ℕ) → has r.weekdays.every w ≡ false → lists_nth r.weekdays.front w front ≡ false → lists_nth r.weekdays.back w back ≡ false
    → 1 + (p - 1) / 7 ≡ front → 1 + b / 7 ≡ back → names_weekday r w p b ≡ false
not_named r w p b front back every at-front at-back front-is back-is =
    let f : lists_nth r.weekdays.front w (1 + (p - 1) / 7) ≡ false = ap (lists_nth r.weekdays.front w) front-is ∙ at-front in
    let e : lists_nth r.weekdays.back w (1 + b / 7) ≡ false = ap (lists_nth r.weekdays.back w) back-is ∙ at-back in
    rw (every, f, e) (and-false (has_numbers r.frequency))

-- a weekday of which none is listed
pub never_named : (r : Rule) (w p b : ℕ) → has r.weekdays.every w ≡ false → is_empty (slice_index_or r.weekdays.front w no_numbers) ≡ true → is_empty (slice_index_or r.weekdays.back w no_numbers) ≡ true → names_weekday r w p b ≡ false
never_named r w p b every front back = not_named r w p b _ _ every (has-none _ _ front) (has-none _ _ back) refl refl

pub off_month_day : (r : Rule) (d : ℤ) (j place back : ℕ) → has r.month_days (place + j) ≡ false → has r.month_days_from_end (back - j) ≡ false → day_of d ≡ place + j → month_length_of d - day_of d + 1 ≡ back - j → on_month_day r d ≡ false
unfolding on_month_day
off_month_day r d j place back front end at behind =
    let a : has r.month_days (day_of d) ≡ false = ap (has r.month_days) at ∙ front in
    let b : has r.month_days_from_end (month_length_of d - day_of d + 1) ≡ false = ap (has r.month_days_from_end) behind ∙ end in
    rw (a, b) refl

-- a month of fewer days than each that is named holds none
pub off_short_month : (r : Rule) (d : ℤ) → ((j : ℕ) → j < month_length_of d → has r.month_days (1 + j) ≡ false) → ((j : ℕ) → j < month_length_of d → has r.month_days_from_end (1 + j) ≡ false) → on_month_day r d ≡ false
unfolding on_month_day
off_short_month r d front back =
    let at = day_of-bounds d in
    let place : day_of d ≡ 1 + (day_of d - 1) = omega (arith, at) in
    let behind : month_length_of d - day_of d + 1 ≡ 1 + (month_length_of d - day_of d) = omega arith in
    let a : has r.month_days (day_of d) ≡ false = ap (has r.month_days) place ∙ front (day_of d - 1) (omega (arith, at)) in
    let b : has r.month_days_from_end (month_length_of d - day_of d + 1) ≡ false = ap (has r.month_days_from_end) behind ∙ back (month_length_of d - day_of d) (omega (arith, at)) in
    rw (a, b) refl

-- ---- tests that differ

pub other_place : (n d : ℤ) (k place : ℕ) → n ≤ℤ d → d <ℤ (n +ℤ pos k) → k ≤ month_length_of n - day_of n + 1 → (day_of n ≤ place → day_of n + k ≤ place) → (day_of d == place) ≡ false
other_place n d k place low high few ahead =
    let at = in_month n d k low high few in
    ne_eqb (day_of d) place (λ e. let over = ahead (omega (arith, e, at.1)) in omega (arith, e, at.0, at.1, over))

pub other_weekday : (n d start : ℤ) (k : ℕ) → n ≤ℤ d → d <ℤ (n +ℤ pos k) → k ≡ days_since (weekday_of start) (weekday_of n) → (days_from_monday (weekday_of d) == days_from_monday (weekday_of start)) ≡ false
other_weekday n d start k low high is =
    ne_eqb _ _ (λ e. omega (arith, signed, low, high, is, e, days_from_monday-of n, days_from_monday-of d, days_from_monday-of start))

pub other_month_on : (m month sm j : ℕ) → IsInRange 1 12 month → IsInRange 1 12 sm → j < (sm + 12 - month) % 12 → m ≡ 1 + (month - 1 + j) % 12 → (m == sm) ≡ false
other_month_on m month sm j here there lt at = ne_eqb m sm (λ e. omega (arith, e, here, there, lt, at))

pub month_left_out : (set : FiniteSet) (m month j : ℕ) → IsInRange 1 12 month → j < 12 → m ≡ 1 + (month - 1 + j) % 12 → (month + j < 13 → has set (month + j) ≡ false) → (13 ≤ month + j → has set (1 + (month + j - 13)) ≡ false) → has set m ≡ false
month_left_out set m month j here lt at ahead around = elim (cases_lt (month + j) 13) [
  | inl less ↦ let place : m ≡ month + j = omega (arith, here, lt, at, less) in ap (has set) place ∙ ahead less
  | inr more ↦ let place : m ≡ 1 + (month + j - 13) = omega (arith, here, lt, at, more) in ap (has set) place ∙ around more
]
