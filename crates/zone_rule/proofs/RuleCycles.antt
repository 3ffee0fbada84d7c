-- What a rule says comes again after 400 years.
use Rattle.std.proofs.Common.{◌≡◌, ℕ, zero, suc, ◌-◌, ℤ, pos, negsuc, ◌+ℤ◌, ◌-ℤ◌, ◌*ℤ◌, ◌≤ℤ◌, ◌<ℤ◌, Bool, true, false, cond, int_le, refl, sym, ap, ◌∙◌, arith, List}
use Rattle.std.proofs.Math.Path.{fun_ext}
use Rattle.std.specs.Int.{int_div_euclid, int_rem_euclid}
use Rattle.std.proofs.lemmas.Int.{by_lt_z}
use Rattle.std.specs.List.{filter, range_with_len}
use Rattle.std.specs.Prelude.{◌==◌}
use Rattle.chrono_units.specs.Years.{is_leap_year, month_length, month_length_in}
use Rattle.chrono_units.specs.declared.weekday.Weekday.{Weekday}
use Rattle.chrono_units.specs.Weekday.{days_from_sunday}
use Rattle.chrono_calendar.specs.Days.{days_of_months_in, day_number_of_ymd}
use Rattle.chrono_calendar.specs.Weeks.{days_from_sunday_of, days_with_weekday}
use Rattle.chrono_calendar.proofs.Cycles.{days_before_year-again, is_leap_year-again, ordinal_name-again, weekday-shift}
use Rattle.chrono_calendar.proofs.Signed.{signed}
use Rattle.zone_rule.specs.Changes.{YearlyChange, change_second, day_in_year, last_by, nth_or_last, year_of_second}
use Rattle.zone_rule.specs.RuleDays.{ordinal_of_julian}
use Rattle.zone_rule.specs.Rules.{is_daylight}
use Rattle.zone_rule.specs.declared.rule.Daylight.{Daylight}
use Rattle.zone_rule.specs.declared.rule_day.RuleDay.{RuleDay}
use Rattle.zone_rule.specs.declared.rule_day.RuleDay.TheVariants.{Week, Julian, FromZero}

-- the same days of a month have the same weekdays
day_number-again : (y : ℤ) (m d : ℕ) → day_number_of_ymd (y +ℤ pos 400) m d ≡ day_number_of_ymd y m d +ℤ pos 146_097
day_number-again y m d =
    let before = days_before_year-again y (y +ℤ pos 400) refl in
    let months : days_of_months_in (is_leap_year (y +ℤ pos 400)) (m - 1) ≡ days_of_months_in (is_leap_year y) (m - 1) = ap (λ (leap : Bool). days_of_months_in leap (m - 1)) (is_leap_year-again y (y +ℤ pos 400) refl) in
    omega (arith, signed, before, months)

one_cycle : (n : ℤ) → n +ℤ pos 146_097 ≡ n +ℤ pos 1 *ℤ pos 146_097
one_cycle n = omega (arith, signed)

days_with_weekday-again : (y : ℤ) (m : ℕ) (w : Weekday) → days_with_weekday (y +ℤ pos 400) m w ≡ days_with_weekday y m w
unfolding days_with_weekday
days_with_weekday-again y m w =
    let tests : (λ (d : ℕ). days_from_sunday_of (day_number_of_ymd (y +ℤ pos 400) m d) == days_from_sunday w) ≡ (λ (d : ℕ). days_from_sunday_of (day_number_of_ymd y m d) == days_from_sunday w)
    = fun_ext (λ (d : ℕ). ap (λ (k : ℕ). k == days_from_sunday w) (weekday-shift (pos 1) (day_number_of_ymd (y +ℤ pos 400) m d) (day_number_of_ymd y m d) (day_number-again y m d ∙ one_cycle (day_number_of_ymd y m d)))) in
    ap (λ (test : ℕ → Bool). filter test (range_with_len 1 (month_length (y +ℤ pos 400) m))) tests
    ∙ ap (λ (leap : Bool). filter (λ (d : ℕ). days_from_sunday_of (day_number_of_ymd y m d) == days_from_sunday w) (range_with_len 1 (month_length_in leap m))) (is_leap_year-again y (y +ℤ pos 400) refl)

pub day_in_year-again : (y : ℤ) (day : RuleDay) → day_in_year (y +ℤ pos 400) day ≡ day_in_year y day +ℤ pos 146_097
unfolding day_in_year
day_in_year-again y (Week m n d) =
    ap (λ (days : List ℕ). day_number_of_ymd (y +ℤ pos 400) m (nth_or_last days n)) (days_with_weekday-again y m d)
    ∙ day_number-again y m (nth_or_last (days_with_weekday y m d) n)
day_in_year-again y (Julian n) =
    let before = days_before_year-again y (y +ℤ pos 400) refl in
    let place : ordinal_of_julian (y +ℤ pos 400) n ≡ ordinal_of_julian y n = rw (is_leap_year-again y (y +ℤ pos 400) refl) refl in
    omega (arith, signed, before, place)
day_in_year-again y (FromZero n) =
    let before = days_before_year-again y (y +ℤ pos 400) refl in
    omega (arith, signed, before)

pub change_second-again : (offset : ℤ) (c : YearlyChange) (y : ℤ) → change_second offset c (y +ℤ pos 400) ≡ change_second offset c y +ℤ pos 12_622_780_800
change_second-again offset c y = let day = day_in_year-again y c.day in omega (arith, signed, day)

-- ---- the last change by a second, a cycle later

int_le-again : (a b c d : ℤ) → c ≡ a +ℤ pos 12_622_780_800 → d ≡ b +ℤ pos 12_622_780_800 → int_le c d ≡ int_le a b
int_le-again a b c d e f = by_lt_z b a
    (λ (lt : b <ℤ a). grind (arith, signed))
    (λ (le : a ≤ℤ b). grind (arith, signed))

choice-again : (test : Bool) (a b c d : ℤ) → c ≡ a +ℤ pos 12_622_780_800 → d ≡ b +ℤ pos 12_622_780_800 → cond test c d ≡ cond test a b +ℤ pos 12_622_780_800
choice-again true a b c d e f = e
choice-again false a b c d e f = f

either-again : (u v a b c d : ℤ) → v ≡ u +ℤ pos 12_622_780_800 → c ≡ a +ℤ pos 12_622_780_800 → d ≡ b +ℤ pos 12_622_780_800 → cond (int_le c v) c d ≡ cond (int_le a u) a b +ℤ pos 12_622_780_800
either-again u v a b c d later e f =
    ap (λ (test : Bool). cond test c d) (int_le-again a u c v e later) ∙ choice-again (int_le a u) a b c d e f

last_by-again : (second : ℤ → ℤ) → ((y : ℤ) → second (y +ℤ pos 400) ≡ second y +ℤ pos 12_622_780_800) → (y z u v : ℤ) → z ≡ y +ℤ pos 400 → v ≡ u +ℤ pos 12_622_780_800 → last_by second z v ≡ last_by second y u +ℤ pos 12_622_780_800
last_by-again second again y z u v e later =
    let next : second (z +ℤ pos 1) ≡ second (y +ℤ pos 1) +ℤ pos 12_622_780_800 = ap second (omega (arith, signed)) ∙ again (y +ℤ pos 1) in
    let same : second z ≡ second y +ℤ pos 12_622_780_800 = ap second e ∙ again y in
    let before : second (z -ℤ pos 1) ≡ second (y -ℤ pos 1) +ℤ pos 12_622_780_800 = ap second (omega (arith, signed)) ∙ again (y -ℤ pos 1) in
    let first : second (z -ℤ pos 2) ≡ second (y -ℤ pos 2) +ℤ pos 12_622_780_800 = ap second (omega (arith, signed)) ∙ again (y -ℤ pos 2) in
    let least = either-again u v (second (y -ℤ pos 1)) (second (y -ℤ pos 2)) (second (z -ℤ pos 1)) (second (z -ℤ pos 2)) later before first in
    let middle = either-again u v (second y) (cond (int_le (second (y -ℤ pos 1)) u) (second (y -ℤ pos 1)) (second (y -ℤ pos 2))) (second z) (cond (int_le (second (z -ℤ pos 1)) v) (second (z -ℤ pos 1)) (second (z -ℤ pos 2))) later same least in
    either-again u v (second (y +ℤ pos 1))
    (cond (int_le (second y) u) (second y) (cond (int_le (second (y -ℤ pos 1)) u) (second (y -ℤ pos 1)) (second (y -ℤ pos 2))))
    (second (z +ℤ pos 1))
    (cond (int_le (second z) v) (second z) (cond (int_le (second (z -ℤ pos 1)) v) (second (z -ℤ pos 1)) (second (z -ℤ pos 2))))
    later next middle

year_of_second-again : (u v : ℤ) → v ≡ u +ℤ pos 12_622_780_800 → year_of_second v ≡ year_of_second u +ℤ pos 400
year_of_second-again u v later =
    (ordinal_name-again (pos 719_163 +ℤ int_div_euclid u (pos 86_400)) (pos 719_163 +ℤ int_div_euclid v (pos 86_400)) (omega (arith, signed, later))).0

is_daylight-again : (offset : ℤ) (d : Daylight) (u v : ℤ) → v ≡ u +ℤ pos 12_622_780_800 → is_daylight offset d v ≡ is_daylight offset d u
unfolding is_daylight
is_daylight-again offset d u v later =
    let year = year_of_second-again u v later in
    let ends = last_by-again (change_second d.offset d.ends) (change_second-again d.offset d.ends) (year_of_second u) (year_of_second v) u v year later in
    let begins = last_by-again (change_second offset d.begins) (change_second-again offset d.begins) (year_of_second u) (year_of_second v) u v year later in
    int_le-again (last_by (change_second d.offset d.ends) (year_of_second u) u) (last_by (change_second offset d.begins) (year_of_second u) u)
    (last_by (change_second d.offset d.ends) (year_of_second v) v) (last_by (change_second offset d.begins) (year_of_second v) v) ends begins

cycles_later : (offset : ℤ) (d : Daylight) (n : ℕ) (u v : ℤ) → v ≡ u +ℤ pos n *ℤ pos 12_622_780_800 → is_daylight offset d v ≡ is_daylight offset d u
cycles_later offset d zero u v e = ap (is_daylight offset d) (omega (arith, signed, e))
cycles_later offset d (suc n) u v e =
    is_daylight-again offset d (u +ℤ pos n *ℤ pos 12_622_780_800) v (omega (arith, signed, e))
    ∙ cycles_later offset d n u (u +ℤ pos n *ℤ pos 12_622_780_800) refl

cycles_away : (offset : ℤ) (d : Daylight) (q : ℤ) (u v : ℤ) → v ≡ u +ℤ q *ℤ pos 12_622_780_800 → is_daylight offset d v ≡ is_daylight offset d u
cycles_away offset d (pos n) u v e = cycles_later offset d n u v e
cycles_away offset d (negsuc n) u v e = sym (cycles_later offset d (suc n) v u (omega (arith, signed, e)))

-- a second says what its place in the cycle says
pub is_daylight-place : (offset : ℤ) (d : Daylight) (l place : ℤ) → place ≡ int_rem_euclid l (pos 12_622_780_800) → is_daylight offset d place ≡ is_daylight offset d l
is_daylight-place offset d l place e = sym (cycles_away offset d (int_div_euclid l (pos 12_622_780_800)) place l (omega (arith, signed, e)))

-- and so does one that lies as far before both
pub is_daylight-before : (offset : ℤ) (d : Daylight) (l x place : ℤ) → place ≡ int_rem_euclid l (pos 12_622_780_800) → is_daylight offset d (place -ℤ x) ≡ is_daylight offset d (l -ℤ x)
is_daylight-before offset d l x place e = sym (cycles_away offset d (int_div_euclid l (pos 12_622_780_800)) (place -ℤ x) (l -ℤ x) (omega (arith, signed, e)))
