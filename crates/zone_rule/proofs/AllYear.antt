-- Daylight time that ends at the second at which it begins again.
use Rattle.std.proofs.Common.{◌≡◌, ◌+◌, ℤ, pos, neg_ℤ, ◌+ℤ◌, ◌≤ℤ◌, Bool, true, false, ◌&&◌, cond, nat_le, refl, sym, subst, arith}
use Rattle.chrono_units.specs.Years.{is_leap_year, year_length}
use Rattle.chrono_clock.proofs.TimeLemmas.{int_le-below}
use Rattle.chrono_calendar.proofs.Signed.{signed}
use Rattle.chrono_calendar.proofs.Years.{days_before_year-next}
use Rattle.zone_rule.specs.Changes.{IsChange, YearlyChange, change_second, last_by, year_of_second}
use Rattle.zone_rule.specs.RuleDays.{ordinal_of_julian}
use Rattle.zone_rule.specs.Rules.{is_daylight}
use Rattle.zone_rule.specs.declared.rule_day.RuleDay.TheVariants.{Julian, FromZero}
use Rattle.zone_rule.proofs.DaysInYears.{day_in_year-from_zero, day_in_year-julian}
use Rattle.zone_rule.proofs.LastChanges.{last_by-some}
use Rattle.zone_rule.proofs.LastOfAll.{last_change}

abbrev pub new_year : YearlyChange
new_year = record { day = FromZero 0; second = pos 0 }

abbrev pub last_hour : YearlyChange
last_hour = record { day = Julian 365; second = pos 82_800 }

last_ordinal : (leap : Bool) → cond (leap && nat_le 60 365) (365 + 1) 365 ≡ cond leap 366 365
last_ordinal true = refl
last_ordinal false = refl

joined : (y : ℤ) → change_second (neg_ℤ (pos 14_400)) last_hour y ≡ change_second (neg_ℤ (pos 10_800)) new_year (y +ℤ pos 1)
joined y =
    let length : ordinal_of_julian y 365 ≡ year_length y = last_ordinal (is_leap_year y) in
    omega (arith, signed, length, days_before_year-next y (y +ℤ pos 1) refl, day_in_year-julian y 365, day_in_year-from_zero (y +ℤ pos 1) 0)

new_year-is : IsChange new_year
new_year-is = record { day = omega arith; second = omega arith }

last_hour-is : IsChange last_hour
last_hour-is = record { day = (omega arith, omega arith); second = omega arith }

pub all_year : (u : ℤ) → is_daylight (neg_ℤ (pos 10_800)) (record { offset = neg_ℤ (pos 14_400); begins = new_year; ends = last_hour }) u ≡ true
unfolding is_daylight
all_year u =
    let ends : ℤ → ℤ = change_second (neg_ℤ (pos 14_400)) last_hour in
    let begins : ℤ → ℤ = change_second (neg_ℤ (pos 10_800)) new_year in
    let last : ℤ = last_by begins (year_of_second u) u in
    let come = (last_change (neg_ℤ (pos 14_400)) last_hour u last_hour-is (omega arith)).0 in
    let of_all = (last_change (neg_ℤ (pos 10_800)) new_year u new_year-is (omega arith)).1 in
    int_le-below (last_by ends (year_of_second u) u) last
    (last_by-some ends (year_of_second u) u (λ (x : ℤ). x ≤ℤ u → x ≤ℤ last)
    (λ w by.
    let same : ends w ≡ begins (w +ℤ pos 1) = joined w in
    let begun : begins (w +ℤ pos 1) ≤ℤ u = subst (λ (x : ℤ). x ≤ℤ u) same by in
    subst (λ (x : ℤ). x ≤ℤ last) (sym same) (of_all (w +ℤ pos 1) begun))
    come)
