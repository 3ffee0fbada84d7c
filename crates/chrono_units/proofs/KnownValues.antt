-- Values that the definitions must give.
use Rattle.std.proofs.Common.{◌≡◌, refl, true, false, pos, neg_ℤ, [], ◌∷◌, Some, None}
use Rattle.std.specs.Prelude.{codes}
use Rattle.std.specs.Ordering.{nat_cmp, on}
use Rattle.std.specs.declared.cmp.Ordering.TheVariants.{Less, Greater}
use Rattle.chrono_units.specs.declared.weekday.Weekday.TheVariants.{Mon, Tue, Wed, Thu, Fri, Sat, Sun}
use Rattle.chrono_units.specs.declared.month.Month.TheVariants.{January, February, September, October, December}
use Rattle.chrono_units.specs.Years.{is_leap_year, is_year, month_length, year_length}
use Rattle.chrono_units.specs.Weekday.{days_from_sunday, number_from_monday, number_from_sunday, weekday_from_sunday, next_weekday, previous_weekday, days_since}
use Rattle.chrono_units.specs.Month.{next_month, number_from_month, previous_month}
use Rattle.chrono_units.specs.WeekdaySet.{set_of, set_number, all_days, no_days, single, difference, walk, days_until}
use Rattle.chrono_units.specs.WeekdayText.{digit_text, set_digits_text, set_text}

-- ---- the leap rule: every fourth year, of the centuries every fourth, below year 1 as above

leap_2000 : is_leap_year (pos 2000) ≡ true
leap_2000 = refl

leap_2024 : is_leap_year (pos 2024) ≡ true
leap_2024 = refl

leap_0 : is_leap_year (pos 0) ≡ true
leap_0 = refl

leap_4_before : is_leap_year (neg_ℤ (pos 4)) ≡ true
leap_4_before = refl

common_1900 : is_leap_year (pos 1900) ≡ false
common_1900 = refl

common_2023 : is_leap_year (pos 2023) ≡ false
common_2023 = refl

common_2100 : is_leap_year (pos 2100) ≡ false
common_2100 = refl

common_1_before : is_leap_year (neg_ℤ (pos 1)) ≡ false
common_1_before = refl

common_100_before : is_leap_year (neg_ℤ (pos 100)) ≡ false
common_100_before = refl

leap_400_before : is_leap_year (neg_ℤ (pos 400)) ≡ true
leap_400_before = refl

-- ---- lengths

days_of_2000 : year_length (pos 2000) ≡ 366
days_of_2000 = refl

days_of_1900 : year_length (pos 1900) ≡ 365
days_of_1900 = refl

february_2000 : month_length (pos 2000) 2 ≡ 29
february_2000 = refl

february_1900 : month_length (pos 1900) 2 ≡ 28
february_1900 = refl

february_2023 : month_length (pos 2023) 2 ≡ 28
february_2023 = refl

february_2024 : month_length (pos 2024) 2 ≡ 29
february_2024 = refl

february_0 : month_length (pos 0) 2 ≡ 29
february_0 = refl

april_2024 : month_length (pos 2024) 4 ≡ 30
april_2024 = refl

july_2024 : month_length (pos 2024) 7 ≡ 31
july_2024 = refl

august_2024 : month_length (pos 2024) 8 ≡ 31
august_2024 = refl

december_2024 : month_length (pos 2024) 12 ≡ 31
december_2024 = refl

-- ---- the range of years

first_year : is_year (neg_ℤ (pos 262_143)) ≡ true
first_year = refl

before_first_year : is_year (neg_ℤ (pos 262_144)) ≡ false
before_first_year = refl

last_year : is_year (pos 262_142) ≡ true
last_year = refl

after_last_year : is_year (pos 262_143) ≡ false
after_last_year = refl

-- ---- weekdays and months

sunday_iso : number_from_monday Sun ≡ 7
sunday_iso = refl

sunday_first : number_from_sunday Sun ≡ 1
sunday_first = refl

saturday_last : number_from_sunday Sat ≡ 7
saturday_last = refl

monday_from_sunday : days_from_sunday Mon ≡ 1
monday_from_sunday = refl

remainder_0 : weekday_from_sunday 0 ≡ Sun
remainder_0 = refl

remainder_4 : weekday_from_sunday 4 ≡ Thu
remainder_4 = refl

after_sunday : next_weekday Sun ≡ Mon
after_sunday = refl

before_monday : previous_weekday Mon ≡ Sun
before_monday = refl

from_sunday_to_monday : days_since Mon Sun ≡ 1
from_sunday_to_monday = refl

from_monday_to_sunday : days_since Sun Mon ≡ 6
from_monday_to_sunday = refl

after_december : next_month December ≡ January
after_december = refl

before_january : previous_month January ≡ December
before_january = refl

before_february : previous_month February ≡ January
before_february = refl

-- ---- orders

september_before_october : on number_from_month nat_cmp September October ≡ Less
september_before_october = refl

december_after_january : on number_from_month nat_cmp December January ≡ Greater
december_after_january = refl

two_months_after_one : nat_cmp 2 1 ≡ Greater
two_months_after_one = refl

-- ---- sets

sunday_number : set_number (single Sun) ≡ 64
unfolding set_number
sunday_number = refl

others_number : set_number (difference all_days (single Sun)) ≡ 63
unfolding set_number
others_number = refl

no_number : set_number no_days ≡ 0
unfolding set_number
no_number = refl

walk_from_wednesday : walk (set_of (Mon ∷ Thu ∷ Sun ∷ [])) Wed ≡ Thu ∷ Sun ∷ Mon ∷ []
walk_from_wednesday = refl

walk_of_all : walk all_days Sun ≡ Sun ∷ Mon ∷ Tue ∷ Wed ∷ Thu ∷ Fri ∷ Sat ∷ []
walk_of_all = refl

walk_of_none : walk no_days Tue ≡ []
walk_of_none = refl

from_saturday_to_tuesday : days_until (set_of (Tue ∷ Thu ∷ [])) Sat ≡ Some 3
unfolding days_until
from_saturday_to_tuesday = refl

from_a_member : days_until (set_of (Tue ∷ Thu ∷ [])) Thu ≡ Some 0
unfolding days_until
from_a_member = refl

to_no_day : days_until no_days Tue ≡ None
unfolding days_until
to_no_day = refl

-- ---- texts of sets

set_text_three_days : set_text (set_of (Thu ∷ Sun ∷ Mon ∷ [])) ≡ codes "[Mon, Thu, Sun]"
set_text_three_days = refl

set_text_no_days : set_text no_days ≡ codes "[]"
set_text_no_days = refl

set_digits_two_days : set_digits_text (set_of (Mon ∷ Tue ∷ [])) ≡ codes "WeekdaySet(0000011)"
unfolding digit_text
set_digits_two_days = refl
