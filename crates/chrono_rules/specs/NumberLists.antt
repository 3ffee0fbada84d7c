-- The lists of a rule's BY parts, as texts (RFC 5545, section 3.3.10): `1,-1` and `MO,1FR`.
use Rattle.std.specs.Prelude.{◌≡◌, ℕ, ◌-◌, ◌==◌, Bool, true, false, List, [], ◌∷◌, length, take, drop, slice_index_or, slice_set, if◌then◌else◌, Option, Some, None, codes, refl}
use Rattle.std.specs.Option.{option_and_then, option_map}
use Rattle.std.specs.Str.{byte}
use Rattle.chrono_datetime.specs.Names.{weekday_of_letters}
use Rattle.chrono_datetime.specs.Weekday.{days_from_monday}
use Rattle.chrono_sets.specs.FiniteSets.{FiniteSet, no_numbers, numbers, with_number}
use Rattle.chrono_text.specs.Numbers.{digits_of, if_within, natural_of}
use Rattle.chrono_text.specs.Lists.{pieces, through}
use Rattle.chrono_rules.specs.RuleParts.{no_weekdays}
use Rattle.chrono_rules.specs.declared.text.number_list.BothEnds.{BothEnds}
use Rattle.chrono_rules.specs.declared.text.number_list.SignedNumber.{SignedNumber}
use Rattle.chrono_rules.specs.declared.text.year_day_list.YearEnds.{YearEnds}
use Rattle.chrono_rules.specs.declared.weekday_places.WeekdayPlaces.{WeekdayPlaces}

-- the number from 1 to `most` that at most so many digits write
unfoldable pub listed_number : ℕ → ℕ → List ℕ → Option ℕ
listed_number digits most text = option_and_then (if_within 1 most) (digits_of digits text)

-- the number counts from the end, or from the front
abbrev pub signed_number : Bool → ℕ → SignedNumber
signed_number from_end n = record { from_end = from_end; number = n }

-- the number from 1 to `most` that a text writes with a sign or none: a `-` counts from the end
unfoldable pub signed_number_of : ℕ → ℕ → List ℕ → Option SignedNumber
signed_number_of digits most [] = None
signed_number_of digits most (sign ∷ text) =
    if sign == byte "-" then option_map (signed_number true) (listed_number digits most text)
    else if sign == byte "+" then option_map (signed_number false) (listed_number digits most text)
    else option_map (signed_number false) (listed_number digits most (sign ∷ text))

-- ---- BYMONTH

-- the months and the one that a text names
unfoldable pub with_month_text : FiniteSet → List ℕ → Option FiniteSet
with_month_text set text = option_map (with_number set) (listed_number 2 12 text)

-- the months that a text lists between commas
unfoldable pub month_list_of : List ℕ → Option FiniteSet
month_list_of text = through with_month_text no_numbers (pieces (byte ",") text)

-- ---- BYMONTHDAY and BYWEEKNO

-- no number from the front and none from the end
abbrev pub no_signed : BothEnds
no_signed = record { front = no_numbers; back = no_numbers }

-- the numbers and one more, from the front or from the end
abbrev pub with_signed : BothEnds → SignedNumber → BothEnds
with_signed ends p =
    if p.from_end then record { front = ends.front; back = with_number ends.back p.number }
    else record { front = with_number ends.front p.number; back = ends.back }

-- the numbers and the one that a text writes
unfoldable pub with_signed_text : ℕ → ℕ → BothEnds → List ℕ → Option BothEnds
with_signed_text digits most ends text = option_map (with_signed ends) (signed_number_of digits most text)

-- the numbers that a text lists between commas, each with a sign or none
unfoldable pub signed_list_of : ℕ → ℕ → List ℕ → Option BothEnds
signed_list_of digits most text = through (with_signed_text digits most) no_signed (pieces (byte ",") text)

-- ---- BYYEARDAY and BYSETPOS

-- no number from the front and none from the end
abbrev pub no_year_ends : YearEnds
no_year_ends = record { front = no_numbers; back = no_numbers }

-- the numbers and one more, from the front or from the end
abbrev pub with_signed_day : YearEnds → SignedNumber → YearEnds
with_signed_day ends p =
    if p.from_end then record { front = ends.front; back = with_number ends.back p.number }
    else record { front = with_number ends.front p.number; back = ends.back }

-- the numbers and the one from 1 to 366 that a text writes
unfoldable pub with_year_text : YearEnds → List ℕ → Option YearEnds
with_year_text ends text = option_map (with_signed_day ends) (signed_number_of 3 366 text)

-- the numbers from 1 to 366 that a text lists between commas, each with a sign or none
unfoldable pub signed_year_list_of : List ℕ → Option YearEnds
signed_year_list_of text = through with_year_text no_year_ends (pieces (byte ",") text)

-- ---- BYDAY

-- the weekday that two letters name, of either case, from 0 for Monday
unfoldable pub listed_weekday : List ℕ → Option ℕ
listed_weekday text = option_map days_from_monday (weekday_of_letters 2 text)

-- the weekdays, and each day of the weekday w
abbrev pub with_each : WeekdayPlaces → ℕ → WeekdayPlaces
with_each days w = record { every = with_number days.every w; front = days.front; back = days.back }

-- the lists with the number n for the weekday w
abbrev pub with_nth_of : List FiniteSet → ℕ → ℕ → List FiniteSet
with_nth_of weekdays w n = slice_set weekdays w (with_number (slice_index_or weekdays w no_numbers) n)

-- the weekdays and the n-th w, from the front or from the end
abbrev pub with_nth : WeekdayPlaces → ℕ → SignedNumber → WeekdayPlaces
with_nth days w p =
    if p.from_end then record { every = days.every; front = days.front; back = with_nth_of days.back w p.number }
    else record { every = days.every; front = with_nth_of days.front w p.number; back = days.back }

-- the weekdays and w: each, or that one whose number the text in front of its letters writes
unfoldable pub with_weekday : WeekdayPlaces → List ℕ → ℕ → Option WeekdayPlaces
with_weekday days [] w = Some (with_each days w)
with_weekday days (b ∷ bs) w = option_map (with_nth days w) (signed_number_of 2 53 (b ∷ bs))

-- the weekdays and the one that an item writes: two letters, with a number in front or none
unfoldable pub with_weekday_text : WeekdayPlaces → List ℕ → Option WeekdayPlaces
with_weekday_text days text = option_and_then (with_weekday days (take (length text - 2) text)) (listed_weekday (drop (length text - 2) text))

-- the weekdays that a text lists between commas, each with a number in front or none
unfoldable pub weekdays_of : List ℕ → Option WeekdayPlaces
weekdays_of text = through with_weekday_text no_weekdays (pieces (byte ",") text)

-- known values: days of the month, as BYMONTHDAY lists them
signed_list_of-both : signed_list_of 2 31 (codes "1,-1,+31") ≡ Some (record { front = numbers (1 ∷ 31 ∷ []); back = numbers (1 ∷ []) })
unfolding signed_list_of with_signed_text signed_number_of listed_number digits_of natural_of
signed_list_of-both = refl

signed_list_of-none : signed_list_of 2 31 (codes "1,0") ≡ None
unfolding signed_list_of with_signed_text signed_number_of listed_number digits_of natural_of
signed_list_of-none = refl

signed_list_of-past : signed_list_of 2 31 (codes "32") ≡ None
unfolding signed_list_of with_signed_text signed_number_of listed_number digits_of natural_of
signed_list_of-past = refl

signed_list_of-sign : signed_list_of 2 31 (codes "-") ≡ None
unfolding signed_list_of with_signed_text signed_number_of listed_number digits_of natural_of
signed_list_of-sign = refl

signed_list_of-comma : signed_list_of 2 31 (codes "1,") ≡ None
unfolding signed_list_of with_signed_text signed_number_of listed_number digits_of natural_of
signed_list_of-comma = refl

-- months have no sign, days of the year have three digits and one
month_list_of-two : month_list_of (codes "6,07") ≡ Some (numbers (6 ∷ 7 ∷ []))
unfolding month_list_of with_month_text listed_number digits_of natural_of
month_list_of-two = refl

month_list_of-signed : month_list_of (codes "-1") ≡ None
unfolding month_list_of with_month_text listed_number digits_of natural_of
month_list_of-signed = refl

signed_year_list_of-both : signed_year_list_of (codes "1,200,-1") ≡ Some (record { front = numbers (1 ∷ 200 ∷ []); back = numbers (1 ∷ []) })
unfolding signed_year_list_of with_year_text signed_number_of listed_number digits_of natural_of
signed_year_list_of-both = refl

signed_year_list_of-past : signed_year_list_of (codes "367") ≡ None
unfolding signed_year_list_of with_year_text signed_number_of listed_number digits_of natural_of
signed_year_list_of-past = refl

-- the last number of each list from either end, the month behind December, and numbers of more digits than the list's
month_list_of-last : month_list_of (codes "1,12") ≡ Some (numbers (1 ∷ 12 ∷ []))
unfolding month_list_of with_month_text listed_number digits_of natural_of
month_list_of-last = refl

month_list_of-past : month_list_of (codes "13") ≡ None
unfolding month_list_of with_month_text listed_number digits_of natural_of
month_list_of-past = refl

month_list_of-long : month_list_of (codes "007") ≡ None
unfolding month_list_of with_month_text listed_number digits_of natural_of
month_list_of-long = refl

signed_list_of-weeks : signed_list_of 2 53 (codes "53,-53") ≡ Some (record { front = numbers (53 ∷ []); back = numbers (53 ∷ []) })
unfolding signed_list_of with_signed_text signed_number_of listed_number digits_of natural_of
signed_list_of-weeks = refl

signed_list_of-long : signed_list_of 2 31 (codes "031") ≡ None
unfolding signed_list_of with_signed_text signed_number_of listed_number digits_of natural_of
signed_list_of-long = refl

signed_year_list_of-last : signed_year_list_of (codes "366,-366") ≡ Some (record { front = numbers (366 ∷ []); back = numbers (366 ∷ []) })
unfolding signed_year_list_of with_year_text signed_number_of listed_number digits_of natural_of
signed_year_list_of-last = refl

signed_year_list_of-long : signed_year_list_of (codes "0366") ≡ None
unfolding signed_year_list_of with_year_text signed_number_of listed_number digits_of natural_of
signed_year_list_of-long = refl

-- weekdays, as BYDAY lists them: Tuesday and Sunday, the first and the last Sunday, the last Friday but one
weekdays_of-each : weekdays_of (codes "TU,SU") ≡ Some (record { every = numbers (1 ∷ 6 ∷ []); front = no_weekdays.front; back = no_weekdays.back })
unfolding weekdays_of with_weekday_text with_weekday listed_weekday weekday_of_letters
weekdays_of-each = refl

weekdays_of-all : weekdays_of (codes "SU,SA,FR,TH,WE,TU,MO") ≡ Some (record { every = numbers (0 ∷ 1 ∷ 2 ∷ 3 ∷ 4 ∷ 5 ∷ 6 ∷ []); front = no_weekdays.front; back = no_weekdays.back })
unfolding weekdays_of with_weekday_text with_weekday listed_weekday weekday_of_letters
weekdays_of-all = refl

weekdays_of-saturday : weekdays_of (codes "SA") ≡ Some (record { every = numbers (5 ∷ []); front = no_weekdays.front; back = no_weekdays.back })
unfolding weekdays_of with_weekday_text with_weekday listed_weekday weekday_of_letters
weekdays_of-saturday = refl

weekdays_of-numbered : weekdays_of (codes "1SU,-1SU") ≡ Some (record { every = no_numbers; front = with_nth_of no_weekdays.front 6 1; back = with_nth_of no_weekdays.back 6 1 })
unfolding weekdays_of with_weekday_text with_weekday listed_weekday weekday_of_letters signed_number_of listed_number digits_of natural_of
weekdays_of-numbered = refl

weekdays_of-last_friday : weekdays_of (codes "-2FR") ≡ Some (record { every = no_numbers; front = no_weekdays.front; back = with_nth_of no_weekdays.back 4 2 })
unfolding weekdays_of with_weekday_text with_weekday listed_weekday weekday_of_letters signed_number_of listed_number digits_of natural_of
weekdays_of-last_friday = refl

weekdays_of-past : weekdays_of (codes "54MO") ≡ None
unfolding weekdays_of with_weekday_text with_weekday listed_weekday weekday_of_letters signed_number_of listed_number digits_of natural_of
weekdays_of-past = refl

weekdays_of-long : weekdays_of (codes "053MO") ≡ None
unfolding weekdays_of with_weekday_text with_weekday listed_weekday weekday_of_letters signed_number_of listed_number digits_of natural_of
weekdays_of-long = refl

-- items of all kinds, each with those in front of it
weekdays_of-mixed : weekdays_of (codes "1MO,-1MO,TU,3MO,2FR,-2MO,WE")
    ≡ Some (record { every = numbers (1 ∷ 2 ∷ []); front = numbers (1 ∷ 3 ∷ []) ∷ no_numbers ∷ no_numbers ∷ no_numbers ∷ numbers (2 ∷ []) ∷ no_numbers ∷ no_numbers ∷ []; back = numbers (1 ∷ 2 ∷ []) ∷ no_numbers ∷ no_numbers ∷ no_numbers ∷ no_numbers ∷ no_numbers ∷ no_numbers ∷ [] })
unfolding weekdays_of with_weekday_text with_weekday listed_weekday weekday_of_letters signed_number_of listed_number digits_of natural_of
weekdays_of-mixed = refl

weekdays_of-small_letters : weekdays_of (codes "tu,Su") ≡ weekdays_of (codes "TU,SU")
unfolding weekdays_of with_weekday_text with_weekday listed_weekday weekday_of_letters
weekdays_of-small_letters = refl

weekdays_of-letter : weekdays_of (codes "M") ≡ None
unfolding weekdays_of with_weekday_text with_weekday listed_weekday weekday_of_letters
weekdays_of-letter = refl

-- the 53rd Monday of a year, also from the end, and no 54th
with_weekday_text-last : with_weekday_text no_weekdays (codes "53MO") ≡ Some (record { every = no_numbers; front = with_nth_of no_weekdays.front 0 53; back = no_weekdays.back })
unfolding with_weekday_text with_weekday listed_weekday weekday_of_letters signed_number_of listed_number digits_of natural_of
with_weekday_text-last = refl

with_weekday_text-from_end : with_weekday_text no_weekdays (codes "-53su") ≡ Some (record { every = no_numbers; front = no_weekdays.front; back = with_nth_of no_weekdays.back 6 53 })
unfolding with_weekday_text with_weekday listed_weekday weekday_of_letters signed_number_of listed_number digits_of natural_of
with_weekday_text-from_end = refl

with_weekday_text-past : with_weekday_text no_weekdays (codes "54MO") ≡ None
unfolding with_weekday_text with_weekday listed_weekday weekday_of_letters signed_number_of listed_number digits_of natural_of
with_weekday_text-past = refl
