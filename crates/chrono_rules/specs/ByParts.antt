-- Which days pass the BY parts of a rule, BYSETPOS aside (RFC 5545, section 3.3.10).
-- What stands in quotation marks here gives the sense of that section, which may say it in other words.
--
-- Read this page from its end up: `date_passes` and `passes` come last, and each word stands above those that use it.
--
-- RFC 5545 says of each BY part whether it limits the days of a period or expands a period into days:
--
--                  DAILY    WEEKLY   MONTHLY                     YEARLY
--     BYMONTH      limit    limit    limit                       expand
--     BYWEEKNO     -        -        -                           expand
--     BYYEARDAY    -        -        -                           expand
--     BYMONTHDAY   limit    -        expand                      expand
--     BYDAY        limit    expand   limit beside BYMONTHDAY,    limit beside BYYEARDAY or BYMONTHDAY,
--                                    else expand to a month      else expand to weeks beside BYWEEKNO,
--                                                                to months beside BYMONTH, else to the year
--     BYSETPOS     limit    limit    limit                       limit
--
-- Where a `-` stands, a text must not have the part: `fits` of `RuleTexts` says so. In a `Rule` it limits all the same.
--
-- One test of a day says the same. A part that expands takes the days of the period that it names. A part that limits
-- keeps the days that it names. So the days of a period that are left are those that every part names, in any order.
-- For example, FREQ=YEARLY;BYMONTH=1;BYDAY=MO expands the year to January and January to its Mondays. These are the days of
-- the year that lie in January and are Mondays.
--
-- Two things depend on the table. The number of a weekday counts in the month or in the year (`counts_in_month`).
-- Where no part expands to days, the start says which day (`filled`).
use Rattle.std.specs.Prelude.{◌≡◌, ℕ, ◌+◌, ◌-◌, ◌/◌, ◌==◌, Bool, true, false, not, ◌&&◌, ◌||◌, if◌then◌else◌, List, [], ◌∷◌, slice_set, ℤ, pos, ◌+ℤ◌, refl}
use Rattle.chrono_datetime.specs.Days.{day_of, days_after_zero, is_date, month_of, ordinal_name_of, ordinal_of, year_of}
use Rattle.chrono_datetime.specs.MonthMoves.{month_length_of}
use Rattle.chrono_datetime.specs.Weekday.{days_from_monday}
use Rattle.chrono_datetime.specs.Weeks.{week_first_of, weekday_of}
use Rattle.chrono_datetime.specs.Years.{year_length}
use Rattle.chrono_sets.specs.FiniteSets.{has, no_numbers, numbers}
use Rattle.chrono_rules.specs.RuleParts.{lacks_month_days, lacks_months, lacks_weekdays, lacks_weeks, lacks_year_days, lists_nth, no_weekdays, plain}
use Rattle.chrono_rules.specs.declared.rule.Frequency.{Frequency}
use Rattle.chrono_rules.specs.declared.rule.Frequency.TheVariants.{Daily, Weekly, Monthly, Yearly}
use Rattle.chrono_rules.specs.declared.rule.Rule.{Rule}

-- ---- what the start says where the rule does not

-- 3.3.10: what is "not contained in the rule" is "derived from the Start Time (DTSTART)". A rule by weeks that names no weekday takes the start's.
-- So does a rule by years with BYWEEKNO that names no day: that weekday stands for BYDAY in the line "else expand to weeks beside BYWEEKNO"
unfoldable pub fills_weekday : Frequency → Rule → Bool
fills_weekday Daily r = false
fills_weekday Weekly r = lacks_weekdays r
fills_weekday Monthly r = false
fills_weekday Yearly r = not (lacks_weeks r) && (lacks_weekdays r && (lacks_month_days r && lacks_year_days r))

-- a rule by months or years that names neither days nor weeks takes the start's day of the month. A month without that day has no instance, and
-- not its last day instead. 3.3.10: instances "with an invalid date (e.g., February 30)" are ones that "MUST be ignored"
unfoldable pub fills_day : Frequency → Rule → Bool
fills_day Daily r = false
fills_day Weekly r = false
fills_day Monthly r = lacks_month_days r && lacks_weekdays r
fills_day Yearly r = (lacks_month_days r && lacks_weekdays r) && (lacks_year_days r && lacks_weeks r)

-- a rule by years that names no month either takes the start's month. So FREQ=YEARLY from 29 February has instances in leap years alone
unfoldable pub fills_month : Frequency → Rule → Bool
fills_month Daily r = false
fills_month Weekly r = false
fills_month Monthly r = false
fills_month Yearly r = lacks_months r && fills_day Yearly r

-- the day n has the weekday, the day of the month and the month that the rule takes from the start
abbrev pub filled : Rule → ℤ → ℤ → Bool
filled r start n =
    (not (fills_weekday r.frequency r) || (days_from_monday (weekday_of n) == days_from_monday (weekday_of start)))
    && ((not (fills_day r.frequency r) || (day_of n == day_of start)) && (not (fills_month r.frequency r) || (month_of n == month_of start)))

-- ---- BYMONTHDAY and BYYEARDAY

-- 3.3.10: BYMONTHDAY is a "list of days of the month. Valid values are 1 to 31 or -31 to -1". The last day is -1
unfoldable pub on_month_day : Rule → ℤ → Bool
on_month_day r n = has r.month_days (day_of n) || has r.month_days_from_end ((month_length_of n - day_of n) + 1)

-- 3.3.10: BYYEARDAY is a "list of days of the year. Valid values are 1 to 366 or -366 to -1". The last day is -1
unfoldable pub on_year_day : Rule → ℤ → Bool
on_year_day r n = has r.year_days (ordinal_of n) || has r.year_days_from_end ((year_length (year_of n) - ordinal_of n) + 1)

-- ---- the nth of a weekday

-- the number of a day among the days of its weekday in a month or a year, if `days` days stand before it there. The first seven days have each
-- weekday once. So with 0 to 6 days before it a day is the first of its weekday, and with 7 to 13 the second. With the days behind it in place of
-- those before it, this counts from the end
abbrev pub nth_of_weekday : ℕ → ℕ
nth_of_weekday days = 1 + days / 7

-- ---- BYDAY

-- 3.3.10: a number "indicates the nth occurrence of a specific day within the MONTHLY or YEARLY" rule.
-- By days and weeks an item with a number names no day; no text has one there (`fits`)
unfoldable pub has_numbers : Frequency → Bool
has_numbers Daily = false
has_numbers Weekly = false
has_numbers Monthly = true
has_numbers Yearly = true

-- 3.3.10: in a yearly rule the number is "an offset within the month when the BYMONTH rule part is present", else within the year.
-- RFC 5545 has "are present" in the second half, where "not" is missing: see note 2 of its table
unfoldable pub counts_in_month : Frequency → Rule → Bool
counts_in_month Daily r = true
counts_in_month Weekly r = true
counts_in_month Monthly r = true
counts_in_month Yearly r = not (lacks_months r)

-- the place of the day n in its month or in its year, as the rule counts. The first day has place 1
abbrev pub counted_place : Rule → ℤ → ℕ
counted_place r n = if counts_in_month r.frequency r then day_of n else ordinal_of n

-- the days behind the day n in its month or in its year, as the rule counts. The last day has none
abbrev pub days_behind : Rule → ℤ → ℕ
days_behind r n = if counts_in_month r.frequency r then month_length_of n - day_of n else year_length (year_of n) - ordinal_of n

-- BYDAY names a day of the weekday w at a place, with so many days behind it. 3.3.10: without a number an item "means all days of this type within
-- the specified frequency". With a number it means the nth of them, "1MO" the first Monday and "-1MO" the last.
-- A day at place 8 of a month of 30 days has 7 days before it and 22 behind it. It is the 2nd of its weekday, and the 4th from the end
abbrev pub names_weekday : Rule → ℕ → ℕ → ℕ → Bool
names_weekday r w place behind =
    has r.weekdays.every w
    || (has_numbers r.frequency
    && (lists_nth r.weekdays.front w (nth_of_weekday (place - 1)) || lists_nth r.weekdays.back w (nth_of_weekday behind)))

-- 3.3.10: BYDAY is a "list of days of the week", and it names the day
unfoldable pub on_weekday : Rule → ℤ → Bool
on_weekday r n = names_weekday r (days_from_monday (weekday_of n)) (counted_place r n) (days_behind r n)

-- ---- BYWEEKNO

-- 3.3.10: week 1 "is the first week that contains at least four (4) days in that calendar year". Its first four days or its last four lie there, and
-- so its fourth day does. So a week belongs to the year of its fourth day, and is numbered as that day among the days of its weekday there
abbrev pub week_number : ℤ → ℕ
week_number fourth = nth_of_weekday (ordinal_of fourth - 1)

-- the same from the end of that year: its last week has 1, which a text writes as -1
abbrev pub week_number_from_end : ℤ → ℕ
week_number_from_end fourth = nth_of_weekday (year_length (year_of fourth) - ordinal_of fourth)

-- 3.3.10: BYWEEKNO is a "list of ordinals specifying weeks of the year", and it names the week of the day. A week is "a seven day period, starting
-- on the day of the week defined to be the week start (see WKST)".
-- The week's year need not be the year of the day. INTERVAL and BYSETPOS go by the year of the day: RFC 5545 does not say which, and a rule by years
-- has calendar years as its periods. With INTERVAL=2 from 2024 on, 30 December 2024 counts, though its week is the first of 2025
unfoldable pub in_week : Rule → ℤ → Bool
in_week r n =
    let fourth = week_first_of n r.week_start +ℤ pos 3 in
    has r.weeks (week_number fourth) || has r.weeks_from_end (week_number_from_end fourth)

-- ---- all of them

-- the day has what the start fills in, and each part that the rule has names it. 3.3.10: BYMONTH is a "list of months of the year"
unfoldable pub passes : Rule → ℤ → ℤ → Bool
passes r start n =
    filled r start n
    && ((lacks_months r || has r.months (month_of n))
    && ((lacks_month_days r || on_month_day r n)
    && ((lacks_weekdays r || on_weekday r n)
    && ((lacks_year_days r || on_year_day r n) && (lacks_weeks r || in_week r n)))))

-- a day outside the calendar does not pass
unfoldable pub date_passes : Rule → ℤ → ℤ → Bool
date_passes r start n = is_date n && passes r start n

-- known values: the days that are the first of their weekday, the second, and the fifth in a month of 31 days
nth_of_weekday-first : nth_of_weekday 0 ∷ nth_of_weekday 6 ∷ [] ≡ 1 ∷ 1 ∷ []
nth_of_weekday-first = refl

nth_of_weekday-later : nth_of_weekday 7 ∷ nth_of_weekday 13 ∷ nth_of_weekday 28 ∷ [] ≡ 2 ∷ 2 ∷ 5 ∷ []
nth_of_weekday-later = refl

-- the year 1 began on a Monday. So the fourth day of its first week is 4 January, and that of its second 11 January
week_number-first : week_number (pos 4) ∷ week_number (pos 11) ∷ [] ≡ 1 ∷ 2 ∷ []
unfolding ordinal_name_of days_after_zero
week_number-first = refl

-- a Monday at place 8 of a month of 30 days: `2MO` names it, and so does `-4MO`, but not `1MO`
abbrev by_mondays : List ℕ → List ℕ → Rule
by_mondays front back =
    record (plain Monthly) { weekdays = record { every = no_numbers; front = slice_set no_weekdays.front 0 (numbers front); back = slice_set no_weekdays.back 0 (numbers back) } }

names_weekday-second : names_weekday (by_mondays (2 ∷ []) []) 0 8 22 ≡ true
unfolding has has_numbers
names_weekday-second = refl

names_weekday-fourth_from_end : names_weekday (by_mondays [] (4 ∷ [])) 0 8 22 ≡ true
unfolding has has_numbers
names_weekday-fourth_from_end = refl

names_weekday-first : names_weekday (by_mondays (1 ∷ []) []) 0 8 22 ≡ false
unfolding has has_numbers
names_weekday-first = refl
