-- The texts of rules (RFC 5545, section 3.3.10), as `FREQ=MONTHLY;BYDAY=-1FR`.
-- What stands in quotation marks here gives the sense of that section, which may say it in other words.
use Rattle.std.specs.Prelude.{◌≡◌, ℕ, ◌-◌, ◌==◌, nat_lt, Bool, true, false, not, ◌&&◌, ◌||◌, List, [], ◌∷◌, length, take, drop, slice_index, if◌then◌else◌, Option, Some, None, ℤ, pos, codes, refl}
use Rattle.std.specs.List.{list_all}
use Rattle.std.specs.Option.{option_and_then, option_map}
use Rattle.std.specs.Str.{byte, str_eq_ignore_ascii_case}
use Rattle.chrono_datetime.specs.Days.{date_of_ymd}
use Rattle.chrono_datetime.specs.Names.{weekday_of_letters}
use Rattle.chrono_datetime.specs.declared.Weekday.{Weekday}
use Rattle.chrono_datetime.specs.declared.Weekday.TheVariants.{Mon}
use Rattle.chrono_sets.specs.FiniteSets.{FiniteSet, are_empty, no_numbers, numbers}
use Rattle.chrono_text.specs.Numbers.{above_zero, count_of, digits_of, natural_of}
use Rattle.chrono_text.specs.Lists.{begins_alike, pieces}
use Rattle.chrono_rules.specs.ByParts.{has_numbers}
use Rattle.chrono_rules.specs.NumberLists.{signed_list_of, month_list_of, no_signed, no_year_ends, weekdays_of, with_nth_of, signed_year_list_of}
use Rattle.chrono_rules.specs.RuleParts.{lacks_month_days, lacks_months, lacks_positions, lacks_weekdays, lacks_weeks, lacks_year_days, no_weekdays, plain}
use Rattle.chrono_rules.specs.declared.rule.End.{End}
use Rattle.chrono_rules.specs.declared.rule.End.TheVariants.{Never, Count, Until}
use Rattle.chrono_rules.specs.declared.rule.Frequency.{Frequency}
use Rattle.chrono_rules.specs.declared.rule.Frequency.TheVariants.{Daily, Weekly, Monthly, Yearly}
use Rattle.chrono_rules.specs.declared.rule.Rule.{Rule}

-- the parts of a text stand between semicolons
abbrev pub parts : List ℕ → List (List ℕ)
parts text = pieces (byte ";") text

-- where the parts begin: behind the name of the property in which a calendar has a rule (RFC 5545, 3.8.5.3), if it stands in front
abbrev pub body_start : List ℕ → ℕ
body_start text = if begins_alike (codes "RRULE:") text then 6 else 0

-- the text from there on
abbrev pub behind_property : List ℕ → List ℕ
behind_property text = drop (body_start text) text

-- a `;` ends the text
abbrev pub ends_with_semicolon : List ℕ → Bool
ends_with_semicolon text = nat_lt 0 (length text) && (slice_index text (length text - 1) == byte ";")

-- the text without one `;` at its end, which some programs write there
abbrev pub without_semicolon : List ℕ → List ℕ
without_semicolon text = if ends_with_semicolon text then take (length text - 1) text else text

-- the parts of a rule as the text has them, without `RRULE:` in front and without a `;` at the end
unfoldable pub rule_body : List ℕ → List ℕ
rule_body text = without_semicolon (behind_property text)

-- what stands behind a name, in each part that has it
abbrev pub values : List ℕ → List (List ℕ) → List (List ℕ)
values name [] = []
values name (p ∷ ps) = if begins_alike name p then drop (length name) p ∷ values name ps else values name ps

-- the values of the parts with a name
abbrev pub values_in : List ℕ → List ℕ → List (List ℕ)
values_in text name = values name (parts text)

-- a part has the name of a list
abbrev pub is_list_part : List ℕ → Bool
is_list_part p =
    begins_alike (codes "BYMONTH=") p || (begins_alike (codes "BYMONTHDAY=") p || (begins_alike (codes "BYDAY=") p
    || (begins_alike (codes "BYYEARDAY=") p || (begins_alike (codes "BYWEEKNO=") p || begins_alike (codes "BYSETPOS=") p))))

-- a part has a name that rules over days have
abbrev pub is_part : List ℕ → Bool
is_part p =
    begins_alike (codes "FREQ=") p || (begins_alike (codes "INTERVAL=") p || (begins_alike (codes "COUNT=") p
    || (begins_alike (codes "UNTIL=") p || (begins_alike (codes "WKST=") p || is_list_part p))))

-- what a part says: its one value, or what a rule without it has; None if the value cannot be read, or if the part stands there twice
abbrev pub said : {A : Type 0} → (List ℕ → Option A) → Option A → List (List ℕ) → Option A
said read without [] = without
said read without (v ∷ []) = read v
said read without (v ∷ w ∷ more) = None

-- the number above 0 that a text writes
unfoldable pub interval_of : List ℕ → Option ℕ
interval_of text = option_and_then above_zero (count_of text)

-- the frequency that a text names, in letters of either case
unfoldable pub frequency_of : List ℕ → Option Frequency
frequency_of text =
    if str_eq_ignore_ascii_case text (codes "DAILY") then Some Daily
    else if str_eq_ignore_ascii_case text (codes "WEEKLY") then Some Weekly
    else if str_eq_ignore_ascii_case text (codes "MONTHLY") then Some Monthly
    else if str_eq_ignore_ascii_case text (codes "YEARLY") then Some Yearly
    else None

-- the date of a year, a month and a day, if each can be read
abbrev pub date_of_parts : Option ℕ → Option ℕ → Option ℕ → Option ℤ
date_of_parts year month day = option_and_then (λ y. option_and_then (λ m. option_and_then (date_of_ymd (pos y) m) day) month) year

-- the date that four digits of a year, two of a month and two of a day name.
-- 3.3.10: UNTIL has "the same value type as the DTSTART property": a rule over days has a date
unfoldable pub date_of : List ℕ → Option ℤ
date_of text =
    if length text == 8 then date_of_parts (digits_of 4 (take 4 text)) (digits_of 2 (take 2 (drop 4 text))) (digits_of 2 (drop 6 text)) else None

-- where a rule ends, by the values of its COUNT parts and of its UNTIL parts: never with neither. 3.3.10: both "MUST NOT occur in the same" rule
unfoldable pub end_of : List (List ℕ) → List (List ℕ) → Option End
end_of counts [] = said (λ text. option_map Count (count_of text)) (Some Never) counts
end_of [] (u ∷ untils) = said (λ text. option_map Until (date_of text)) (Some Never) (u ∷ untils)
end_of (c ∷ counts) (u ∷ untils) = None

-- the weekday that two letters name, in either case
unfoldable pub weekday_of_text : List ℕ → Option Weekday
weekday_of_text text = weekday_of_letters 2 text

-- 3.3.10: BYMONTHDAY "MUST NOT be specified when the FREQ rule part is set to WEEKLY"
unfoldable pub has_month_days : Frequency → Bool
has_month_days Daily = true
has_month_days Weekly = false
has_month_days Monthly = true
has_month_days Yearly = true

-- 3.3.10: BYYEARDAY "MUST NOT be specified when the FREQ rule part is set to DAILY, WEEKLY, or MONTHLY", and BYWEEKNO is for YEARLY alone
unfoldable pub has_year_parts : Frequency → Bool
has_year_parts Daily = false
has_year_parts Weekly = false
has_year_parts Monthly = false
has_year_parts Yearly = true

-- no weekday of the rule has a number
abbrev pub lacks_numbers : Rule → Bool
lacks_numbers r = are_empty r.weekdays.front && are_empty r.weekdays.back

-- 3.3.10: BYDAY has no "numeric value when the FREQ rule part is not set to MONTHLY or YEARLY", and none "when the BYWEEKNO rule part is specified"
abbrev pub may_have_numbers : Rule → Bool
may_have_numbers r = has_numbers r.frequency && lacks_weeks r

-- 3.3.10: BYSETPOS "MUST only be used in conjunction with another BYxxx rule part". The rule has none
abbrev pub lacks_lists : Rule → Bool
lacks_lists r = lacks_months r && (lacks_month_days r && (lacks_weekdays r && (lacks_year_days r && lacks_weeks r)))

-- the parts of the rule go together, as RFC 5545 (3.3.10) allows them
abbrev pub fits : Rule → Bool
fits r =
    (has_month_days r.frequency || lacks_month_days r)
    && ((has_year_parts r.frequency || (lacks_year_days r && lacks_weeks r))
    && ((may_have_numbers r || lacks_numbers r) && (lacks_positions r || not (lacks_lists r))))

-- what the parts of a text say, in any order and each at most once
pub record Says (text : List ℕ) (r : Rule) : Type 0 where
  pub frequency : said frequency_of None (values_in text (codes "FREQ=")) ≡ Some r.frequency
  pub interval : said interval_of (Some 1) (values_in text (codes "INTERVAL=")) ≡ Some r.interval
  pub end : end_of (values_in text (codes "COUNT=")) (values_in text (codes "UNTIL=")) ≡ Some r.end
  pub months : said month_list_of (Some no_numbers) (values_in text (codes "BYMONTH=")) ≡ Some r.months
  pub month_days : said (signed_list_of 2 31) (Some no_signed) (values_in text (codes "BYMONTHDAY=")) ≡ Some (record { front = r.month_days; back = r.month_days_from_end })
  pub weekdays : said weekdays_of (Some no_weekdays) (values_in text (codes "BYDAY=")) ≡ Some r.weekdays
  pub year_days : said signed_year_list_of (Some no_year_ends) (values_in text (codes "BYYEARDAY=")) ≡ Some (record { front = r.year_days; back = r.year_days_from_end })
  pub weeks : said (signed_list_of 2 53) (Some no_signed) (values_in text (codes "BYWEEKNO=")) ≡ Some (record { front = r.weeks; back = r.weeks_from_end })
  pub positions : said signed_year_list_of (Some no_year_ends) (values_in text (codes "BYSETPOS=")) ≡ Some (record { front = r.positions; back = r.positions_from_end })
  pub week_start : said weekday_of_text (Some Mon) (values_in text (codes "WKST=")) ≡ Some r.week_start

-- the text writes the rule. It has no `RRULE:` in front and no `;` at the end: see `rule_body`
pub record IsRuleText (text : List ℕ) (r : Rule) : Type 0 where
  pub named : list_all is_part (parts text) ≡ true
  pub says : Says text r
  pub fitting : fits r ≡ true

-- known values: which parts fit rules by days, weeks, months and years (the table of 3.3.10). Each list is tried from either end
abbrev fits_by_frequency : (Frequency → Rule) → List Bool
fits_by_frequency rule = fits (rule Daily) ∷ fits (rule Weekly) ∷ fits (rule Monthly) ∷ fits (rule Yearly) ∷ []

abbrev first : FiniteSet
first = numbers (1 ∷ [])

abbrev first_monday : List FiniteSet
first_monday = with_nth_of no_weekdays.front 0 1

abbrev mondays : FiniteSet
mondays = numbers (0 ∷ [])

fits-month_days : fits_by_frequency (λ f. record (plain f) { month_days = first }) ≡ true ∷ false ∷ true ∷ true ∷ []
unfolding has_month_days has_year_parts has_numbers
fits-month_days = refl

fits-month_days_from_end : fits_by_frequency (λ f. record (plain f) { month_days_from_end = first }) ≡ true ∷ false ∷ true ∷ true ∷ []
unfolding has_month_days has_year_parts has_numbers
fits-month_days_from_end = refl

fits-year_days : fits_by_frequency (λ f. record (plain f) { year_days = first }) ≡ false ∷ false ∷ false ∷ true ∷ []
unfolding has_month_days has_year_parts has_numbers
fits-year_days = refl

fits-year_days_from_end : fits_by_frequency (λ f. record (plain f) { year_days_from_end = first }) ≡ false ∷ false ∷ false ∷ true ∷ []
unfolding has_month_days has_year_parts has_numbers
fits-year_days_from_end = refl

fits-weeks : fits_by_frequency (λ f. record (plain f) { weeks = first }) ≡ false ∷ false ∷ false ∷ true ∷ []
unfolding has_month_days has_year_parts has_numbers
fits-weeks = refl

fits-weeks_from_end : fits_by_frequency (λ f. record (plain f) { weeks_from_end = first }) ≡ false ∷ false ∷ false ∷ true ∷ []
unfolding has_month_days has_year_parts has_numbers
fits-weeks_from_end = refl

fits-months : fits_by_frequency (λ f. record (plain f) { months = first }) ≡ true ∷ true ∷ true ∷ true ∷ []
unfolding has_month_days has_year_parts has_numbers
fits-months = refl

fits-weekdays : fits_by_frequency (λ f. record (plain f) { weekdays = record { every = mondays; front = no_weekdays.front; back = no_weekdays.back } }) ≡ true ∷ true ∷ true ∷ true ∷ []
unfolding has_month_days has_year_parts has_numbers
fits-weekdays = refl

fits-numbers : fits_by_frequency (λ f. record (plain f) { weekdays = record { every = no_numbers; front = first_monday; back = no_weekdays.back } }) ≡ false ∷ false ∷ true ∷ true ∷ []
unfolding has_month_days has_year_parts has_numbers
fits-numbers = refl

fits-numbers_from_end : fits_by_frequency (λ f. record (plain f) { weekdays = record { every = no_numbers; front = no_weekdays.front; back = first_monday } }) ≡ false ∷ false ∷ true ∷ true ∷ []
unfolding has_month_days has_year_parts has_numbers
fits-numbers_from_end = refl

-- beside weeks a weekday, but no numbered one
fits-weekday_of_weeks : fits (record (plain Yearly) { weekdays = record { every = mondays; front = no_weekdays.front; back = no_weekdays.back }; weeks = first }) ≡ true
unfolding has_month_days has_year_parts has_numbers
fits-weekday_of_weeks = refl

fits-number_of_weeks : fits (record (plain Yearly) { weekdays = record { every = no_numbers; front = first_monday; back = no_weekdays.back }; weeks = first }) ≡ false
unfolding has_month_days has_year_parts has_numbers
fits-number_of_weeks = refl

-- positions not alone, and beside each list
fits-positions_alone : fits_by_frequency (λ f. record (plain f) { positions = first }) ≡ false ∷ false ∷ false ∷ false ∷ []
unfolding has_month_days has_year_parts has_numbers
fits-positions_alone = refl

fits-positions_from_end_alone : fits_by_frequency (λ f. record (plain f) { positions_from_end = first }) ≡ false ∷ false ∷ false ∷ false ∷ []
unfolding has_month_days has_year_parts has_numbers
fits-positions_from_end_alone = refl

fits-positions_of_months : fits_by_frequency (λ f. record (plain f) { months = first; positions = first }) ≡ true ∷ true ∷ true ∷ true ∷ []
unfolding has_month_days has_year_parts has_numbers
fits-positions_of_months = refl

fits-positions_of_month_days : fits_by_frequency (λ f. record (plain f) { month_days = first; positions = first }) ≡ true ∷ false ∷ true ∷ true ∷ []
unfolding has_month_days has_year_parts has_numbers
fits-positions_of_month_days = refl

fits-positions_of_weekdays : fits_by_frequency (λ f. record (plain f) { weekdays = record { every = mondays; front = no_weekdays.front; back = no_weekdays.back }; positions = first }) ≡ true ∷ true ∷ true ∷ true ∷ []
unfolding has_month_days has_year_parts has_numbers
fits-positions_of_weekdays = refl

fits-positions_of_year_days : fits_by_frequency (λ f. record (plain f) { year_days = first; positions = first }) ≡ false ∷ false ∷ false ∷ true ∷ []
unfolding has_month_days has_year_parts has_numbers
fits-positions_of_year_days = refl

fits-positions_of_weeks : fits_by_frequency (λ f. record (plain f) { weeks = first; positions = first }) ≡ false ∷ false ∷ false ∷ true ∷ []
unfolding has_month_days has_year_parts has_numbers
fits-positions_of_weeks = refl

-- what stands before and behind the parts: the property's name in letters of either case, once, and one semicolon
rule_body-property : rule_body (codes "rrule:FREQ=DAILY;") ≡ codes "FREQ=DAILY"
unfolding rule_body
rule_body-property = refl

rule_body-plain : rule_body (codes "FREQ=DAILY") ≡ codes "FREQ=DAILY"
unfolding rule_body
rule_body-plain = refl

rule_body-twice : rule_body (codes "RRULE:RRULE:FREQ=DAILY;;") ≡ codes "RRULE:FREQ=DAILY;"
unfolding rule_body
rule_body-twice = refl

rule_body-nothing : rule_body [] ≡ []
unfolding rule_body
rule_body-nothing = refl

-- what stands behind a name, in letters of either case, once, nowhere and twice
values-one : values_in (codes "FREQ=YEARLY;bymonth=3") (codes "BYMONTH=") ≡ codes "3" ∷ []
values-one = refl

values-none : values_in (codes "FREQ=MONTHLY;BYMONTHDAY=3") (codes "BYMONTH=") ≡ []
values-none = refl

values-two : values_in (codes "COUNT=3;FREQ=DAILY;COUNT=4") (codes "COUNT=") ≡ codes "3" ∷ codes "4" ∷ []
values-two = refl

-- a word of FREQ in small letters, and none
frequency_of-small : frequency_of (codes "yearly") ≡ Some Yearly
unfolding frequency_of
frequency_of-small = refl

frequency_of-hours : frequency_of (codes "HOURLY") ≡ None
unfolding frequency_of
frequency_of-hours = refl

-- numbers with zeros in front, and nothing
interval_of-zeros : interval_of (codes "0010") ≡ Some 10
unfolding interval_of count_of natural_of
interval_of-zeros = refl

interval_of-zero : interval_of (codes "0") ≡ None
unfolding interval_of count_of natural_of
interval_of-zero = refl

-- the greatest number that fits 32 bits, and the one behind it
interval_of-greatest : interval_of (codes "4294967295") ≡ Some 4_294_967_295
unfolding interval_of count_of natural_of
interval_of-greatest = refl

interval_of-past : interval_of (codes "4294967296") ≡ None
unfolding interval_of count_of natural_of
interval_of-past = refl

count_of-nothing : count_of [] ≡ None
unfolding count_of natural_of
count_of-nothing = refl

-- a day of 1997, none of 1997, and a time of day
date_of-christmas : date_of (codes "19971224") ≡ date_of_ymd (pos 1997) 12 24
unfolding date_of digits_of natural_of
date_of-christmas = refl

date_of-leap_day : date_of (codes "19970229") ≡ None
unfolding date_of digits_of date_of_ymd natural_of
date_of-leap_day = refl

date_of-time : date_of (codes "19971224T000000Z") ≡ None
unfolding date_of digits_of natural_of
date_of-time = refl

date_of-seven_digits : date_of (codes "1997122") ≡ None
unfolding date_of digits_of natural_of
date_of-seven_digits = refl

-- a rule ends once
end_of-both : end_of (codes "3" ∷ []) (codes "19971224" ∷ []) ≡ None
unfolding end_of
end_of-both = refl

end_of-count : end_of (codes "3" ∷ []) [] ≡ Some (Count 3)
unfolding end_of count_of natural_of
end_of-count = refl

end_of-two_dates : end_of [] (codes "19971224" ∷ codes "19971225" ∷ []) ≡ None
unfolding end_of
end_of-two_dates = refl
