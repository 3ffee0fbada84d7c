-- What is told of a text that no rule has, and why a rule's parts do not go together.
use Rattle.std.specs.Prelude.{◌≡◌, ◌↔◌, ◌==◌, ◌≤◌, ℕ, ◌+◌, ◌-◌, nat_lt, Bool, true, false, not, ◌&&◌, ◌||◌, List, [], ◌∷◌, ◌++◌, length, take, drop, slice_index, if◌then◌else◌, Option, Some, None, Result, Ok, Err, IfOk, IfErr, IsErr, codes, refl, map}
use Rattle.std.specs.List.{list_all, list_any}
use Rattle.std.specs.Option.{is_some}
use Rattle.std.specs.Str.{byte}
use Rattle.chrono_datetime.specs.Names.{weekday_of_letters}
use Rattle.chrono_datetime.specs.declared.Weekday.TheVariants.{Mon}
use Rattle.chrono_sets.specs.FiniteSets.{no_numbers, numbers}
use Rattle.chrono_text.specs.Numbers.{are_digits, count_of, digits_of, natural_of}
use Rattle.chrono_text.specs.Lists.{begins_alike, has_blank, pieces}
use Rattle.chrono_rules.specs.ByParts.{has_numbers}
use Rattle.chrono_rules.specs.NumberLists.{signed_list_of, listed_number, listed_weekday, month_list_of, no_signed, no_year_ends, signed_number_of, weekdays_of, with_month_text, with_nth_of, with_signed_text, with_weekday, with_weekday_text, with_year_text, signed_year_list_of}
use Rattle.chrono_rules.specs.RuleParts.{lacks_month_days, lacks_weeks, lacks_year_days, no_weekdays, plain}
use Rattle.chrono_rules.specs.RuleTexts.{IsRuleText, Says, body_start, date_of, end_of, fits, frequency_of, has_month_days, has_year_parts, interval_of, is_part, lacks_numbers, may_have_numbers, parts, rule_body, said, values_in, weekday_of_text}
use Rattle.chrono_rules.specs.declared.text.rule_error.RuleError.{RuleError}
use Rattle.chrono_rules.specs.declared.text.rule_error.RuleFault.{RuleFault}
use Rattle.chrono_rules.specs.declared.text.rule_error.RuleFault.TheVariants.{Unknown, OfHours, OfMinutes, OfSeconds, Extension, OfCalendars, OfSkips, Blank, Missing, Twice, Empty, NotAFrequency, NotANumber, Range, OutOfRange, NotADate, WithTime, NotAWeekday, BesideCount, NotWith, NumbersNotWith, NumbersBesideWeeks, Alone}
use Rattle.chrono_rules.specs.declared.text.rule_error.RulePart.{RulePart}
use Rattle.chrono_rules.specs.declared.text.rule_error.RulePart.TheVariants.{Freq, Interval, Count, Until, ByMonth, ByMonthDay, ByDay, ByYearDay, ByWeekNo, BySetPos, Wkst}
use Rattle.chrono_rules.specs.declared.rule.Frequency.{Frequency}
use Rattle.chrono_rules.specs.declared.rule.Frequency.TheVariants.{Daily, Weekly, Monthly, Yearly}
use Rattle.chrono_rules.specs.declared.rule.Rule.{Rule}

-- the name of a part
unfoldable pub part_name : RulePart → List ℕ
part_name Freq = codes "FREQ"
part_name Interval = codes "INTERVAL"
part_name Count = codes "COUNT"
part_name Until = codes "UNTIL"
part_name ByMonth = codes "BYMONTH"
part_name ByMonthDay = codes "BYMONTHDAY"
part_name ByDay = codes "BYDAY"
part_name ByYearDay = codes "BYYEARDAY"
part_name ByWeekNo = codes "BYWEEKNO"
part_name BySetPos = codes "BYSETPOS"
part_name Wkst = codes "WKST"

-- what a part begins with: its name and `=`
abbrev pub part_key : RulePart → List ℕ
part_key part = part_name part ++ codes "="

-- the part can be read: its one value can, or it may lack. An UNTIL cannot be read beside a COUNT
unfoldable pub is_read : List ℕ → RulePart → Bool
is_read text Freq = is_some (said frequency_of None (values_in text (codes "FREQ=")))
is_read text Interval = is_some (said interval_of (Some 1) (values_in text (codes "INTERVAL=")))
is_read text Count = is_some (said count_of (Some 0) (values_in text (codes "COUNT=")))
is_read text Until = is_some (end_of (values_in text (codes "COUNT=")) (values_in text (codes "UNTIL=")))
is_read text ByMonth = is_some (said month_list_of (Some no_numbers) (values_in text (codes "BYMONTH=")))
is_read text ByMonthDay = is_some (said (signed_list_of 2 31) (Some no_signed) (values_in text (codes "BYMONTHDAY=")))
is_read text ByDay = is_some (said weekdays_of (Some no_weekdays) (values_in text (codes "BYDAY=")))
is_read text ByYearDay = is_some (said signed_year_list_of (Some no_year_ends) (values_in text (codes "BYYEARDAY=")))
is_read text ByWeekNo = is_some (said (signed_list_of 2 53) (Some no_signed) (values_in text (codes "BYWEEKNO=")))
is_read text BySetPos = is_some (said signed_year_list_of (Some no_year_ends) (values_in text (codes "BYSETPOS=")))
is_read text Wkst = is_some (said weekday_of_text (Some Mon) (values_in text (codes "WKST=")))

-- a `-` stands behind the first byte
abbrev pub is_range : List ℕ → Bool
is_range text = list_any (λ b. b == byte "-") (drop 1 text)

-- why a text is no number that a part may have: digits are out of range; other text has a blank, is a range, or is no number
unfoldable pub digits_fault : List ℕ → RuleFault
digits_fault text = if are_digits text then OutOfRange else if has_blank text then Blank else if is_range text then Range else NotANumber

-- why a text is no number of a part
unfoldable pub number_fault : List ℕ → RuleFault
number_fault [] = Empty
number_fault (b ∷ bs) = digits_fault (b ∷ bs)

-- why a text is no number with a sign in front, or none
unfoldable pub signed_fault : List ℕ → RuleFault
signed_fault [] = Empty
signed_fault (b ∷ bs) = if (b == byte "-") || (b == byte "+") then digits_fault bs else digits_fault (b ∷ bs)

-- a blank in the text, or else another fault
abbrev pub blank_or : RuleFault → List ℕ → RuleFault
blank_or fault text = if has_blank text then Blank else fault

-- why an item is no weekday: its letters are none, or what stands in front of them is no number
unfoldable pub weekday_fault : List ℕ → RuleFault
weekday_fault [] = Empty
weekday_fault (b ∷ bs) =
    if is_some (listed_weekday (drop (length (b ∷ bs) - 2) (b ∷ bs))) then signed_fault (take (length (b ∷ bs) - 2) (b ∷ bs)) else blank_or NotAWeekday (b ∷ bs)

-- whether an item of the part's list can be read
unfoldable pub reads_item : RulePart → List ℕ → Bool
reads_item ByMonth item = is_some (listed_number 2 12 item)
reads_item ByMonthDay item = is_some (signed_number_of 2 31 item)
reads_item ByDay item = is_some (with_weekday_text no_weekdays item)
reads_item ByWeekNo item = is_some (signed_number_of 2 53 item)
reads_item part item = is_some (signed_number_of 3 366 item)

-- why an item of the part's list cannot be read
unfoldable pub item_fault : RulePart → List ℕ → RuleFault
item_fault ByMonth item = number_fault item
item_fault ByDay item = weekday_fault item
item_fault part item = signed_fault item

-- why a list cannot be read, and behind how many of its bytes: by the first item that cannot, where the first of them begins at `at`
abbrev pub list_fault : RulePart → ℕ → List (List ℕ) → ℕ × RuleFault
list_fault part at [] = (0, Empty)
list_fault part at (item ∷ items) = if reads_item part item then list_fault part (at + length item + 1) items else (at, item_fault part item)

-- why a text is no word of a part: it is empty, it has a blank, or this fault
abbrev pub word_fault : RuleFault → List ℕ → RuleFault
word_fault fault text = if length text == 0 then Empty else blank_or fault text

-- the ninth byte is a `T`, as behind a date of eight digits; whether digits stand before it is not asked
abbrev pub has_time : List ℕ → Bool
has_time text = nat_lt 8 (length text) && ((slice_index text 8 == byte "T") || (slice_index text 8 == byte "t"))

-- why a value of UNTIL is no date: a time of day stands behind one, or it is none
abbrev pub date_fault : List ℕ → RuleFault
date_fault text = if has_time text then WithTime else word_fault NotADate text

-- why a value of the part cannot be read, and behind how many of its bytes
unfoldable pub value_fault : RulePart → List ℕ → ℕ × RuleFault
value_fault Freq text = (0, word_fault NotAFrequency text)
value_fault Interval text = (0, number_fault text)
value_fault Count text = (0, number_fault text)
value_fault Until text = (0, date_fault text)
value_fault Wkst text = (0, word_fault NotAWeekday text)
value_fault part text = list_fault part 0 (pieces (byte ",") text)

-- the parts with a name: where each begins, if the first of all parts begins at `at`, and its value
abbrev pub placed_values : List ℕ → ℕ → List (List ℕ) → List (ℕ × List ℕ)
placed_values name at [] = []
placed_values name at (p ∷ ps) = if begins_alike name p then (at, drop (length name) p) ∷ placed_values name (at + length p + 1) ps else placed_values name (at + length p + 1) ps

-- the parts of a text that have the part's name: where each begins, and its value
abbrev pub placed_in : List ℕ → RulePart → List (ℕ × List ℕ)
placed_in text part = placed_values (part_key part) 0 (parts text)

-- where the first of them begins; else the end
abbrev pub first_place : ℕ → List (ℕ × List ℕ) → ℕ
first_place end [] = end
first_place end (v ∷ more) = v.0

-- a fault behind so many bytes more
abbrev pub further : ℕ → ℕ × RuleFault → ℕ × RuleFault
further bytes fault = (bytes + fault.0, fault.1)

-- why a part cannot be read, and where in the text: it is missing at the end, its one value is none, or it stands a second time
abbrev pub values_fault : RulePart → ℕ → List (ℕ × List ℕ) → ℕ × RuleFault
values_fault part end [] = (end, Missing)
values_fault part end (v ∷ []) = further (v.0 + length (part_key part)) (value_fault part v.1)
values_fault part end (v ∷ w ∷ more) = (w.0, Twice)

-- an UNTIL beside a COUNT
abbrev pub until_fault : ℕ → List (ℕ × List ℕ) → List (ℕ × List ℕ) → ℕ × RuleFault
until_fault end [] untils = values_fault Until end untils
until_fault end (c ∷ counts) untils = (first_place end untils, BesideCount)

-- why a part of the text cannot be read, and where
unfoldable pub part_fault : List ℕ → RulePart → ℕ × RuleFault
part_fault text Until = until_fault (length text) (placed_in text Count) (placed_in text Until)
part_fault text part = values_fault part (length text) (placed_in text part)

-- the error of a part, a place, and what is wrong there
abbrev pub rule_error_at : Option RulePart → ℕ × RuleFault → RuleError
rule_error_at part fault = record { part = part; byte = fault.0; fault = fault.1 }

-- the error of a part that cannot be read
abbrev pub part_error : List ℕ → RulePart → RuleError
part_error text part = rule_error_at (Some part) (part_fault text part)

-- the first of some parts that cannot be read; the last if all others can
abbrev pub first_unread : List ℕ → List RulePart → RulePart → RuleError
first_unread text [] last = part_error text last
first_unread text (p ∷ ps) last = if is_read text p then first_unread text ps last else part_error text p

-- the parts in their order, but for the last, which is WKST
abbrev pub parts_but_last : List RulePart
parts_but_last = Freq ∷ Interval ∷ Count ∷ Until ∷ ByMonth ∷ ByMonthDay ∷ ByDay ∷ ByYearDay ∷ ByWeekNo ∷ BySetPos ∷ []

-- the first part of a text that cannot be read, and why
unfoldable pub unread_error : List ℕ → RuleError
unread_error text = first_unread text parts_but_last Wkst

-- a part that does not go with the others, and where it begins
abbrev pub unfit_part : List ℕ → RulePart → RuleFault → RuleError
unfit_part text part fault = rule_error_at (Some part) (first_place (length text) (placed_in text part), fault)

-- why the parts of a text that says the rule do not go together: the first that does not go with FREQ, numbers of weekdays, positions alone
unfoldable pub unfit_error : List ℕ → Rule → RuleError
unfit_error text r =
    if not (has_month_days r.frequency) && not (lacks_month_days r) then unfit_part text ByMonthDay (NotWith r.frequency)
    else if not (has_year_parts r.frequency) && not (lacks_year_days r) then unfit_part text ByYearDay (NotWith r.frequency)
    else if not (has_year_parts r.frequency) && not (lacks_weeks r) then unfit_part text ByWeekNo (NotWith r.frequency)
    else if not (has_numbers r.frequency) && not (lacks_numbers r) then unfit_part text ByDay (NumbersNotWith r.frequency)
    else if not (may_have_numbers r) && not (lacks_numbers r) then unfit_part text ByDay NumbersBesideWeeks
    else unfit_part text BySetPos Alone

-- each part has a name that rules over days have
abbrev pub are_named : List ℕ → Bool
are_named text = list_all is_part (parts text)

-- why a part has no such name: it is of a time of day, an X- part or one of RFC 7529. Any other is empty, has a blank or is unknown
unfoldable pub name_fault : List ℕ → RuleFault
name_fault part =
    if begins_alike (codes "BYHOUR=") part then OfHours
    else if begins_alike (codes "BYMINUTE=") part then OfMinutes
    else if begins_alike (codes "BYSECOND=") part then OfSeconds
    else if begins_alike (codes "X-") part then Extension
    else if begins_alike (codes "RSCALE=") part then OfCalendars
    else if begins_alike (codes "SKIP=") part then OfSkips
    else word_fault Unknown part

-- the first part without a name of rules over days: where it begins, if the first of all parts begins at `at`, and why it has none
abbrev pub unnamed_fault : ℕ → List (List ℕ) → ℕ × RuleFault
unnamed_fault at [] = (0, Unknown)
unnamed_fault at (p ∷ ps) = if is_part p then unnamed_fault (at + length p + 1) ps else (at, name_fault p)

-- the error of a text with such a part
abbrev pub unnamed_error : List ℕ → RuleError
unnamed_error text = rule_error_at None (unnamed_fault 0 (parts text))

-- an error in the parts of a text, as one of the text: behind `RRULE:`, if that stands in front
abbrev pub in_text : List ℕ → RuleError → RuleError
in_text text e = record { part = e.part; byte = body_start text + e.byte; fault = e.fault }

-- what a reading with errors answers
pub record IsRuleRead (text : List ℕ) (result : Result Rule RuleError) : Type 0 where
  pub read : IfOk result (λ r. IsRuleText (rule_body text) r)
  pub every : (r : Rule) → IsRuleText (rule_body text) r → result ≡ Ok r
  pub found : IsErr result ↔ ((r : Rule) → ¬ IsRuleText (rule_body text) r)
  pub unknown : are_named (rule_body text) ≡ false → result ≡ Err (in_text text (unnamed_error (rule_body text)))
  pub unread : are_named (rule_body text) ≡ true → ((r : Rule) → ¬ Says (rule_body text) r) → result ≡ Err (in_text text (unread_error (rule_body text)))
  pub unfit : (r : Rule) → are_named (rule_body text) ≡ true → Says (rule_body text) r → fits r ≡ false → result ≡ Err (in_text text (unfit_error (rule_body text) r))
  pub byte : IfErr result (λ e. e.byte ≤ length text)

-- the word of a frequency, as FREQ writes it
unfoldable pub frequency_text : Frequency → List ℕ
frequency_text Daily = codes "DAILY"
frequency_text Weekly = codes "WEEKLY"
frequency_text Monthly = codes "MONTHLY"
frequency_text Yearly = codes "YEARLY"

-- what is wrong, in words
unfoldable pub fault_words : RuleFault → List ℕ
fault_words Unknown = codes "unknown part"
fault_words OfHours = codes "BYHOUR: not in rules over days"
fault_words OfMinutes = codes "BYMINUTE: not in rules over days"
fault_words OfSeconds = codes "BYSECOND: not in rules over days"
fault_words Extension = codes "an X- part, which is not read"
fault_words OfCalendars = codes "RSCALE: not in rules of RFC 5545"
fault_words OfSkips = codes "SKIP: not in rules of RFC 5545"
fault_words Blank = codes "a blank"
fault_words Missing = codes "missing"
fault_words Twice = codes "stands twice"
fault_words Empty = codes "empty"
fault_words NotAFrequency = codes "not DAILY, WEEKLY, MONTHLY or YEARLY"
fault_words NotANumber = codes "not a number"
fault_words Range = codes "a range; list each with commas"
fault_words OutOfRange = codes "number out of range"
fault_words NotADate = codes "not a date as 19971224"
fault_words WithTime = codes "a time stands behind the date"
fault_words NotAWeekday = codes "not a weekday as MO"
fault_words BesideCount = codes "does not go with COUNT"
fault_words (NotWith f) = codes "does not go with "
fault_words (NumbersNotWith f) = codes "number does not go with "
fault_words NumbersBesideWeeks = codes "number does not go with BYWEEKNO"
fault_words Alone = codes "needs another BY part"

-- the word of FREQ that stands behind what is wrong, if there is one
unfoldable pub fault_frequency : RuleFault → Option Frequency
fault_frequency (NotWith f) = Some f
fault_frequency (NumbersNotWith f) = Some f
fault_frequency fault = None

-- the text of a word of FREQ, or nothing
abbrev pub frequency_behind : Option Frequency → List ℕ
frequency_behind None = []
frequency_behind (Some f) = frequency_text f

-- what is wrong, with the word of FREQ behind it
abbrev pub rule_fault_text : RuleFault → List ℕ
rule_fault_text fault = fault_words fault ++ frequency_behind (fault_frequency fault)

-- behind the part's name, if there is one
abbrev pub in_front : Option RulePart → List ℕ
in_front None = []
in_front (Some part) = part_name part ++ codes ": "

-- the line of an error: the part's name, if there is one, and what is wrong
unfoldable pub rule_error_text : RuleError → List ℕ
rule_error_text e = in_front e.part ++ rule_fault_text e.fault

-- known values: a part of hours, of minutes and of seconds, in letters of either case, and the first of several parts without a name of rules over days
unnamed_fault-hours : unnamed_fault 0 (parts (codes "FREQ=DAILY;byhour=9,10;BYMINUTE=30")) ≡ (11, OfHours)
unfolding name_fault
unnamed_fault-hours = refl

unnamed_fault-minutes : unnamed_fault 0 (parts (codes "BYMINUTE=30;BYHOUR=9")) ≡ (0, OfMinutes)
unfolding name_fault
unnamed_fault-minutes = refl

unnamed_fault-seconds : unnamed_fault 0 (parts (codes "FREQ=DAILY;BYSECOND=0;X=1")) ≡ (11, OfSeconds)
unfolding name_fault
unnamed_fault-seconds = refl

unnamed_fault-first : unnamed_fault 0 (parts (codes "FREQ=DAILY;BYHOURS=9;BYHOUR=9")) ≡ (11, Unknown)
unfolding name_fault
unnamed_fault-first = refl

-- a part of a user, those of RFC 7529, a blank in front of a name, and nothing
unnamed_fault-extension : unnamed_fault 0 (parts (codes "FREQ=DAILY;x-note=1;SKIP=OMIT")) ≡ (11, Extension)
unfolding name_fault
unnamed_fault-extension = refl

unnamed_fault-rscale : unnamed_fault 0 (parts (codes "RSCALE=GREGORIAN;FREQ=DAILY")) ≡ (0, OfCalendars)
unfolding name_fault
unnamed_fault-rscale = refl

unnamed_fault-skip : unnamed_fault 0 (parts (codes "FREQ=DAILY;SKIP=OMIT")) ≡ (11, OfSkips)
unfolding name_fault
unnamed_fault-skip = refl

unnamed_fault-blank : unnamed_fault 0 (parts (codes "FREQ=DAILY; COUNT=3")) ≡ (11, Blank)
unfolding name_fault
unnamed_fault-blank = refl

unnamed_fault-nothing : unnamed_fault 0 (parts []) ≡ (0, Empty)
unfolding name_fault
unnamed_fault-nothing = refl

-- an `X` without a dash is no part of a user, and the error of a text by the first part without a name
unnamed_fault-letter : unnamed_fault 0 (parts (codes "XNOTE=1")) ≡ (0, Unknown)
unfolding name_fault
unnamed_fault-letter = refl

unnamed_error-hours : unnamed_error (codes "FREQ=DAILY;BYHOUR=9") ≡ record { part = None; byte = 11; fault = OfHours }
unfolding name_fault
unnamed_error-hours = refl

are_named-one : are_named (codes "FREQ=DAILY;BYHOUR=9") ≡ false
are_named-one = refl

-- ranges where a list is due, a date-time, and blanks behind a value
value_fault-weekday_range : value_fault ByDay (codes "MO-FR") ≡ (0, Range)
unfolding value_fault reads_item item_fault weekday_fault with_weekday_text with_weekday listed_weekday weekday_of_letters signed_fault signed_number_of listed_number digits_of digits_fault natural_of
value_fault-weekday_range = refl

value_fault-day_range : value_fault ByMonthDay (codes "1-5") ≡ (0, Range)
unfolding value_fault reads_item item_fault signed_fault signed_number_of listed_number digits_of digits_fault natural_of
value_fault-day_range = refl

value_fault-two_signs : value_fault ByMonthDay (codes "--5") ≡ (0, NotANumber)
unfolding value_fault reads_item item_fault signed_fault signed_number_of listed_number digits_of digits_fault natural_of
value_fault-two_signs = refl

value_fault-time : value_fault Until (codes "19971224T000000Z") ≡ (0, WithTime)
unfolding value_fault
value_fault-time = refl

value_fault-blank_behind : value_fault Freq (codes "DAILY ") ≡ (0, Blank)
unfolding value_fault
value_fault-blank_behind = refl

value_fault-blank_in_list : value_fault ByMonth (codes "1, 2") ≡ (2, Blank)
unfolding value_fault reads_item item_fault number_fault listed_number digits_of digits_fault natural_of
value_fault-blank_in_list = refl

-- a text that lacks FREQ, one that has it twice, and the first of two parts that cannot be read
unread_error-missing : unread_error (codes "COUNT=3") ≡ rule_error_at (Some Freq) (7, Missing)
unfolding unread_error is_read part_fault part_name
unread_error-missing = refl

unread_error-twice : unread_error (codes "FREQ=DAILY;freq=DAILY") ≡ rule_error_at (Some Freq) (11, Twice)
unfolding unread_error is_read part_fault part_name
unread_error-twice = refl

unread_error-first : unread_error (codes "FREQ=DAILY;WKST=XX;INTERVAL=0") ≡ rule_error_at (Some Interval) (28, OutOfRange)
unfolding unread_error is_read part_fault part_name value_fault number_fault frequency_of interval_of count_of digits_fault natural_of
unread_error-first = refl

-- an UNTIL beside a COUNT
part_fault-until : part_fault (codes "FREQ=DAILY;COUNT=3;UNTIL=19971224") Until ≡ (19, BesideCount)
unfolding part_fault part_name
part_fault-until = refl

-- each part by its name, and why its value is not its own
part_fault-freq_part : part_fault (codes "FREQ=HOURLY") Freq ≡ (5, NotAFrequency)
unfolding part_fault part_name value_fault number_fault reads_item item_fault signed_fault signed_number_of weekday_fault with_weekday_text with_weekday listed_weekday weekday_of_letters listed_number digits_of digits_fault natural_of
part_fault-freq_part = refl

part_fault-interval_part : part_fault (codes "INTERVAL=-1") Interval ≡ (9, NotANumber)
unfolding part_fault part_name value_fault number_fault reads_item item_fault signed_fault signed_number_of weekday_fault with_weekday_text with_weekday listed_weekday weekday_of_letters listed_number digits_of digits_fault natural_of
part_fault-interval_part = refl

part_fault-count_part : part_fault (codes "COUNT=4294967296") Count ≡ (6, OutOfRange)
unfolding part_fault part_name value_fault number_fault reads_item item_fault signed_fault signed_number_of weekday_fault with_weekday_text with_weekday listed_weekday weekday_of_letters listed_number digits_of digits_fault natural_of
part_fault-count_part = refl

part_fault-until_part : part_fault (codes "UNTIL=1997") Until ≡ (6, NotADate)
unfolding part_fault part_name value_fault number_fault reads_item item_fault signed_fault signed_number_of weekday_fault with_weekday_text with_weekday listed_weekday weekday_of_letters listed_number digits_of digits_fault natural_of
part_fault-until_part = refl

part_fault-by_month_part : part_fault (codes "BYMONTH=12,13") ByMonth ≡ (11, OutOfRange)
unfolding part_fault part_name value_fault number_fault reads_item item_fault signed_fault signed_number_of weekday_fault with_weekday_text with_weekday listed_weekday weekday_of_letters listed_number digits_of digits_fault natural_of
part_fault-by_month_part = refl

part_fault-by_month_day_part : part_fault (codes "BYMONTHDAY=-31,-32") ByMonthDay ≡ (15, OutOfRange)
unfolding part_fault part_name value_fault number_fault reads_item item_fault signed_fault signed_number_of weekday_fault with_weekday_text with_weekday listed_weekday weekday_of_letters listed_number digits_of digits_fault natural_of
part_fault-by_month_day_part = refl

part_fault-by_day_part : part_fault (codes "BYDAY=MO,XX") ByDay ≡ (9, NotAWeekday)
unfolding part_fault part_name value_fault number_fault reads_item item_fault signed_fault signed_number_of weekday_fault with_weekday_text with_weekday listed_weekday weekday_of_letters listed_number digits_of digits_fault natural_of
part_fault-by_day_part = refl

part_fault-by_year_day_part : part_fault (codes "BYYEARDAY=-366,x") ByYearDay ≡ (15, NotANumber)
unfolding part_fault part_name value_fault number_fault reads_item item_fault signed_fault signed_number_of weekday_fault with_weekday_text with_weekday listed_weekday weekday_of_letters listed_number digits_of digits_fault natural_of
part_fault-by_year_day_part = refl

part_fault-by_week_no_part : part_fault (codes "BYWEEKNO=53,54") ByWeekNo ≡ (12, OutOfRange)
unfolding part_fault part_name value_fault number_fault reads_item item_fault signed_fault signed_number_of weekday_fault with_weekday_text with_weekday listed_weekday weekday_of_letters listed_number digits_of digits_fault natural_of
part_fault-by_week_no_part = refl

part_fault-by_set_pos_part : part_fault (codes "BYSETPOS=366,0") BySetPos ≡ (13, OutOfRange)
unfolding part_fault part_name value_fault number_fault reads_item item_fault signed_fault signed_number_of weekday_fault with_weekday_text with_weekday listed_weekday weekday_of_letters listed_number digits_of digits_fault natural_of
part_fault-by_set_pos_part = refl

part_fault-wkst_part : part_fault (codes "WKST=1MO") Wkst ≡ (5, NotAWeekday)
unfolding part_fault part_name value_fault number_fault reads_item item_fault signed_fault signed_number_of weekday_fault with_weekday_text with_weekday listed_weekday weekday_of_letters listed_number digits_of digits_fault natural_of
part_fault-wkst_part = refl

-- nothing where a word should stand
value_fault-no_freq : value_fault Freq [] ≡ (0, Empty)
unfolding value_fault
value_fault-no_freq = refl

value_fault-no_until : value_fault Until [] ≡ (0, Empty)
unfolding value_fault
value_fault-no_until = refl

value_fault-no_wkst : value_fault Wkst [] ≡ (0, Empty)
unfolding value_fault
value_fault-no_wkst = refl

-- the greatest number of each list is read, and the one behind it is not
value_fault-last_by_month : value_fault ByMonth (codes "12,x") ≡ (3, NotANumber)
unfolding value_fault reads_item item_fault number_fault signed_fault signed_number_of listed_number digits_of digits_fault natural_of
value_fault-last_by_month = refl

value_fault-past_by_month : value_fault ByMonth (codes "13,x") ≡ (0, OutOfRange)
unfolding value_fault reads_item item_fault number_fault signed_fault signed_number_of listed_number digits_of digits_fault natural_of
value_fault-past_by_month = refl

value_fault-last_by_month_day : value_fault ByMonthDay (codes "31,x") ≡ (3, NotANumber)
unfolding value_fault reads_item item_fault number_fault signed_fault signed_number_of listed_number digits_of digits_fault natural_of
value_fault-last_by_month_day = refl

value_fault-past_by_month_day : value_fault ByMonthDay (codes "32,x") ≡ (0, OutOfRange)
unfolding value_fault reads_item item_fault number_fault signed_fault signed_number_of listed_number digits_of digits_fault natural_of
value_fault-past_by_month_day = refl

value_fault-last_by_year_day : value_fault ByYearDay (codes "366,x") ≡ (4, NotANumber)
unfolding value_fault reads_item item_fault number_fault signed_fault signed_number_of listed_number digits_of digits_fault natural_of
value_fault-last_by_year_day = refl

value_fault-past_by_year_day : value_fault ByYearDay (codes "367,x") ≡ (0, OutOfRange)
unfolding value_fault reads_item item_fault number_fault signed_fault signed_number_of listed_number digits_of digits_fault natural_of
value_fault-past_by_year_day = refl

value_fault-last_by_week_no : value_fault ByWeekNo (codes "-53,x") ≡ (4, NotANumber)
unfolding value_fault reads_item item_fault number_fault signed_fault signed_number_of listed_number digits_of digits_fault natural_of
value_fault-last_by_week_no = refl

value_fault-past_by_week_no : value_fault ByWeekNo (codes "-54,x") ≡ (0, OutOfRange)
unfolding value_fault reads_item item_fault number_fault signed_fault signed_number_of listed_number digits_of digits_fault natural_of
value_fault-past_by_week_no = refl

value_fault-last_by_set_pos : value_fault BySetPos (codes "-366,x") ≡ (5, NotANumber)
unfolding value_fault reads_item item_fault number_fault signed_fault signed_number_of listed_number digits_of digits_fault natural_of
value_fault-last_by_set_pos = refl

value_fault-past_by_set_pos : value_fault BySetPos (codes "-367,x") ≡ (0, OutOfRange)
unfolding value_fault reads_item item_fault number_fault signed_fault signed_number_of listed_number digits_of digits_fault natural_of
value_fault-past_by_set_pos = refl

-- a list by the first item that cannot be read: past its last number, without a digit, with nothing, and no weekday
list_fault-past : value_fault ByMonthDay (codes "1,32,x") ≡ (2, OutOfRange)
unfolding value_fault reads_item item_fault signed_fault signed_number_of listed_number digits_of digits_fault natural_of
list_fault-past = refl

list_fault-sign : value_fault BySetPos (codes "-") ≡ (0, NotANumber)
unfolding value_fault reads_item item_fault signed_fault signed_number_of listed_number digits_of digits_fault natural_of
list_fault-sign = refl

list_fault-comma : value_fault ByMonth (codes "1,,13") ≡ (2, Empty)
unfolding value_fault reads_item item_fault number_fault listed_number digits_of digits_fault natural_of
list_fault-comma = refl

list_fault-weekday : value_fault ByDay (codes "MO,2XX") ≡ (3, NotAWeekday)
unfolding value_fault reads_item item_fault weekday_fault with_weekday_text with_weekday listed_weekday weekday_of_letters
list_fault-weekday = refl

list_fault-numbered : value_fault ByDay (codes "54MO") ≡ (0, OutOfRange)
unfolding value_fault reads_item item_fault weekday_fault with_weekday_text with_weekday listed_weekday weekday_of_letters signed_fault signed_number_of listed_number digits_of digits_fault natural_of
list_fault-numbered = refl

-- days of the year and weeks in a rule by months, numbers in one by days and beside weeks, and positions alone
unfit_error-year_day : unfit_error (codes "FREQ=MONTHLY;BYYEARDAY=1") (record (plain Monthly) { year_days = numbers (1 ∷ []) }) ≡ rule_error_at (Some ByYearDay) (13, NotWith Monthly)
unfolding unfit_error has_month_days has_year_parts part_name
unfit_error-year_day = refl

unfit_error-week : unfit_error (codes "FREQ=MONTHLY;BYWEEKNO=1") (record (plain Monthly) { weeks = numbers (1 ∷ []) }) ≡ rule_error_at (Some ByWeekNo) (13, NotWith Monthly)
unfolding unfit_error has_month_days has_year_parts part_name
unfit_error-week = refl

unfit_error-number : unfit_error (codes "BYDAY=1MO;FREQ=DAILY") (record (plain Daily) { weekdays = record { every = no_numbers; front = with_nth_of no_weekdays.front 0 1; back = no_weekdays.back } }) ≡ rule_error_at (Some ByDay) (0, NumbersNotWith Daily)
unfolding unfit_error has_month_days has_year_parts has_numbers part_name
unfit_error-number = refl

unfit_error-number_of_weeks : unfit_error (codes "FREQ=YEARLY;BYWEEKNO=1;BYDAY=1MO") (record (plain Yearly) { weekdays = record { every = no_numbers; front = with_nth_of no_weekdays.front 0 1; back = no_weekdays.back }; weeks = numbers (1 ∷ []) }) ≡ rule_error_at (Some ByDay) (23, NumbersBesideWeeks)
unfolding unfit_error has_month_days has_year_parts has_numbers part_name
unfit_error-number_of_weeks = refl

unfit_error-position : unfit_error (codes "FREQ=YEARLY;BYSETPOS=1") (record (plain Yearly) { positions = numbers (1 ∷ []) }) ≡ rule_error_at (Some BySetPos) (12, Alone)
unfolding unfit_error has_month_days has_year_parts has_numbers part_name
unfit_error-position = refl

-- days of the month in a rule by weeks
unfit_error-month_day : unfit_error (codes "FREQ=WEEKLY;COUNT=2;bymonthday=13") (record (plain Weekly) { month_days = numbers (13 ∷ []) }) ≡ rule_error_at (Some ByMonthDay) (20, NotWith Weekly)
unfolding unfit_error has_month_days part_name
unfit_error-month_day = refl

-- a time behind a small letter, a tab, a number above the last with a sign, a month with one, and blanks among weekdays
value_fault-small_time : value_fault Until (codes "19971224t000000z") ≡ (0, WithTime)
unfolding value_fault
value_fault-small_time = refl

value_fault-tab : value_fault Freq (codes "DAILY\t") ≡ (0, Blank)
unfolding value_fault
value_fault-tab = refl

value_fault-plus : value_fault ByMonthDay (codes "+32") ≡ (0, OutOfRange)
unfolding value_fault reads_item item_fault signed_fault signed_number_of listed_number digits_of digits_fault natural_of
value_fault-plus = refl

value_fault-signed_month : value_fault ByMonth (codes "-1") ≡ (0, NotANumber)
unfolding value_fault reads_item item_fault number_fault listed_number digits_of digits_fault natural_of
value_fault-signed_month = refl

value_fault-blank_weekday : value_fault ByDay (codes "MO, TU") ≡ (3, Blank)
unfolding value_fault reads_item item_fault weekday_fault with_weekday_text with_weekday listed_weekday weekday_of_letters signed_fault signed_number_of listed_number digits_of digits_fault natural_of
value_fault-blank_weekday = refl

value_fault-blank_in_weekday : value_fault ByDay (codes "M O") ≡ (0, Blank)
unfolding value_fault reads_item item_fault weekday_fault with_weekday_text with_weekday listed_weekday weekday_of_letters
value_fault-blank_in_weekday = refl

-- a range with blanks, nothing between signed numbers and between weekdays, a number from the end above the last, a `T` alone, and a sign
value_fault-blank_range : value_fault ByMonthDay (codes "1 - 5") ≡ (0, Blank)
unfolding value_fault reads_item item_fault signed_fault signed_number_of listed_number digits_of digits_fault natural_of
value_fault-blank_range = refl

list_fault-comma_signed : value_fault ByMonthDay (codes "1,,x") ≡ (2, Empty)
unfolding value_fault reads_item item_fault signed_fault signed_number_of listed_number digits_of digits_fault natural_of
list_fault-comma_signed = refl

list_fault-comma_weekday : value_fault ByDay (codes "MO,,TU") ≡ (3, Empty)
unfolding value_fault reads_item item_fault weekday_fault with_weekday_text with_weekday listed_weekday weekday_of_letters signed_fault signed_number_of listed_number digits_of digits_fault natural_of
list_fault-comma_weekday = refl

list_fault-numbered_from_end : value_fault ByDay (codes "-54MO") ≡ (0, OutOfRange)
unfolding value_fault reads_item item_fault weekday_fault with_weekday_text with_weekday listed_weekday weekday_of_letters signed_fault signed_number_of listed_number digits_of digits_fault natural_of
list_fault-numbered_from_end = refl

value_fault-time_alone : value_fault Until (codes "19971224T") ≡ (0, WithTime)
unfolding value_fault
value_fault-time_alone = refl

value_fault-signed_count : value_fault Count (codes "-1") ≡ (0, NotANumber)
unfolding value_fault number_fault digits_fault
value_fault-signed_count = refl

-- of two parts that cannot be read the first in the order of parts, whichever stands first
unread_parts : List (List ℕ) → List (Option RulePart)
unread_parts texts = map (λ text. (unread_error text).part) texts

unread_parts-order : unread_parts (codes "INTERVAL=x;FREQ=x" ∷ codes "COUNT=x;INTERVAL=x;FREQ=DAILY" ∷ codes "UNTIL=x;COUNT=x;FREQ=DAILY" ∷ codes "BYMONTH=x;UNTIL=x;FREQ=DAILY" ∷ codes "BYMONTHDAY=x;BYMONTH=x;FREQ=DAILY" ∷ codes "BYDAY=x;BYMONTHDAY=x;FREQ=DAILY" ∷ codes "BYYEARDAY=x;BYDAY=x;FREQ=DAILY" ∷ codes "BYWEEKNO=x;BYYEARDAY=x;FREQ=DAILY" ∷ codes "BYSETPOS=x;BYWEEKNO=x;FREQ=DAILY" ∷ codes "WKST=x;BYSETPOS=x;FREQ=DAILY" ∷ [])
    ≡ Some Freq ∷ Some Interval ∷ Some Count ∷ Some Until ∷ Some ByMonth ∷ Some ByMonthDay ∷ Some ByDay ∷ Some ByYearDay ∷ Some ByWeekNo ∷ Some BySetPos ∷ []
unfolding unread_parts unread_error is_read frequency_of interval_of count_of end_of date_of month_list_of with_month_text signed_list_of with_signed_text signed_number_of weekdays_of with_weekday_text with_weekday listed_weekday weekday_of_letters signed_year_list_of with_year_text listed_number digits_of natural_of
unread_parts-order = refl

-- days of the month end with 31 and weeks with 53, and the last part is wrong if each other can be read
unread_parts-last : unread_parts (codes "FREQ=YEARLY;BYMONTHDAY=32;WKST=X" ∷ codes "FREQ=YEARLY;BYWEEKNO=54;WKST=X" ∷ codes "FREQ=YEARLY;BYMONTHDAY=31;BYWEEKNO=53;WKST=X" ∷ codes "FREQ=DAILY;WKST=X" ∷ codes "FREQ=DAILY;COUNT=3;UNTIL=19971224" ∷ [])
    ≡ Some ByMonthDay ∷ Some ByWeekNo ∷ Some Wkst ∷ Some Wkst ∷ Some Until ∷ []
unfolding unread_parts unread_error is_read frequency_of interval_of count_of end_of date_of month_list_of with_month_text signed_list_of with_signed_text signed_number_of weekdays_of with_weekday_text with_weekday listed_weekday weekday_of_letters signed_year_list_of with_year_text listed_number digits_of natural_of
unread_parts-last = refl

-- of several parts that do not go with FREQ the first in that order
unfit_error-month_day_first : unfit_error (codes "FREQ=WEEKLY;BYWEEKNO=1;BYYEARDAY=1;BYMONTHDAY=1") (record (plain Weekly) { month_days = numbers (1 ∷ []); year_days = numbers (1 ∷ []); weeks = numbers (1 ∷ []) }) ≡ rule_error_at (Some ByMonthDay) (35, NotWith Weekly)
unfolding unfit_error has_month_days has_year_parts part_name
unfit_error-month_day_first = refl

unfit_error-year_day_first : unfit_error (codes "FREQ=DAILY;BYWEEKNO=1;BYYEARDAY=1") (record (plain Daily) { year_days = numbers (1 ∷ []); weeks = numbers (1 ∷ []) }) ≡ rule_error_at (Some ByYearDay) (22, NotWith Daily)
unfolding unfit_error has_month_days has_year_parts part_name
unfit_error-year_day_first = refl

unfit_error-week_first : unfit_error (codes "FREQ=MONTHLY;BYDAY=1MO;BYWEEKNO=1") (record (plain Monthly) { weekdays = record { every = no_numbers; front = with_nth_of no_weekdays.front 0 1; back = no_weekdays.back }; weeks = numbers (1 ∷ []) }) ≡ rule_error_at (Some ByWeekNo) (23, NotWith Monthly)
unfolding unfit_error has_month_days has_year_parts has_numbers part_name
unfit_error-week_first = refl

-- behind `RRULE:`, and without it
in_text-property : in_text (codes "rrule:FREQ=DAILY;WKST=X") (rule_error_at (Some Wkst) (16, NotAWeekday)) ≡ rule_error_at (Some Wkst) (22, NotAWeekday)
in_text-property = refl

in_text-plain : in_text (codes "FREQ=DAILY;WKST=X") (rule_error_at (Some Wkst) (16, NotAWeekday)) ≡ rule_error_at (Some Wkst) (16, NotAWeekday)
in_text-plain = refl

-- lines
rule_error_text-with : rule_error_text (rule_error_at (Some ByMonthDay) (0, NotWith Weekly)) ≡ codes "BYMONTHDAY: does not go with WEEKLY"
unfolding rule_error_text fault_words fault_frequency part_name frequency_text
rule_error_text-with = refl

rule_error_text-freq : rule_error_text (rule_error_at (Some Freq) (0, Missing)) ≡ codes "FREQ: missing"
unfolding rule_error_text fault_words fault_frequency part_name frequency_text
rule_error_text-freq = refl

rule_error_text-interval : rule_error_text (rule_error_at (Some Interval) (0, OutOfRange)) ≡ codes "INTERVAL: number out of range"
unfolding rule_error_text fault_words fault_frequency part_name frequency_text
rule_error_text-interval = refl

rule_error_text-count : rule_error_text (rule_error_at (Some Count) (0, NotANumber)) ≡ codes "COUNT: not a number"
unfolding rule_error_text fault_words fault_frequency part_name frequency_text
rule_error_text-count = refl

rule_error_text-until : rule_error_text (rule_error_at (Some Until) (0, BesideCount)) ≡ codes "UNTIL: does not go with COUNT"
unfolding rule_error_text fault_words fault_frequency part_name frequency_text
rule_error_text-until = refl

rule_error_text-by_month : rule_error_text (rule_error_at (Some ByMonth) (0, Empty)) ≡ codes "BYMONTH: empty"
unfolding rule_error_text fault_words fault_frequency part_name frequency_text
rule_error_text-by_month = refl

rule_error_text-by_day : rule_error_text (rule_error_at (Some ByDay) (0, NumbersBesideWeeks)) ≡ codes "BYDAY: number does not go with BYWEEKNO"
unfolding rule_error_text fault_words fault_frequency part_name frequency_text
rule_error_text-by_day = refl

rule_error_text-by_year_day : rule_error_text (rule_error_at (Some ByYearDay) (0, NotWith Monthly)) ≡ codes "BYYEARDAY: does not go with MONTHLY"
unfolding rule_error_text fault_words fault_frequency part_name frequency_text
rule_error_text-by_year_day = refl

rule_error_text-by_week_no : rule_error_text (rule_error_at (Some ByWeekNo) (0, NotWith Daily)) ≡ codes "BYWEEKNO: does not go with DAILY"
unfolding rule_error_text fault_words fault_frequency part_name frequency_text
rule_error_text-by_week_no = refl

rule_error_text-by_set_pos : rule_error_text (rule_error_at (Some BySetPos) (0, Alone)) ≡ codes "BYSETPOS: needs another BY part"
unfolding rule_error_text fault_words fault_frequency part_name frequency_text
rule_error_text-by_set_pos = refl

rule_error_text-wkst : rule_error_text (rule_error_at (Some Wkst) (0, NotAWeekday)) ≡ codes "WKST: not a weekday as MO"
unfolding rule_error_text fault_words fault_frequency part_name frequency_text
rule_error_text-wkst = refl

rule_error_text-unknown : rule_error_text (rule_error_at None (0, Unknown)) ≡ codes "unknown part"
unfolding rule_error_text fault_words fault_frequency
rule_error_text-unknown = refl

rule_error_text-minutes : rule_error_text (rule_error_at None (0, OfMinutes)) ≡ codes "BYMINUTE: not in rules over days"
unfolding rule_error_text fault_words fault_frequency
rule_error_text-minutes = refl

rule_error_text-hours : rule_error_text (rule_error_at None (0, OfHours)) ≡ codes "BYHOUR: not in rules over days"
unfolding rule_error_text fault_words fault_frequency
rule_error_text-hours = refl

rule_error_text-seconds : rule_error_text (rule_error_at None (0, OfSeconds)) ≡ codes "BYSECOND: not in rules over days"
unfolding rule_error_text fault_words fault_frequency
rule_error_text-seconds = refl

rule_error_text-extension : rule_error_text (rule_error_at None (0, Extension)) ≡ codes "an X- part, which is not read"
unfolding rule_error_text fault_words fault_frequency
rule_error_text-extension = refl

rule_error_text-calendars : rule_error_text (rule_error_at None (0, OfCalendars)) ≡ codes "RSCALE: not in rules of RFC 5545"
unfolding rule_error_text fault_words fault_frequency
rule_error_text-calendars = refl

rule_error_text-skips : rule_error_text (rule_error_at None (0, OfSkips)) ≡ codes "SKIP: not in rules of RFC 5545"
unfolding rule_error_text fault_words fault_frequency
rule_error_text-skips = refl

rule_error_text-blank : rule_error_text (rule_error_at (Some Count) (0, Blank)) ≡ codes "COUNT: a blank"
unfolding rule_error_text fault_words fault_frequency part_name
rule_error_text-blank = refl

rule_error_text-twice : rule_error_text (rule_error_at (Some Until) (0, Twice)) ≡ codes "UNTIL: stands twice"
unfolding rule_error_text fault_words fault_frequency part_name
rule_error_text-twice = refl

rule_error_text-frequency : rule_error_text (rule_error_at (Some Freq) (0, NotAFrequency)) ≡ codes "FREQ: not DAILY, WEEKLY, MONTHLY or YEARLY"
unfolding rule_error_text fault_words fault_frequency part_name
rule_error_text-frequency = refl

rule_error_text-range : rule_error_text (rule_error_at (Some ByDay) (0, Range)) ≡ codes "BYDAY: a range; list each with commas"
unfolding rule_error_text fault_words fault_frequency part_name
rule_error_text-range = refl

rule_error_text-date : rule_error_text (rule_error_at (Some Until) (0, NotADate)) ≡ codes "UNTIL: not a date as 19971224"
unfolding rule_error_text fault_words fault_frequency part_name
rule_error_text-date = refl

rule_error_text-time : rule_error_text (rule_error_at (Some Until) (0, WithTime)) ≡ codes "UNTIL: a time stands behind the date"
unfolding rule_error_text fault_words fault_frequency part_name
rule_error_text-time = refl

rule_error_text-numbers : rule_error_text (rule_error_at (Some ByDay) (0, NumbersNotWith Daily)) ≡ codes "BYDAY: number does not go with DAILY"
unfolding rule_error_text fault_words fault_frequency part_name frequency_text
rule_error_text-numbers = refl

rule_error_text-yearly : rule_error_text (rule_error_at (Some ByMonth) (0, NotWith Yearly)) ≡ codes "BYMONTH: does not go with YEARLY"
unfolding rule_error_text fault_words fault_frequency part_name frequency_text
rule_error_text-yearly = refl
