-- The texts of schedules, and what they list: five fields with blanks between, or a nickname that stands for such fields.
use Rattle.std.specs.Prelude.{◌≡◌, ℕ, ◌+◌, ◌-◌, ◌*◌, ◌%◌, ◌==◌, nat_lt, Bool, true, false, not, ◌&&◌, ◌||◌, if◌then◌else◌, List, [], ◌∷◌, length, take, drop, slice_index, Option, Some, None, codes, is_some, refl}
use Rattle.std.specs.Char.{to_ascii_lowercase}
use Rattle.std.specs.Option.{option_map, option_and_then}
use Rattle.std.specs.List.{filter, list_any, slice_split}
use Rattle.std.specs.Str.{byte, str_eq_ignore_ascii_case}
use Rattle.chrono_text.specs.Lists.{begins_alike, is_blank, is_some_text, pieces}
use Rattle.chrono_text.specs.Numbers.{digits_of, natural_of}
use Rattle.chrono_sets.specs.FiniteSets.{FiniteSet, has}
use Rattle.chrono_datetime.specs.Names.{month_of_letters, weekday_of_letters}
use Rattle.chrono_cron.specs.FieldTexts.{before_byte, behind_byte, field_lists, item_lists, items_list, number_between, number_of_name, range_of, item_span, spelled_number, step_of}
use Rattle.chrono_cron.specs.declared.named_days.MonthDays.{MonthDays}
use Rattle.chrono_cron.specs.declared.text.number_names.Names.TheVariants.{Numbers, Months, Weekdays}
use Rattle.chrono_cron.specs.declared.field_sets.FieldSets.{FieldSets}

-- what stands between the blanks of a text, before them and behind them
unfoldable pub text_words : List ℕ → List (List ℕ)
text_words text = filter is_some_text (slice_split is_blank text)

-- the five fields that a nickname stands for; any other word stands for itself. They are those of the crontab(5) of systemd-cron, such as
-- "Run once a year, "0 0 1 1 *"". Letters of either case are our choice
unfoldable pub nickname_meaning : List ℕ → List ℕ
nickname_meaning word =
    if str_eq_ignore_ascii_case word (codes "@yearly") || str_eq_ignore_ascii_case word (codes "@annually") then codes "0 0 1 1 *"
    else if str_eq_ignore_ascii_case word (codes "@monthly") then codes "0 0 1 * *"
    else if str_eq_ignore_ascii_case word (codes "@weekly") then codes "0 0 * * 0"
    else if str_eq_ignore_ascii_case word (codes "@daily") || str_eq_ignore_ascii_case word (codes "@midnight") then codes "0 0 * * *"
    else if str_eq_ignore_ascii_case word (codes "@hourly") then codes "0 * * * *"
    else word

-- the words of a text, or those that its one word stands for
abbrev pub spelled_out : List (List ℕ) → List (List ℕ)
spelled_out [] = []
spelled_out (word ∷ []) = text_words (nickname_meaning word)
spelled_out (word ∷ next ∷ more) = word ∷ next ∷ more

-- the fields of a text, in which a nickname is spelled out
unfoldable pub fields_of : List ℕ → List (List ℕ)
fields_of text = spelled_out (text_words text)

-- what stands before a letter with which a text ends, in either case; none if it ends otherwise
abbrev pub before_letter : ℕ → List ℕ → Option (List ℕ)
before_letter letter text =
    if to_ascii_lowercase (slice_index text (length text - 1)) == letter then Some (take (length text - 1) text) else None

-- the weekday that a number or a name says, from 0 for Sunday, for which 7 stands too
abbrev pub spelled_weekday : List ℕ → Option ℕ
spelled_weekday text = option_map (λ d. d % 7) (number_between Weekdays 0 7 text)

-- The names of days that follow are those of Quartz: see Due. Their letters may have either case.

-- `L`, the month's last day, and `L-k`: how many days of the month follow it
unfoldable pub from_end_of : List ℕ → Option ℕ
from_end_of text =
    if str_eq_ignore_ascii_case text (codes "L") then Some 0
    else if begins_alike (codes "L-") text then number_between Numbers 1 30 (drop 2 text)
    else None

-- the text is `LW`, the month's last workday
unfoldable pub is_last_workday_text : List ℕ → Bool
is_last_workday_text text = str_eq_ignore_ascii_case text (codes "LW")

-- the same as a number, for `an_item_is`: 0 for `LW`
abbrev pub last_workday_of : List ℕ → Option ℕ
last_workday_of text = if is_last_workday_text text then Some 0 else None

-- `kW`, the workday that is nearest to the month's k-th day: k
unfoldable pub nearest_workday_of : List ℕ → Option ℕ
nearest_workday_of text = option_and_then (number_between Numbers 1 31) (before_letter (byte "w") text)

-- `dL`, the month's last day with the weekday d: d
unfoldable pub last_weekday_of : List ℕ → Option ℕ
last_weekday_of text = option_and_then spelled_weekday (before_letter (byte "l") text)

-- `d#k`, the month's k-th day with the weekday d: the number 7 * (k - 1) + d
unfoldable pub nth_weekday_of : List ℕ → Option ℕ
nth_weekday_of text = option_and_then (λ d. option_map (λ k. 7 * (k - 1) + d) (number_between Numbers 1 5 (behind_byte (byte "#") text))) (spelled_weekday (before_byte (byte "#") text))

-- whether an item names a day of the month by its place: `L`, `L-k`, `LW` or `kW`
unfoldable pub names_by_place : List ℕ → Bool
names_by_place item = is_some (from_end_of item) || (is_last_workday_text item || is_some (nearest_workday_of item))

-- whether an item names a day of the month by its weekday: `dL` or `d#k`
unfoldable pub names_by_weekday : List ℕ → Bool
names_by_weekday item = is_some (last_weekday_of item) || is_some (nth_weekday_of item)

-- the items of a field, with commas between
abbrev pub items_of : List ℕ → List (List ℕ)
items_of text = pieces (byte ",") text

-- those of them that fail a test: that name no day
abbrev pub other_items : (List ℕ → Bool) → List ℕ → List (List ℕ)
other_items names text = filter (λ item. not (names item)) (items_of text)

-- whether the field of days lists k by an item that names no day; none if one of the items is none
unfoldable pub days_list : List ℕ → ℕ → Option Bool
days_list text k = items_list Numbers 1 31 (other_items names_by_place text) k

-- the same of the field of weekdays, in which 7 stands for Sunday too: "0 or 7 is Sun, or use names" in crontab(5)
abbrev pub weekday_items_list : List ℕ → ℕ → Option Bool
weekday_items_list text k = items_list Weekdays 0 7 (other_items names_by_weekday text) k

-- whether the field of weekdays lists k; 7 stands for Sunday too
unfoldable pub weekdays_list : List ℕ → ℕ → Option Bool
weekdays_list text k =
    option_and_then (λ here. option_map (λ seven. nat_lt k 7 && (here || (k == 0 && seven))) (weekday_items_list text 7)) (weekday_items_list text k)

-- whether an item of the field has the number k by a reading of items
abbrev pub is_number : ℕ → Option ℕ → Bool
is_number k None = false
is_number k (Some n) = k == n

-- whether an item of the field has the number k, as `number` reads items
unfoldable pub an_item_is : (List ℕ → Option ℕ) → List ℕ → ℕ → Bool
an_item_is number text k = list_any (λ item. is_number k (number item)) (items_of text)

-- whether a text begins with `*`
unfoldable pub begins_with_star : List ℕ → Bool
begins_with_star text = slice_index text 0 == byte "*"

-- the set has the numbers that are listed
abbrev pub AreListed : FiniteSet → (ℕ → Option Bool) → Type 0
AreListed set listed = (k : ℕ) → listed k ≡ Some (has set k)

-- the set has exactly the numbers that are named
abbrev pub AreNamed : FiniteSet → (ℕ → Bool) → Type 0
AreNamed set named = (k : ℕ) → named k ≡ has set k

-- the days that the items of the two fields of days name
pub record AreNamedDays (day weekday : List ℕ) (m : MonthDays) : Type 0 where
  pub from_end : AreNamed m.from_end (an_item_is from_end_of day)
  pub nearest_workdays : AreNamed m.nearest_workdays (an_item_is nearest_workday_of day)
  pub last_workday : an_item_is last_workday_of day 0 ≡ m.last_workday
  pub last_weekdays : AreNamed m.last_weekdays (an_item_is last_weekday_of weekday)
  pub nth_weekdays : AreNamed m.nth_weekdays (an_item_is nth_weekday_of weekday)

-- the days m, and that which an item names, are the days n
pub record AreNamedWith (m : MonthDays) (item : List ℕ) (n : MonthDays) : Type 0 where
  pub from_end : (k : ℕ) → has n.from_end k ≡ (has m.from_end k || is_number k (from_end_of item))
  pub nearest_workdays : (k : ℕ) → has n.nearest_workdays k ≡ (has m.nearest_workdays k || is_number k (nearest_workday_of item))
  pub last_workday : n.last_workday ≡ (m.last_workday || is_last_workday_text item)
  pub last_weekdays : (k : ℕ) → has n.last_weekdays k ≡ (has m.last_weekdays k || is_number k (last_weekday_of item))
  pub nth_weekdays : (k : ℕ) → has n.nth_weekdays k ≡ (has m.nth_weekdays k || is_number k (nth_weekday_of item))

-- a text of the schedule with these sets: minutes, hours, days of the month, months, weekdays. Either field of days will do if neither begins
-- with `*`. The schedule follows the clock if the minutes or the hours do, as the sources of cronie and of Debian's cron have it: they mark
-- such fields as MIN_STAR and HR_STAR
pub record IsScheduleText (text : List ℕ) (s : FieldSets) : Type 0 where
  pub minute : List ℕ
  pub hour : List ℕ
  pub day : List ℕ
  pub month : List ℕ
  pub weekday : List ℕ
  pub written : fields_of text ≡ minute ∷ hour ∷ day ∷ month ∷ weekday ∷ []
  pub minutes : AreListed s.minutes (field_lists Numbers 0 59 minute)
  pub hours : AreListed s.hours (field_lists Numbers 0 23 hour)
  pub days : AreListed s.days (days_list day)
  pub months : AreListed s.months (field_lists Months 1 12 month)
  pub weekdays : AreListed s.weekdays (weekdays_list weekday)
  pub month_days : AreNamedDays day weekday s.month_days
  pub either : (not (begins_with_star day) && not (begins_with_star weekday)) ≡ s.either
  pub follows_clock : (begins_with_star minute || begins_with_star hour) ≡ s.follows_clock

-- known values: blanks before, between and behind the words, and a nickname with blanks about it
fields_of-blanks : fields_of (codes "  5 \t4  * * 7 ") ≡ codes "5" ∷ codes "4" ∷ codes "*" ∷ codes "*" ∷ codes "7" ∷ []
unfolding fields_of text_words
fields_of-blanks = refl

fields_of-hourly : fields_of (codes " @hourly ") ≡ codes "0" ∷ codes "*" ∷ codes "*" ∷ codes "*" ∷ codes "*" ∷ []
unfolding fields_of text_words nickname_meaning
fields_of-hourly = refl

fields_of-daily : fields_of (codes "@DaiLY") ≡ codes "0" ∷ codes "0" ∷ codes "*" ∷ codes "*" ∷ codes "*" ∷ []
unfolding fields_of text_words nickname_meaning
fields_of-daily = refl

-- names in letters of any case, in ranges too; 7 stands for Sunday, and a range may end with it
month-name : field_lists Months 1 12 (codes "jAn-Mar") 2 ≡ Some true
unfolding field_lists item_lists step_of item_span range_of number_between spelled_number digits_of number_of_name month_of_letters weekday_of_letters natural_of
month-name = refl

weekdays_list-seven : weekdays_list (codes "5-7") 0 ≡ Some true
unfolding weekdays_list names_by_weekday last_weekday_of nth_weekday_of item_lists step_of item_span range_of number_between spelled_number digits_of number_of_name month_of_letters weekday_of_letters natural_of
weekdays_list-seven = refl

-- a week has no day 7, and Sunday is listed where either of its numbers is
weekdays_list-sunday : weekdays_list (codes "SUN") 0 ≡ Some true
unfolding weekdays_list names_by_weekday last_weekday_of nth_weekday_of item_lists step_of item_span range_of number_between spelled_number digits_of number_of_name month_of_letters weekday_of_letters natural_of
weekdays_list-sunday = refl

weekdays_list-no_seven : weekdays_list (codes "7") 7 ≡ Some false
unfolding weekdays_list names_by_weekday last_weekday_of nth_weekday_of item_lists step_of item_span range_of number_between spelled_number digits_of number_of_name month_of_letters weekday_of_letters natural_of
weekdays_list-no_seven = refl

-- a name is read in a list beside a number, and lists none; `L` alone is no weekday
days_list-named : days_list (codes "L-3,15") 15 ≡ Some true
unfolding days_list names_by_place from_end_of is_last_workday_text nearest_workday_of item_lists step_of item_span range_of number_between spelled_number digits_of number_of_name month_of_letters weekday_of_letters natural_of
days_list-named = refl

weekdays_list-no_weekday : weekdays_list (codes "L") 0 ≡ None
unfolding weekdays_list names_by_weekday last_weekday_of nth_weekday_of item_lists step_of item_span range_of number_between spelled_number digits_of number_of_name month_of_letters weekday_of_letters natural_of
weekdays_list-no_weekday = refl

-- names of days
from_end_of-three : from_end_of (codes "l-3") ≡ Some 3
unfolding from_end_of number_between spelled_number digits_of number_of_name natural_of
from_end_of-three = refl

nearest_workday_of-fifteen : nearest_workday_of (codes "15W") ≡ Some 15
unfolding nearest_workday_of number_between spelled_number digits_of number_of_name natural_of
nearest_workday_of-fifteen = refl

last_weekday_of-friday : last_weekday_of (codes "friL") ≡ Some 5
unfolding last_weekday_of number_between spelled_number digits_of number_of_name month_of_letters weekday_of_letters natural_of
last_weekday_of-friday = refl

nth_weekday_of-second_sunday : nth_weekday_of (codes "7#2") ≡ Some 7
unfolding nth_weekday_of number_between spelled_number digits_of number_of_name month_of_letters weekday_of_letters natural_of
nth_weekday_of-second_sunday = refl

-- each other nickname, and a word that is none
nickname_meaning-yearly : nickname_meaning (codes "@yearly") ≡ codes "0 0 1 1 *"
unfolding nickname_meaning
nickname_meaning-yearly = refl

nickname_meaning-annually : nickname_meaning (codes "@annually") ≡ codes "0 0 1 1 *"
unfolding nickname_meaning
nickname_meaning-annually = refl

nickname_meaning-monthly : nickname_meaning (codes "@monthly") ≡ codes "0 0 1 * *"
unfolding nickname_meaning
nickname_meaning-monthly = refl

nickname_meaning-weekly : nickname_meaning (codes "@weekly") ≡ codes "0 0 * * 0"
unfolding nickname_meaning
nickname_meaning-weekly = refl

nickname_meaning-midnight : nickname_meaning (codes "@midnight") ≡ codes "0 0 * * *"
unfolding nickname_meaning
nickname_meaning-midnight = refl

nickname_meaning-none : nickname_meaning (codes "@day") ≡ codes "@day"
unfolding nickname_meaning
nickname_meaning-none = refl

-- the ends of the numbers of named days
from_end_of-last : from_end_of (codes "L") ≡ Some 0
unfolding from_end_of number_between spelled_number digits_of number_of_name month_of_letters weekday_of_letters natural_of
from_end_of-last = refl

from_end_of-thirty : from_end_of (codes "L-30") ≡ Some 30
unfolding from_end_of number_between spelled_number digits_of number_of_name month_of_letters weekday_of_letters natural_of
from_end_of-thirty = refl

from_end_of-nothing : from_end_of (codes "L-0") ≡ None
unfolding from_end_of number_between spelled_number digits_of number_of_name month_of_letters weekday_of_letters natural_of
from_end_of-nothing = refl

is_last_workday_text-small : is_last_workday_text (codes "lw") ≡ true
unfolding is_last_workday_text
is_last_workday_text-small = refl

last_workday_of-small : last_workday_of (codes "lw") ≡ Some 0
unfolding is_last_workday_text
last_workday_of-small = refl

last_workday_of-last : last_workday_of (codes "L") ≡ None
unfolding is_last_workday_text
last_workday_of-last = refl

nearest_workday_of-last : nearest_workday_of (codes "31w") ≡ Some 31
unfolding nearest_workday_of number_between spelled_number digits_of number_of_name month_of_letters weekday_of_letters natural_of
nearest_workday_of-last = refl

nearest_workday_of-nothing : nearest_workday_of (codes "0W") ≡ None
unfolding nearest_workday_of number_between spelled_number digits_of number_of_name month_of_letters weekday_of_letters natural_of
nearest_workday_of-nothing = refl

nth_weekday_of-fifth_friday : nth_weekday_of (codes "fri#5") ≡ Some 33
unfolding nth_weekday_of number_between spelled_number digits_of number_of_name month_of_letters weekday_of_letters natural_of
nth_weekday_of-fifth_friday = refl

nth_weekday_of-nothing : nth_weekday_of (codes "5#0") ≡ None
unfolding nth_weekday_of number_between spelled_number digits_of number_of_name month_of_letters weekday_of_letters natural_of
nth_weekday_of-nothing = refl

-- days that are named list no numbers, and numbers past the ends are no items
days_list-names_alone : days_list (codes "LW,15W,L") 15 ≡ Some false
unfolding days_list names_by_place from_end_of is_last_workday_text nearest_workday_of item_lists step_of item_span range_of number_between spelled_number digits_of number_of_name month_of_letters weekday_of_letters natural_of
days_list-names_alone = refl

days_list-zeroth : days_list (codes "0") 1 ≡ None
unfolding days_list names_by_place from_end_of is_last_workday_text nearest_workday_of item_lists step_of item_span range_of number_between spelled_number digits_of number_of_name month_of_letters weekday_of_letters natural_of
days_list-zeroth = refl

days_list-last : days_list (codes "31") 31 ≡ Some true
unfolding days_list names_by_place from_end_of is_last_workday_text nearest_workday_of item_lists step_of item_span range_of number_between spelled_number digits_of number_of_name month_of_letters weekday_of_letters natural_of
days_list-last = refl

weekdays_list-names_alone : weekdays_list (codes "5L,5#2") 5 ≡ Some false
unfolding weekdays_list names_by_weekday last_weekday_of nth_weekday_of item_lists step_of item_span range_of number_between spelled_number digits_of number_of_name month_of_letters weekday_of_letters natural_of
weekdays_list-names_alone = refl

weekdays_list-eight : weekdays_list (codes "8") 1 ≡ None
unfolding weekdays_list names_by_weekday last_weekday_of nth_weekday_of item_lists step_of item_span range_of number_between spelled_number digits_of number_of_name month_of_letters weekday_of_letters natural_of
weekdays_list-eight = refl

-- a line feed is no blank, and a nickname stands for fields where it is the one word
text_words-line_feed : text_words (codes "5\n6") ≡ codes "5\n6" ∷ []
unfolding text_words
text_words-line_feed = refl

fields_of-nickname_in_front : fields_of (codes "@daily *") ≡ codes "@daily" ∷ codes "*" ∷ []
unfolding fields_of text_words
fields_of-nickname_in_front = refl

-- an item is read as the number that it names alone
an_item_is-three : an_item_is from_end_of (codes "15,L-3") 3 ≡ true
unfolding an_item_is from_end_of number_between spelled_number digits_of number_of_name natural_of
an_item_is-three = refl

an_item_is-fifteen : an_item_is from_end_of (codes "15,L-3") 15 ≡ false
unfolding an_item_is from_end_of number_between spelled_number digits_of number_of_name natural_of
an_item_is-fifteen = refl

an_item_is-two : an_item_is from_end_of (codes "15,L-3") 2 ≡ false
unfolding an_item_is from_end_of number_between spelled_number digits_of number_of_name natural_of
an_item_is-two = refl

an_item_is-none : an_item_is from_end_of (codes "15") 0 ≡ false
unfolding an_item_is from_end_of number_between spelled_number digits_of number_of_name natural_of
an_item_is-none = refl

-- a field begins with `*` by its first byte, and not by an item behind it
begins_with_star-steps : begins_with_star (codes "*/2") ≡ true
unfolding begins_with_star
begins_with_star-steps = refl

begins_with_star-behind : begins_with_star (codes "1,*") ≡ false
unfolding begins_with_star
begins_with_star-behind = refl
