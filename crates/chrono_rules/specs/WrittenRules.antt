-- The text that is written for a rule.
use Rattle.std.specs.Prelude.{◌≡◌, ℕ, zero, suc, ◌+◌, ◌==◌, nat_le, Bool, true, false, ◌&&◌, if◌then◌else◌, List, [], ◌∷◌, ◌++◌, ℤ, pos, unsigned_abs, int_le, codes, refl}
use Rattle.std.specs.Fmt.{decimal, digits, sign_text, signed_decimal}
use Rattle.std.specs.List.{join_with_byte}
use Rattle.std.specs.Str.{byte}
use Rattle.chrono_text.specs.Lists.{each_behind, list_text}
use Rattle.chrono_text.specs.Text.{all_digits, two_digits}
use Rattle.chrono_datetime.specs.Days.{day_of, month_of, year_of}
use Rattle.chrono_datetime.specs.Names.{weekday_letters}
use Rattle.chrono_datetime.specs.Weekday.{days_from_monday, weekday_from_monday}
use Rattle.chrono_datetime.specs.declared.Weekday.TheVariants.{Sat}
use Rattle.chrono_sets.specs.FiniteSets.{FiniteSet, has, numbers}
use Rattle.chrono_rules.specs.declared.rule.End.{End}
use Rattle.chrono_rules.specs.declared.rule.End.TheVariants.{Never, Count, Until}
use Rattle.chrono_rules.specs.declared.rule.Frequency.TheVariants.{Daily, Yearly}
use Rattle.chrono_rules.specs.declared.rule.Rule.{Rule}
use Rattle.chrono_rules.specs.declared.text.list_writer.Naming.{Naming}
use Rattle.chrono_rules.specs.declared.text.list_writer.Naming.TheVariants.{Number, Each, Numbered}
use Rattle.chrono_rules.specs.declared.text.list_writer.ListedSet.{ListedSet}
use Rattle.chrono_rules.specs.declared.text.list_writer.ListedSet.TheVariants.{Small, Large}
use Rattle.chrono_rules.specs.NumberLists.{with_nth_of}
use Rattle.chrono_rules.specs.RuleErrors.{frequency_text}
use Rattle.chrono_rules.specs.RuleParts.{lacks_month_days, lacks_months, lacks_positions, lacks_weekdays, lacks_weeks, lacks_year_days, no_weekdays, plain}

-- a weekday in two letters, from 0 for Monday
unfoldable pub letters_from_monday : ℕ → List ℕ
letters_from_monday w = weekday_letters (weekday_from_monday w)

-- an item of a list: a number, counted from the end with a `-`; a weekday; or a number of a weekday
unfoldable pub item_text : Naming → Bool → ℕ → List ℕ
item_text Number from_end n = sign_text from_end ++ decimal n
item_text Each from_end n = letters_from_monday n
item_text (Numbered w) from_end n = (sign_text from_end ++ decimal n) ++ letters_from_monday w

-- the numbers that are listed
unfoldable pub members : ListedSet → FiniteSet
members (Small set) = set
members (Large set) = set

-- the number that all numbers of the set are below
unfoldable pub limit : ListedSet → ℕ
limit (Small set) = 64
limit (Large set) = 384

-- the item of the number n, if it is listed
abbrev pub item_at : FiniteSet → Naming → Bool → ℕ → List (List ℕ)
item_at listed naming from_end n = if has listed n then item_text naming from_end n ∷ [] else []

-- the items of the listed numbers among as many numbers from n on, rising
unfoldable pub items : FiniteSet → Naming → Bool → ℕ → ℕ → List (List ℕ)
items listed naming from_end zero n = []
items listed naming from_end (suc count) n = item_at listed naming from_end n ++ items listed naming from_end count (n + 1)

-- those of each of the weekdays in a row, from one on
unfoldable pub numbered_items : Bool → List FiniteSet → ℕ → List (List ℕ)
numbered_items from_end [] w = []
numbered_items from_end (set ∷ sets) w = items set (Numbered w) from_end 53 1 ++ numbered_items from_end sets (w + 1)

-- numbers from 1 to `most`, those that count from the front first
abbrev pub both_items : FiniteSet → FiniteSet → ℕ → List (List ℕ)
both_items front back most = items front Number false most 1 ++ items back Number true most 1

-- weekdays without a number first
abbrev pub weekday_items : Rule → List (List ℕ)
weekday_items r = items r.weekdays.every Each false 7 0 ++ (numbered_items false r.weekdays.front 0 ++ numbered_items true r.weekdays.back 0)

-- items behind others, or as the first of a list
abbrev pub listed_on : Bool → List (List ℕ) → List ℕ
listed_on begun items = if begun then each_behind (byte ",") items else list_text items

-- whether there is an item
abbrev pub some_in : List (List ℕ) → Bool
some_in [] = false
some_in (item ∷ items) = true

-- a part that the rule has, by its name and what stands behind that; nothing if it lacks the part
abbrev pub part_unless : Bool → List ℕ → List ℕ → List (List ℕ)
part_unless lacks name value = if lacks then [] else (name ++ value) ∷ []

-- a text, or nothing
abbrev pub text_unless : Bool → List ℕ → List ℕ
text_unless lacks text = if lacks then [] else text

-- a year in four digits, if it is from 0 to 9999; else in as many as it has, with a `-` below 0
abbrev pub four_digits : ℤ → List ℕ
four_digits y =
    if int_le (pos 0) y && int_le y (pos 9_999) then all_digits 4 (unsigned_abs y) else signed_decimal y

-- a date as year, month and day, in eight digits if its year is from 0 to 9999: 19971224
abbrev pub basic_date_text : ℤ → List ℕ
basic_date_text n = (four_digits (year_of n) ++ two_digits (month_of n)) ++ two_digits (day_of n)

-- COUNT or UNTIL, or no part
abbrev pub end_parts : End → List (List ℕ)
end_parts Never = []
end_parts (Count n) = (codes "COUNT=" ++ decimal n) ∷ []
end_parts (Until n) = (codes "UNTIL=" ++ basic_date_text n) ∷ []

-- the BY parts that the rule has, in this order
abbrev pub list_parts : Rule → List (List ℕ)
list_parts r =
    part_unless (lacks_months r) (codes "BYMONTH=") (list_text (items r.months Number false 12 1))
    ++ (part_unless (lacks_month_days r) (codes "BYMONTHDAY=") (list_text (both_items r.month_days r.month_days_from_end 31))
    ++ (part_unless (lacks_weekdays r) (codes "BYDAY=") (list_text (weekday_items r))
    ++ (part_unless (lacks_year_days r) (codes "BYYEARDAY=") (list_text (both_items r.year_days r.year_days_from_end 366))
    ++ (part_unless (lacks_weeks r) (codes "BYWEEKNO=") (list_text (both_items r.weeks r.weeks_from_end 53))
    ++ part_unless (lacks_positions r) (codes "BYSETPOS=") (list_text (both_items r.positions r.positions_from_end 366))))))

-- the parts behind FREQ, each left out where the rule says what its absence says
abbrev pub later_parts : Rule → List (List ℕ)
later_parts r =
    part_unless (nat_le r.interval 1) (codes "INTERVAL=") (decimal r.interval)
    ++ (end_parts r.end
    ++ (list_parts r
    ++ part_unless (days_from_monday r.week_start == 0) (codes "WKST=") (letters_from_monday (days_from_monday r.week_start))))

-- the parts with a semicolon between each two, FREQ first
unfoldable pub rule_text : Rule → List ℕ
rule_text r = join_with_byte (byte ";") ((codes "FREQ=" ++ frequency_text r.frequency) ∷ later_parts r)

-- known values: a plain rule has FREQ alone; numbers in their order, days of the year in up to three digits, a date, and weekdays with numbers
rule_text-plain : rule_text (plain Daily) ≡ codes "FREQ=DAILY"
unfolding rule_text frequency_text
rule_text-plain = refl

rule_text-each_part : rule_text (record (plain Yearly) { interval = 2; end = Count 3; months = numbers (1 ∷ []); month_days = numbers (31 ∷ []); month_days_from_end = numbers (1 ∷ []); weekdays = record { every = numbers (5 ∷ []); front = no_weekdays.front; back = no_weekdays.back }; year_days = numbers (366 ∷ []); year_days_from_end = numbers (1 ∷ []); weeks = numbers (53 ∷ []); weeks_from_end = numbers (1 ∷ []); positions = numbers (366 ∷ []); positions_from_end = numbers (1 ∷ []); week_start = Sat })
    ≡ codes "FREQ=YEARLY;INTERVAL=2;COUNT=3;BYMONTH=1;BYMONTHDAY=31,-1;BYDAY=SA;BYYEARDAY=366,-1;BYWEEKNO=53,-1;BYSETPOS=366,-1;WKST=SA"
unfolding rule_text frequency_text items has item_text numbered_items letters_from_monday digits
rule_text-each_part = refl

both_items-order : list_text (both_items (numbers (1 ∷ 31 ∷ [])) (numbers (1 ∷ [])) 31) ≡ codes "1,31,-1"
unfolding items has item_text digits
both_items-order = refl

items-places : list_text (items (numbers (1 ∷ 200 ∷ 334 ∷ [])) Number true 366 1) ≡ codes "-1,-200,-334"
unfolding items has item_text digits
items-places = refl

numbered_items-last : list_text (numbered_items true (with_nth_of (with_nth_of no_weekdays.back 4 2) 6 1) 0) ≡ codes "-2FR,-1SU"
unfolding numbered_items items has item_text digits letters_from_monday
numbered_items-last = refl

-- numbers that a list cannot have are left out, and weekdays without a number stand in front of those with one
both_items-limits : list_text (both_items (numbers (0 ∷ 12 ∷ 13 ∷ [])) (numbers (0 ∷ 12 ∷ 13 ∷ [])) 12) ≡ codes "12,-12"
unfolding items has item_text digits
both_items-limits = refl

numbered_items-limits : list_text (numbered_items false (numbers (0 ∷ 53 ∷ 54 ∷ []) ∷ []) 0) ≡ codes "53MO"
unfolding numbered_items items has item_text digits letters_from_monday
numbered_items-limits = refl

weekday_items-order : list_text (weekday_items (record (plain Yearly) { weekdays = record { every = numbers (6 ∷ 7 ∷ []); front = with_nth_of no_weekdays.front 4 1; back = with_nth_of no_weekdays.back 4 1 } })) ≡ codes "SU,1FR,-1FR"
unfolding numbered_items items has item_text digits letters_from_monday
weekday_items-order = refl

four_digits-early : four_digits (pos 33) ≡ codes "0033"
four_digits-early = refl

four_digits-late : four_digits (pos 10_000) ≡ codes "10000"
unfolding digits
four_digits-late = refl
