-- Every byte of a rule's text is ASCII.
use Rattle.std.proofs.Common.{w32, FitsSigned, ◌≡◌, ℕ, zero, suc, ◌+◌, ◌<◌, ◌≤◌, ◌==◌, nat_le, Bool, true, false, List, [], ◌∷◌, ◌++◌, ℤ, refl, sym, ap, ◌∙◌, subst, arith}
use Rattle.std.specs.Prelude.{codes, pos, negsuc, int_le, ◌&&◌}
use Rattle.std.proofs.lemmas.Bool.{and_parts, leb-true}
use Rattle.std.specs.Fmt.{decimal, sign_text}
use Rattle.std.specs.List.{list_all}
use Rattle.std.specs.Str.{IsAscii}
use Rattle.std.proofs.lemmas.Fmt.{IsAscii-decimal, IsAscii-signed}
use Rattle.std.proofs.lemmas.Str.{IsAscii-append}
use Rattle.std.proofs.lemmas.Str.Ascii.{IsAscii-nil, IsAscii-cons}
use Rattle.chrono_text.specs.Lists.{each_behind, list_text}
use Rattle.chrono_text.specs.Text.{all_digits}
use Rattle.chrono_datetime.specs.Names.{weekday_letters}
use Rattle.chrono_datetime.specs.Weekday.{days_from_monday, weekday_from_monday}
use Rattle.chrono_datetime.specs.declared.Weekday.{Weekday}
use Rattle.chrono_datetime.specs.declared.Weekday.TheVariants.{Fri, Mon, Sat, Sun, Thu, Tue, Wed}
use Rattle.chrono_sets.specs.FiniteSets.{FiniteSet, has}
use Rattle.chrono_text.proofs.ListLemmas.{each_behind-append, join-behind}
use Rattle.chrono_rules.specs.declared.text.list_writer.Naming.{Naming}
use Rattle.chrono_rules.specs.declared.text.list_writer.Naming.TheVariants.{Each, Number, Numbered}
use Rattle.chrono_rules.specs.declared.rule.Rule.{Rule}
use Rattle.chrono_rules.specs.RuleParts.{lacks_month_days, lacks_months, lacks_positions, lacks_weekdays, lacks_weeks, lacks_year_days}
use Rattle.chrono_rules.specs.RuleErrors.{frequency_text}
use Rattle.chrono_rules.specs.WrittenRules.{both_items, end_parts, four_digits, item_at, item_text, items, later_parts, list_parts, numbered_items, part_unless, rule_text, weekday_items, letters_from_monday}
use Rattle.chrono_rules.proofs.ErrorLines.{frequency_ascii, is_low, low_ascii}
use Rattle.chrono_text.proofs.AsciiTexts.{AreAscii, AreAscii-append, AreAscii-if, IsAscii-all_digits, IsAscii-if, IsAscii-joined}

behind_ascii : (sep : ℕ) (texts : List (List ℕ)) → sep < 128 → AreAscii texts → IsAscii (each_behind sep texts)
behind_ascii sep [] low are = IsAscii-nil
behind_ascii sep (text ∷ texts) low (first, rest) = IsAscii-append (sep ∷ text) (each_behind sep texts) (IsAscii-cons sep text low first) (behind_ascii sep texts low rest)

pub year_ascii : (y : ℤ) → FitsSigned w32 y → IsAscii (four_digits y)
year_ascii (pos n) fits =
    IsAscii-if (int_le (pos 0) (pos n) && int_le (pos n) (pos 9_999)) (all_digits 4 n) (decimal n)
    (λ is. let few : n ≤ 9_999 = leb-true n 9_999 (and_parts (int_le (pos 0) (pos n)) (int_le (pos n) (pos 9_999)) is).1 in
    IsAscii-all_digits 4 n (omega (arith, few)))
    (λ _. IsAscii-decimal n (omega (arith, fits)))
year_ascii (negsuc n) fits = IsAscii-signed (negsuc n) (omega (arith, fits))

pub day_ascii : (year month day : List ℕ) → IsAscii year → IsAscii month → IsAscii day → IsAscii ((year ++ month) ++ day)
day_ascii year month day h k l = IsAscii-append (year ++ month) day (IsAscii-append year month h k) l

letters_low : (d : Weekday) → list_all is_low (weekday_letters d) ≡ true
letters_low Mon = refl
letters_low Tue = refl
letters_low Wed = refl
letters_low Thu = refl
letters_low Fri = refl
letters_low Sat = refl
letters_low Sun = refl

letters_ascii : (w : ℕ) → IsAscii (letters_from_monday w)
unfolding letters_from_monday
letters_ascii w = let day = weekday_from_monday w in low_ascii (weekday_letters day) (letters_low day)

signed_ascii : (from_end : Bool) (n : ℕ) → n < 384 → IsAscii (sign_text from_end ++ decimal n)
signed_ascii from_end n small =
    IsAscii-append (sign_text from_end) (decimal n) (IsAscii-if from_end (45 ∷ []) [] (λ _. low_ascii (45 ∷ []) refl) (λ _. IsAscii-nil)) (IsAscii-decimal n (omega (arith, small)))

item_ascii : (naming : Naming) (from_end : Bool) (n : ℕ) → n < 384 → IsAscii (item_text naming from_end n)
unfolding item_text
item_ascii Number from_end n small = signed_ascii from_end n small
item_ascii Each from_end n small = letters_ascii n
item_ascii (Numbered w) from_end n small = IsAscii-append (sign_text from_end ++ decimal n) (letters_from_monday w) (signed_ascii from_end n small) (letters_ascii w)

items_ascii : (listed : FiniteSet) (naming : Naming) (from_end : Bool) (count n : ℕ) → n + count ≤ 384 → AreAscii (items listed naming from_end count n)
unfolding items
items_ascii listed naming from_end zero n within = tt
items_ascii listed naming from_end (suc count) n within =
    AreAscii-append (item_at listed naming from_end n) (items listed naming from_end count (n + 1))
    (AreAscii-if (has listed n) (item_text naming from_end n ∷ []) [] (item_ascii naming from_end n (omega (arith, within)), tt) tt)
    (items_ascii listed naming from_end count (n + 1) (omega (arith, within)))

numbered_ascii : (from_end : Bool) (sets : List FiniteSet) (w : ℕ) → AreAscii (numbered_items from_end sets w)
unfolding numbered_items
numbered_ascii from_end [] w = tt
numbered_ascii from_end (set ∷ sets) w =
    AreAscii-append (items set (Numbered w) from_end 53 1) (numbered_items from_end sets (w + 1))
    (items_ascii set (Numbered w) from_end 53 1 (omega arith)) (numbered_ascii from_end sets (w + 1))

both_ascii : (front back : FiniteSet) (most : ℕ) → most < 384 → AreAscii (both_items front back most)
both_ascii front back most small =
    AreAscii-append (items front Number false most 1) (items back Number true most 1)
    (items_ascii front Number false most 1 (omega (arith, small))) (items_ascii back Number true most 1 (omega (arith, small)))

weekdays_ascii : (r : Rule) → AreAscii (weekday_items r)
weekdays_ascii r =
    AreAscii-append (items r.weekdays.every Each false 7 0) (numbered_items false r.weekdays.front 0 ++ numbered_items true r.weekdays.back 0)
    (items_ascii r.weekdays.every Each false 7 0 (omega arith))
    (AreAscii-append (numbered_items false r.weekdays.front 0) (numbered_items true r.weekdays.back 0) (numbered_ascii false r.weekdays.front 0) (numbered_ascii true r.weekdays.back 0))

part_ascii : (lacks : Bool) (name value : List ℕ) → IsAscii name → IsAscii value → AreAscii (part_unless lacks name value)
part_ascii true name value h k = tt
part_ascii false name value h k = (IsAscii-append name value h k, tt)

list_ascii : (lacks : Bool) (name : List ℕ) (texts : List (List ℕ)) → IsAscii name → AreAscii texts → AreAscii (part_unless lacks name (list_text texts))
list_ascii lacks name texts h are = part_ascii lacks name (list_text texts) h (IsAscii-joined 44 texts (omega arith) are)

lists_ascii : (r : Rule) → AreAscii (list_parts r)
lists_ascii r =
    AreAscii-append _ _ (list_ascii (lacks_months r) (codes "BYMONTH=") (items r.months Number false 12 1) (low_ascii (codes "BYMONTH=") refl) (items_ascii r.months Number false 12 1 (omega arith)))
    (AreAscii-append _ _ (list_ascii (lacks_month_days r) (codes "BYMONTHDAY=") _ (low_ascii (codes "BYMONTHDAY=") refl) (both_ascii r.month_days r.month_days_from_end 31 (omega arith)))
    (AreAscii-append _ _ (list_ascii (lacks_weekdays r) (codes "BYDAY=") _ (low_ascii (codes "BYDAY=") refl) (weekdays_ascii r))
    (AreAscii-append _ _ (list_ascii (lacks_year_days r) (codes "BYYEARDAY=") _ (low_ascii (codes "BYYEARDAY=") refl) (both_ascii r.year_days r.year_days_from_end 366 (omega arith)))
    (AreAscii-append _ _ (list_ascii (lacks_weeks r) (codes "BYWEEKNO=") _ (low_ascii (codes "BYWEEKNO=") refl) (both_ascii r.weeks r.weeks_from_end 53 (omega arith)))
    (list_ascii (lacks_positions r) (codes "BYSETPOS=") _ (low_ascii (codes "BYSETPOS=") refl) (both_ascii r.positions r.positions_from_end 366 (omega arith)))))))

start_ascii : (lacks : Bool) (w : ℕ) → AreAscii (part_unless lacks (codes "WKST=") (letters_from_monday w))
start_ascii lacks w = part_ascii lacks (codes "WKST=") (letters_from_monday w) (low_ascii (codes "WKST=") refl) (letters_ascii w)

-- the whole text, if INTERVAL, and COUNT or UNTIL, are so
pub rule_ascii : (r : Rule) → IsAscii (decimal r.interval) → IsAscii (each_behind 59 (end_parts r.end)) → IsAscii (rule_text r)
unfolding rule_text
rule_ascii r interval end =
    let name = codes "FREQ=" ++ frequency_text r.frequency in
    let first = part_unless (nat_le r.interval 1) (codes "INTERVAL=") (decimal r.interval) in
    let start = part_unless (days_from_monday r.week_start == 0) (codes "WKST=") (letters_from_monday (days_from_monday r.week_start)) in
    let others = list_parts r ++ start in
    let is : rule_text r ≡ name ++ (each_behind 59 first ++ (each_behind 59 (end_parts r.end) ++ each_behind 59 others)) =
    join-behind 59 name (later_parts r) ∙ ap (λ text. name ++ text) (each_behind-append 59 first (end_parts r.end ++ others))
    ∙ ap (λ text. name ++ (each_behind 59 first ++ text)) (each_behind-append 59 (end_parts r.end) others) in
    subst IsAscii (sym is)
    (IsAscii-append name _ (IsAscii-append (codes "FREQ=") (frequency_text r.frequency) (low_ascii (codes "FREQ=") refl) (frequency_ascii r.frequency))
    (IsAscii-append (each_behind 59 first) _ (behind_ascii 59 first (omega arith) (part_ascii (nat_le r.interval 1) (codes "INTERVAL=") (decimal r.interval) (low_ascii (codes "INTERVAL=") refl) interval))
    (IsAscii-append (each_behind 59 (end_parts r.end)) (each_behind 59 others) end
    (behind_ascii 59 others (omega arith) (AreAscii-append (list_parts r) start (lists_ascii r) (start_ascii (days_from_monday r.week_start == 0) (days_from_monday r.week_start)))))))
