-- The parts of a text that is written are ASCII.
use Rattle.std.proofs.Common.{◌≡◌, ◌<◌, ℕ, true, List, [], ◌∷◌, ◌++◌, arith}
use Rattle.std.specs.Char.{is_ascii_alphabetic}
use Rattle.std.specs.Fmt.{decimal}
use Rattle.std.specs.List.{list_all}
use Rattle.std.specs.Str.{IsAscii}
use Rattle.std.proofs.lemmas.Bool.{and_parts}
use Rattle.std.proofs.lemmas.Bool.Decides.{nat_tests}
use Rattle.std.proofs.lemmas.Fmt.{IsAscii-decimal}
use Rattle.std.proofs.lemmas.Str.{IsAscii-append}
use Rattle.std.proofs.lemmas.Str.Ascii.{IsAscii-cons, IsAscii-nil}
use Rattle.chrono_text.proofs.AsciiTexts.{IsAscii-if, IsAscii-one}
use Rattle.chrono_units.specs.Weekday.{days_from_sunday}
use Rattle.chrono_units.specs.declared.weekday.Weekday.{Weekday}
use Rattle.zone_rule.specs.Changes.{IsRuleDay}
use Rattle.zone_rule.specs.declared.rule_day.RuleDay.{RuleDay}
use Rattle.zone_rule.specs.declared.rule_day.RuleDay.TheVariants.{Week, Julian, FromZero}
use Rattle.chrono_text.specs.Lists.{is_of_word}
use Rattle.zone_text.specs.WrittenTexts.{IsName, rule_day_text, zone_name_text}

-- two texts with a byte between them
between : (front : List ℕ) (b : ℕ) (rest : List ℕ) → b < 128 → IsAscii front → IsAscii rest → IsAscii (front ++ b ∷ [] ++ rest)
between front b rest low h k = IsAscii-append (front ++ b ∷ []) rest (IsAscii-append front (b ∷ []) h (IsAscii-one b low)) k

low_byte : (b : ℕ) → is_of_word b ≡ true → b < 128
low_byte b is = grind (arith, nat_tests)

name_bytes : (name : List ℕ) → list_all is_of_word name ≡ true → IsAscii name
name_bytes [] all = IsAscii-nil
name_bytes (b ∷ bs) all =
    let parts = and_parts (is_of_word b) (list_all is_of_word bs) all in
    IsAscii-cons b bs (low_byte b parts.0) (name_bytes bs parts.1)

pub name_ascii : (name : List ℕ) → IsName name → IsAscii (zone_name_text name)
name_ascii name is =
    let bytes = name_bytes name is.bytes in
    IsAscii-if (list_all is_ascii_alphabetic name) name (60 ∷ (name ++ 62 ∷ [])) (λ all. bytes)
    (λ other. IsAscii-cons 60 (name ++ 62 ∷ []) (omega arith) (IsAscii-append name (62 ∷ []) bytes (IsAscii-one 62 (omega arith))))

number_ascii : (n : ℕ) → n < 1_000 → IsAscii (decimal n)
number_ascii n small = IsAscii-decimal n (omega (arith, small))

few_days : (d : Weekday) → days_from_sunday d < 1_000
few_days d = omega arith

pub day_ascii : (day : RuleDay) → IsRuleDay day → IsAscii (rule_day_text day)
day_ascii (Week m n d) is =
    between (77 ∷ [] ++ decimal m ++ 46 ∷ [] ++ decimal n) 46 (decimal (days_from_sunday d)) (omega arith)
    (between (77 ∷ [] ++ decimal m) 46 (decimal n) (omega arith) (IsAscii-append (77 ∷ []) (decimal m) (IsAscii-one 77 (omega arith)) (number_ascii m (omega (arith, is.0.1)))) (number_ascii n (omega (arith, is.1.1))))
    (number_ascii (days_from_sunday d) (few_days d))
day_ascii (Julian n) is = IsAscii-append (74 ∷ []) (decimal n) (IsAscii-one 74 (omega arith)) (number_ascii n (omega (arith, is.1)))
day_ascii (FromZero n) is = number_ascii n (omega (arith, is))

pub changes_ascii : (begins ends : List ℕ) → IsAscii begins → IsAscii ends → IsAscii (44 ∷ [] ++ begins ++ 44 ∷ [] ++ ends)
changes_ascii begins ends h k = between (44 ∷ [] ++ begins) 44 ends (omega arith) (IsAscii-append (44 ∷ []) begins (IsAscii-one 44 (omega arith)) h) k

pub three_ascii : (a b c : List ℕ) → IsAscii a → IsAscii b → IsAscii c → IsAscii (a ++ b ++ c)
three_ascii a b c h k l = IsAscii-append (a ++ b) c (IsAscii-append a b h k) l
