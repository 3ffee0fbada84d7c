-- Every byte of the texts of weekdays and of their sets is ASCII.
use Rattle.std.proofs.Common.{ℕ, Bool, true, false, List, [], ◌∷◌, ◌++◌, arith}
use Rattle.std.specs.Prelude.{codes}
use Rattle.std.specs.Str.{IsAscii}
use Rattle.std.proofs.lemmas.Str.{IsAscii-append}
use Rattle.std.proofs.lemmas.Str.Ascii.{IsAscii-nil, IsAscii-cons}
use Rattle.chrono_text.proofs.AsciiTexts.{IsAscii-three}
use Rattle.chrono_units.specs.declared.weekday.Weekday.{Weekday}
use Rattle.chrono_units.specs.declared.weekday.Weekday.TheVariants.{Mon, Tue, Wed, Thu, Fri, Sat, Sun}
use Rattle.chrono_units.specs.WeekdaySet.{DaySet, walk}
use Rattle.chrono_units.specs.WeekdayText.{weekday_text, further_days_text, days_text, set_text, digit_text, set_digits_text}

pub IsAscii-weekday_text : (d : Weekday) → IsAscii (weekday_text d)
IsAscii-weekday_text Mon = IsAscii-three 77 111 110 (omega arith) (omega arith) (omega arith)
IsAscii-weekday_text Tue = IsAscii-three 84 117 101 (omega arith) (omega arith) (omega arith)
IsAscii-weekday_text Wed = IsAscii-three 87 101 100 (omega arith) (omega arith) (omega arith)
IsAscii-weekday_text Thu = IsAscii-three 84 104 117 (omega arith) (omega arith) (omega arith)
IsAscii-weekday_text Fri = IsAscii-three 70 114 105 (omega arith) (omega arith) (omega arith)
IsAscii-weekday_text Sat = IsAscii-three 83 97 116 (omega arith) (omega arith) (omega arith)
IsAscii-weekday_text Sun = IsAscii-three 83 117 110 (omega arith) (omega arith) (omega arith)

comma : IsAscii (codes ", ")
comma = IsAscii-cons 44 (32 ∷ []) (omega arith) (IsAscii-cons 32 [] (omega arith) IsAscii-nil)

IsAscii-further_days_text : (days : List Weekday) → IsAscii (further_days_text days)
IsAscii-further_days_text [] = IsAscii-nil
IsAscii-further_days_text (d ∷ ds) =
    IsAscii-append (codes ", " ++ weekday_text d) (further_days_text ds)
    (IsAscii-append (codes ", ") (weekday_text d) comma (IsAscii-weekday_text d)) (IsAscii-further_days_text ds)

IsAscii-days_text : (days : List Weekday) → IsAscii (days_text days)
IsAscii-days_text [] = IsAscii-nil
IsAscii-days_text (d ∷ ds) = IsAscii-append (weekday_text d) (further_days_text ds) (IsAscii-weekday_text d) (IsAscii-further_days_text ds)

pub IsAscii-set_text : (s : DaySet) → IsAscii (set_text s)
IsAscii-set_text s =
    IsAscii-append (codes "[" ++ days_text (walk s Mon)) (codes "]")
    (IsAscii-append (codes "[") (days_text (walk s Mon)) (IsAscii-cons 91 [] (omega arith) IsAscii-nil) (IsAscii-days_text (walk s Mon)))
    (IsAscii-cons 93 [] (omega arith) IsAscii-nil)

-- a text with a digit behind it
with_digit : (text : List ℕ) (member : Bool) → IsAscii text → IsAscii (text ++ digit_text member)
unfolding digit_text
with_digit text true h = IsAscii-append text (codes "1") h (IsAscii-cons 49 [] (omega arith) IsAscii-nil)
with_digit text false h = IsAscii-append text (codes "0") h (IsAscii-cons 48 [] (omega arith) IsAscii-nil)

name : IsAscii (codes "WeekdaySet(")
name =
    IsAscii-append (codes "WeekdaySe") (codes "t(")
    (IsAscii-append (codes "Weekda") (codes "ySe")
    (IsAscii-append (codes "Wee") (codes "kda") (IsAscii-three 87 101 101 (omega arith) (omega arith) (omega arith)) (IsAscii-three 107 100 97 (omega arith) (omega arith) (omega arith)))
    (IsAscii-three 121 83 101 (omega arith) (omega arith) (omega arith)))
    (IsAscii-cons 116 (40 ∷ []) (omega arith) (IsAscii-cons 40 [] (omega arith) IsAscii-nil))

pub IsAscii-set_digits_text : (s : DaySet) → IsAscii (set_digits_text s)
IsAscii-set_digits_text s =
    let sun = with_digit (codes "WeekdaySet(") s.sun name in
    let sat = with_digit (codes "WeekdaySet(" ++ digit_text s.sun) s.sat sun in
    let fri = with_digit (codes "WeekdaySet(" ++ digit_text s.sun ++ digit_text s.sat) s.fri sat in
    let thu = with_digit (codes "WeekdaySet(" ++ digit_text s.sun ++ digit_text s.sat ++ digit_text s.fri) s.thu fri in
    let wed = with_digit (codes "WeekdaySet(" ++ digit_text s.sun ++ digit_text s.sat ++ digit_text s.fri ++ digit_text s.thu) s.wed thu in
    let tue = with_digit (codes "WeekdaySet(" ++ digit_text s.sun ++ digit_text s.sat ++ digit_text s.fri ++ digit_text s.thu ++ digit_text s.wed) s.tue wed in
    let mon = with_digit (codes "WeekdaySet(" ++ digit_text s.sun ++ digit_text s.sat ++ digit_text s.fri ++ digit_text s.thu ++ digit_text s.wed ++ digit_text s.tue) s.mon tue in
    IsAscii-append (codes "WeekdaySet(" ++ digit_text s.sun ++ digit_text s.sat ++ digit_text s.fri ++ digit_text s.thu ++ digit_text s.wed ++ digit_text s.tue ++ digit_text s.mon) (codes ")") mon (IsAscii-cons 41 [] (omega arith) IsAscii-nil)

-- for the printing of sets
pub ruleset set_texts = (IsAscii-set_text, IsAscii-set_digits_text)
