-- The texts of years, months and days by patterns are those of other dates, for crates that write dates without a pattern.
use Rattle.std.proofs.Common.{◌≡◌, ℕ, ◌<◌, ◌==◌, Bool, false, if◌then◌else◌, List, [], ◌∷◌, ◌++◌, Option, Some, ℤ, pos, refl, ap, sym, ◌∙◌, arith}
use Rattle.std.specs.Int.RustNames.{int_lt}
use Rattle.std.specs.Prelude.{unsigned_abs, ◌≤ℤ◌}
use Rattle.chrono_calendar.proofs.NamedDates.{calendar_name-exists, day_of-small}
use Rattle.chrono_calendar.proofs.Signed.{signed}
use Rattle.chrono_text.proofs.TextLemmas.{year_text-four}
use Rattle.chrono_text.specs.Text.{two_digits, year_text}
use Rattle.chrono_datetime.specs.Days.{day_of, month_of, year_of}
use Rattle.chrono_datetime.specs.Moment.{Moment}
use Rattle.chrono_pattern.specs.Numbers.{field_text, padded, year_sign}
use Rattle.chrono_pattern.specs.Patterns.{text_from}
use Rattle.chrono_pattern.specs.PatternSteps.{date_number_at, group_at, opened_step, pattern_step, time_number_at, unpadded_step, word_at}
use Rattle.chrono_pattern.specs.declared.item.Item.{Item}
use Rattle.chrono_pattern.specs.declared.item.Item.TheVariants.{Byte, Empty}
use Rattle.chrono_pattern.specs.declared.item.NumberField.TheVariants.{Year, Month, Day}
use Rattle.chrono_pattern.specs.declared.item.Padding.TheVariants.{Usual, Zeros}
use Rattle.chrono_pattern.specs.declared.item.State.{State}
use Rattle.chrono_pattern.specs.declared.item.State.TheVariants.{Opened, Outside}
use Rattle.chrono_pattern.proofs.BackNumbers.{not_below}
use Rattle.chrono_pattern.proofs.PatternLemmas.{text_from-more}
use Rattle.chrono_pattern.proofs.WriteLemmas.{four_padded, two_padded}

-- ---- the numbers

plain_year : (y : ℤ) (n : ℕ) → y ≡ pos n → n < 10_000 → padded Zeros 4 (year_sign y) (unsigned_abs y) ≡ year_text y
plain_year y n is small =
    ap (λ (z : ℤ). padded Zeros 4 (year_sign z) (unsigned_abs z)) is
    ∙ ap (λ (b : Bool). padded Zeros 4 (if b then 45 ∷ [] else if int_lt (pos 9_999) (pos n) then 43 ∷ [] else []) n) (not_below n 0 (omega arith))
    ∙ ap (λ (b : Bool). padded Zeros 4 (if b then 43 ∷ [] else []) n) (not_below 9_999 n (omega (arith, small)))
    ∙ four_padded n small
    ∙ sym (year_text-four n small)
    ∙ ap (λ (z : ℤ). year_text z) (sym is)

year_is : (m : Moment) → pos 0 ≤ℤ year_of m.date → year_of m.date ≤ℤ pos 9_999 → field_text Year Usual m ≡ year_text (year_of m.date)
unfolding field_text
year_is m least most = plain_year (year_of m.date) (unsigned_abs (year_of m.date)) (omega (arith, signed, least)) (omega (arith, signed, least, most))

month_is : (m : Moment) → field_text Month Usual m ≡ two_digits (month_of m.date)
unfolding field_text
month_is m = two_padded (month_of m.date) (omega (arith, (calendar_name-exists m.date).0))

day_is : (m : Moment) → field_text Day Usual m ≡ two_digits (day_of m.date)
unfolding field_text
day_is m = two_padded (day_of m.date) (omega (arith, day_of-small m.date))

-- ---- the pieces of a pattern

number_front : (rest : List ℕ) (m : Moment) (x : ℤ) → (text_from Outside (37 ∷ 89 ∷ rest) m x ≡ field_text Year Usual m ++ text_from Outside rest m x)
    × (text_from Outside (37 ∷ 109 ∷ rest) m x ≡ field_text Month Usual m ++ text_from Outside rest m x)
    × (text_from Outside (37 ∷ 100 ∷ rest) m x ≡ field_text Day Usual m ++ text_from Outside rest m x)
unfolding text_from opened_step unpadded_step date_number_at time_number_at word_at group_at
number_front rest m x = (refl, refl, refl)

-- `%Y`, `%m` and `%d` in front of more bytes
pub year_front : (rest : List ℕ) (m : Moment) (x : ℤ) → pos 0 ≤ℤ year_of m.date → year_of m.date ≤ℤ pos 9_999
    → text_from Outside (37 ∷ 89 ∷ rest) m x ≡ year_text (year_of m.date) ++ text_from Outside rest m x
year_front rest m x least most = (number_front rest m x).0 ∙ ap (λ (l : List ℕ). l ++ text_from Outside rest m x) (year_is m least most)

pub month_front : (rest : List ℕ) (m : Moment) (x : ℤ) → text_from Outside (37 ∷ 109 ∷ rest) m x ≡ two_digits (month_of m.date) ++ text_from Outside rest m x
month_front rest m x = (number_front rest m x).1 ∙ ap (λ (l : List ℕ). l ++ text_from Outside rest m x) (month_is m)

pub day_front : (rest : List ℕ) (m : Moment) (x : ℤ) → text_from Outside (37 ∷ 100 ∷ rest) m x ≡ two_digits (day_of m.date) ++ text_from Outside rest m x
day_front rest m x = (number_front rest m x).2 ∙ ap (λ (l : List ℕ). l ++ text_from Outside rest m x) (day_is m)

-- another byte than `%`
abbrev byte_step : Bool → ℕ → Option (State × Item)
byte_step b c = if b then Some (Opened Usual, Empty) else Some (Outside, Byte c)

step_of_byte : (c : ℕ) → (c == 37) ≡ false → pattern_step Outside c ≡ Some (Outside, Byte c)
step_of_byte c not = ap (λ (b : Bool). byte_step b c) not

pub byte_front : (c : ℕ) (rest : List ℕ) (m : Moment) (x : ℤ) → (c == 37) ≡ false → text_from Outside (c ∷ rest) m x ≡ c ∷ text_from Outside rest m x
byte_front c rest m x not = text_from-more Outside c rest m x (Outside, Byte c) (step_of_byte c not)

-- no bytes
pub no_front : (m : Moment) (x : ℤ) → text_from Outside [] m x ≡ []
unfolding text_from
no_front m x = refl
