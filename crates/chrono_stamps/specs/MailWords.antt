-- The words of RFC 2822: runs of letters, digits and signs, with white space and comments between them.
use Rattle.std.specs.Prelude.{◌≡◌, ◌==◌, ◌⊎◌, ◌<◌, ℕ, ◌+◌, ◌-◌, Bool, ◌||◌, false, List, [], ◌∷◌, length, take, drop, codes, if◌then◌else◌, Option, Some, None, refl}
use Rattle.std.specs.List.{prefix_len}
use Rattle.std.specs.Str.{byte}
use Rattle.chrono_text.specs.Lists.{is_of_word}

-- white space: a space, a tab, and the two bytes that end a line, for lines are folded (2.2.3)
abbrev pub is_white : ℕ → Bool
is_white c = ((c == byte " ") || (c == 9)) || ((c == 10) || (c == 13))

-- A comment stands in brackets, and may hold comments. In it a `\` takes the next byte as it is (3.2.3). So many are open in front of a
-- byte, and a `\` stands there or not. Behind the byte it is so again, or the byte is of no comment and no white space.
abbrev pub gap_step : ℕ → Bool → ℕ → Option (ℕ × Bool)
gap_step depth quoted c =
    if quoted then Some (depth, false)
    else (if c == byte "(" then Some (depth + 1, false)
    else (if depth == 0 then (if is_white c then Some (0, false) else None)
    else (if c == byte ")" then Some (depth - 1, false)
    else Some (depth, c == byte "\\"))))

-- the white space and the comments in front of a text (3.2.3, CFWS): how many comments are open behind them, and what stands there
unfoldable pub gap_end : ℕ → Bool → List ℕ → ℕ × List ℕ
gap_end depth quoted [] = (depth, [])
gap_end depth quoted (c ∷ text) = elim (gap_step depth quoted c) [ None ↦ (depth, c ∷ text) | Some next ↦ gap_end next.0 next.1 text ]

-- what stands behind the white space and the comments
abbrev pub behind_gap : List ℕ → List ℕ
behind_gap text = (gap_end 0 false text).1

-- the text is white space and comments alone, each with its end
abbrev pub IsMailGap : List ℕ → Type 0
IsMailGap text = ((gap_end 0 false text).0 ≡ 0) × ((gap_end 0 false text).1 ≡ [])

-- the text begins with a word, which is as long as can be, and goes on with the rest
pub record IsMailWord (text word rest : List ℕ) : Type 0 where
  pub some : 0 < length word
  pub front : take (prefix_len is_of_word text) text ≡ word
  pub behind : drop (prefix_len is_of_word text) text ≡ rest

-- a word behind white space and comments, of which there is a byte at least
pub record IsSpacedWord (text word rest : List ℕ) : Type 0 where
  pub apart : length (behind_gap text) < length text
  pub word_is : IsMailWord (behind_gap text) word rest

-- a word behind a colon. White space and comments may stand before and behind the colon
pub record IsColonWord (text word rest : List ℕ) : Type 0 where
  pub after : List ℕ
  pub colon : behind_gap text ≡ byte ":" ∷ after
  pub word_is : IsMailWord (behind_gap after) word rest

-- a word and a comma. White space and comments may stand before and behind the word
pub record IsCommaWord (text word rest : List ℕ) : Type 0 where
  pub after : List ℕ
  pub word_is : IsMailWord (behind_gap text) word after
  pub comma : behind_gap after ≡ byte "," ∷ rest

-- a part of the text, or nothing
abbrev pub IsOptional : (List ℕ → List ℕ → List ℕ → Type 0) → List ℕ → List ℕ → List ℕ → Type 0
IsOptional Is text word rest = Is text word rest ⊎ ((word ≡ []) × (rest ≡ text))

-- date-time = [ day-of-week "," ] date FWS time [CFWS], with date = day month year, time = hour ":" minute [ ":" second ] zone (3.3), and white
-- space and comments where the grammar of 4.3 has them: the words of the text, and its end. A word that is left out is empty
pub record AreMailWords (text weekday day month year hour minute second zone end : List ℕ) : Type 0 where
  pub after_weekday : List ℕ
  pub after_day : List ℕ
  pub after_month : List ℕ
  pub after_year : List ℕ
  pub after_hour : List ℕ
  pub after_minute : List ℕ
  pub after_second : List ℕ
  pub weekday_is : IsOptional IsCommaWord text weekday after_weekday
  pub day_is : IsMailWord (behind_gap after_weekday) day after_day
  pub month_is : IsSpacedWord after_day month after_month
  pub year_is : IsSpacedWord after_month year after_year
  pub hour_is : IsSpacedWord after_year hour after_hour
  pub minute_is : IsColonWord after_hour minute after_minute
  pub second_is : IsOptional IsColonWord after_minute second after_second
  pub zone_is : IsSpacedWord after_second zone end

-- known values: a folded line, a comment with a comment and a bracket in it, one without its end, and no white space
behind_gap-folded : behind_gap (13 ∷ 10 ∷ 9 ∷ codes " x") ≡ codes "x"
unfolding gap_end
behind_gap-folded = refl

behind_gap-comment : behind_gap (codes "(a (b) \\) c) x y") ≡ codes "x y"
unfolding gap_end
behind_gap-comment = refl

gap_end-unclosed : gap_end 0 false (codes " (a (b)") ≡ (1, [])
unfolding gap_end
gap_end-unclosed = refl

behind_gap-word : behind_gap (codes "x y") ≡ codes "x y"
unfolding gap_end
behind_gap-word = refl
