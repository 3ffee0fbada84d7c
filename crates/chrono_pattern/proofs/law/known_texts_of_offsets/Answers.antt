use Rattle.std.proofs.Common.{ℕ, ℤ, pos, List, [], ◌++◌, ◌∷◌, codes, refl, ap, ◌∙◌}
use Rattle.std.specs.Prelude.{unsigned_abs}
use Rattle.std.specs.Str.{byte}
use Rattle.chrono_datetime.specs.Days.{day_of, month_of}
use Rattle.std.specs.Fmt.{digits}
use Rattle.chrono_pattern.specs.Groups.{group_text}
use Rattle.chrono_pattern.specs.Numbers.{field_text, padded, year_sign}
use Rattle.chrono_pattern.specs.declared.item.Padding.TheVariants.{Zeros}
use Rattle.chrono_pattern.specs.Patterns.{text_from}
use Rattle.chrono_pattern.specs.PatternSteps.{date_number_at, group_at, opened_step, time_number_at, unpadded_step, word_at}
use Rattle.chrono_pattern.specs.Subseconds.{subsecond_of}
use Rattle.chrono_pattern.specs.ZonedPieces.{hours_piece, iso_piece, offset_piece, stamp_piece}
use Rattle.chrono_pattern.proofs.law.known_texts_of_offsets.Goals as goal

pub returns-clause-half_hour : goal.returns-clause-half_hour
unfolding text_from opened_step unpadded_step date_number_at time_number_at word_at group_at field_text group_text subsecond_of digits hours_piece iso_piece offset_piece stamp_piece
returns-clause-half_hour c m = refl

pub returns-clause-behind : goal.returns-clause-behind
unfolding text_from opened_step unpadded_step date_number_at time_number_at word_at group_at field_text group_text subsecond_of digits hours_piece iso_piece offset_piece stamp_piece
returns-clause-behind c m = refl

pub returns-clause-half_minute : goal.returns-clause-half_minute
unfolding text_from opened_step unpadded_step date_number_at time_number_at word_at group_at field_text group_text subsecond_of digits hours_piece iso_piece offset_piece stamp_piece
returns-clause-half_minute c m = refl

pub returns-clause-first_second : goal.returns-clause-first_second
unfolding text_from opened_step unpadded_step date_number_at time_number_at word_at group_at field_text group_text subsecond_of digits hours_piece iso_piece offset_piece stamp_piece
returns-clause-first_second c = refl

pub returns-clause-hour_ahead : goal.returns-clause-hour_ahead
unfolding text_from opened_step unpadded_step date_number_at time_number_at word_at group_at field_text group_text subsecond_of digits hours_piece iso_piece offset_piece stamp_piece
returns-clause-hour_ahead c = refl

abbrev year_part : ℤ → List ℕ
year_part y = padded Zeros 4 (year_sign y) (unsigned_abs y)

abbrev two : ℕ → List ℕ
two n = padded Zeros 2 [] n

-- the text by the numbers of the date
abbrev all_text : ℤ → ℕ → ℕ → List ℕ
all_text y m d =
    ((year_part y ++ byte "-" ∷ two m ++ byte "-" ∷ two d) ++ byte "T" ∷ codes "09:30:05" ++ codes ".250" ++ codes "+05:30") ++ []

pub returns-clause-all : goal.returns-clause-all
unfolding text_from opened_step unpadded_step date_number_at time_number_at word_at group_at field_text group_text subsecond_of digits hours_piece iso_piece offset_piece stamp_piece
returns-clause-all c n year month day =
    ap (λ (y : ℤ). all_text y (month_of n) (day_of n)) year
    ∙ ap (λ (k : ℕ). all_text (pos 2024) k (day_of n)) month
    ∙ ap (λ (k : ℕ). all_text (pos 2024) 2 k) day
