-- What a pattern loses it loses for good, the digits of a fraction too.
use Rattle.std.proofs.Common.{◌≡◌, ℕ, ◌%◌, Bool, true, false, List, ℤ, pos, sym, subst, ◌∙◌}
use Rattle.std.specs.Prelude.{unsigned_abs}
use Rattle.chrono_datetime.specs.Moment.{Moment, moment}
use Rattle.chrono_datetime.specs.Time.{TimeOfDay}
use Rattle.chrono_pattern.specs.CutFractions.{as_written}
use Rattle.chrono_pattern.specs.DateParts.{is_present}
use Rattle.chrono_pattern.specs.Kept.{LosesNothing}
use Rattle.chrono_pattern.specs.NamedParts.{named_parts}
use Rattle.chrono_pattern.specs.Parses.{IsDateBy, IsMomentBy, IsTimeBy, IsZonedBy}
use Rattle.chrono_pattern.specs.Patterns.{pattern_text, text_at_offset}
use Rattle.chrono_pattern.specs.Separable.{shows_ends}
use Rattle.chrono_pattern.specs.TimeParts.{IsClockTime}
use Rattle.chrono_pattern.proofs.BackAgain.{any_moment_again, any_zoned_again, date_again, moment_again, time_again, zoned_again}
use Rattle.chrono_pattern.proofs.CutTexts.{cut_text}

pub cut_date_again : (wide : Bool) (bytes : List ℕ) (m : Moment) (n : ℤ) → shows_ends wide bytes ≡ true → LosesNothing wide bytes (as_written bytes m) (pos 0)
    → is_present (named_parts bytes).timestamp ≡ false → IsDateBy bytes (pattern_text bytes m) n → pattern_text bytes (moment n m.time) ≡ pattern_text bytes m
cut_date_again wide bytes m n separable kept none is =
    cut_text bytes (moment n m.time) (pos 0)
    ∙ date_again wide bytes (as_written bytes m) n separable kept none (subst (λ (l : List ℕ). IsDateBy bytes l n) (cut_text bytes m (pos 0)) is)
    ∙ sym (cut_text bytes m (pos 0))

pub cut_time_again : (wide : Bool) (bytes : List ℕ) (m : Moment) (t : TimeOfDay) → shows_ends wide bytes ≡ true → LosesNothing wide bytes (as_written bytes m) (pos 0)
    → is_present (named_parts bytes).timestamp ≡ false → IsTimeBy bytes (pattern_text bytes m) t → pattern_text bytes (moment m.date t) ≡ pattern_text bytes m
cut_time_again wide bytes m t separable kept none is =
    time_again wide bytes (as_written bytes m) t separable kept none (subst (λ (l : List ℕ). IsTimeBy bytes l t) (cut_text bytes m (pos 0)) is)
    ∙ sym (cut_text bytes m (pos 0))

pub cut_moment_again : (wide : Bool) (bytes : List ℕ) (m w : Moment) → shows_ends wide bytes ≡ true → LosesNothing wide bytes (as_written bytes m) (pos 0)
    → is_present (named_parts bytes).timestamp ≡ false → IsMomentBy bytes (pattern_text bytes m) w → pattern_text bytes w ≡ pattern_text bytes m
cut_moment_again wide bytes m w separable kept none is =
    moment_again wide bytes (as_written bytes m) w separable kept none (subst (λ (l : List ℕ). IsMomentBy bytes l w) (cut_text bytes m (pos 0)) is)
    ∙ sym (cut_text bytes m (pos 0))

pub cut_zoned_again : (wide : Bool) (bytes : List ℕ) (m : Moment) (x : ℤ) (w : Moment) (y : ℤ) → shows_ends wide bytes ≡ true → LosesNothing wide bytes (as_written bytes m) x
    → is_present (named_parts bytes).timestamp ≡ false → IsZonedBy bytes (text_at_offset bytes m x) w y → text_at_offset bytes w y ≡ text_at_offset bytes m x
cut_zoned_again wide bytes m x w y separable kept none is =
    zoned_again wide bytes (as_written bytes m) x w y separable kept none (subst (λ (l : List ℕ). IsZonedBy bytes l w y) (cut_text bytes m x) is)
    ∙ sym (cut_text bytes m x)

pub cut_clock_again : (wide : Bool) (bytes : List ℕ) (m w : Moment) → shows_ends wide bytes ≡ true → LosesNothing wide bytes (as_written bytes m) (pos 0)
    → IsClockTime w.time → IsMomentBy bytes (pattern_text bytes m) w → pattern_text bytes w ≡ pattern_text bytes m
cut_clock_again wide bytes m w separable kept clock is =
    any_moment_again wide bytes (as_written bytes m) w separable kept clock (subst (λ (l : List ℕ). IsMomentBy bytes l w) (cut_text bytes m (pos 0)) is)
    ∙ sym (cut_text bytes m (pos 0))

pub cut_zoned_clock_again : (wide : Bool) (bytes : List ℕ) (m : Moment) (x : ℤ) (w : Moment) (y : ℤ) → shows_ends wide bytes ≡ true → LosesNothing wide bytes (as_written bytes m) x
    → unsigned_abs x % 60 ≡ 0 → IsClockTime w.time → IsZonedBy bytes (text_at_offset bytes m x) w y → text_at_offset bytes w y ≡ text_at_offset bytes m x
cut_zoned_clock_again wide bytes m x w y separable kept whole clock is =
    any_zoned_again wide bytes (as_written bytes m) x w y separable kept whole clock (subst (λ (l : List ℕ). IsZonedBy bytes l w y) (cut_text bytes m x) is)
    ∙ sym (cut_text bytes m x)
