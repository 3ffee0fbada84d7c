-- Offsets of hours and minutes are read, whatever colons and blanks are between them.
use Rattle.std.proofs.Common.{◌≡◌, ℕ, zero, suc, ◌+◌, ◌*◌, ◌<◌, Bool, true, false, List, [], ◌∷◌, ◌++◌, codes, Some, pos, Result, Ok, Err, refl, ap, sym, ◌∙◌, arith}
use Rattle.std.proofs.lemmas.Bool.{and_parts}
use Rattle.std.specs.List.{list_all}
use Rattle.chrono_datetime.specs.Moment.{Moment, moment}
use Rattle.chrono_datetime.specs.Time.{time_at}
use Rattle.chrono_instant.specs.Offsets.{IsOffset}
use Rattle.chrono_text.specs.Numbers.{signed}
use Rattle.chrono_text.specs.Text.{two_digits}
use Rattle.chrono_pattern.specs.OffsetReads.{Taken, at_rest, behind_colons, offset_read, signed_offset_read, size_taken, with_hours, with_minutes, with_seconds}
use Rattle.chrono_pattern.specs.OffsetTexts.{offset_written}
use Rattle.chrono_pattern.specs.Parts.{no_parts}
use Rattle.chrono_pattern.specs.Progress.{Progress, is_of}
use Rattle.chrono_pattern.specs.PatternSteps.{date_number_at, group_at, opened_step, pattern_step, time_number_at, unpadded_step, word_at}
use Rattle.chrono_pattern.specs.Reads.{end_read, text_read}
use Rattle.chrono_pattern.specs.declared.class.Class.TheVariants.{Blank, Gap}
use Rattle.chrono_pattern.specs.declared.item.Item.TheVariants.{Empty, Zoned}
use Rattle.chrono_pattern.specs.declared.item.OffsetForm.TheVariants.{Plain}
use Rattle.chrono_pattern.specs.declared.item.Padding.TheVariants.{Usual}
use Rattle.chrono_pattern.specs.declared.item.State.TheVariants.{Opened, Outside}
use Rattle.chrono_pattern.specs.declared.item.ZonedField.TheVariants.{Offset}
use Rattle.chrono_pattern.specs.declared.parsed.Parsed.{Parsed}
use Rattle.chrono_pattern.specs.declared.stop.Stop.{Stop}
use Rattle.chrono_pattern.proofs.BackDigits.{blanks_go}
use Rattle.chrono_pattern.proofs.BackNumbers.{front_stays}
use Rattle.chrono_pattern.proofs.BackOffsets.{digits_stay, given, minutes_back, no_seconds, two_back}
use Rattle.chrono_pattern.proofs.BackParts.{put_offset}
use Rattle.chrono_pattern.proofs.BackStarts.{gap_goes}
use Rattle.chrono_pattern.proofs.ReadLemmas.{behind_item, read_from-more, read_from-nothing}

pub gaps_go : (gap text : List ℕ) → list_all (is_of Gap) gap ≡ true → behind_colons (gap ++ text) ≡ behind_colons text
gaps_go [] text all = refl
gaps_go (c ∷ gap) text all =
    let parts = and_parts (is_of Gap c) (list_all (is_of Gap) gap) all in gap_goes c (gap ++ text) parts.0 ∙ gaps_go gap text parts.1

-- the size without its sign
size_written : (hours minutes : ℕ) (gap : List ℕ) (p : Parsed) → hours < 24 → minutes < 60 → list_all (is_of Gap) gap ≡ true
    → size_taken Plain (at_rest (two_digits hours ++ (gap ++ (two_digits minutes ++ []))) p) ≡ Ok (hours * 3_600 + minutes * 60, at_rest [] p)
unfolding size_taken
size_written hours minutes gap p day hour all =
    let text = two_digits minutes ++ [] in
    ap (λ (t : Taken). with_hours t Plain) (two_back 99 hours (gap ++ text) p (omega (arith, day)) (omega (arith, day)))
    ∙ ap (λ (t : Taken). with_minutes t Plain hours)
    (minutes_back false minutes (gap ++ text) [] p (omega (arith, hour)) (gaps_go gap text all ∙ digits_stay minutes [] (omega (arith, hour))))
    ∙ ap (λ (t : Taken). with_seconds t (hours * 60 + minutes)) (no_seconds [] p)
    ∙ ap (λ (k : ℕ). Ok (k, at_rest [] p)) (omega arith)

-- some date-time
abbrev some_moment : Moment
some_moment = moment (pos 0) (time_at 0 0 0 0)

near : (negative : Bool) (n : ℕ) → n < 86_400 → IsOffset (signed negative n)
near true zero small = omega (arith, small)
near true (suc n) small = omega (arith, small)
near false n small = omega (arith, small)

signed_written : (negative : Bool) (hours minutes : ℕ) (gap : List ℕ) → hours < 24 → minutes < 60 → list_all (is_of Gap) gap ≡ true
    → offset_read Plain (at_rest (offset_written negative hours gap minutes) no_parts)
    ≡ Ok (at_rest [] (record no_parts { offset = Some (signed negative (hours * 3_600 + minutes * 60)) }))
unfolding offset_read signed_offset_read
signed_written true hours minutes gap day hour all =
    let n = hours * 3_600 + minutes * 60 in
    let digits = two_digits hours ++ (gap ++ (two_digits minutes ++ [])) in
    ap (λ (l : List ℕ). signed_offset_read Plain l no_parts) (front_stays 45 digits refl)
    ∙ given _ n true (45 ∷ digits) [] no_parts _ (size_written hours minutes gap no_parts day hour all)
    (put_offset no_parts some_moment (signed true n) (near true n (omega (arith, day, hour))))
signed_written false hours minutes gap day hour all =
    let n = hours * 3_600 + minutes * 60 in
    let digits = two_digits hours ++ (gap ++ (two_digits minutes ++ [])) in
    ap (λ (l : List ℕ). signed_offset_read Plain l no_parts) (front_stays 43 digits refl)
    ∙ given _ n false (43 ∷ digits) [] no_parts _ (size_written hours minutes gap no_parts day hour all)
    (put_offset no_parts some_moment (signed false n) (near false n (omega (arith, day, hour))))

offset_step : pattern_step (Opened Usual) 122 ≡ Some (Outside, Zoned (Offset Plain))
unfolding opened_step unpadded_step date_number_at time_number_at word_at group_at
offset_step = refl

unread : (o : Result Progress Stop) → behind_item o Outside [] ≡ o
unread (Ok q) = read_from-nothing Outside q
unread (Err e) = refl

-- `%z` alone reads an offset
pub read_by_z : (text : List ℕ) → text_read (codes "%z") text ≡ end_read (offset_read Plain (at_rest text no_parts))
read_by_z text =
    let r = at_rest text no_parts in
    ap (λ (o : Result Progress Stop). end_read o)
    (read_from-more Outside 37 (122 ∷ []) r (Opened Usual, Empty) refl
    ∙ read_from-more (Opened Usual) 122 [] r (Outside, Zoned (Offset Plain)) offset_step
    ∙ unread (offset_read Plain r))

blanks_left_out : (blanks text : List ℕ) → list_all (is_of Blank) blanks ≡ true → offset_read Plain (at_rest (blanks ++ text) no_parts) ≡ offset_read Plain (at_rest text no_parts)
unfolding offset_read
blanks_left_out blanks text all = ap (λ (l : List ℕ). signed_offset_read Plain l no_parts) (blanks_go blanks text all)

pub blanks_before : (blanks text : List ℕ) → list_all (is_of Blank) blanks ≡ true → text_read (codes "%z") (blanks ++ text) ≡ text_read (codes "%z") text
blanks_before blanks text all =
    read_by_z (blanks ++ text) ∙ ap (λ (o : Result Progress Stop). end_read o) (blanks_left_out blanks text all) ∙ sym (read_by_z text)

pub written_read : (negative : Bool) (hours minutes : ℕ) (gap : List ℕ) → hours < 24 → minutes < 60 → list_all (is_of Gap) gap ≡ true
    → text_read (codes "%z") (offset_written negative hours gap minutes) ≡ Ok (record no_parts { offset = Some (signed negative (hours * 3_600 + minutes * 60)) })
written_read negative hours minutes gap day hour all =
    read_by_z (offset_written negative hours gap minutes) ∙ ap (λ (o : Result Progress Stop). end_read o) (signed_written negative hours minutes gap day hour all)
