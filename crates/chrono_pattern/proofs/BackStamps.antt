-- A date-time with its offset is read back as `%+` writes it.
use Rattle.std.proofs.Common.{◌≡◌, ℕ, suc, ◌==◌, Bool, true, false, ◌&&◌, if◌then◌else◌, List, ◌∷◌, ◌++◌, ℤ, pos, negsuc, unsigned_abs, Result, Ok, refl, ap, sym, ◌∙◌}
use Rattle.std.proofs.lemmas.Bool.{and_parts}
use Rattle.chrono_datetime.specs.Days.{year_of}
use Rattle.chrono_datetime.specs.Moment.{Moment}
use Rattle.chrono_datetime.specs.Time.{IsTime}
use Rattle.chrono_instant.specs.Offsets.{IsOffset}
use Rattle.chrono_pattern.specs.Groups.{group_text}
use Rattle.chrono_pattern.specs.ItemReads.{between_read, group_read, iso_offset_read, iso_read}
use Rattle.chrono_pattern.specs.Kept.{keeps_form, keeps_year, with_few}
use Rattle.chrono_pattern.specs.NamedParts.{with_group, with_named}
use Rattle.chrono_pattern.specs.OffsetReads.{at_rest, offset_read, signed_offset_read, utc_or_offset}
use Rattle.chrono_pattern.specs.Progress.{Progress, behind_blanks, is_pattern_blank, then_read}
use Rattle.chrono_pattern.specs.ReadBack.{parts_of}
use Rattle.chrono_pattern.specs.SubsecondReads.{subsecond_read}
use Rattle.chrono_pattern.specs.Subseconds.{subsecond_of}
use Rattle.chrono_pattern.specs.ZonedPieces.{iso_piece, offset_piece}
use Rattle.chrono_pattern.specs.declared.item.Bar.TheVariants.{NoFraction}
use Rattle.chrono_pattern.specs.declared.item.GroupField.TheVariants.{YearMonthDay, HourMinuteSecond}
use Rattle.chrono_pattern.specs.declared.item.OffsetForm.TheVariants.{Colon}
use Rattle.chrono_pattern.specs.declared.parsed.Parsed.{Parsed}
use Rattle.chrono_pattern.specs.declared.parsed.Part.TheVariants.{OffsetFromUtc}
use Rattle.chrono_pattern.specs.declared.stop.Stop.{Stop}
use Rattle.chrono_pattern.proofs.BackDigits.{skip}
use Rattle.chrono_pattern.proofs.BackItems.{group_back}
use Rattle.chrono_pattern.proofs.BackNumbers.{front_stays}
use Rattle.chrono_pattern.proofs.BackOffsets.{ahead, behind, digits_text, offset_back, offset_opens, piece_by}
use Rattle.chrono_pattern.proofs.BackParts.{put_offset}
use Rattle.chrono_pattern.proofs.BackStarts.{iso_text}
use Rattle.chrono_pattern.proofs.BackSubseconds.{few_back, fraction_of}
use Rattle.chrono_pattern.proofs.BackWords.{opens_ends}

-- ---- behind a sign stands no name of UTC

not_named : (c : ℕ) (text : List ℕ) (p : Parsed) → is_pattern_blank c ≡ false → utc_or_offset true Colon (c ∷ text) p ≡ signed_offset_read Colon (c ∷ text) p
    → utc_or_offset true Colon (behind_blanks (c ∷ text)) p ≡ offset_read Colon (at_rest (c ∷ text) p)
unfolding offset_read
not_named c text p not signed =
    let front = front_stays c text not in
    ap (λ (l : List ℕ). utc_or_offset true Colon l p) front ∙ signed ∙ ap (λ (l : List ℕ). signed_offset_read Colon l p) (sym front)

plus_signed : (text : List ℕ) (p : Parsed) → utc_or_offset true Colon (43 ∷ text) p ≡ signed_offset_read Colon (43 ∷ text) p
unfolding utc_or_offset
plus_signed text p = refl

minus_signed : (text : List ℕ) (p : Parsed) → utc_or_offset true Colon (45 ∷ text) p ≡ signed_offset_read Colon (45 ∷ text) p
unfolding utc_or_offset
minus_signed text p = refl

by_offset : (x : ℤ) (rest : List ℕ) (p : Parsed) → iso_offset_read (at_rest (offset_piece Colon x ++ rest) p) ≡ offset_read Colon (at_rest (offset_piece Colon x ++ rest) p)
by_offset (pos n) rest p =
    let is = piece_by Colon (pos n) 43 n rest refl (ahead n) in
    let text = digits_text Colon n rest in
    ap (λ (l : List ℕ). iso_offset_read (at_rest l p)) is ∙ not_named 43 text p refl (plus_signed text p) ∙ ap (λ (l : List ℕ). offset_read Colon (at_rest l p)) (sym is)
by_offset (negsuc n) rest p =
    let is = piece_by Colon (negsuc n) 45 (suc n) rest refl (behind n) in
    let text = digits_text Colon (suc n) rest in
    ap (λ (l : List ℕ). iso_offset_read (at_rest l p)) is ∙ not_named 45 text p refl (minus_signed text p) ∙ ap (λ (l : List ℕ). offset_read Colon (at_rest l p)) (sym is)

-- ---- the whole text

abbrev date_parts : Parsed → Parsed
date_parts q = with_group YearMonthDay q

abbrev clock_parts : Parsed → Parsed
clock_parts q = with_group HourMinuteSecond (date_parts q)

-- no blank is in front
unskipped : (z : Bool) (text : List ℕ) → skip (if z then false else false) text ≡ text
unskipped true text = refl
unskipped false text = refl

pub iso_back : (b : Bool) (rest : List ℕ) (q : Parsed) (m : Moment) (x : ℤ) → IsTime m.time → IsOffset x
    → (keeps_year true (year_of m.date) && keeps_form Colon (unsigned_abs x)) ≡ true
    → iso_read (at_rest (skip b (iso_piece m x ++ rest)) (parts_of q m x)) ≡ Ok (at_rest rest (parts_of (with_named OffsetFromUtc (with_few m.time (clock_parts q))) m x))
unfolding iso_read
iso_back b rest q m x time near keeps =
    let both = and_parts (keeps_year true (year_of m.date)) (keeps_form Colon (unsigned_abs x)) keeps in
    let offset = offset_piece Colon x ++ rest in
    let fraction = subsecond_of true 0 m.time ++ offset in
    let clock = group_text HourMinuteSecond m ++ fraction in
    let given = with_few m.time (clock_parts q) in
    ap (λ (l : List ℕ). then_read (then_read (then_read (then_read (group_read YearMonthDay (at_rest (skip b l) (parts_of q m x))) between_read) (group_read HourMinuteSecond)) (subsecond_read true 0)) iso_offset_read)
    (iso_text m x rest)
    ∙ ap (λ (o : Result Progress Stop). then_read (then_read (then_read (then_read o between_read) (group_read HourMinuteSecond)) (subsecond_read true 0)) iso_offset_read)
    (group_back true YearMonthDay b (84 ∷ clock) q m x time both.0 refl)
    ∙ ap (λ (o : Result Progress Stop). then_read (then_read o (subsecond_read true 0)) iso_offset_read)
    (group_back true HourMinuteSecond false fraction (date_parts q) m x time refl refl)
    ∙ ap (λ (o : Result Progress Stop). then_read o iso_offset_read)
    (few_back false offset (clock_parts q) m x (opens_ends NoFraction offset (offset_opens Colon x rest)))
    ∙ ap (λ (l : List ℕ). iso_offset_read (at_rest l (parts_of given m x))) (unskipped (fraction_of m.time == 0) offset)
    ∙ by_offset x rest (parts_of given m x)
    ∙ offset_back Colon x rest (parts_of given m x) (parts_of (with_named OffsetFromUtc given) m x) both.1 near refl (put_offset given m x near)
