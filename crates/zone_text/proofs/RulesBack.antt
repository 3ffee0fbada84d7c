-- Rules and names that are written are read back.
use Rattle.std.proofs.Common.{◌≡◌, ◌<◌, ◌≤◌, ℕ, suc, zero, Bool, true, false, if◌then◌else◌, List, [], ◌∷◌, ◌++◌, length, Option, Some, None, ℤ, pos, negsuc, neg_ℤ, ◌+ℤ◌, unsigned_abs, inl, inr, refl, sym, ap, ◌∙◌, subst, append_assoc, arith}
use Rattle.std.specs.Char.{is_ascii_alphabetic}
use Rattle.std.specs.List.{list_all}
use Rattle.std.specs.Option.{option_map}
use Rattle.std.specs.Ordering.{int_eq}
use Rattle.std.proofs.lemmas.Bool.{and_parts, cond_both, ne_eqb}
use Rattle.std.proofs.lemmas.Bool.Decides.{Decides-int_eq, nat_tests}
use Rattle.chrono_zoned.specs.Offsets.{IsOffset}
use Rattle.zone_rule.specs.declared.rule.Daylight.{Daylight}
use Rattle.zone_rule.specs.declared.rule.ZoneRule.{ZoneRule}
use Rattle.zone_text.specs.HourTexts.{signed_seconds}
use Rattle.chrono_text.specs.Lists.{is_of_word}
use Rattle.zone_text.specs.NameTexts.{IsZoneName, is_of_offset}
use Rattle.zone_text.specs.WrittenTexts.{AreNames, IsDaylight, IsDaylightName, IsName, IsRule, change_text, daylight_hour_text, daylight_part, daylight_text, hour_text, zone_name_text, zone_text}
use Rattle.zone_text.specs.ZoneTexts.{IsDaylightPart, IsDaylightText, IsZoneText, daylight_ahead, written_ahead}
use Rattle.zone_text.proofs.ChangesBack.{changes_back}
use Rattle.zone_text.proofs.CutTexts.{Stops, behind_is, front_is}
use Rattle.zone_text.proofs.HoursBack.{hour_of_offset, hours_back}

-- ---- names

-- what stands behind a name in letters is no letter
abbrev pub NoLetter : List ℕ → Type 0
NoLetter = Stops is_ascii_alphabetic

pub name_back : (name rest : List ℕ) → IsName name → NoLetter rest → IsZoneName (zone_name_text name ++ rest) name rest
name_back name rest is stops = named (list_all is_ascii_alphabetic name) refl
  where
    named : (t : Bool) → list_all is_ascii_alphabetic name ≡ t → IsZoneName ((if t then name else 60 ∷ (name ++ 62 ∷ [])) ++ rest) name rest
    named true all = record {
      long = is.long;
      form = inl (record { front = front_is is_ascii_alphabetic name rest all stops; behind = behind_is is_ascii_alphabetic name rest all stops });
    }
    named false other = record {
      long = is.long;
      form = inr (record {
        inner = name ++ 62 ∷ rest;
        opens = ap (λ (l : List ℕ). 60 ∷ l) (append_assoc name (62 ∷ []) rest);
        front = front_is is_of_word name (62 ∷ rest) is.bytes refl;
        closes = behind_is is_of_word name (62 ∷ rest) is.bytes refl;
      });
    }

-- ---- offsets

letter_no_offset : (b : ℕ) → is_ascii_alphabetic b ≡ true → is_of_offset b ≡ false
letter_no_offset b letter = grind (arith, nat_tests)

offset_no_letter : (b : ℕ) → is_of_offset b ≡ true → is_ascii_alphabetic b ≡ false
offset_no_letter b is = grind (arith, nat_tests)

-- a name does not go on an offset, and an offset does not go on a name
name_stops : (name rest : List ℕ) → IsName name → Stops is_of_offset (zone_name_text name ++ rest)
name_stops name rest is = named name is.long (list_all is_ascii_alphabetic name) refl
  where
    named : (l : List ℕ) → 3 ≤ length l → (t : Bool) → list_all is_ascii_alphabetic l ≡ t → Stops is_of_offset ((if t then l else 60 ∷ (l ++ 62 ∷ [])) ++ rest)
    named [] long t all = absurd (omega (arith, long))
    named (b ∷ bs) long true all = letter_no_offset b (and_parts (is_ascii_alphabetic b) (list_all is_ascii_alphabetic bs) all).0
    named (b ∷ bs) long false other = refl

offset_stops : (text rest : List ℕ) → list_all is_of_offset text ≡ true → 0 < length text → NoLetter (text ++ rest)
offset_stops [] rest all some = absurd (omega (arith, some))
offset_stops (b ∷ bs) rest all some = offset_no_letter b (and_parts (is_of_offset b) (list_all is_of_offset bs) all).0

neg_small : (x : ℤ) → unsigned_abs (neg_ℤ x) ≡ unsigned_abs x
neg_small (pos zero) = refl
neg_small (pos (suc n)) = refl
neg_small (negsuc n) = refl

neg_back : (x : ℤ) → neg_ℤ (neg_ℤ x) ≡ x
neg_back (pos zero) = refl
neg_back (pos (suc n)) = refl
neg_back (negsuc n) = refl

pub neg_in_range : (x : ℤ) → IsOffset x → unsigned_abs (neg_ℤ x) < 604_800
neg_in_range x is = omega (arith, neg_small x, is)

ahead_back : (x : ℤ) → IsOffset x → written_ahead (hour_text (neg_ℤ x)) ≡ Some x
ahead_back x is = ap (option_map neg_ℤ) (hours_back (neg_ℤ x) (neg_in_range x is)) ∙ ap Some (neg_back x)

-- some byte stands in a time, since a text of none is none
read_some : (x : ℤ) (l : List ℕ) → signed_seconds l ≡ Some x → 0 < length l
unfolding signed_seconds
read_some x [] is = let wrong : ⊥ = cc in absurd wrong
read_some x (b ∷ bs) is = omega arith

hour_some : (x : ℤ) → unsigned_abs x < 604_800 → 0 < length (hour_text x)
hour_some x small = read_some x (hour_text x) (hours_back x small)

-- ---- daylight time

-- the offset of daylight time: nothing, or a time
of_daylight : (P : List ℕ → Type 0) (standard x : ℤ) → (x ≡ standard +ℤ pos 3_600 → P []) → P (hour_text (neg_ℤ x)) → P (daylight_hour_text standard x)
of_daylight P standard x f g =
    cond_both (int_eq x (standard +ℤ pos 3_600)) [] (hour_text (neg_ℤ x)) P (λ is. f ((Decides-int_eq x (standard +ℤ pos 3_600)).0 is)) (λ is_not. g)

record IsBack (standard x : ℤ) (text : List ℕ) : Type 0 where
  bytes : list_all is_of_offset text ≡ true
  ahead : daylight_ahead standard text ≡ Some x
  stops : (rest : List ℕ) → NoLetter (text ++ 44 ∷ rest)

offset_back : (standard x : ℤ) → IsOffset x → IsBack standard x (daylight_hour_text standard x)
offset_back standard x is =
    let small = neg_in_range x is in
    let some = hour_some (neg_ℤ x) small in
    let bytes = hour_of_offset (neg_ℤ x) small in
    of_daylight (IsBack standard x) standard x
    (λ same. record { bytes = refl; ahead = ap Some (sym same); stops = λ rest. refl })
    (record {
      bytes = bytes;
      ahead = rw (ne_eqb (length (hour_text (neg_ℤ x))) 0 (λ none. omega (arith, some, none))) (ahead_back x is);
      stops = λ rest. offset_stops (hour_text (neg_ℤ x)) (44 ∷ rest) bytes some;
    })

-- its parts, each in front of all that follows
daylight_is : (standard : ℤ) (name : List ℕ) (d : Daylight)
    → daylight_text standard name d ≡ zone_name_text name ++ (daylight_hour_text standard d.offset ++ 44 ∷ (change_text d.begins ++ 44 ∷ change_text d.ends))
daylight_is standard name d = simp append_assoc refl

daylight_back : (standard : ℤ) (name : List ℕ) (d : Daylight) → IsName name → IsDaylight (Some d) → IsDaylightText standard (daylight_text standard name d) name d
daylight_back standard name d is range =
    let offset = daylight_hour_text standard d.offset in
    let back = offset_back standard d.offset range.0 in
    let changes = change_text d.begins ++ 44 ∷ change_text d.ends in
    let after = offset ++ 44 ∷ changes in
    let nested = daylight_is standard name d in
    record {
      after_name = after;
      name_is = subst (λ (l : List ℕ). IsZoneName l name after) (sym nested) (name_back name after is (back.stops changes));
      times_are = record {
        changes = changes;
        ahead_is = record { is = ap (daylight_ahead standard) (front_is is_of_offset offset (44 ∷ changes) back.bytes refl) ∙ back.ahead; in_range = range.0 };
        comma = behind_is is_of_offset offset (44 ∷ changes) back.bytes refl;
        changes_are = changes_back d.begins d.ends range.1 range.2;
      };
    }

-- ---- the whole

part_stops : (standard : ℤ) (name : List ℕ) (d : Option Daylight) → IsDaylightName name d → Stops is_of_offset (daylight_part standard name d)
part_stops standard name None is = tt
part_stops standard name (Some d) is =
    subst (Stops is_of_offset) (sym (daylight_is standard name d)) (name_stops name _ is)

part_back : (standard : ℤ) (name : List ℕ) (d : Option Daylight) → IsDaylightName name d → IsDaylight d → IsDaylightPart standard (daylight_part standard name d) name d
part_back standard name None is range = (refl, is)
part_back standard name (Some d) is range = daylight_back standard name d is range

pub zone_back : (standard daylight : List ℕ) (rule : ZoneRule) → AreNames standard daylight rule.daylight → IsRule rule → IsZoneText (zone_text standard daylight rule) standard daylight rule
zone_back standard daylight rule names range =
    let small = neg_in_range rule.standard range.standard in
    let offset = hour_text (neg_ℤ rule.standard) in
    let part = daylight_part rule.standard daylight rule.daylight in
    let bytes = hour_of_offset (neg_ℤ rule.standard) small in
    let stops = part_stops rule.standard daylight rule.daylight names.daylight_is in
    record {
      after_name = offset ++ part;
      rest = part;
      name_is = subst (λ (l : List ℕ). IsZoneName l standard (offset ++ part)) (sym (append_assoc (zone_name_text standard) offset part))
          (name_back standard (offset ++ part) names.standard_is (offset_stops offset part bytes (hour_some (neg_ℤ rule.standard) small)));
      ahead_is = record { is = ap written_ahead (front_is is_of_offset offset part bytes stops) ∙ ahead_back rule.standard range.standard; in_range = range.standard };
      behind = behind_is is_of_offset offset part bytes stops;
      daylight_is = part_back rule.standard daylight rule.daylight names.daylight_is range.daylight;
    }
