-- Bytes hold one zone at most.
use Rattle.std.proofs.Common.{◌≡◌, ◌∙◌, ◌-◌, ◌≤◌, ◌<◌, ℕ, ℤ, List, [], ◌∷◌, length, take, get_or, Option, Some, None, inl, inr, refl, sym, ap, arith}
use Rattle.std.proofs.lemmas.List.{ext_get_or, get_or-take, length-take-le}
use Rattle.zone_table.specs.Table.{no_row}
use Rattle.zone_table.specs.declared.row.Row.{Row}
use Rattle.zone_rule.specs.declared.rule.ZoneRule.{ZoneRule}
use Rattle.zone_text.specs.NameTexts.{IsZoneName}
use Rattle.zone_file.specs.Kinds.{IsFileRow}
use Rattle.zone_file.specs.Tables.{AreFileRows}
use Rattle.zone.specs.Parts.{IsFault, IsZone, ZoneParts}
use Rattle.zone.specs.declared.fault.ZoneFault.{ZoneFault}
use Rattle.zone.specs.declared.fault.ZoneFault.TheVariants.{NotJoined, Unordered}
use Rattle.zone_text.specs.ZoneTexts.{IsZoneText}
use Rattle.zone_database.specs.OwnedZones.{IsFooterOf, IsZoneRuleText}
use Rattle.layers_c.specs.Zones.{IsZoneOfRule, zone_of_rule}
use Rattle.layers_c.specs.ZoneFaults.{IsPartsReason, IsTextReason}
use Rattle.layers_c.specs.declared.zone_bytes.NoZone.{NoZone}
use Rattle.layers_c.specs.declared.zone_bytes.NoZone.TheVariants.{File, FirstKind, Rows, Rule, Parts}

-- parts with a fault make up no zone
pub faulty : (z : ZoneParts) (f : ZoneFault) → IsFault z f → IsZone z → ⊥
faulty z (Unordered k) is zone = is.fails (zone.table (k - 1) (omega (arith, is.in_range, is.not_first)))
faulty z NotJoined is zone = is.1 zone.joined

-- no name stands in an empty text
no_name : (name rest : List ℕ) → IsZoneName [] name rest → ⊥
no_name name rest is = elim is.form [
  | inl plain ↦ let long = is.long in let short : length name ≡ 0 = ap length (sym plain.front) in omega (arith, long, short)
  | inr quoted ↦ let none = ap length quoted.opens in omega (arith, none)
]

-- so it writes no rule
pub no_rule : (rule : ZoneRule) → IsZoneRuleText [] rule → ⊥
no_rule rule is = no_name is.standard is.written.after_name is.written.name_is

pub no_footer : (footer : List ℕ) → footer ≡ [] → (r : Option ZoneRule) → IsFooterOf footer r → None ≡ r
no_footer footer none None is = refl
no_footer footer none (Some rule) is = absurd (no_rule rule (rw none at is))

-- a file has one row at a place
same_row : (version : ℕ) (times places kinds : List ℕ) (k : ℕ) (a b : Row) → IsFileRow version times places kinds k a → IsFileRow version times places kinds k b → a ≡ b
same_row version times places kinds k a b one other =
    let second : a.second ≡ b.second = sym one.second ∙ other.second in
    let offset : a.offset ≡ b.offset = sym one.offset.is ∙ other.offset.is in
    ap (λ s. record { second = s; offset = a.offset }) second ∙ ap (λ o. record { second = b.second; offset = o }) offset

pub same_rows : (version : ℕ) (times places kinds : List ℕ) (n : ℕ) (xs ys : List Row) → AreFileRows version times places kinds n xs → n ≤ length xs
    → AreFileRows version times places kinds n ys → length ys ≡ n → take n xs ≡ ys
same_rows version times places kinds n xs ys ours within theirs all =
    let long : length (take n xs) ≡ n = length-take-le n xs within in
    ext_get_or no_row (take n xs) ys (long ∙ sym all)
    (λ k lt. let below : k < n = omega (arith, long, lt) in
    get_or-take n xs k no_row below ∙ same_row version times places kinds k (get_or xs k no_row) (get_or ys k no_row) (ours k below) (theirs k below))

pub same_parts : (a b : ZoneParts) → a.first ≡ b.first → a.rows ≡ b.rows → a.rule ≡ b.rule → a ≡ b
same_parts a b first rows rule =
    ap (λ x. record { first = x; rows = a.rows; rule = a.rule }) first
    ∙ ap (λ x. record { first = b.first; rows = x; rule = a.rule }) rows
    ∙ ap (λ x. record { first = b.first; rows = b.rows; rule = x }) rule

-- a text that writes no rule is no footer either, unless it is empty
pub not_footer : (footer : List ℕ) → (footer ≡ [] → ⊥) → ((standard daylight : List ℕ) (rule : ZoneRule) → IsZoneText footer standard daylight rule → ⊥)
    → (r : Option ZoneRule) → IsFooterOf footer r → ⊥
not_footer footer some none None is = some is
not_footer footer some none (Some rule) is = none is.standard is.daylight rule is.written

-- a text that is not empty is the footer of its rule alone
pub only_footer : (footer : List ℕ) (rule : ZoneRule) → (footer ≡ [] → ⊥)
    → ((standard daylight : List ℕ) (r : ZoneRule) → IsZoneText footer standard daylight r → rule ≡ r) → (r : Option ZoneRule) → IsFooterOf footer r → Some rule ≡ r
only_footer footer rule some every None is = absurd (some is)
only_footer footer rule some every (Some r) is = ap Some (every is.standard is.daylight r is.written)

-- the zone of a rule is the only one that its text writes
pub only_zone : (text : List ℕ) (rows : List Row) (rule : ZoneRule) → length rows ≡ 0
    → ((standard daylight : List ℕ) (r : ZoneRule) → IsZoneText text standard daylight r → rule ≡ r)
    → (z : ZoneParts) → (z ≡ record { first = rule.standard; rows = rows; rule = Some rule }) × IsZone z → (y : ZoneParts) → IsZoneOfRule text y → z ≡ y
only_zone text rows rule none every z is y held =
    let same = every held.written.standard held.written.daylight held.rule held.written.written in
    is.0 ∙ ap (λ l. record { first = rule.standard; rows = l; rule = Some rule }) (no_rows rows none) ∙ ap zone_of_rule same ∙ sym held.is
  where
    no_rows : (rows : List Row) → length rows ≡ 0 → rows ≡ []
    no_rows [] none = refl
    no_rows (row ∷ rest) none = absurd (omega (arith, none))

-- with no row a rule is a zone always
pub text_reason : (text : List ℕ) (first : ℤ) (rows : List Row) (rule : ZoneRule) → length rows ≡ 0 → (why : NoZone)
    → IsPartsReason (record { first = first; rows = rows; rule = Some rule }) why → IsTextReason text why
text_reason text first rows rule none (Parts (Unordered k)) is = let in_range = is.in_range in absurd (omega (arith, none, in_range))
text_reason text first rows rule none (Parts NotJoined) is = absurd (is.1 (λ some. absurd (omega (arith, none, some))))
text_reason text first rows rule none (File _) is = absurd is
text_reason text first rows rule none FirstKind is = absurd is
text_reason text first rows rule none (Rows _) is = absurd is
text_reason text first rows rule none (Rule _ _) is = absurd is
