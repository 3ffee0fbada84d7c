-- A file holds one zone at most.
use Rattle.std.proofs.Common.{◌≡◌, ◌∙◌, ◌≤◌, ℕ, ℤ, Bool, true, false, List, length, take, Option, Result, Ok, Err, IfErr, inl, inr, refl, sym, ap, subst, arith}
use Rattle.std.proofs.lemmas.List.{get_or-take, length-append, length-take-le}
use Rattle.zone_table.specs.Table.{no_row, row_at}
use Rattle.zone_table.specs.declared.row.Row.{Row}
use Rattle.zone_rule.specs.declared.rule.ZoneRule.{ZoneRule}
use Rattle.zone_file.specs.Blocks.{IsBlock}
use Rattle.zone_file.specs.Kinds.{IsFileRow, IsKind}
use Rattle.zone_file.specs.Tables.{AreFileRows, IsRowsError}
use Rattle.zone_file.specs.ZoneFiles.{IsZoneFile}
use Rattle.zone_file.specs.declared.rows.ZoneRowsError.{ZoneRowsError}
use Rattle.zone_file.specs.declared.rows.ZoneRowsError.TheVariants.{NoRoom, NoRow}
use Rattle.zone.specs.Parts.{IsZone, ZoneParts}
use Rattle.zone_database.specs.OwnedZones.{IsFileWith, IsFooterOf, IsZoneOfFile}
use Rattle.layers_c.specs.Zones.{IsZoneOfShortFile, is_of_file}
use Rattle.layers_c.specs.ZoneFaults.{IsFileReason, IsPartsReason, IsReason, IsTextReason, HasByteWithin}
use Rattle.layers_c.specs.declared.zone_bytes.NoZone.{NoZone}
use Rattle.layers_c.specs.declared.zone_bytes.NoZone.TheVariants.{File, FirstKind, Rows, Rule, Parts}
use Rattle.layers_c.proofs.ZoneLemmas.{same_parts, same_rows}

-- why there is no value, told of something else
pub if_err : {T E : Type 0} (r : Result T E) (P Q : E → Type 0) → ((e : E) → P e → Q e) → IfErr r P → IfErr r Q
if_err (Ok x) P Q then h = tt
if_err (Err e) P Q then h = then e h

-- a block lies within its bytes, and so does what stands behind it
rest-within : (size : ℕ) (bytes header times places kinds names rest : List ℕ) → IsBlock size bytes header times places kinds names rest → length rest ≤ length bytes
rest-within size bytes header times places kinds names rest is =
    let whole = ap length is.written in
    let body = ap length is.data_is.written in
    omega (arith, length-append {A = ℕ}, whole, body)

-- so does the footer
footer-within : (bytes : List ℕ) (version : ℕ) (times places kinds names footer : List ℕ) → IsZoneFile bytes version times places kinds names footer → length footer ≤ length bytes
footer-within bytes version times places kinds names footer file = elim file.parts [
  | inl first ↦ let none = ap length first.1.no_footer in omega (arith, none)
  | inr later ↦
      let block = later.1.block.block in
      let outer = rest-within 4 bytes file.header file.first_times file.first_places file.first_kinds file.first_names file.rest file.first in
      let inner = rest-within 8 file.rest later.1.block.header times places kinds names later.1.behind block in
      let ends = ap length later.1.ends in
      omega (arith, length-append {A = ℕ}, outer, inner, ends)
]

-- the byte of a reason is none behind the bytes
file_reason-within : (bytes : List ℕ) (why : NoZone) → IsFileReason bytes why → HasByteWithin (length bytes) why
file_reason-within bytes (File error) is = is.1
file_reason-within bytes FirstKind is = tt
file_reason-within bytes (Rows _) is = tt
file_reason-within bytes (Rule start error) is =
    let footer = footer-within bytes is.version is.times is.places is.kinds is.names is.footer is.file in
    let begins = is.is.begins in
    let within = is.is.within in
    omega (arith, footer, begins, within)
file_reason-within bytes (Parts _) is = tt

text_reason-within : (text : List ℕ) (why : NoZone) → IsTextReason text why → HasByteWithin (length text) why
text_reason-within text (Rule start error) is = omega (arith, is.1.0, is.1.1)
text_reason-within text (File _) is = absurd is
text_reason-within text FirstKind is = absurd is
text_reason-within text (Rows _) is = absurd is
text_reason-within text (Parts _) is = absurd is

pub reason-within : (bytes : List ℕ) (why : NoZone) → IsReason bytes why → HasByteWithin (length bytes) why
reason-within bytes why is = by-cases (is_of_file bytes) refl
  where
    by-cases : (b : Bool) → is_of_file bytes ≡ b → HasByteWithin (length bytes) why
    by-cases true of_file = file_reason-within bytes why (is.file of_file)
    by-cases false no_file = text_reason-within bytes why (is.text no_file)

-- what a zone has of the parts of a file
pub record IsOfParts (version : ℕ) (times places kinds names footer : List ℕ) (zone : ZoneParts) : Type 0 where
  pub is_dst : Bool
  pub first_name : List ℕ
  pub first : IsKind kinds names 0 zone.first is_dst first_name
  pub count : length zone.rows ≡ length places
  pub rows : AreFileRows version times places kinds (length places) zone.rows
  pub rule : IsFooterOf footer zone.rule

module _ (bytes : List ℕ) (version : ℕ) (times places kinds names footer : List ℕ) where
  -- these are the only parts of the bytes
  abbrev pub AreOnlyParts : Type 0
  AreOnlyParts = (v : ℕ) (t p k n f : List ℕ) → IsZoneFile bytes v t p k n f
      → (version ≡ v) × (times ≡ t) × (places ≡ p) × (kinds ≡ k) × (names ≡ n) × (footer ≡ f)

  pub of_parts : AreOnlyParts → (y : ZoneParts) → IsZoneOfFile bytes y → IsOfParts version times places kinds names footer y
  of_parts only y held =
      let e = only held.version held.times held.places held.kinds held.names held.footer held.file in
      record {
        is_dst = held.is_dst;
        first_name = held.first_name;
        first = rw (← e.3, ← e.4) at held.first;
        count = rw (← e.2) at held.count;
        rows = rw (← e.0, ← e.1, ← e.2, ← e.3) at held.rows;
        rule = rw (← e.5) at held.rule;
      }

  -- the first rows of a room are those of the file
  pub rows_taken : (n : ℕ) (room : List Row) → AreFileRows version times places kinds n room → AreFileRows version times places kinds n (take n room)
  rows_taken n room are k lt = subst (λ (row : Row). IsFileRow version times places kinds k row) (sym (get_or-take n room k no_row lt)) (are k lt)

  -- what the parts that were read make up
  pub of_file : (first : ℤ) (is_dst : Bool) (name : List ℕ) (room : List Row) (n : ℕ) (rule : Option ZoneRule)
      → IsZoneFile bytes version times places kinds names footer → IsKind kinds names 0 first is_dst name → n ≡ length places → n ≤ length room
      → AreFileRows version times places kinds n room → IsFooterOf footer rule → IsZoneOfFile bytes (record { first = first; rows = take n room; rule = rule })
  of_file first is_dst name room n rule file kind count within rows written =
      let long : length (take n room) ≡ n = length-take-le n room within in
      record {
        version = version;
        times = times;
        places = places;
        kinds = kinds;
        names = names;
        footer = footer;
        file = file;
        is_dst = is_dst;
        first_name = name;
        first = kind;
        count = long ∙ count;
        rows = subst (λ m. AreFileRows version times places kinds m (take n room)) count (rows_taken n room rows);
        rule = written;
      }

  -- a fault of those is one of the file
  pub faulty_parts : (z : ZoneParts) → IsZoneOfFile bytes z → (why : NoZone) → IsPartsReason z why → IsFileReason bytes why
  faulty_parts z held (Parts fault) is = record { zone = z; held = held; faulty = is }
  faulty_parts z held (File _) is = absurd is
  faulty_parts z held FirstKind is = absurd is
  faulty_parts z held (Rows _) is = absurd is
  faulty_parts z held (Rule _ _) is = absurd is

  -- a file of these parts is one of which P is true
  pub file_with : (P : ℕ → List ℕ → List ℕ → List ℕ → List ℕ → List ℕ → Type 0) → IsZoneFile bytes version times places kinds names footer
      → P version times places kinds names footer → IsFileWith bytes P
  file_with P file is = record {
    version = version;
    times = times;
    places = places;
    kinds = kinds;
    names = names;
    footer = footer;
    file = file;
    is = is;
  }

  -- the zone of the parts that were read
  pub held_zone : (first : ℤ) (is_dst : Bool) (name : List ℕ) (room : List Row) (n : ℕ) (rule : Option ZoneRule)
      → IsZoneFile bytes version times places kinds names footer → IsKind kinds names 0 first is_dst name → n ≡ length places → n ≤ length room
      → length room ≡ 512 → AreFileRows version times places kinds n room → IsFooterOf footer rule
      → (z : ZoneParts) → (z ≡ record { first = first; rows = take n room; rule = rule }) × IsZone z → IsZoneOfShortFile bytes z
  held_zone first is_dst name room n rule file kind count within all rows written z is =
      let long : length (take n room) ≡ n = length-take-le n room within in
      subst (λ (y : ZoneParts). IsZoneOfShortFile bytes y) (sym is.0) (record {
        file = of_file first is_dst name room n rule file kind count within rows written;
        zone_is = subst IsZone is.0 is.1;
        few = omega (arith, long, within, all);
      })

  -- no other zone is held
  pub only_parts : AreOnlyParts → (first : ℤ) (room : List Row) (n : ℕ) (rule : Option ZoneRule)
      → ((x : ℤ) (d : Bool) (name : List ℕ) → IsKind kinds names 0 x d name → first ≡ x) → n ≡ length places → n ≤ length room
      → AreFileRows version times places kinds n room → ((r : Option ZoneRule) → IsFooterOf footer r → rule ≡ r)
      → (y : ZoneParts) → IsZoneOfShortFile bytes y → record { first = first; rows = take n room; rule = rule } ≡ y
  only_parts only first room n rule kind count within rows written y held =
      let p = of_parts only y held.file in
      let theirs = subst (λ m. AreFileRows version times places kinds m y.rows) (sym count) p.rows in
      same_parts (record { first = first; rows = take n room; rule = rule }) y
      (kind y.first p.is_dst p.first_name p.first)
      (same_rows version times places kinds n room y.rows rows within theirs (p.count ∙ sym count))
      (written y.rule p.rule)

  -- nor is one where a row is missing, or where there are too many
  pub no_rows : AreOnlyParts → (room : ℕ) (e : ZoneRowsError) → room ≡ 512 → IsRowsError version times places kinds room e
      → (y : ZoneParts) → IsZoneOfShortFile bytes y → ⊥
  no_rows only room (NoRoom n) all error y held =
      let p = of_parts only y held.file in
      omega (arith, all, error.0, error.1, p.count, held.few)
  no_rows only room (NoRow k) all error y held =
      let p = of_parts only y held.file in
      error.1 (row_at y.rows k) (p.rows k error.0)
