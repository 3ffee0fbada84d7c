-- A column that is filled block by block, and a block of texts that is filled by names.
use Rattle.std.proofs.Common.{◌≡◌, ◌∙◌, ℕ, ◌-◌, ◌<◌, ◌≤◌, ℤ, pos, List, [], ◌++◌, length, take, map, get_or, ap, sym, arith}
use Rattle.std.proofs.lemmas.List.{ext_get_or, get_or-map, length-map, map-append, take-append-drop, take-take, take_at}
use Rattle.std.proofs.lemmas.List.Edits.{length-between}
use Rattle.std.proofs.lemmas.Slice.{between_is, take-put_mid}
use Rattle.std.specs.List.{between}
use borrow.Rule.Slice.PartMut.{put_mid}
use Rattle.chrono_columns.specs.Columns.{name_text_entry, text_entry, year_entry, month_entry, day_entry}
use Rattle.chrono_columns.proofs.TextEntries.{small-named, text-named}

-- the elements up to e are those up to a, and those between
take_on : (xs : List ℤ) (a e : ℕ) → a ≤ e → take a xs ++ between a e xs ≡ take e xs
take_on xs a e h = rw (between_is xs a e, ← take-take a e xs h) (take-append-drop a (take e xs))

-- one block more is written
pub block-written : (dates : List ℤ) (texts ys : List (List ℕ)) (a e : ℕ) → a ≤ e → e ≤ length dates → length texts ≡ length dates
    → take a texts ≡ map text_entry (take a dates) → ys ≡ map text_entry (between a e dates) → take e (put_mid a (e - a) texts ys) ≡ map text_entry (take e dates)
block-written dates texts ys a e begun end long before now =
    let count : length ys ≡ e - a = ap (λ (l : List (List ℕ)). length l) now ∙ length-map (between a e dates) text_entry ∙ length-between dates a e end in
    take-put_mid a (e - a) texts ys e (omega (arith, begun, count)) (omega (arith, begun, end, long))
    ∙ rw (before, now) (sym (map-append text_entry (take a dates) (between a e dates)))
    ∙ ap (λ l. map text_entry l) (take_on dates a e begun)

-- the front of a room, once it is filled
pub front-filled : {X : Type 0} (n : ℕ) (now rest all : List X) → now ≡ all → length all ≡ n → take n (now ++ rest) ≡ all
front-filled n now rest all e long = take_at now rest n (rw e long) ∙ e

-- the names of the date at a place
pub record Named (dates years : List ℤ) (months days : List ℕ) (i : ℕ) : Type 0 where
  pub year : get_or years i (pos 0) ≡ year_entry (get_or dates i (pos 0))
  pub month : get_or months i 0 ≡ month_entry (get_or dates i (pos 0))
  pub day : get_or days i 0 ≡ day_entry (get_or dates i (pos 0))

-- the names of dates, place by place
pub named_at : (dates years : List ℤ) (months days : List ℕ) → years ≡ map year_entry dates → months ≡ map month_entry dates → days ≡ map day_entry dates → (i : ℕ) → i < length dates → Named dates years months days i
named_at dates years months days p q r i h = record {
  year = ap (λ l. get_or l i (pos 0)) p ∙ get_or-map year_entry dates i (pos 0) (pos 0) h;
  month = ap (λ l. get_or l i 0) q ∙ get_or-map month_entry dates i (pos 0) 0 h;
  day = ap (λ l. get_or l i 0) r ∙ get_or-map day_entry dates i (pos 0) 0 h;
}

-- so many dates as years
dates_as_years : (dates years : List ℤ) (i : ℕ) → years ≡ map year_entry dates → i < length years → i < length dates
dates_as_years dates years i p h = omega (arith, h, ap (λ (l : List ℤ). length l) p, length-map dates year_entry)

-- the months and the days of dates have two digits
pub names-two_digits : (dates years : List ℤ) (months days : List ℕ) → years ≡ map year_entry dates → months ≡ map month_entry dates → days ≡ map day_entry dates → (i : ℕ) → i < length years → (get_or months i 0 < 100) × (get_or days i 0 < 100)
names-two_digits dates years months days p q r i h =
    let name = named_at dates years months days p q r i (dates_as_years dates years i p h) in
    let small = small-named (get_or dates i (pos 0)) in
    (rw name.month small.0, rw name.day small.1)

-- texts of the names of dates are the texts of the dates
pub names-written : (dates years : List ℤ) (months days : List ℕ) (texts : List (List ℕ)) → years ≡ map year_entry dates → months ≡ map month_entry dates → days ≡ map day_entry dates → length texts ≡ length dates
    → ((i : ℕ) → i < length years → get_or texts i [] ≡ name_text_entry (get_or years i (pos 0)) (get_or months i 0) (get_or days i 0)) → texts ≡ map text_entry dates
names-written dates years months days texts p q r long each =
    ext_get_or [] texts (map text_entry dates) (long ∙ sym (length-map dates text_entry))
    (λ i h.
    let here : i < length dates = omega (arith, h, long) in
    let within : i < length years = omega (arith, here, ap (λ (l : List ℤ). length l) p, length-map dates year_entry) in
    let name = named_at dates years months days p q r i here in
    each i within ∙ rw (name.year, name.month, name.day) (text-named (get_or dates i (pos 0))) ∙ sym (get_or-map text_entry dates i (pos 0) [] here))
