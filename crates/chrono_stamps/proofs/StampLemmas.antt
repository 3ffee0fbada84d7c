-- The instant of a local time and an offset, and the parts of an RFC 3339 text.
use Rattle.std.proofs.Common.{◌≡◌, inl, inr, ℕ, ℤ, ◌-ℤ◌, List, ◌∷◌, ◌++◌, take, drop, Option, Some, Result, Ok, Err, IfOk, refl, sym, ap, subst, ◌∙◌, append_assoc, arith}
use Rattle.std.specs.Prelude.{IsSomeAnd, get_or}
use Rattle.std.specs.Result.{result_ok}
use Rattle.std.proofs.lemmas.Option.{same_Some}
use Rattle.std.proofs.lemmas.Int.{ints}
use Rattle.chrono_datetime.specs.Moment.{Moment, moment}
use Rattle.chrono_datetime.specs.Time.{TimeOfDay}
use Rattle.chrono_instant.specs.Instants.{IsEpochSecond, epoch_second}
use Rattle.chrono_instant.specs.Offsets.{moment_ahead}
use Rattle.chrono_zoned.specs.declared.mapped_local_time.MappedLocalTime.{MappedLocalTime}
use Rattle.chrono_zoned.specs.declared.mapped_local_time.MappedLocalTime.TheVariants.{None as NoInstant, Single, Ambiguous}
use Rattle.chrono_zoned.specs.Zones.{single_of}
use Rattle.chrono_zoned.specs.Zoned.{AreLocal, Zoned}
use Rattle.chrono_stamps.specs.Rfc3339.{IsRfc3339Text}
use Rattle.chrono_text.proofs.TextLemmas.{front_is}

-- what is known of the instant that is found
abbrev pub IsFound : Moment → ℤ → Zoned ℤ → Type 0
IsFound m x d = (moment_ahead d.utc d.zone ≡ m) × (d.zone ≡ x)

-- a clock of a fixed offset shows a local time once
pub one_instant : (m : Moment) (x : ℤ) (found : MappedLocalTime (Zoned ℤ)) → IsEpochSecond (epoch_second m -ℤ x) → AreLocal (λ offset _. offset) x m found → IsSomeAnd (single_of found) (IsFound m x)
one_instant m x NoInstant there h = absurd (h.0 (epoch_second m -ℤ x) (there, omega (arith, ints)))
one_instant m x (Single d) there h = (ap (moment_ahead d.utc) h.1.zone ∙ h.1.shown, h.1.zone)
one_instant m x (Ambiguous c d) there h =
    let earlier = (h.0.1 (epoch_second c.utc)).1 (inl refl) in
    let later = (h.0.1 (epoch_second d.utc)).1 (inr refl) in
    absurd (omega (arith, ints, h.0.0, earlier.1, later.1))

-- the first ten bytes are the date
pub stamp_parts : (text : List ℕ) (m : Moment) (x : ℤ) (is : IsRfc3339Text text m x) → (take 10 text ≡ is.date) × (drop 10 text ≡ is.separator ∷ (is.time ++ is.offset))
stamp_parts text m x is =
    front_is text is.date (is.separator ∷ (is.time ++ is.offset)) 10 is.year_has_four_digits (sym (append_assoc is.date (is.separator ∷ is.time) is.offset) ∙ is.written)

pub stamp_cut : (text front rest behind : List ℕ) (sep : ℕ) (m : Moment) (x : ℤ) (is : IsRfc3339Text text m x) → front ≡ take 10 text → rest ≡ drop 10 text → rest ≡ sep ∷ behind → (front ≡ is.date) × (sep ≡ is.separator) × (is.time ++ is.offset ≡ behind)
stamp_cut text front rest behind sep m x is f r e =
    let parts = stamp_parts text m x is in
    let whole : sep ∷ behind ≡ is.separator ∷ (is.time ++ is.offset) = sym e ∙ r ∙ parts.1 in
    (f ∙ parts.0, ap (λ (l : List ℕ). get_or l 0 0) whole, sym (ap (λ (l : List ℕ). drop 1 l) whole))

-- a value that was read has what every such value has
pub from_ok : {A : Type 0} {E : Type 0} (P : A → Type 0) (r : Result A E) (x : A) → Some x ≡ result_ok r → IfOk r P → P x
from_ok P (Ok y) x e h = subst P (sym (same_Some x y e)) h
from_ok P (Err f) x e h = absurd cc

-- a date, a time and an offset that were read
pub found : (m new : Moment) (x offset date : ℤ) (time : TimeOfDay) → new ≡ moment date time → date ≡ m.date → time ≡ m.time → offset ≡ x → ◌≡◌ {A = Option (Moment × ℤ)} (Some (new, offset)) (Some (m, x))
found m new x offset date time made d t o =
    let same : new ≡ m = made ∙ ap (λ n. moment n time) d ∙ ap (λ u. moment m.date u) t in
    ap (λ (n : Moment). Some (n, offset)) same ∙ ap (λ (y : ℤ). Some (m, y)) o
