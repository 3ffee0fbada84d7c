-- What the changes of one year tell of a second in it.
use Rattle.std.proofs.Common.{◌≡◌, ℤ, pos, ◌+ℤ◌, ◌-ℤ◌, ◌≤ℤ◌, ◌<ℤ◌, true, false, ◌&&◌, int_le, inl, inr, refl, sym, ap, subst, ◌∙◌, arith}
use Rattle.std.specs.Prelude.{int_lt}
use Rattle.std.proofs.lemmas.Bool.{true≢false}
use Rattle.std.proofs.lemmas.Int.{ints}
use Rattle.chrono_clock.proofs.TimeLemmas.{int_le-above, int_le-below}
use Rattle.chrono_calendar.proofs.Signed.{signed}
use Rattle.zone_rule.specs.Changes.{last_by}
use Rattle.zone_rule.specs.Private.{AreInOrder, IsTurn, IsYearly}
use Rattle.zone_rule.specs.declared.turn.Turn.{Turn}
use Rattle.zone_rule.proofs.LastChanges.{last_by-before, last_by-same}
use Rattle.zone_rule.proofs.NextChanges.{ahead}

rising : (f : ℤ → ℤ) → IsYearly f → (y : ℤ) → f y <ℤ f (y +ℤ pos 1)
rising f yearly y = let apart = yearly y in omega (arith, signed, apart)

before : (f : ℤ → ℤ) → IsYearly f → (y : ℤ) → (f (y -ℤ pos 1) +ℤ pos 28_771_200) ≤ℤ f y
before f yearly y =
    let same : f (y -ℤ pos 1 +ℤ pos 1) ≡ f y = ap f (omega (arith, signed)) in
    let apart = yearly (y -ℤ pos 1) in
    omega (arith, signed, same, apart)

-- where the change of the year before has come, and that of the year has not, it is the next one
next_is : (f : ℤ → ℤ) → IsYearly f → (y s : ℤ) → f (y -ℤ pos 1) ≤ℤ s → (z : ℤ) → s <ℤ f z → f y ≤ℤ f z
next_is f yearly y s come z later =
    let same : f (y -ℤ pos 1 +ℤ pos 1) ≡ f y = ap f (omega (arith, signed)) in
    subst (λ (x : ℤ). x ≤ℤ f z) same (ahead f (rising f yearly) (y -ℤ pos 1) s come z later)

last_is : (f : ℤ → ℤ) → IsYearly f → (y s : ℤ) → f y ≤ℤ s → s <ℤ f (y +ℤ pos 1) → f y ≡ last_by f y s
last_is f yearly y s come later = last_by-same f y s (f (y +ℤ pos 1)) (f y) refl later refl come

-- or that of the year before is the last one
last_was : (f : ℤ → ℤ) → IsYearly f → (y s : ℤ) → f (y -ℤ pos 1) ≤ℤ s → s <ℤ f y → f (y -ℤ pos 1) ≡ last_by f y s
last_was f yearly y s come later =
    let rise = rising f yearly y in
    last_by-before f y s (f (y +ℤ pos 1)) (f y) (f (y -ℤ pos 1)) refl (omega (arith, signed, rise, later)) refl later refl come

-- the second lies before both changes of its year
pub turn_before : (f g : ℤ → ℤ) (y s : ℤ) (t : Turn) → IsYearly f → IsYearly g → AreInOrder f g → (f y +ℤ pos 5_529_600) <ℤ g y → (g y -ℤ pos 28_771_200) ≤ℤ s → s <ℤ f y → t.is_first ≡ false → t.next ≡ f y → IsTurn f g y s t
turn_before f g y s t yearly other order apart near lt is next =
    let back = before f yearly y in
    let back_other = before g other y in
    let come : f (y -ℤ pos 1) ≤ℤ s = omega (arith, signed, back, apart, near) in
    let come_other : g (y -ℤ pos 1) ≤ℤ s = omega (arith, signed, back_other, near) in
    let last = last_was f yearly y s come lt in
    let last_other = last_was g other y s come_other (omega (arith, signed, lt, apart)) in
    let sooner = order y (y -ℤ pos 1) apart in
    record {
      first = λ same. absurd (true≢false (sym same ∙ is));
      last = λ _. omega (arith, signed, last, last_other, sooner);
      later = omega (arith, signed, lt, next);
      comes = (y, inl (sym next));
      soonest = λ z. (
        λ after. let first = next_is f yearly y s come z after in omega (arith, signed, next, first),
        λ after. let first = next_is g other y s come_other z after in omega (arith, signed, next, first, apart),
      );
    }

-- between them
pub turn_between : (f g : ℤ → ℤ) (y s : ℤ) (t : Turn) → IsYearly f → IsYearly g → g y <ℤ (f y +ℤ pos 28_771_200) → f y ≤ℤ s → s <ℤ g y → t.is_first ≡ true → t.next ≡ g y → IsTurn f g y s t
turn_between f g y s t yearly other near le lt is next =
    let ahead_f = yearly y in
    let back = before g other y in
    let come : g (y -ℤ pos 1) ≤ℤ s = omega (arith, signed, back, near, le) in
    let last = last_is f yearly y s le (omega (arith, signed, ahead_f, near, lt)) in
    let last_other = last_was g other y s come lt in
    record {
      first = λ _. omega (arith, signed, last, last_other, back, near);
      last = λ same. absurd (true≢false (sym is ∙ same));
      later = omega (arith, signed, lt, next);
      comes = (y, inr (sym next));
      soonest = λ z. (
        λ after. let first = ahead f (rising f yearly) y s le z after in omega (arith, signed, next, first, ahead_f, near),
        λ after. let first = next_is g other y s come z after in omega (arith, signed, next, first),
      );
    }

-- and behind both
pub turn_behind : (f g : ℤ → ℤ) (y s : ℤ) (t : Turn) → IsYearly f → IsYearly g → AreInOrder f g → (f y +ℤ pos 5_529_600) <ℤ g y → g y ≤ℤ s → s <ℤ (f y +ℤ pos 28_771_200) → t.is_first ≡ false → t.next ≡ f (y +ℤ pos 1) → IsTurn f g y s t
turn_behind f g y s t yearly other order apart le near is next =
    let ahead_f = yearly y in
    let ahead_g = other y in
    let come : f y ≤ℤ s = omega (arith, signed, apart, le) in
    let last = last_is f yearly y s come (omega (arith, signed, ahead_f, near)) in
    let last_other = last_is g other y s le (omega (arith, signed, ahead_g, apart, near)) in
    let sooner = order y (y +ℤ pos 1) apart in
    record {
      first = λ same. absurd (true≢false (sym same ∙ is));
      last = λ _. omega (arith, signed, last, last_other, apart);
      later = omega (arith, signed, ahead_f, near, next);
      comes = (y +ℤ pos 1, inl (sym next));
      soonest = λ z. (
        λ after. let first = ahead f (rising f yearly) y s come z after in omega (arith, signed, next, first),
        λ after. let first = ahead g (rising g other) y s le z after in omega (arith, signed, next, first, sooner),
      );
    }

-- ---- what the tests say

pub is_before : (x u : ℤ) → int_lt x u ≡ true → x <ℤ u
is_before x u h = grind (arith, ints)

pub not_before : (x u : ℤ) → int_lt x u ≡ false → u ≤ℤ x
not_before x u h = grind (arith, ints)

pub is_first : (came comes second : ℤ) → came ≤ℤ second → int_lt second comes ≡ true → (int_le came second && int_lt second comes) ≡ true
is_first came comes second le lt = let test = int_le-below came second le in rw (test, lt) refl

pub not_yet : (came comes second : ℤ) → second <ℤ came → (int_le came second && int_lt second comes) ≡ false
not_yet came comes second lt = let test = int_le-above came second lt in rw test refl

pub no_more : (came comes second : ℤ) → came ≤ℤ second → int_lt second comes ≡ false → (int_le came second && int_lt second comes) ≡ false
no_more came comes second le past = let test = int_le-below came second le in rw (test, past) refl
