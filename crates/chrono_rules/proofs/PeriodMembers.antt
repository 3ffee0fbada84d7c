-- The members of a period, by the places of its days.
use Rattle.std.proofs.Common.{◌≡◌, ℕ, ◌+◌, ◌-◌, Bool, true, false, ◌&&◌, ◌||◌, refl, sym, ap, ◌∙◌, arith, ℤ, pos, ◌+ℤ◌, ◌≤ℤ◌, int_le}
use Rattle.chrono_datetime.specs.Recurrence.{count_between}
use Rattle.chrono_datetime.proofs.CountBetween.{count_between-sum}
use Rattle.chrono_datetime.proofs.Signed.{signed}
use Rattle.chrono_sets.specs.FiniteSets.{FiniteSet, has, is_empty}
use Rattle.chrono_sets.proofs.Members.{has-none}
use Rattle.chrono_rules.specs.ByParts.{date_passes, passes}
use Rattle.chrono_rules.specs.Instances.{in_interval, in_positions, is_member, not_after}
use Rattle.chrono_rules.specs.Periods.{period_end, period_first}
use Rattle.chrono_rules.specs.RuleParts.{lacks_positions}
use Rattle.chrono_rules.specs.declared.rule.Rule.{Rule}

has-at : (s : FiniteSet) (b : Bool) (k place : ℕ) → is_empty s ≡ b → (b ≡ false → k ≡ place) → has s place ≡ has s k
has-at s true k place is same = has-none s place is ∙ sym (has-none s k is)
has-at s false k place is same = ap (has s) (sym (same refl))

-- a day that passes is a member if BYSETPOS names one of its places
pub member_at : (r : Rule) (start e : ℤ) (front back : ℕ) → lacks_positions r ≡ false → start ≤ℤ e → passes r start e ≡ true → (is_empty r.positions ≡ false → front ≡ count_between (date_passes r start) (period_first r.frequency r.week_start e) (e +ℤ pos 1)) → (is_empty r.positions_from_end ≡ false → back ≡ count_between (date_passes r start) e (period_end r.frequency r.week_start e)) → is_member r start e ≡ (not_after r.end e && (in_interval r start e && (has r.positions front || has r.positions_from_end back)))
unfolding in_positions is_member
member_at r start e front back named begun is front-is back-is =
    let low : int_le start e ≡ true = grind (arith, signed, begun) in
    let a = has-at r.positions (is_empty r.positions) front _ refl front-is in
    let b = has-at r.positions_from_end (is_empty r.positions_from_end) back _ refl back-is in
    rw (low, is, named, a, b) refl

-- how many days of the period of one pass before a later one, and from it on
pub before_day : (p : ℤ → Bool) (first there day e : ℤ) (before passed : ℕ) → there ≡ first → first ≤ℤ day → day ≤ℤ e → before ≡ count_between p first day → passed ≡ count_between p day e → before + passed ≡ count_between p there e
before_day p first there day e before passed same low le before-is passed-is =
    omega (arith, before-is, passed-is, count_between-sum p first day e low le, ap (λ (m : ℤ). count_between p m e) same)

pub behind_day : (p : ℤ → Bool) (end there day e : ℤ) (left passed : ℕ) → there ≡ end → day ≤ℤ e → e ≤ℤ end → left ≡ count_between p day end → passed ≡ count_between p day e → left - passed ≡ count_between p e there
behind_day p end there day e left passed same le high left-is passed-is =
    omega (arith, left-is, passed-is, count_between-sum p day e end le high, ap (λ (m : ℤ). count_between p e m) same)

-- what one test of three says, once those before it hold
pub by_first : (a b h m : Bool) → m ≡ (a && (b && h)) → a ≡ false → a ≡ m
by_first a b h m is off = off ∙ sym (is ∙ rw off refl)

pub by_second : (a b h m : Bool) → m ≡ (a && (b && h)) → a ≡ true → b ≡ false → b ≡ m
by_second a b h m is on off = off ∙ sym (is ∙ rw (on, off) refl)

pub by_third : (a b h m : Bool) → m ≡ (a && (b && h)) → a ≡ true → b ≡ true → h ≡ m
by_third a b h m is on too = sym (is ∙ rw (on, too) refl)
