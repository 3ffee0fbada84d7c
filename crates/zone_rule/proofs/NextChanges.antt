-- The next second at which a rule sets the clock.
use Rattle.std.proofs.Common.{◌≡◌, ℕ, zero, suc, Bool, cond, ℤ, pos, negsuc, ◌+ℤ◌, ◌-ℤ◌, ◌*ℤ◌, ◌≤ℤ◌, ◌<ℤ◌, true, false, inl, inr, refl, sym, ap, subst, ◌∙◌, arith}
use Rattle.std.specs.Int.{int_min}
use Rattle.std.specs.Prelude.{None, Option, Some, int_lt}
use Rattle.std.proofs.lemmas.Bool.{cond_both}
use Rattle.std.proofs.lemmas.Int.{by_lt_z, ints}
use Rattle.chrono_calendar.proofs.Signed.{signed}
use Rattle.chrono_zoned.specs.Offsets.{IsOffset}
use Rattle.chrono_zoned.specs.Zones.{HoldsUntil}
use Rattle.zone_rule.specs.Changes.{IsChange, IsNextOf, YearlyChange, change_second, last_by, year_of_second}
use Rattle.zone_rule.specs.Rules.{IsNextSetting, IsSetAt, IsSetBy, IsSteadyUntil, ahead_by, is_daylight, rule_offset}
use Rattle.zone_rule.specs.declared.rule.Daylight.{Daylight}
use Rattle.zone_rule.specs.declared.rule.ZoneRule.{ZoneRule}
use Rattle.zone_rule.proofs.LastChanges.{last_by-some}
use Rattle.zone_rule.proofs.LastOfAll.{change_second-later, last_change, rises}
use Rattle.zone_rule.proofs.RuleCycles.{change_second-again}

-- no change after u comes before that of the year after w, if that of w has come
pub ahead : (f : ℤ → ℤ) → ((y : ℤ) → f y <ℤ f (y +ℤ pos 1)) → (w u : ℤ) → f w ≤ℤ u → (z : ℤ) → u <ℤ f z → f (w +ℤ pos 1) ≤ℤ f z
ahead f later w u come z next = by_lt_z w z
    (λ (lt : w <ℤ z). rises f later (w +ℤ pos 1) z (z -ℤ (w +ℤ pos 1)) refl (omega (arith, signed, lt)))
    (λ (le : z ≤ℤ w). let rise = rises f later z w (w -ℤ z) refl le in absurd (omega (arith, signed, rise, next, come)))

pub next_in : (offset : ℤ) (c : YearlyChange) (u y t : ℤ) → IsChange c → t ≡ change_second offset c y → u <ℤ t → change_second offset c (y -ℤ pos 1) ≤ℤ u → IsNextOf (change_second offset c) u t
next_in offset c u y t is at later come =
    let same : change_second offset c (y -ℤ pos 1 +ℤ pos 1) ≡ t = ap (change_second offset c) (omega (arith, signed)) ∙ sym at in
    record {
      later = later;
      comes = (y, sym at);
      first = λ z next. subst (λ (x : ℤ). x ≤ℤ change_second offset c z) same (ahead (change_second offset c) (λ w. change_second-later offset c w is.day) (y -ℤ pos 1) u come z next);
    }

-- ---- the same after whole cycles of 400 years

cycles_later : (offset : ℤ) (c : YearlyChange) (n : ℕ) (y z : ℤ) → z ≡ y +ℤ pos n *ℤ pos 400 → change_second offset c z ≡ change_second offset c y +ℤ pos n *ℤ pos 12_622_780_800
cycles_later offset c zero y z e =
    let same : change_second offset c z ≡ change_second offset c y = ap (change_second offset c) (omega (arith, signed, e)) in
    omega (arith, signed, same)
cycles_later offset c (suc n) y z e =
    let front = cycles_later offset c n y (y +ℤ pos n *ℤ pos 400) refl in
    let step = change_second-again offset c (y +ℤ pos n *ℤ pos 400) in
    let same : change_second offset c (y +ℤ pos n *ℤ pos 400 +ℤ pos 400) ≡ change_second offset c z = ap (change_second offset c) (omega (arith, signed, e)) in
    omega (arith, signed, front, step, same)

cycles_away : (offset : ℤ) (c : YearlyChange) (q y z : ℤ) → z ≡ y +ℤ q *ℤ pos 400 → change_second offset c z ≡ change_second offset c y +ℤ q *ℤ pos 12_622_780_800
cycles_away offset c (pos n) y z e = cycles_later offset c n y z e
cycles_away offset c (negsuc n) y z e =
    let back = cycles_later offset c (suc n) z y (omega (arith, signed, e)) in
    omega (arith, signed, back)

set_away : (offset : ℤ) (d : Daylight) (q t r : ℤ) → r ≡ t +ℤ q *ℤ pos 12_622_780_800 → IsSetBy offset (Some d) t → IsSetBy offset (Some d) r
set_away offset d q t r e (y, inl is) = (y +ℤ q *ℤ pos 400, inl (cycles_away offset d.begins q y (y +ℤ q *ℤ pos 400) refl ∙ ap (λ (x : ℤ). x +ℤ q *ℤ pos 12_622_780_800) is ∙ sym e))
set_away offset d q t r e (y, inr is) = (y +ℤ q *ℤ pos 400, inr (cycles_away d.offset d.ends q y (y +ℤ q *ℤ pos 400) refl ∙ ap (λ (x : ℤ). x +ℤ q *ℤ pos 12_622_780_800) is ∙ sym e))

set_back : (offset : ℤ) (d : Daylight) (q t r : ℤ) → r ≡ t -ℤ q *ℤ pos 12_622_780_800 → IsSetBy offset (Some d) t → IsSetBy offset (Some d) r
set_back offset d q t r e (y, inl is) =
    let far = cycles_away offset d.begins q (y -ℤ q *ℤ pos 400) y (omega (arith, signed)) in
    (y -ℤ q *ℤ pos 400, inl (omega (arith, signed, far, is, e)))
set_back offset d q t r e (y, inr is) =
    let far = cycles_away d.offset d.ends q (y -ℤ q *ℤ pos 400) y (omega (arith, signed)) in
    (y -ℤ q *ℤ pos 400, inr (omega (arith, signed, far, is, e)))

-- the rule sets the clock next after a place in the cycle as it does q cycles later
pub setting_away : (offset : ℤ) (d : Daylight) (q s place t r : ℤ) → s ≡ place +ℤ q *ℤ pos 12_622_780_800 → r ≡ t +ℤ q *ℤ pos 12_622_780_800 → IsNextSetting (record { standard = offset; daylight = Some d }) place t → IsNextSetting (record { standard = offset; daylight = Some d }) s r
setting_away offset d q s place t r e is next =
    let later = next.later in
    record {
      later = omega (arith, signed, e, is, later);
      sets = set_away offset d q t r is next.sets;
      first = λ v after sets.
          let least = next.first (v -ℤ q *ℤ pos 12_622_780_800) (omega (arith, signed, e, after)) (set_back offset d q v (v -ℤ q *ℤ pos 12_622_780_800) refl sets) in
          omega (arith, signed, is, least);
    }

-- ---- the sooner of two changes

earlier : (offset : ℤ) (d : Daylight) (s b e t : ℤ) → IsNextOf (change_second offset d.begins) s b → IsNextOf (change_second d.offset d.ends) s e → t ≤ℤ b → t ≤ℤ e → (v : ℤ) → s <ℤ v → IsSetBy offset (Some d) v → t ≤ℤ v
earlier offset d s b e t begins ends by_b by_e v later (y, inl is) =
    let first = begins.first y (subst (λ (x : ℤ). s <ℤ x) (sym is) later) in
    omega (arith, signed, by_b, first, is)
earlier offset d s b e t begins ends by_b by_e v later (y, inr is) =
    let first = ends.first y (subst (λ (x : ℤ). s <ℤ x) (sym is) later) in
    omega (arith, signed, by_e, first, is)

min_second : (b e : ℤ) → e <ℤ b → int_min b e ≡ e
min_second b e lt = let test : int_lt e b ≡ true = grind (arith, ints) in rw test refl

min_first : (b e : ℤ) → b ≤ℤ e → int_min b e ≡ b
min_first b e le = let test : int_lt e b ≡ false = grind (arith, ints) in rw test refl

pub sooner : (offset : ℤ) (d : Daylight) (s b e : ℤ) → IsNextOf (change_second offset d.begins) s b → IsNextOf (change_second d.offset d.ends) s e → IsNextSetting (record { standard = offset; daylight = Some d }) s (int_min b e)
sooner offset d s b e begins ends = by_lt_z e b
    (λ (lt : e <ℤ b). rw (min_second b e lt) (record {
      later = ends.later;
      sets = (ends.comes.0, inr ends.comes.1);
      first = earlier offset d s b e e begins ends (omega (arith, signed, lt)) (omega (arith, signed));
    }))
    (λ (le : b ≤ℤ e). rw (min_first b e le) (record {
      later = begins.later;
      sets = (begins.comes.0, inl begins.comes.1);
      first = earlier offset d s b e b begins ends (omega (arith, signed)) le;
    }))

-- ---- until then the clock stays as it is

last_same : (offset : ℤ) (c : YearlyChange) (s t u : ℤ) → IsChange c → IsOffset offset → ((y : ℤ) → s <ℤ change_second offset c y → t ≤ℤ change_second offset c y) → s ≤ℤ u → u <ℤ t → last_by (change_second offset c) (year_of_second u) u ≡ last_by (change_second offset c) (year_of_second s) s
last_same offset c s t u is near none from to =
    let f : ℤ → ℤ = change_second offset c in
    let now : ℤ = last_by f (year_of_second u) u in
    let then : ℤ = last_by f (year_of_second s) s in
    let at_u = last_change offset c u is near in
    let at_s = last_change offset c s is near in
    let front : now ≤ℤ then = last_by-some f (year_of_second u) u (λ (x : ℤ). x ≤ℤ u → x ≤ℤ then)
    (λ w by. by_lt_z s (f w)
    (λ (lt : s <ℤ f w). let past = none w lt in absurd (omega (arith, signed, past, by, to)))
    (λ (le : f w ≤ℤ s). at_s.1 w le))
    at_u.0 in
    let back : then ≤ℤ now = last_by-some f (year_of_second s) s (λ (x : ℤ). x ≤ℤ u → x ≤ℤ now) at_u.1 (omega (arith, signed, from, at_s.0)) in
    omega (arith, signed, front, back)

-- daylight time holds as it does at s
pub holds_until : (offset : ℤ) (d : Daylight) (s t : ℤ) → IsChange d.begins → IsChange d.ends → IsOffset offset → IsOffset d.offset → IsNextSetting (record { standard = offset; daylight = Some d }) s t → (u : ℤ) → s ≤ℤ u → u <ℤ t → is_daylight offset d u ≡ is_daylight offset d s
unfolding is_daylight
holds_until offset d s t begins ends near far next u from to =
    let begun = last_same offset d.begins s t u begins near (λ y later. next.first (change_second offset d.begins y) later (y, inl refl)) from to in
    let ended = last_same d.offset d.ends s t u ends far (λ y later. next.first (change_second d.offset d.ends y) later (y, inr refl)) from to in
    rw (begun, ended) refl

pub is_steady : (offset : ℤ) (d : Daylight) (s t : ℤ) → IsChange d.begins → IsChange d.ends → IsOffset offset → IsOffset d.offset → IsNextSetting (record { standard = offset; daylight = Some d }) s t → IsSteadyUntil (record { standard = offset; daylight = Some d }) s t
is_steady offset d s t begins ends near far next u from to =
    ap (λ (b : Bool). cond b d.offset offset) (holds_until offset d s t begins ends near far next u from to)

-- each offset of a rule is one of its two
pub offsets_near : (offset : ℤ) (d : Daylight) → IsOffset offset → IsOffset d.offset → (u : ℤ) → IsOffset (ahead_by offset (Some d) u)
offsets_near offset d near far u = cond_both (is_daylight offset d u) d.offset offset (λ (x : ℤ). IsOffset x) (λ _. far) (λ _. near)

pub all_near : (r : ZoneRule) (d : Daylight) → r.daylight ≡ Some d → IsOffset r.standard → IsOffset d.offset → (u : ℤ) → IsOffset (rule_offset r u)
all_near r d is near far u = subst (λ (o : Option Daylight). IsOffset (ahead_by r.standard o u)) (sym is) (offsets_near r.standard d near far u)

-- until the rule sets the clock its offset holds
pub steady_holds : (r : ZoneRule) (d : Daylight) (s t until : ℤ) → r.daylight ≡ Some d → IsSteadyUntil (record { standard = r.standard; daylight = Some d }) s t → until ≤ℤ t → HoldsUntil (rule_offset r) s until
steady_holds r d s t until is steady le u from to =
    subst (λ (o : Option Daylight). ahead_by r.standard o u ≡ ahead_by r.standard o s) (sym is) (steady u from (omega (arith, signed, to, le)))

-- where there is no daylight time, standard time holds
pub always_standard : (r : ZoneRule) → r.daylight ≡ None → (u : ℤ) → rule_offset r u ≡ r.standard
always_standard r is u = ap (λ (o : Option Daylight). ahead_by r.standard o u) is

-- and the rule sets the clock at no second
pub never_set : (r : ZoneRule) → r.daylight ≡ None → (t : ℤ) → IsSetAt r t → ⊥
never_set r is t sets = subst (λ (o : Option Daylight). IsSetBy r.standard o t) is sets

-- where there is, its settings are the rule's
pub set_by : (r : ZoneRule) (d : Daylight) (t u : ℤ) → r.daylight ≡ Some d → u ≡ t → IsSetBy r.standard (Some d) t → IsSetAt r u
set_by r d t u is same sets = subst (λ (x : ℤ). IsSetAt r x) (sym same) (subst (λ (o : Option Daylight). IsSetBy r.standard o t) (sym is) sets)

pub first_set : (r : ZoneRule) (d : Daylight) (s next until : ℤ) → r.daylight ≡ Some d → IsNextSetting (record { standard = r.standard; daylight = Some d }) s next → until ≤ℤ next → (t : ℤ) → IsSetAt r t → s <ℤ t → until ≤ℤ t
first_set r d s next until is at most t sets later =
    let least = at.first t later (subst (λ (o : Option Daylight). IsSetBy r.standard o t) is sets) in
    omega (arith, signed, most, least)

-- the offset of the time that holds is the rule's
pub offset_is : (r : ZoneRule) (d : Daylight) (s here : ℤ) (holds : Bool) (o : ℤ) → r.daylight ≡ Some d → here ≡ s → holds ≡ is_daylight r.standard d here → o ≡ cond holds d.offset r.standard → o ≡ rule_offset r s
offset_is r d s here holds o is same told shown =
    shown ∙ ap (λ (b : Bool). cond b d.offset r.standard) (told ∙ ap (is_daylight r.standard d) same) ∙ ap (λ (x : Option Daylight). ahead_by r.standard x s) (sym is)

pub next_setting : (r : ZoneRule) (d : Daylight) (s here t next : ℤ) → r.daylight ≡ Some d → here ≡ s → next ≡ (s +ℤ t) → IsNextSetting (record { standard = r.standard; daylight = Some d }) here (here +ℤ t) → IsNextSetting r s next
next_setting r d s here t next is at later h =
    let there : IsNextSetting (record { standard = r.standard; daylight = Some d }) s (s +ℤ t) = subst (λ (x : ℤ). IsNextSetting (record { standard = r.standard; daylight = Some d }) x (x +ℤ t)) at h in
    let by : IsNextSetting (record { standard = r.standard; daylight = r.daylight }) s (s +ℤ t) = subst (λ (o : Option Daylight). IsNextSetting (record { standard = r.standard; daylight = o }) s (s +ℤ t)) (sym is) there in
    subst (λ (x : ℤ). IsNextSetting r s x) (sym later) by

pub far_holds : (r : ZoneRule) (d : Daylight) (s t until : ℤ) (holds : Bool) → r.daylight ≡ Some d → s <ℤ t → ((u : ℤ) → s ≤ℤ u → u <ℤ t → is_daylight r.standard d u ≡ holds) → until ≤ℤ t → HoldsUntil (rule_offset r) s until
far_holds r d s t until holds is later far past = steady_holds r d s t until is (λ u from before. ap (λ (b : Bool). cond b d.offset r.standard) (far u from before ∙ sym (far s (omega (arith, ints)) later))) past
