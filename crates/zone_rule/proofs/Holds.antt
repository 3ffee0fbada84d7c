-- Whether daylight time holds, and when it begins or ends next, where two changes tell it.
use Rattle.std.proofs.Common.{◌≡◌, ℤ, ◌<ℤ◌, ◌≤ℤ◌, Bool, true, false, not, int_le, inl, inr, ⊎_elim, refl, sym, subst, ◌∙◌, arith}
use Rattle.std.specs.Prelude.{Some}
use Rattle.chrono_clock.proofs.TimeLemmas.{int_le-above, int_le-below}
use Rattle.chrono_calendar.proofs.Signed.{signed}
use Rattle.zone_rule.specs.Changes.{change_second, last_by, year_of_second}
use Rattle.zone_rule.specs.Private.{AreInOrder, AreKnown, IsTurn, IsYearly}
use Rattle.zone_rule.specs.Rules.{IsNextSetting, IsSetBy, is_daylight}
use Rattle.zone_rule.specs.declared.rule.Daylight.{Daylight}
use Rattle.zone_rule.specs.declared.turn.Turn.{Turn}
use Rattle.zone_rule.proofs.LastChanges.{is_daylight-by}
use Rattle.zone_rule.proofs.LastOfAll.{change_second-apart, changes_in_order}

-- the changes of daylight time are yearly ones, and in order

pub begins_yearly : (offset : ℤ) (d : Daylight) → AreKnown offset d → IsYearly (change_second offset d.begins)
begins_yearly offset d known y = change_second-apart offset d.begins y known.begins.day

pub ends_yearly : (offset : ℤ) (d : Daylight) → AreKnown offset d → IsYearly (change_second d.offset d.ends)
ends_yearly offset d known y = change_second-apart d.offset d.ends y known.ends.day

pub begins_in_order : (offset : ℤ) (d : Daylight) → AreKnown offset d → AreInOrder (change_second offset d.begins) (change_second d.offset d.ends)
begins_in_order offset d known y z = changes_in_order offset d.offset d.begins d.ends y z known.begins.day known.ends.day

pub ends_in_order : (offset : ℤ) (d : Daylight) → AreKnown offset d → AreInOrder (change_second d.offset d.ends) (change_second offset d.begins)
ends_in_order offset d known y z = changes_in_order d.offset offset d.ends d.begins y z known.ends.day known.begins.day

-- ---- which came last

pub told : (b : Bool) (x z : ℤ) → (b ≡ true → z <ℤ x) → (b ≡ false → x <ℤ z) → b ≡ int_le z x
told true x z h i = let lt = h refl in sym (int_le-below z x (omega (arith, signed, lt)))
told false x z h i = sym (int_le-above z x (i refl))

pub told_not : (b : Bool) (x z : ℤ) → (b ≡ true → x <ℤ z) → (b ≡ false → z <ℤ x) → not b ≡ int_le z x
told_not true x z h i = sym (int_le-above z x (h refl))
told_not false x z h i = let lt = i refl in sym (int_le-below z x (omega (arith, signed, lt)))

-- daylight time holds if it began last, where its beginning comes first in the year
pub holds_first : (offset : ℤ) (d : Daylight) (y s : ℤ) (t : Turn) → y ≡ year_of_second s → IsTurn (change_second offset d.begins) (change_second d.offset d.ends) y s t → t.is_first ≡ is_daylight offset d s
holds_first offset d y s t is turn =
    let here = subst (λ (z : ℤ). IsTurn (change_second offset d.begins) (change_second d.offset d.ends) z s t) is turn in
    told t.is_first (last_by (change_second offset d.begins) (year_of_second s) s) (last_by (change_second d.offset d.ends) (year_of_second s) s) here.first here.last
    ∙ is_daylight-by offset d s (last_by (change_second d.offset d.ends) (year_of_second s) s) (last_by (change_second offset d.begins) (year_of_second s) s) refl refl

-- and if it did not end last, where its end comes first
pub holds_last : (offset : ℤ) (d : Daylight) (y s : ℤ) (t : Turn) → y ≡ year_of_second s → IsTurn (change_second d.offset d.ends) (change_second offset d.begins) y s t → not t.is_first ≡ is_daylight offset d s
holds_last offset d y s t is turn =
    let here = subst (λ (z : ℤ). IsTurn (change_second d.offset d.ends) (change_second offset d.begins) z s t) is turn in
    told_not t.is_first (last_by (change_second offset d.begins) (year_of_second s) s) (last_by (change_second d.offset d.ends) (year_of_second s) s) here.first here.last
    ∙ is_daylight-by offset d s (last_by (change_second d.offset d.ends) (year_of_second s) s) (last_by (change_second offset d.begins) (year_of_second s) s) refl refl

-- ---- and which comes next

soonest : (offset : ℤ) (d : Daylight) (s next : ℤ) → ((z : ℤ) → (s <ℤ change_second offset d.begins z → next ≤ℤ change_second offset d.begins z) × (s <ℤ change_second d.offset d.ends z → next ≤ℤ change_second d.offset d.ends z)) → (v : ℤ) → s <ℤ v → IsSetBy offset (Some d) v → next ≤ℤ v
soonest offset d s next least v later (z, inl is) = subst (λ (x : ℤ). next ≤ℤ x) is ((least z).0 (subst (λ (x : ℤ). s <ℤ x) (sym is) later))
soonest offset d s next least v later (z, inr is) = subst (λ (x : ℤ). next ≤ℤ x) is ((least z).1 (subst (λ (x : ℤ). s <ℤ x) (sym is) later))

pub next_first : (offset : ℤ) (d : Daylight) (y s : ℤ) (t : Turn) → IsTurn (change_second offset d.begins) (change_second d.offset d.ends) y s t → IsNextSetting (record { standard = offset; daylight = Some d }) s t.next
next_first offset d y s t turn = record { later = turn.later; sets = turn.comes; first = soonest offset d s t.next turn.soonest }

pub next_last : (offset : ℤ) (d : Daylight) (y s : ℤ) (t : Turn) → IsTurn (change_second d.offset d.ends) (change_second offset d.begins) y s t → IsNextSetting (record { standard = offset; daylight = Some d }) s t.next
next_last offset d y s t turn = record {
  later = turn.later;
  sets = (turn.comes.0, ⊎_elim (λ is. inr is) (λ is. inl is) turn.comes.1);
  first = soonest offset d s t.next (λ z. ((turn.soonest z).1, (turn.soonest z).0));
}
