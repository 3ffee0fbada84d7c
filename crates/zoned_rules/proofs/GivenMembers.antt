-- The iterator over the instants of a set: what is left of it grows less, and what it gives comes in order.
use Rattle.std.proofs.Common.{◌≡◌, ◌<◌, ℤ, pos, ◌-ℤ◌, Option, Some, None, IfSome, List, [], ◌∷◌, MatchOption, unsigned_abs, arith, ap, subst, sym, ◌∙◌}
use Rattle.std.specs.Prelude.{⊤}
use Rattle.std.specs.Iterator.{Drains, MakesProgress}
use Rattle.chrono_datetime.specs.Moment.{IsBefore, IsMoment}
use Rattle.chrono_datetime.proofs.Signed.{casts}
use Rattle.chrono_instant.specs.Instants.{epoch_second}
use Rattle.chrono_zoned.specs.HeldSeconds.{HoldsAt}
use Rattle.chrono_zoned.specs.Zoned.{Zoned}
use Rattle.chrono_zoned.proofs.HeldSecondLemmas.{later_second}
use Rattle.zoned_rules.specs.ZonedInstanceLists.{seconds_until_end}
use Rattle.zoned_rules.specs.ZonedMemberLists.{AreZonedMembers, GivesMember, HasSecond, IsNextMember, zoned_members_left}
use Rattle.zoned_rules.specs.declared.zoned_recurrence.ZonedRecurrence.{ZonedRecurrence}
use Rattle.zoned_rules.specs.declared.search.zoned_members.ZonedMembers.{ZonedMembers}

pub goes_on : {Z : Type 0} (ahead : Z → ℤ → ℤ) (set : ZonedRecurrence Z) (it : ZonedMembers Z) (start : Zoned Z) (given : Option (Zoned Z)) → it.last ≡ Some start → IsMoment start.utc → IfSome given (λ d. HoldsAt (HasSecond ahead set) d.utc) → IfSome given (λ d. IsBefore start.utc d.utc) → MakesProgress (λ _. ⊤) (zoned_members_left {Z = Z}) it given (record { set = it.set; last = given })
goes_on ahead set it start None was is found later = record { on = λ _. tt; keeps = tt; rests = λ _. tt }
goes_on {Z} ahead set it start (Some d) was is found later =
    let lt = later_second start.utc d.utc is later found.0 in
    let fewer : unsigned_abs (pos 8_210_266_876_799 -ℤ epoch_second d.utc) < unsigned_abs (pos 8_210_266_876_799 -ℤ epoch_second start.utc) = omega (arith, casts, lt, found.1.included.has_dates.utc.1) in
    let less : seconds_until_end (Some d) < seconds_until_end it.last = subst (λ (o : Option (Zoned Z)). seconds_until_end (Some d) < seconds_until_end o) (sym was) fewer in
    record { on = λ _. (tt, tt, less); keeps = tt; rests = λ _. tt }

-- what a call gave is the next instant after the last one
first_of : {Z : Type 0} (ahead : Z → ℤ → ℤ) (z : ZonedRecurrence Z) (it rest : ZonedMembers Z) (start : Zoned Z) (given : Option (Zoned Z)) → it.set ≡ z → it.last ≡ Some start → GivesMember ahead it given rest → IsNextMember ahead z start.utc given
first_of {Z} ahead z it rest start given is was step =
    subst (λ (y : ZonedRecurrence Z). IsNextMember ahead y start.utc given) is
    (subst (λ (o : Option (Zoned Z)). MatchOption o (given ≡ None) (λ d. IsNextMember ahead it.set d.utc given)) was step.next)

pub given_in_order : {Z : Type 0} (ahead : Z → ℤ → ℤ) (z : ZonedRecurrence Z) (it : ZonedMembers Z) (start : Zoned Z) (given : List (Zoned Z)) → it.set ≡ z → it.last ≡ Some start → Drains (GivesMember ahead) it given → AreZonedMembers ahead z start.utc given
given_in_order {Z} ahead z it start [] is was h =
    let same : it ≡ h.1.0 = h.1.1 in
    first_of ahead z h.1.0 h.0 start None (ap (λ (i : ZonedMembers Z). i.set) (sym same) ∙ is) (ap (λ (i : ZonedMembers Z). i.last) (sym same) ∙ was) h.1.2
given_in_order ahead z it start (d ∷ rest) is was h =
    let step = h.1.1.1 in
    (first_of ahead z it h.1.1.0 start (Some d) is was step, given_in_order ahead z h.1.1.0 d rest (step.kept ∙ is) step.moved (h.0, (h.1.0, h.1.1.2, h.1.2)))
