-- The iterator of the instants: what is left of it grows less, and what it gives comes in order.
use Rattle.std.proofs.Common.{◌≡◌, ◌<◌, ℤ, pos, ◌-ℤ◌, Option, Some, None, IfSome, IfNone, List, [], ◌∷◌, MatchOption, unsigned_abs, arith, ap, refl, subst, sym, ◌∙◌}
use Rattle.std.specs.Prelude.{⊤}
use Rattle.std.specs.Iterator.{Drains, MakesProgress}
use Rattle.chrono_datetime.specs.Moment.{IsBefore, IsMoment, Moment}
use Rattle.chrono_datetime.proofs.Signed.{casts}
use Rattle.chrono_instant.specs.Instants.{epoch_second}
use Rattle.chrono_zoned.specs.Zoned.{Zoned}
use Rattle.chrono_zoned.proofs.HeldSecondLemmas.{later_second}
use Rattle.chrono_cron.specs.declared.field_sets.FieldSets.{FieldSets}
use Rattle.zoned_cron.specs.declared.policy.Policy.{Policy}
use Rattle.zoned_cron.specs.declared.schedule.ZonedSchedule.{ZonedSchedule}
use Rattle.zoned_cron.specs.Fires.{FiresAt, NotFiringAfter, NotFiringBetween}
use Rattle.zoned_cron.specs.FiringLists.{AreFirings, FiringsLeft, GivesNext, IsNextFiring, instants_left, seconds_after}

pub goes_on : {Z : Type 0} (s : FieldSets) (clock : ℤ → ℤ) (p : Policy) (it : FiringsLeft Z) (start : Zoned Z) (r : Option (Zoned Z)) → it.last ≡ Some start → IsMoment start.utc → IfSome r (λ d. FiresAt s clock p d.utc) → IfSome r (λ d. IsBefore start.utc d.utc) → MakesProgress (λ _. ⊤) (instants_left {Z = Z}) it r (record { schedule = it.schedule; last = r })
goes_on s clock p it start None was is fires later = record { on = λ _. tt; keeps = tt; rests = λ _. tt }
goes_on {Z} s clock p it start (Some d) was is fires later =
    let lt = later_second start.utc d.utc is later fires.0 in
    let fewer : unsigned_abs (pos 8_210_266_876_799 -ℤ epoch_second d.utc) < unsigned_abs (pos 8_210_266_876_799 -ℤ epoch_second start.utc) = omega (arith, casts, lt, fires.1.instant.utc.1) in
    let less : seconds_after (Some d) < seconds_after it.last = subst (λ (o : Option (Zoned Z)). seconds_after (Some d) < seconds_after o) (sym was) fewer in
    record { on = λ _. (tt, tt, less); keeps = tt; rests = λ _. tt }

-- the next firing, by what is known of an optional instant
pub next_if : {Z : Type 0} {P Q : Zoned Z → Type 0} (ahead : Z → ℤ → ℤ) (z : ZonedSchedule Z) (start : Moment) (r : Option (Zoned Z)) → IfNone r (NotFiringAfter z.schedule.sets (ahead z.zone) z.policy start) → IfSome r P → IfSome r Q → ((d : Zoned Z) → P d → Q d → IsNextFiring ahead z start (Some d)) → IsNextFiring ahead z start r
next_if ahead z start None none p q f = none
next_if ahead z start (Some d) none p q f = f d p q

pub next_none : {Z : Type 0} (ahead : Z → ℤ → ℤ) (z : ZonedSchedule Z) (start : Moment) (r : Option (Zoned Z)) → r ≡ None → NotFiringAfter z.schedule.sets (ahead z.zone) z.policy start → IsNextFiring ahead z start r
next_none {Z} ahead z start r is none = subst (λ (o : Option (Zoned Z)). IsNextFiring ahead z start o) (sym is) none

-- its parts
pub next_parts : {Z : Type 0} (ahead : Z → ℤ → ℤ) (z : ZonedSchedule Z) (start : Moment) (r : Option (Zoned Z)) → IsNextFiring ahead z start r
    → IfSome r (λ d. FiresAt z.schedule.sets (ahead z.zone) z.policy d.utc) × IfSome r (λ d. d.zone ≡ z.zone) × IfSome r (λ d. IsBefore start d.utc)
    × IfSome r (λ d. NotFiringBetween z.schedule.sets (ahead z.zone) z.policy start d.utc) × IfNone r (NotFiringAfter z.schedule.sets (ahead z.zone) z.policy start)
next_parts ahead z start None h = (tt, tt, tt, tt, h)
next_parts ahead z start (Some d) h = (h.0, h.1, h.2, h.3, tt)

-- what a call gave is the next firing after the last one
first_of : {Z : Type 0} (ahead : Z → ℤ → ℤ) (z : ZonedSchedule Z) (it rest : FiringsLeft Z) (start : Zoned Z) (r : Option (Zoned Z)) → it.schedule ≡ z → it.last ≡ Some start → GivesNext ahead it r rest → IsNextFiring ahead z start.utc r
first_of {Z} ahead z it rest start r is was step =
    subst (λ (y : ZonedSchedule Z). IsNextFiring ahead y start.utc r) is
    (subst (λ (o : Option (Zoned Z)). MatchOption o (r ≡ None) (λ d. IsNextFiring ahead it.schedule d.utc r)) was step.next)

pub given_in_order : {Z : Type 0} (ahead : Z → ℤ → ℤ) (z : ZonedSchedule Z) (it : FiringsLeft Z) (start : Zoned Z) (given : List (Zoned Z)) → it.schedule ≡ z → it.last ≡ Some start → Drains (GivesNext ahead) it given → AreFirings ahead z start.utc given
given_in_order {Z} ahead z it start [] is was h =
    let same : it ≡ h.1.0 = h.1.1 in
    first_of ahead z h.1.0 h.0 start None (ap (λ (i : FiringsLeft Z). i.schedule) (sym same) ∙ is) (ap (λ (i : FiringsLeft Z). i.last) (sym same) ∙ was) h.1.2
given_in_order ahead z it start (d ∷ rest) is was h =
    let step = h.1.1.1 in
    (first_of ahead z it h.1.1.0 start (Some d) is was step, given_in_order ahead z h.1.1.0 d rest (step.kept ∙ is) step.moved (h.0, (h.1.0, h.1.1.2, h.1.2)))

pub given_after : {Z : Type 0} (ahead : Z → ℤ → ℤ) (z : ZonedSchedule Z) (it : FiringsLeft Z) (start : Zoned Z) (given : List (Zoned Z)) → it ≡ record { schedule = z; last = Some start } → Drains (GivesNext ahead) it given → AreFirings ahead z start.utc given
given_after {Z} ahead z it start given is drains =
    given_in_order ahead z it start given (ap (λ (i : FiringsLeft Z). i.schedule) is) (ap (λ (i : FiringsLeft Z). i.last) is) drains

-- a call that found the next firing gives it, where z and `last` are what the iterator has
pub gives_found : {Z : Type 0} (ahead : Z → ℤ → ℤ) (it : FiringsLeft Z) (z : ZonedSchedule Z) (last : Option (Zoned Z)) (start : Zoned Z) (utc : Moment) (r : Option (Zoned Z)) → record { schedule = z; last = last } ≡ it → last ≡ Some start → utc ≡ start.utc → IsNextFiring ahead z utc r → GivesNext ahead it r (record { schedule = z; last = r })
gives_found {Z} ahead it z last start utc r is was same next =
    subst (λ (j : FiringsLeft Z). GivesNext ahead j r (record { schedule = z; last = r })) is (record {
      kept = refl;
      moved = refl;
      next = subst (λ (o : Option (Zoned Z)). MatchOption o (r ≡ None) (λ d. IsNextFiring ahead z d.utc r)) (sym was) (subst (λ (m : Moment). IsNextFiring ahead z m r) same next);
    })

-- and fewer seconds are left
pub goes_found : {Z : Type 0} (ahead : Z → ℤ → ℤ) (it : FiringsLeft Z) (z : ZonedSchedule Z) (last : Option (Zoned Z)) (start : Zoned Z) (utc : Moment) (r : Option (Zoned Z)) → record { schedule = z; last = last } ≡ it → last ≡ Some start → utc ≡ start.utc → IsMoment utc → IsNextFiring ahead z utc r → MakesProgress (λ _. ⊤) (instants_left {Z = Z}) it r (record { schedule = z; last = r })
goes_found {Z} ahead it z last start utc r is was same exists next =
    let parts = next_parts ahead z start.utc r (subst (λ (m : Moment). IsNextFiring ahead z m r) same next) in
    subst (λ (j : FiringsLeft Z). MakesProgress (λ _. ⊤) (instants_left {Z = Z}) j r (record { schedule = z; last = r })) is
    (goes_on z.schedule.sets (ahead z.zone) z.policy (record { schedule = z; last = last }) start r was (subst (λ (m : Moment). IsMoment m) same exists) parts.0 parts.2)
