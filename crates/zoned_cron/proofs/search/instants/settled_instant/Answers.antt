use Rattle.std.proofs.Common.{◌≡◌, ℤ, ◌-ℤ◌, of_z, to_z, w64, ap, refl, subst, sym, ◌∙◌}
use Rattle.std.proofs.lemmas.Int.{to_z-of_z}
use Rattle.chrono_instant.specs.Instants.{IsEpochSecond, epoch_second}
use Rattle.zoned_cron.specs.Private.{IsNearADate, Outlasts, Precedes}
use Rattle.zoned_cron.proofs.HeldInstants.{settled_there, shows_there}
use Rattle.zoned_cron.proofs.Stretches.{if_three}
use Rattle.zoned_cron.proofs.search.instants.settled_instant.Goals as goal

pub before-found-requires : goal.before-found-requires
before-found-requires g c =
    subst (λ (x : ℤ). IsEpochSecond x) (sym (to_z-of_z w64 c.timestamp.result (record { sfits = c.timestamp.type_inv }))) c.timestamp.ensures.in_range

pub surrounds-requires : goal.surrounds-requires
surrounds-requires g c =
    subst (λ (x : ℤ). IsNearADate x) (sym (to_z-of_z w64 c.before-found.result (record { sfits = c.before-found.type_inv }))) c.before-found.ensures.in_range

pub from_local_and_offset-requires : goal.from_local_and_offset-requires
from_local_and_offset-requires g c =
    let ahead = g.Z.TimeZone.ahead c.args.zone in
    let held = c.args.held in
    let l = epoch_second c.args.planned in
    let at : to_z w64 (of_z w64 c.timestamp.result) ≡ l = to_z-of_z w64 c.timestamp.result (record { sfits = c.timestamp.type_inv }) ∙ c.timestamp.ensures.value in
    let fits : to_z w64 (of_z w64 c.before-found.result) ≡ c.before-found.result = to_z-of_z w64 c.before-found.result (record { sfits = c.before-found.type_inv }) in
    let is : to_z w64 (of_z w64 c.before-found.result) ≡ (l -ℤ held.offset) = fits ∙ c.before-found.ensures.value ∙ ap (λ (x : ℤ). x -ℤ held.offset) at in
    let begun : Precedes held (l -ℤ held.offset) = subst (λ (x : ℤ). Precedes held x) is (c.surrounds.ensures.begun c.if-surrounds.true) in
    let high : Outlasts held (l -ℤ held.offset) = subst (λ (x : ℤ). Outlasts held x) is (c.surrounds.ensures.high c.if-surrounds.true) in
    shows_there ahead held l (l -ℤ held.offset) c.requires refl begun high

pub returns-then-surrounds : goal.returns-then-surrounds
returns-then-surrounds g c =
    let ahead = g.Z.TimeZone.ahead c.args.zone in
    let held = c.args.held in
    let l = epoch_second c.args.planned in
    let at : to_z w64 (of_z w64 c.timestamp.result) ≡ l = to_z-of_z w64 c.timestamp.result (record { sfits = c.timestamp.type_inv }) ∙ c.timestamp.ensures.value in
    let fits : to_z w64 (of_z w64 c.before-found.result) ≡ c.before-found.result = to_z-of_z w64 c.before-found.result (record { sfits = c.before-found.type_inv }) in
    let is : to_z w64 (of_z w64 c.before-found.result) ≡ (l -ℤ held.offset) = fits ∙ c.before-found.ensures.value ∙ ap (λ (x : ℤ). x -ℤ held.offset) at in
    let begun : Precedes held (l -ℤ held.offset) = subst (λ (x : ℤ). Precedes held x) is (c.surrounds.ensures.begun c.if-surrounds.true) in
    let high : Outlasts held (l -ℤ held.offset) = subst (λ (x : ℤ). Outlasts held x) is (c.surrounds.ensures.high c.if-surrounds.true) in
    let made = c.from_local_and_offset.ensures in
    if_three c.from_local_and_offset.result made.second made.fraction made.local (λ d second fraction local.
    let begun_there : Precedes held (epoch_second d.utc) = subst (λ (x : ℤ). Precedes held x) (sym second) begun in
    let high_there : Outlasts held (epoch_second d.utc) = subst (λ (x : ℤ). Outlasts held x) (sym second) high in
    record { local = local; shows = shows_there ahead held l (epoch_second d.utc) c.requires second begun_there high_there; fraction = fraction; settled = settled_there ahead held (epoch_second d.utc) c.requires begun_there high_there })
