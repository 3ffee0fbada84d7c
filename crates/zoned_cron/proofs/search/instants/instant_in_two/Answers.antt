use Rattle.std.proofs.Common.{◌≡◌, ℤ, ◌-ℤ◌, of_z, to_z, w64, subst, sym, ◌∙◌}
use Rattle.std.proofs.lemmas.Int.{to_z-of_z}
use Rattle.chrono_instant.specs.Instants.{epoch_second}
use Rattle.zoned_cron.specs.Private.{IsInTwo}
use Rattle.zoned_cron.proofs.Stretches.{if_three}
use Rattle.zoned_cron.proofs.TwoStretches.{shows_in_two}
use Rattle.zoned_cron.proofs.search.instants.instant_in_two.Goals as goal

pub from_local_and_offset-requires : goal.from_local_and_offset-requires
from_local_and_offset-requires g c =
    let ahead = g.Z.TimeZone.ahead c.args.zone in
    let h = c.args.first.now in
    let k = c.args.next.now in
    let l = epoch_second c.args.planned in
    let o = c.in_ok-offset.offset in
    let at : to_z w64 (of_z w64 c.timestamp.result) ≡ l = to_z-of_z w64 c.timestamp.result (record { sfits = c.timestamp.type_inv }) ∙ c.timestamp.ensures.value in
    let two : IsInTwo h k l (l -ℤ o) = subst (λ (x : ℤ). IsInTwo h k x (x -ℤ o)) at c.in_ok-offset.ensures in
    shows_in_two ahead h k l (l -ℤ o) c.requires.first c.requires.next c.requires.at two

pub returns : goal.returns
returns g c =
    let h = c.args.first.now in
    let k = c.args.next.now in
    let l = epoch_second c.args.planned in
    let o = c.in_ok-offset.offset in
    let at : to_z w64 (of_z w64 c.timestamp.result) ≡ l = to_z-of_z w64 c.timestamp.result (record { sfits = c.timestamp.type_inv }) ∙ c.timestamp.ensures.value in
    let two : IsInTwo h k l (l -ℤ o) = subst (λ (x : ℤ). IsInTwo h k x (x -ℤ o)) at c.in_ok-offset.ensures in
    let made = c.from_local_and_offset.ensures in
    if_three c.from_local_and_offset.result made.second made.fraction made.local (λ d second fraction local.
    record { local = local; fraction = fraction; two = subst (λ (x : ℤ). IsInTwo h k l x) (sym second) two })
