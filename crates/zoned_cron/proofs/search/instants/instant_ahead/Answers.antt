use Rattle.std.proofs.Common.{◌≡◌, ℤ, of_z, to_z, w64, subst, ◌∙◌}
use Rattle.std.proofs.lemmas.Int.{to_z-of_z}
use Rattle.chrono_instant.specs.Instants.{epoch_second}
use Rattle.zoned_cron.specs.Private.{EndsBehind}
use Rattle.zoned_cron.proofs.HeldInstants.{shows_between}
use Rattle.zoned_cron.proofs.Stretches.{if_three}
use Rattle.zoned_cron.proofs.search.instants.instant_ahead.Goals as goal

pub from_local_and_offset-requires : goal.from_local_and_offset-requires
from_local_and_offset-requires g c =
    let held = c.args.held.now in
    let l = epoch_second c.args.planned in
    let at : to_z w64 (of_z w64 c.timestamp.result) ≡ l = to_z-of_z w64 c.timestamp.result (record { sfits = c.timestamp.type_inv }) ∙ c.timestamp.ensures.value in
    let high : EndsBehind held l = subst (λ (x : ℤ). EndsBehind held x) at (c.ends_behind.ensures c.if-ends_behind.true) in
    shows_between (g.Z.TimeZone.ahead c.args.zone) held l c.requires.held c.requires.begun high

pub returns-then-ends_behind : goal.returns-then-ends_behind
returns-then-ends_behind g c =
    let held = c.args.held.now in
    let l = epoch_second c.args.planned in
    let at : to_z w64 (of_z w64 c.timestamp.result) ≡ l = to_z-of_z w64 c.timestamp.result (record { sfits = c.timestamp.type_inv }) ∙ c.timestamp.ensures.value in
    let high : EndsBehind held l = subst (λ (x : ℤ). EndsBehind held x) at (c.ends_behind.ensures c.if-ends_behind.true) in
    let made = c.from_local_and_offset.ensures in
    if_three c.from_local_and_offset.result made.second made.fraction made.local (λ d second fraction local. record { local = local; fraction = fraction; second = second; high = high })
