use Rattle.std.proofs.Common.{ℤ, of_z, to_z, w64, subst, ◌≡◌, ◌∙◌}
use Rattle.std.proofs.lemmas.Int.{to_z-of_z}
use Rattle.chrono_instant.specs.Instants.{epoch_second}
use Rattle.zoned_cron.specs.Private.{Outlasts}
use Rattle.zoned_cron.proofs.Settled.{next_held}
use Rattle.zoned_cron.proofs.schedule.ZonedSchedule.first_behind.Goals as goal

pub returns-in-Some-settled_beyond : goal.returns-in-Some-settled_beyond
returns-in-Some-settled_beyond g c =
    let held = c.args.held in
    let start = epoch_second c.args.start in
    let at : to_z w64 (of_z w64 c.timestamp.result) ≡ start = to_z-of_z w64 c.timestamp.result (record { sfits = c.timestamp.type_inv }) ∙ c.timestamp.ensures.value in
    next_held g.Z.TimeZone.ahead c.args.self.now held c.args.start c.args.planned c.in-Some-settled_beyond.found c.requires.held c.requires.begun
    (subst (λ (x : ℤ). Outlasts held x) at (c.outlasts.ensures c.if-outlasts.true)) c.requires.next c.in-Some-settled_beyond.ensures
