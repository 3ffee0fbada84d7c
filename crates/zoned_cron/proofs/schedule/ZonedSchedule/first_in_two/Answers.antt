use Rattle.std.proofs.Common.{◌≡◌, rules, inl, inr, ℤ, ◌+ℤ◌, ◌-ℤ◌, SFits, of_z, to_z, w64, ap, refl, sym, ◌∙◌}
use Rattle.std.proofs.lemmas.Int.{to_z-of_z}
use Rattle.std.proofs.lemmas.Option.{IfSome_then}
use Rattle.chrono_instant.specs.Instants.{epoch_second}
use Rattle.zoned_cron.proofs.TwoStretches.{more_of, most_of, next_in_two, not_again}
use Rattle.zoned_cron.proofs.schedule.ZonedSchedule.first_in_two.Goals as goal

pub returns-then-held-second : goal.returns-then-held-second
returns-then-held-second g c =
    let z = c.args.self.now in
    let h = c.args.held.now in
    let k = c.from_second-next.result in
    let start = c.args.start in
    let until_fits : SFits w64 h.until = search rules in
    let until : to_z w64 (of_z w64 h.until) ≡ h.until = to_z-of_z w64 h.until until_fits in
    let at : k.from ≡ h.until = c.from_second-next.ensures.from ∙ until in
    let second : to_z w64 (of_z w64 c.timestamp-second.result) ≡ epoch_second start = to_z-of_z w64 c.timestamp-second.result (record { sfits = c.timestamp-second.type_inv }) ∙ c.timestamp-second.ensures.value in
    let past = most_of _ _ k.from (epoch_second start) (until ∙ sym at) second c.if-held-second.true in
    IfSome_then c.instant_in_two.result c.instant_in_two.ensures (λ d once.
    next_in_two g.Z.TimeZone.ahead z h k k.offset start c.in-Some.planned d c.requires.held c.from_second-next.ensures.held at c.requires.begun (inr (past, refl)) c.in-Some.ensures once)

pub returns : goal.returns
returns g c =
    let z = c.args.self.now in
    let h = c.args.held.now in
    let k = c.from_second-next.result in
    let start = c.args.start in
    let until_fits : SFits w64 h.until = search rules in
    let until : to_z w64 (of_z w64 h.until) ≡ h.until = to_z-of_z w64 h.until until_fits in
    let at : k.from ≡ h.until = c.from_second-next.ensures.from ∙ until in
    let second : to_z w64 (of_z w64 c.timestamp-second.result) ≡ epoch_second start = to_z-of_z w64 c.timestamp-second.result (record { sfits = c.timestamp-second.type_inv }) ∙ c.timestamp-second.ensures.value in
    let early = more_of _ _ k.from (epoch_second start) (until ∙ sym at) second c.if-held-second.false in
    let again : to_z w64 (of_z w64 c.shown_again-again.result) ≡ (epoch_second start +ℤ h.offset -ℤ k.offset) =
    to_z-of_z w64 c.shown_again-again.result (record { sfits = c.shown_again-again.type_inv }) ∙ c.shown_again-again.ensures ∙ ap (λ (x : ℤ). x +ℤ h.offset -ℤ k.offset) second in
    let turned = not_again k.from h.offset k.offset (epoch_second start) (more_of _ _ k.from (epoch_second start +ℤ h.offset -ℤ k.offset) (until ∙ sym at) again c.if-held-again.false) in
    IfSome_then c.instant_in_two-2.result c.instant_in_two-2.ensures (λ d once.
    next_in_two g.Z.TimeZone.ahead z h k h.offset start c.args.planned d c.requires.held c.from_second-next.ensures.held at c.requires.begun (inl (early, refl, turned)) c.requires.next once)
