use Rattle.std.proofs.Common.{◌≡◌, of_z, to_z, w64, arith, ap, subst, sym, ◌∙◌}
use Rattle.std.proofs.lemmas.Int.{to_z-of_z}
use Rattle.chrono_datetime.specs.Moment.{Moment}
use Rattle.chrono_instant.specs.Instants.{epoch_second}
use Rattle.chrono_zoned.specs.HeldSeconds.{HoldsAt}
use Rattle.zoned_rules.specs.ZonedSets.{IsInZonedSet}
use Rattle.zoned_rules.proofs.PublicCalls.{decided}
use Rattle.zoned_rules.proofs.zoned_recurrence.ZonedRecurrence.is_instance.Goals as goal

pub returns : goal.returns
returns g c =
    let r = c.args.self.now.rule.local in
    let ahead = g.Z.TimeZone.ahead c.args.self.now.rule.zone in
    let bound = c.args.self.now.rule.bound in
    let dates = c.args.self.now.dates.now in
    let exceptions = c.args.self.now.exceptions.now in
    let m = c.args.instant.utc in
    let same : c.naive_utc-utc.result ≡ m = c.naive_utc-utc.ensures in
    let fraction : c.naive_utc-utc.result.time.fraction ≡ m.time.fraction = ap (λ (q : Moment). q.time.fraction) same in
    let whole : m.time.fraction ≡ 0 = omega (arith, fraction, c.nanosecond.ensures.value, c.if-nanosecond-gt0.false) in
    let at : to_z w64 (of_z w64 c.timestamp.result) ≡ epoch_second m = to_z-of_z w64 c.timestamp.result (record { sfits = c.timestamp.type_inv }) ∙ c.timestamp.ensures.value ∙ ap epoch_second same in
    decided c.has_second.result (HoldsAt (IsInZonedSet r ahead bound dates exceptions) m)
    (λ h. (whole, subst (IsInZonedSet r ahead bound dates exceptions) at (c.has_second.ensures.yes h)))
    (λ h f. c.has_second.ensures.no h (subst (IsInZonedSet r ahead bound dates exceptions) (sym at) f.1))
