use Rattle.std.proofs.Common.{◌≡◌, ℤ, of_z, to_z, w64, arith, ap, subst, sym, ◌∙◌}
use Rattle.std.proofs.lemmas.Int.{to_z-of_z}
use Rattle.chrono_datetime.specs.Moment.{Moment}
use Rattle.chrono_instant.specs.Instants.{epoch_second}
use Rattle.zoned_rules.specs.Recurs.{IsInstanceAt, RecursWithin}
use Rattle.zoned_rules.proofs.PublicCalls.{decided}
use Rattle.zoned_rules.proofs.zoned_rule.ZonedRule.is_instance.Goals as goal

pub returns : goal.returns
returns g c =
    let r = c.args.self.now.local in
    let ahead = g.Z.TimeZone.ahead c.args.self.now.zone in
    let bound = c.args.self.now.bound in
    let m = c.args.instant.utc in
    let same : c.naive_utc-utc.result ≡ m = c.naive_utc-utc.ensures in
    let fraction : c.naive_utc-utc.result.time.fraction ≡ m.time.fraction = ap (λ (q : Moment). q.time.fraction) same in
    let whole : m.time.fraction ≡ 0 = omega (arith, fraction, c.nanosecond.ensures.value, c.if-nanosecond-gt0.false) in
    let at : to_z w64 (of_z w64 c.timestamp.result) ≡ epoch_second m = to_z-of_z w64 c.timestamp.result (record { sfits = c.timestamp.type_inv }) ∙ c.timestamp.ensures.value ∙ ap epoch_second same in
    decided c.recurs_at.result (IsInstanceAt r ahead bound m)
    (λ h. (whole, subst (λ (x : ℤ). RecursWithin r ahead bound x) at (c.recurs_at.ensures.yes h)))
    (λ h f. c.recurs_at.ensures.no h (subst (λ (x : ℤ). RecursWithin r ahead bound x) (sym at) f.1))
