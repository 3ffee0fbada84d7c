use Rattle.std.proofs.Common.{◌≡◌, ℤ, of_z, to_z, w64, arith, subst, sym}
use Rattle.std.proofs.lemmas.Bool.{both_ways}
use Rattle.std.proofs.lemmas.Int.{ints, to_z-of_z}
use Rattle.chrono_instant.specs.Instants.{epoch_second}
use Rattle.zoned_rules.specs.LocalInstants.{HasDates}
use Rattle.zoned_rules.specs.Private.{IsStoodFor}
use Rattle.zoned_rules.proofs.Reached.{back_at_none, back_at_one, recurs_at_one, renamed_reach_back}
use Rattle.zoned_rules.proofs.SecondsAgain.{lies_before}
use Rattle.zoned_rules.proofs.zoned_rule.ZonedRule.instant_before.Goals.{else-second-end-via-then-second-end+else-has_dates, else-second-end-via-else-second-end}
use Rattle.zoned_rules.proofs.zoned_rule.ZonedRule.instant_before.Goals as goal

pub returns-then-has_dates-clause-recurs : goal.returns-then-has_dates-clause-recurs
returns-then-has_dates-clause-recurs g c =
    let r = c.args.self.now.local in
    let ahead = g.Z.TimeZone.ahead c.args.self.now.zone in
    let x = c.second_of-second.result in
    let back : to_z w64 (of_z w64 x) ≡ x = to_z-of_z w64 x (record { sfits = c.second_of-second.type_inv }) in
    let dates = subst (λ (k : ℤ). HasDates ahead k) back (c.has_dates.ensures.0 c.if-has_dates.true) in (
      lies_before c.args.end (to_z w64 (of_z w64 c.args.end)) x _ (to_z-of_z w64 c.args.end c.ranges.end) back c.if-second-end.true,
      subst (λ (k : ℤ). IsStoodFor r ahead k) (sym back) (recurs_at_one r ahead c.args.local x c.requires c.second_of-second.ensures.stands dates),
    )

pub returns-then-has_dates-clause-only : goal.returns-then-has_dates-clause-only
returns-then-has_dates-clause-only g c =
    let r = c.args.self.now.local in
    let ahead = g.Z.TimeZone.ahead c.args.self.now.zone in
    let x = c.second_of-second.result in
    let back : to_z w64 (of_z w64 x) ≡ x = to_z-of_z w64 x (record { sfits = c.second_of-second.type_inv }) in
    renamed_reach_back r ahead c.args.end (epoch_second c.args.local) x (to_z w64 (of_z w64 x)) (sym back) (back_at_one r ahead c.args.end (epoch_second c.args.local) x c.second_of-second.ensures.stands)

pub returns-else-second-end-clause-only : goal.returns-else-second-end-clause-only
returns-else-second-end-clause-only g c =
    let r = c.args.self.now.local in
    let ahead = g.Z.TimeZone.ahead c.args.self.now.zone in
    let x = c.second_of-second.result in
    let back : to_z w64 (of_z w64 x) ≡ x = to_z-of_z w64 x (record { sfits = c.second_of-second.type_inv }) in
    let end : to_z w64 (of_z w64 c.args.end) ≡ c.args.end = to_z-of_z w64 c.args.end c.ranges.end in
    back_at_none r ahead c.args.end (epoch_second c.args.local) x c.second_of-second.ensures.stands (λ lt dates.
    elim c.else-second-end.branch [
      | else-second-end-via-then-second-end+else-has_dates w ↦
          absurd (both_ways w.has_dates.result w.if-has_dates.false (w.has_dates.ensures.1 (subst (λ (k : ℤ). HasDates ahead k) (sym back) dates)))
      | else-second-end-via-else-second-end w ↦ absurd (omega (arith, ints, lt, back, end, w.if-second-end.false))
    ])
