use Rattle.std.proofs.Common.{◌≡◌, ℤ, of_z, to_z, w64, subst, sym}
use Rattle.std.proofs.lemmas.Bool.{both_ways}
use Rattle.std.proofs.lemmas.Int.{to_z-of_z}
use Rattle.zoned_rules.specs.LocalInstants.{HasDates}
use Rattle.zoned_rules.proofs.SecondsAgain.{at_least_it, lies_behind, lies_not_behind}
use Rattle.zoned_rules.proofs.listed_instants.second_after.Goals.{else-after-second-via-then-after-second+else-has_dates, else-after-second-via-else-after-second}
use Rattle.zoned_rules.proofs.listed_instants.second_after.Goals as goal

pub returns-then-has_dates-clause-found : goal.returns-then-has_dates-clause-found
returns-then-has_dates-clause-found g c =
    let back : to_z w64 (of_z w64 c.args.second) ≡ c.args.second = to_z-of_z w64 c.args.second c.ranges.second in
    (back, lies_behind c.args.after _ c.args.second _ (to_z-of_z w64 c.args.after c.ranges.after) back c.if-after-second.true, c.has_dates.ensures.0 c.if-has_dates.true)

pub returns-then-has_dates-clause-only : goal.returns-then-has_dates-clause-only
returns-then-has_dates-clause-only g c = λ beside dates. at_least_it c.args.second _ (to_z-of_z w64 c.args.second c.ranges.second)

pub returns-else-after-second-clause-only : goal.returns-else-after-second-clause-only
returns-else-after-second-clause-only g c = λ beside dates.
    let ahead = g.Z.TimeZone.ahead c.args.zone in
    let back : to_z w64 (of_z w64 c.args.second) ≡ c.args.second = to_z-of_z w64 c.args.second c.ranges.second in
    elim c.else-after-second.branch [
      | else-after-second-via-then-after-second+else-has_dates w ↦
          absurd (both_ways w.has_dates.result w.if-has_dates.false (w.has_dates.ensures.1 (subst (λ (k : ℤ). HasDates ahead k) (sym back) dates)))
      | else-after-second-via-else-after-second w ↦ absurd (lies_not_behind c.args.after _ c.args.second _ (to_z-of_z w64 c.args.after c.ranges.after) back w.if-after-second.false beside)
    ]
