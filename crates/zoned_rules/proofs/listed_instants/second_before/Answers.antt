use Rattle.std.proofs.Common.{◌≡◌, ℤ, of_z, to_z, w64, subst, sym}
use Rattle.std.proofs.lemmas.Bool.{both_ways}
use Rattle.std.proofs.lemmas.Int.{to_z-of_z}
use Rattle.zoned_rules.specs.LocalInstants.{HasDates}
use Rattle.zoned_rules.proofs.SecondsAgain.{at_most, lies_before, lies_not_before}
use Rattle.zoned_rules.proofs.listed_instants.second_before.Goals.{else-second-end-via-then-second-end+else-has_dates, else-second-end-via-else-second-end}
use Rattle.zoned_rules.proofs.listed_instants.second_before.Goals as goal

pub returns-then-has_dates-clause-found : goal.returns-then-has_dates-clause-found
returns-then-has_dates-clause-found g c =
    let back : to_z w64 (of_z w64 c.args.second) ≡ c.args.second = to_z-of_z w64 c.args.second c.ranges.second in
    (back, lies_before c.args.end _ c.args.second _ (to_z-of_z w64 c.args.end c.ranges.end) back c.if-second-end.true, c.has_dates.ensures.0 c.if-has_dates.true)

pub returns-then-has_dates-clause-only : goal.returns-then-has_dates-clause-only
returns-then-has_dates-clause-only g c = λ beside dates. at_most c.args.second _ (to_z-of_z w64 c.args.second c.ranges.second)

pub returns-else-second-end-clause-only : goal.returns-else-second-end-clause-only
returns-else-second-end-clause-only g c = λ beside dates.
    let ahead = g.Z.TimeZone.ahead c.args.zone in
    let back : to_z w64 (of_z w64 c.args.second) ≡ c.args.second = to_z-of_z w64 c.args.second c.ranges.second in
    elim c.else-second-end.branch [
      | else-second-end-via-then-second-end+else-has_dates w ↦
          absurd (both_ways w.has_dates.result w.if-has_dates.false (w.has_dates.ensures.1 (subst (λ (k : ℤ). HasDates ahead k) (sym back) dates)))
      | else-second-end-via-else-second-end w ↦ absurd (lies_not_before c.args.end _ c.args.second _ (to_z-of_z w64 c.args.end c.ranges.end) back w.if-second-end.false beside)
    ]
