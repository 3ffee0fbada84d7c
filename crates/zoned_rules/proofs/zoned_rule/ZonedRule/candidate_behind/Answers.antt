use Rattle.std.proofs.Common.{of_z, to_z, w64}
use Rattle.std.proofs.lemmas.Int.{to_z-of_z}
use Rattle.chrono_instant.specs.Instants.{epoch_second}
use Rattle.zoned_rules.proofs.Candidates.{reached_at}
use Rattle.zoned_rules.proofs.Reached.{listed_of}
use Rattle.zoned_rules.proofs.SecondsAgain.{never_both, shown_behind}
use Rattle.zoned_rules.proofs.zoned_rule.ZonedRule.candidate_behind.Goals as goal

pub returns-in_default-clause-reached : goal.returns-in_default-clause-reached
returns-in_default-clause-reached g c = λ m u h later by.
    let r = c.args.self.now.local in
    let ahead = g.Z.TimeZone.ahead c.args.self.now.zone in
    let shown = c.shown_by-from in
    let here = to_z-of_z w64 c.args.after c.ranges.after in
    never_both (epoch_second m) _ (c.in_default.ensures.none m (listed_of r ahead m u h))
    (shown_behind c.args.after (to_z w64 (of_z w64 c.args.after)) shown.result c.args.offset u (epoch_second m) here shown.ensures.value shown.ensures.low shown.ensures.high by later)

pub returns-clause-reached : goal.returns-clause-reached
returns-clause-reached g c = λ m u h later by.
    let r = c.args.self.now.local in
    let ahead = g.Z.TimeZone.ahead c.args.self.now.zone in
    let shown = c.shown_by-from in
    let here = to_z-of_z w64 c.args.after c.ranges.after in
    reached_at r ahead c.args.offset (epoch_second c.in-Some.local) c.candidate_at.result m u (c.candidate_at.ensures.second, c.candidate_at.ensures.no) h by
    (c.in-Some.ensures.least m (listed_of r ahead m u h) (shown_behind c.args.after (to_z w64 (of_z w64 c.args.after)) shown.result c.args.offset u (epoch_second m) here shown.ensures.value shown.ensures.low shown.ensures.high by later))
