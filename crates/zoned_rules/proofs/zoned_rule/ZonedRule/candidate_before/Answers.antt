use Rattle.std.proofs.Common.{of_z, to_z, w64}
use Rattle.std.proofs.lemmas.Int.{to_z-of_z}
use Rattle.chrono_instant.specs.Instants.{epoch_second}
use Rattle.zoned_rules.proofs.Candidates.{reached_back_at}
use Rattle.zoned_rules.proofs.Reached.{listed_of}
use Rattle.zoned_rules.proofs.SecondsAgain.{shown_before}
use Rattle.zoned_rules.proofs.zoned_rule.ZonedRule.candidate_before.Goals as goal

pub returns-clause-reached : goal.returns-clause-reached
returns-clause-reached g c = λ m u h earlier by.
    let r = c.args.self.now.local in
    let ahead = g.Z.TimeZone.ahead c.args.self.now.zone in
    let shown = c.shown_by-to in
    reached_back_at r ahead c.args.offset (epoch_second c.in-Some.local) c.candidate_at.result m u (c.candidate_at.ensures.second, c.candidate_at.ensures.no) h by
    (c.in-Some.ensures.greatest m (listed_of r ahead m u h)
    (shown_before c.args.end (to_z w64 (of_z w64 c.args.end)) shown.result c.args.offset u (epoch_second m) (to_z-of_z w64 c.args.end c.ranges.end) shown.ensures.value shown.ensures.low shown.ensures.high by earlier))
