use Rattle.std.proofs.Common.{ap, ◌∙◌, w64}
use Rattle.std.proofs.lemmas.Int.{to_z-of_z}
use Rattle.zone_rule.specs.Rules.{is_daylight}
use Rattle.zone_rule.proofs.rule.Daylight.holds_near.Goals as goal

pub returns : goal.returns
returns c = c.is_last_begun.ensures ∙ ap (is_daylight c.args.standard c.args.self.now) (to_z-of_z w64 c.args.second c.ranges.second)
