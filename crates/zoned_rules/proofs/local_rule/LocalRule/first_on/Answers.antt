use Rattle.std.proofs.Common.{◌≡◌, rules, true, false, ◌∙◌}
use Rattle.std.proofs.lemmas.Option.{IfSome_then}
use Rattle.chrono_zoned.proofs.OptionLemmas.{if_none}
use Rattle.chrono_rules.specs.Instances.{is_instance}
use Rattle.zoned_rules.proofs.ListedTimes.{off_instance, on_instance}
use Rattle.zoned_rules.proofs.local_rule.LocalRule.first_on.Goals as goal

pub returns-then-not-is_instance-clause-none : goal.returns-then-not-is_instance-clause-none
returns-then-not-is_instance-clause-none c =
    let r = c.args.self.now in
    let off : is_instance r.days r.start.date c.args.date ≡ false = search rules in
    λ k low high. off_instance r c.args.date k off

pub returns-clause-planned : goal.returns-clause-planned
returns-clause-planned c =
    let r = c.args.self.now in
    let on : is_instance r.days r.start.date c.args.date ≡ true = search rules in
    IfSome_then c.first_time.result c.first_time.ensures.time (λ k h. on_instance r c.args.date k on ∙ h)

pub returns-clause-least : goal.returns-clause-least
returns-clause-least c =
    let r = c.args.self.now in
    let on : is_instance r.days r.start.date c.args.date ≡ true = search rules in
    IfSome_then c.first_time.result c.first_time.ensures.least (λ k h j low high. on_instance r c.args.date j on ∙ h j low high)

pub returns-clause-none : goal.returns-clause-none
returns-clause-none c =
    let r = c.args.self.now in
    let on : is_instance r.days r.start.date c.args.date ≡ true = search rules in
    if_none c.first_time.result c.first_time.ensures.none (λ h j low high. on_instance r c.args.date j on ∙ h j low high)
