use Rattle.std.proofs.Common.{◌≡◌, ℤ, ◌≤ℤ◌, ◌<ℤ◌, w64, ap₂, subst, sym, ◌∙◌}
use Rattle.std.proofs.lemmas.Int.{to_z-of_z}
use Rattle.std.proofs.lemmas.Option.{IfSome_then}
use Rattle.chrono_instant.specs.Instants.{epoch_second}
use Rattle.chrono_zoned.proofs.OptionLemmas.{if_none}
use Rattle.zoned_rules.specs.Private.{second_on}
use Rattle.zoned_rules.proofs.local_rule.LocalRule.last_listed.Goals as goal

pub returns-in-Some-clause-before : goal.returns-in-Some-clause-before
returns-in-Some-clause-before c =
    let second = c.args.second in
    let at : second_on c.date.result c.num_seconds_from_midnight.result ≡ second = ap₂ second_on c.date.ensures c.num_seconds_from_midnight.ensures.value ∙ c.in-Some.ensures.value.second ∙ to_z-of_z w64 second c.ranges.second in
    IfSome_then c.last_before.result c.last_before.ensures.before (λ m h. subst (λ (x : ℤ). epoch_second m <ℤ x) at h)

pub returns-in-Some-clause-greatest : goal.returns-in-Some-clause-greatest
returns-in-Some-clause-greatest c =
    let second = c.args.second in
    let at : second_on c.date.result c.num_seconds_from_midnight.result ≡ second = ap₂ second_on c.date.ensures c.num_seconds_from_midnight.ensures.value ∙ c.in-Some.ensures.value.second ∙ to_z-of_z w64 second c.ranges.second in
    IfSome_then c.last_before.result c.last_before.ensures.greatest (λ m h q listed beside. h q listed (subst (λ (x : ℤ). epoch_second q <ℤ x) (sym at) beside))

pub returns-in-Some-clause-none : goal.returns-in-Some-clause-none
returns-in-Some-clause-none c =
    let second = c.args.second in
    let at : second_on c.date.result c.num_seconds_from_midnight.result ≡ second = ap₂ second_on c.date.ensures c.num_seconds_from_midnight.ensures.value ∙ c.in-Some.ensures.value.second ∙ to_z-of_z w64 second c.ranges.second in
    if_none c.last_before.result c.last_before.ensures.none (λ h q listed. subst (λ (x : ℤ). x ≤ℤ epoch_second q) at (h q listed))
