use Rattle.std.proofs.Common.{◌≡◌, ◌++◌, ℕ, ℤ, List, of_z, to_z, w32, ap, subst, ◌∙◌}
use Rattle.std.proofs.lemmas.List.{append_assoc}
use Rattle.std.proofs.lemmas.Str.{IsAscii-append}
use Rattle.std.proofs.lemmas.Int.{to_z-of_z}
use Rattle.std.specs.Str.{IsAscii}
use Rattle.zone_rule.specs.declared.rule_day.RuleDay.{RuleDay}
use Rattle.zone_text.specs.WrittenTexts.{change_time_text, rule_day_text}
use Rattle.zone_text.proofs.writer.put_change.Goals as goal

pub returns-clause-text : goal.returns-clause-text
returns-clause-text g c =
    let text : List ℕ = c.args.text.now in
    let second : to_z w32 (of_z w32 c.second.result) ≡ c.args.change.second = to_z-of_z w32 c.second.result (record { sfits = c.second.type_inv }) ∙ c.second.ensures.value in
    c.put_time.ensures.text
    ∙ ap (λ (before : List ℕ). before ++ change_time_text (to_z w32 (of_z w32 c.second.result))) c.put_day.ensures.text
    ∙ ap (λ (day : RuleDay). text ++ rule_day_text day ++ change_time_text (to_z w32 (of_z w32 c.second.result))) c.day.ensures.value
    ∙ ap (λ (s : ℤ). text ++ rule_day_text c.args.change.day ++ change_time_text s) second
    ∙ append_assoc text (rule_day_text c.args.change.day) (change_time_text c.args.change.second)

pub returns-clause-ascii : goal.returns-clause-ascii
returns-clause-ascii g c =
    let second : to_z w32 (of_z w32 c.second.result) ≡ c.args.change.second = to_z-of_z w32 c.second.result (record { sfits = c.second.type_inv }) ∙ c.second.ensures.value in
    IsAscii-append _ _ (subst (λ (day : RuleDay). IsAscii (rule_day_text day)) c.day.ensures.value c.put_day.ensures.ascii)
    (subst (λ (s : ℤ). IsAscii (change_time_text s)) second c.put_time.ensures.ascii)
