use Rattle.std.proofs.Common.{ap, ◌∙◌}
use Rattle.chrono_rules.specs.PartsFound.{and_part, part_index, texts_found}
use Rattle.chrono_rules.specs.RuleErrors.{part_key}
use Rattle.chrono_rules.specs.declared.text.rule_error.RulePart.TheVariants.{Freq, Interval, Count, Until, ByMonth, ByMonthDay, ByDay, ByYearDay, ByWeekNo, BySetPos, Wkst}
use Rattle.chrono_rules.proofs.FoundValues.{of_each}
use Rattle.chrono_rules.proofs.text.all_parts.and_part.Goals as goal

pub returns : goal.returns
unfolding part_index
returns c = of_each _
    (c.and_value.ensures ∙ ap (λ f. and_part (part_key Freq) c.args.part.now (texts_found f)) c.value_at.ensures)
    (c.and_value-2.ensures ∙ ap (λ f. and_part (part_key Interval) c.args.part.now (texts_found f)) c.value_at-2.ensures)
    (c.and_value-3.ensures ∙ ap (λ f. and_part (part_key Count) c.args.part.now (texts_found f)) c.value_at-3.ensures)
    (c.and_value-4.ensures ∙ ap (λ f. and_part (part_key Until) c.args.part.now (texts_found f)) c.value_at-4.ensures)
    (c.and_value-5.ensures ∙ ap (λ f. and_part (part_key ByMonth) c.args.part.now (texts_found f)) c.value_at-5.ensures)
    (c.and_value-6.ensures ∙ ap (λ f. and_part (part_key ByMonthDay) c.args.part.now (texts_found f)) c.value_at-6.ensures)
    (c.and_value-7.ensures ∙ ap (λ f. and_part (part_key ByDay) c.args.part.now (texts_found f)) c.value_at-7.ensures)
    (c.and_value-8.ensures ∙ ap (λ f. and_part (part_key ByYearDay) c.args.part.now (texts_found f)) c.value_at-8.ensures)
    (c.and_value-9.ensures ∙ ap (λ f. and_part (part_key ByWeekNo) c.args.part.now (texts_found f)) c.value_at-9.ensures)
    (c.and_value-10.ensures ∙ ap (λ f. and_part (part_key BySetPos) c.args.part.now (texts_found f)) c.value_at-10.ensures)
    (c.and_value-11.ensures ∙ ap (λ f. and_part (part_key Wkst) c.args.part.now (texts_found f)) c.value_at-11.ensures)
