use Rattle.std.proofs.Common.{◌∙◌, Some, None, ap, sym}
use Rattle.std.specs.Option.{option_map}
use Rattle.chrono_sets.specs.Steps.{is_by_steps}
use Rattle.chrono_cron.specs.FieldTexts.{range_of, step_of}
use Rattle.chrono_cron.proofs.FieldTexts.{item_plain, item_stepped}
use Rattle.chrono_cron.proofs.text.field.read_item.Goals as goal

pub returns-in_default : goal.returns-in_default
returns-in_default c = λ k. c.read_by_ones.ensures k ∙ sym (item_plain c.args.names c.args.low c.args.high c.args.text.now k c.in_default.ensures.none)

pub returns-in_default-read_range : goal.returns-in_default-read_range
returns-in_default-read_range c = λ k.
    let range = ap (range_of c.args.names c.args.low c.args.high) (sym c.in-Some.ensures.front) ∙ sym c.read_range.ensures.range ∙ c.in_default-read_range.is in
    sym (item_stepped c.args.names c.args.low c.args.high c.args.text.now k None c.in-Some.ensures.some range)

pub returns-in_default-read_step : goal.returns-in_default-read_step
returns-in_default-read_step c = λ k.
    let first = c.in-Some-read_range.first in
    let last = c.in-Some-read_range.last in
    let range = ap (range_of c.args.names c.args.low c.args.high) (sym c.in-Some.ensures.front) ∙ sym c.read_range.ensures.range ∙ c.in-Some-read_range.is in
    sym (item_stepped c.args.names c.args.low c.args.high c.args.text.now k (Some (first, last)) c.in-Some.ensures.some range
    ∙ ap (option_map (λ step. is_by_steps first last step k)) (ap step_of (sym c.in-Some.ensures.back) ∙ sym c.read_step.ensures.step ∙ c.in_default-read_step.is))

pub returns : goal.returns
returns c = λ k.
    let first = c.in-Some-read_range.first in
    let last = c.in-Some-read_range.last in
    let range = ap (range_of c.args.names c.args.low c.args.high) (sym c.in-Some.ensures.front) ∙ sym c.read_range.ensures.range ∙ c.in-Some-read_range.is in
    ap Some (c.by_steps.ensures k)
    ∙ sym (item_stepped c.args.names c.args.low c.args.high c.args.text.now k (Some (first, last)) c.in-Some.ensures.some range
    ∙ ap (option_map (λ step. is_by_steps first last step k)) (ap step_of (sym c.in-Some.ensures.back) ∙ sym c.read_step.ensures.step ∙ c.in-Some-read_step.is))
