use Rattle.std.proofs.Common.{◌∙◌, Some, ap, sym}
use Rattle.std.specs.Option.{option_map}
use Rattle.chrono_sets.specs.FiniteSets.{has}
use Rattle.chrono_cron.specs.FieldTexts.{field_lists, onto}
use Rattle.chrono_cron.proofs.FieldTexts.{last_item, more_items, no_item, no_last_item, nothing_so_far}
use Rattle.chrono_cron.proofs.text.field.read_field.Goals as goal

pub loop-item-init : goal.loop-item-init
loop-item-init c = λ k. nothing_so_far c.none-set.result k _ c.none-set.ensures

pub returns-in_default-read_item : goal.returns-in_default-read_item
returns-in_default-read_item c = λ k.
    let is = sym (c.read_item.ensures k) ∙ ap (option_map (λ s. has s k)) c.in_default-read_item.is in
    sym (no_item c.args.names c.args.low c.args.high c.loop-item.rest.now c.in-Some.item.now c.in-Some.behind.now k (has c.loop-item.set k) _ c.in-Some.ensures.pieces (c.loop-item.invariant k) is)

pub loop-item-preserved : goal.loop-item-preserved
loop-item-preserved c = λ k.
    let is = sym (c.read_item.ensures k) ∙ ap (option_map (λ s. has s k)) c.in-Some-read_item.is in
    more_items c.args.names c.args.low c.args.high c.loop-item.rest.now c.in-Some.item.now c.in-Some.behind.now k (has c.loop-item.set k) (has c.in-Some-read_item.numbers k) _ c.in-Some.ensures.pieces (c.loop-item.invariant k) is
    ∙ ap (λ b. onto b (field_lists c.args.names c.args.low c.args.high c.in-Some.behind.now k)) (sym (c.union-set.ensures k))

pub returns-in_default-read_item-2 : goal.returns-in_default-read_item-2
returns-in_default-read_item-2 c = λ k.
    let is = sym (c.read_item-2.ensures k) ∙ ap (option_map (λ s. has s k)) c.in_default-read_item-2.is in
    sym (no_last_item c.args.names c.args.low c.args.high c.loop-item.rest.now k (has c.loop-item.set k) _ c.in_default.ensures.one_piece (c.loop-item.invariant k) is)

pub returns : goal.returns
returns c = λ k.
    let is = sym (c.read_item-2.ensures k) ∙ ap (option_map (λ s. has s k)) c.in-Some-read_item-2.is in
    ap Some (c.union.ensures k)
    ∙ sym (last_item c.args.names c.args.low c.args.high c.loop-item.rest.now k (has c.loop-item.set k) (has c.in-Some-read_item-2.numbers k) _ c.in_default.ensures.one_piece (c.loop-item.invariant k) is)
