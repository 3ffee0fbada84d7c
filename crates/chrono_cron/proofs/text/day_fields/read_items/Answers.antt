use Rattle.std.proofs.Common.{◌∙◌, Some, false, ap, sym}
use Rattle.std.specs.Option.{option_map}
use Rattle.chrono_sets.specs.FiniteSets.{has}
use Rattle.chrono_cron.specs.FieldTexts.{items_list, onto}
use Rattle.chrono_cron.specs.ScheduleErrors.{greatest_of_field, least_of_field, names_days, names_of_field}
use Rattle.chrono_cron.specs.ScheduleTexts.{other_items}
use Rattle.chrono_cron.proofs.DayItems.{named_first, named_last, named_more, others_first, others_last, step_last, step_none, step_some}
use Rattle.chrono_cron.proofs.FieldTexts.{nothing_so_far}
use Rattle.chrono_cron.proofs.text.day_fields.read_items.Goals as goal

pub loop-item-init : goal.loop-item-init
loop-item-init c = record {
  numbers = λ k. nothing_so_far c.none.result k _ c.none.ensures;
  named = rw c.none-2.ensures.value (named_first c.args.text.now);
}

pub returns-in_default-read_other_item-clause-numbers : goal.returns-in_default-read_other_item-clause-numbers
returns-in_default-read_other_item-clause-numbers c = λ k.
    let is = sym (c.read_other_item.ensures k) ∙ ap (option_map (λ s. has s k)) c.in_default-read_other_item.is in
    let first = others_first (names_days c.args.field) (names_of_field c.args.field) (least_of_field c.args.field) (greatest_of_field c.args.field) c.loop-item.rest.now c.in-Some.item.now c.in-Some.behind.now k c.in-Some.ensures.pieces in
    (sym (step_none _ _ _ _ (has c.loop-item.items.numbers k) (c.loop-item.invariant.numbers k) first is))

pub loop-item-preserved : goal.loop-item-preserved
loop-item-preserved c = record {
  numbers = λ k.
      let is = sym (c.read_other_item.ensures k) ∙ ap (option_map (λ s. has s k)) c.in-Some-read_other_item.is in
      let first = others_first (names_days c.args.field) (names_of_field c.args.field) (least_of_field c.args.field) (greatest_of_field c.args.field) c.loop-item.rest.now c.in-Some.item.now c.in-Some.behind.now k c.in-Some.ensures.pieces in
      step_some _ _ _ _ (has c.loop-item.items.numbers k) (has c.in-Some-read_other_item.numbers k) (c.loop-item.invariant.numbers k) first is
      ∙ ap (λ b. onto b (items_list (names_of_field c.args.field) (least_of_field c.args.field) (greatest_of_field c.args.field) (other_items (names_days c.args.field) c.in-Some.behind.now) k)) (sym (c.with_item-items.ensures.numbers k));
  named = named_more c.args.text.now c.loop-item.rest.now c.in-Some.item.now c.in-Some.behind.now c.loop-item.items.named c.with_item-items.result.named c.in-Some.ensures.pieces c.loop-item.invariant.named c.with_item-items.ensures.named;
}

pub returns-in_default-read_other_item-2-clause-numbers : goal.returns-in_default-read_other_item-2-clause-numbers
returns-in_default-read_other_item-2-clause-numbers c = λ k.
    let is = sym (c.read_other_item-2.ensures k) ∙ ap (option_map (λ s. has s k)) c.in_default-read_other_item-2.is in
    let last = others_last (names_days c.args.field) (names_of_field c.args.field) (least_of_field c.args.field) (greatest_of_field c.args.field) c.loop-item.rest.now k c.in_default.ensures.one_piece in
    (sym (step_none _ _ (Some false) _ (has c.loop-item.items.numbers k) (c.loop-item.invariant.numbers k) last is))

pub returns-clause-numbers : goal.returns-clause-numbers
returns-clause-numbers c = λ k.
    let is = sym (c.read_other_item-2.ensures k) ∙ ap (option_map (λ s. has s k)) c.in-Some-read_other_item-2.is in
    let last = others_last (names_days c.args.field) (names_of_field c.args.field) (least_of_field c.args.field) (greatest_of_field c.args.field) c.loop-item.rest.now k c.in_default.ensures.one_piece in
    ap Some (c.with_item.ensures.numbers k) ∙ sym (step_last _ _ _ (has c.loop-item.items.numbers k) (has c.in-Some-read_other_item-2.numbers k) (c.loop-item.invariant.numbers k) last is)

pub returns-clause-named : goal.returns-clause-named
returns-clause-named c = named_last c.args.text.now c.loop-item.rest.now c.loop-item.items.named c.with_item.result.named c.in_default.ensures.one_piece c.loop-item.invariant.named c.with_item.ensures.named
