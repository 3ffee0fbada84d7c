use Rattle.std.proofs.Common.{◌≡◌, ◌-◌, ◌++◌, ◌∷◌, append_assoc, ap, sym, ◌∙◌, refl}
use Rattle.std.specs.Prelude.{map, codes}
use Rattle.chrono_text.specs.Text.{number_text}
use Rattle.chrono_text.specs.Lists.{each_behind}
use Rattle.chrono_cron.specs.WrittenTexts.{range_text, ranges_from}
use Rattle.chrono_cron.proofs.WrittenFields.{numbers_all, numbers_stepped, numbers_unstarred}
use Rattle.chrono_cron.proofs.text.schedule_writer.put_numbers.Goals as goal

pub returns-then-not-starred-clause-text : goal.returns-then-not-starred-clause-text
returns-then-not-starred-clause-text g c =
    c.put_ranges.ensures.text
    ∙ ap (λ items. c.args.text.now ++ each_behind 44 items) (numbers_unstarred c.args.starred c.args.set (c.args.end - c.args.low) c.args.low c.if-not-starred.true)

pub returns-then-lists_all-clause-text : goal.returns-then-lists_all-clause-text
returns-then-lists_all-clause-text g c =
    c.push_text.ensures
    ∙ ap (λ items. c.args.text.now ++ each_behind 44 items) (numbers_all c.args.starred c.args.set (c.args.end - c.args.low) c.args.low c.if-not-starred.false (sym c.lists_all.ensures ∙ c.if-lists_all.true))

pub returns-clause-text : goal.returns-clause-text
returns-clause-text g c =
    let count = c.args.end - c.args.low in
    let ranges = map range_text (ranges_from c.args.set count c.args.low) in
    let put : c.put_ranges-2.new.text ≡ c.args.text.now ++ each_behind 44 ((codes "*/" ++ number_text count) ∷ ranges) =
    rw (c.put_ranges-2.ensures.text, c.push_number.ensures.text, c.push_text-2.ensures) (simp append_assoc refl) in
    put ∙ ap (λ items. c.args.text.now ++ each_behind 44 items) (numbers_stepped c.args.starred c.args.set count c.args.low c.if-not-starred.false (sym c.lists_all.ensures ∙ c.if-lists_all.false))
