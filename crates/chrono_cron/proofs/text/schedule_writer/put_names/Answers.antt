use Rattle.std.proofs.Common.{◌+◌, ◌-◌, ◌++◌, true, false, length, length-append, append-nil, ap, sym, ◌∙◌, arith}
use Rattle.chrono_text.specs.Lists.{each_behind}
use Rattle.chrono_cron.specs.WrittenTexts.{name_text, names_from}
use Rattle.chrono_cron.proofs.WrittenFields.{item_put, names_at, names_end}
use Rattle.chrono_cron.proofs.text.schedule_writer.put_names.Goals as goal
use Rattle.chrono_cron.proofs.text.schedule_writer.put_names.Goals.{then-contains, else-contains}

pub loop-number-preserved : goal.loop-number-preserved
loop-number-preserved g c =
    let n = c.loop-number.number in
    let less = c.loop-number-test.true in
    let old = c.loop-number.text in
    let rest = names_from c.args.naming c.args.set (c.args.end - (n + 1)) (n + 1) in
    let fits = c.loop-number.invariant.fits in
    elim c.if-contains.branch [
      | then-contains w ↦
          let name = name_text c.args.naming n in
          let put = item_put old c.if-contains.text name rest (w.text-is ∙ w.put_name.ensures.text ∙ ap (λ text. text ++ name) w.push.ensures) in
          let longer = simp length-append at (ap length w.push.ensures) in
          record {
            from = omega (arith, c.loop-number.invariant.from);
            within = omega (arith, less);
            text = put ∙ ap (λ items. old ++ each_behind 44 items) (sym (names_at c.args.naming c.args.set n c.args.end true (omega (arith, less)) (sym c.contains.ensures ∙ w.if-contains.true))) ∙ c.loop-number.invariant.text;
            fits = omega (arith, fits, less, longer, w.put_name.ensures.fits, ap length w.text-is);
          }
      | else-contains w ↦ record {
        from = omega (arith, c.loop-number.invariant.from);
        within = omega (arith, less);
        text = ap (λ text. text ++ each_behind 44 rest) w.text-is ∙ ap (λ items. old ++ each_behind 44 items) (sym (names_at c.args.naming c.args.set n c.args.end false (omega (arith, less)) (sym c.contains.ensures ∙ w.if-contains.false))) ∙ c.loop-number.invariant.text;
        fits = omega (arith, fits, less, ap length w.text-is);
      }
    ]

pub returns-clause-text : goal.returns-clause-text
returns-clause-text g c =
    sym (append-nil c.loop-number.text)
    ∙ ap (λ items. c.loop-number.text ++ each_behind 44 items) (sym (names_end c.args.naming c.args.set c.loop-number.number c.args.end (omega (arith, c.loop-number-test.false))))
    ∙ c.loop-number.invariant.text
