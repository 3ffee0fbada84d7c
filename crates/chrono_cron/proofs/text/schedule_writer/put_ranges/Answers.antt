use Rattle.std.proofs.Common.{◌≡◌, ◌-◌, ◌++◌, ℕ, false, append-nil, ap, sym, ◌∙◌, arith}
use Rattle.std.specs.Prelude.{map}
use Rattle.chrono_sets.specs.FiniteSets.{has}
use Rattle.chrono_text.specs.Lists.{each_behind}
use Rattle.chrono_cron.specs.WrittenTexts.{range_text, ranges_from}
use Rattle.chrono_cron.proofs.WrittenFields.{item_put, ranges_end, ranges_past_gap, ranges_past_run}
use Rattle.chrono_cron.proofs.text.schedule_writer.put_ranges.Goals as goal

pub loop-from-preserved-then-gap-from : goal.loop-from-preserved-then-gap-from
loop-from-preserved-then-gap-from g c =
    let n = c.loop-from.from in
    let less = c.loop-from-test.true in
    let at = c.if-gap-from.true in
    let lacks : has c.args.set n ≡ false = rw (sym at) (c.first_gap-gap.ensures.gap (omega (arith, at, less))) in
    record {
      from = omega (arith, c.loop-from.invariant.from);
      within = omega (arith, less);
      text = ap (λ ranges. c.loop-from.text ++ each_behind 44 (map range_text ranges)) (sym (ranges_past_gap c.args.set n c.args.end less lacks)) ∙ c.loop-from.invariant.text;
      fits = omega (arith, c.loop-from.invariant.fits, less);
    }

pub loop-from-preserved : goal.loop-from-preserved
loop-from-preserved g c =
    let n = c.loop-from.from in
    let gap = c.first_gap-gap.result in
    let range : ℕ × ℕ = (n, gap - 1) in
    let rest = ranges_from c.args.set (c.args.end - gap) gap in
    let later = c.if-gap-from.false in
    let from = c.first_gap-gap.ensures.not_before in
    let put = item_put c.loop-from.text c.put_range.new.text (range_text range) (map range_text rest) c.put_range.ensures.text in
    record {
      from = omega (arith, c.loop-from.invariant.from, from);
      within = c.first_gap-gap.ensures.within;
      text = put ∙ ap (λ ranges. c.loop-from.text ++ each_behind 44 (map range_text ranges)) (sym (ranges_past_run c.args.set n gap c.args.end (omega (arith, later, from)) c.first_gap-gap.ensures.within c.first_gap-gap.ensures.members c.first_gap-gap.ensures.gap)) ∙ c.loop-from.invariant.text;
      fits = omega (arith, c.loop-from.invariant.fits, c.put_range.ensures.fits, from, later, c.first_gap-gap.ensures.within);
    }

pub returns-clause-text : goal.returns-clause-text
returns-clause-text g c =
    sym (append-nil c.loop-from.text)
    ∙ ap (λ ranges. c.loop-from.text ++ each_behind 44 (map range_text ranges)) (sym (ranges_end c.args.set c.loop-from.from c.args.end (omega (arith, c.loop-from-test.false))))
    ∙ c.loop-from.invariant.text
