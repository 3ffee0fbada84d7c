use Rattle.std.proofs.Common.{◌∙◌, sym, arith}
use Rattle.chrono_cron.proofs.TextWords.{blank_at}
use Rattle.chrono_cron.proofs.text.split_fields.blanks_end.Goals as goal

pub loop-place-preserved : goal.loop-place-preserved
loop-place-preserved c = record {
  within = omega (arith, c.loop-place-test.true);
  passed = c.loop-place.invariant.passed ∙ blank_at c.loop-place.place c.args.text.now (omega (arith, c.loop-place-test.true)) (sym c.is_blank.ensures ∙ c.if-not-is_blank.false);
}
