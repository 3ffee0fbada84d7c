use Rattle.std.proofs.Common.{◌∙◌, sym, arith}
use Rattle.chrono_text.specs.Numbers.{count_of, natural_of}
use Rattle.chrono_text.proofs.NaturalLemmas.{counted, too_large, uncounted}
use Rattle.chrono_text.proofs.read.natural.read_count.Goals as goal

pub returns-in_err-value : goal.returns-in_err-value
unfolding count_of
returns-in_err-value c = c.from_residual.ensures ∙ sym (uncounted (natural_of c.args.text.now) (sym c.natural.ensures ∙ c.in_err-value.was))

pub returns-then-value-gt-MOST_COUNT : goal.returns-then-value-gt-MOST_COUNT
unfolding count_of
returns-then-value-gt-MOST_COUNT c = sym (too_large (natural_of c.args.text.now) c.in_ok-value.value (sym c.natural.ensures ∙ c.in_ok-value.was) c.if-value-gt-MOST_COUNT.true)

pub returns : goal.returns
unfolding count_of
returns c = sym (counted (natural_of c.args.text.now) c.in_ok-value.value (sym c.natural.ensures ∙ c.in_ok-value.was) (omega arith))
