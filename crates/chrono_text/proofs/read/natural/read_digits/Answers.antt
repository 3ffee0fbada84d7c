use Rattle.std.proofs.Common.{◌∙◌, sym, arith}
use Rattle.chrono_text.specs.Numbers.{digits_of}
use Rattle.chrono_text.proofs.NaturalLemmas.{digits_read, digits_unread, few_digits_read}
use Rattle.chrono_text.proofs.read.natural.read_digits.Goals as goal

pub overflow_cast-result : goal.overflow_cast-result
overflow_cast-result c =
    let read = few_digits_read c.args.text.now c.args.most c.in_ok-value.value (omega arith) c.requires (sym c.natural.ensures ∙ c.in_ok-value.was) in
    omega (arith, read.2)

pub returns-clause-value : goal.returns-clause-value
unfolding digits_of
returns-clause-value c =
    let read = few_digits_read c.args.text.now c.args.most c.in_ok-value.value (omega arith) c.requires (sym c.natural.ensures ∙ c.in_ok-value.was) in
    sym (digits_read c.args.text.now c.args.most c.in_ok-value.value (omega arith) read.0)

pub returns-clause-small : goal.returns-clause-small
returns-clause-small c =
    let read = few_digits_read c.args.text.now c.args.most c.in_ok-value.value (omega arith) c.requires (sym c.natural.ensures ∙ c.in_ok-value.was) in
    read.1

pub returns-in_err-value-clause-value : goal.returns-in_err-value-clause-value
unfolding digits_of
returns-in_err-value-clause-value c =
    c.from_residual.ensures ∙ sym (digits_unread c.args.text.now c.args.most (omega arith) (sym c.natural.ensures ∙ c.in_err-value.was))
