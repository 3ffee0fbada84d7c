use Rattle.std.proofs.Common.{ap, sym, ◌∙◌, refl, Some, ◌*◌, ◌+◌}
use Rattle.chrono_pattern.proofs.ManyDigits.{both_read, cut_read, few_of_many, no_back, no_front, too_many}
use Rattle.chrono_pattern.proofs.offset_reader.read_many_digits.Goals as goal

pub returns-in_err-value-clause-value : goal.returns-in_err-value-clause-value
returns-in_err-value-clause-value c =
    c.from_residual.ensures ∙ sym (few_of_many c.args.text.now c.if-text-le-HALF_DIGITS.true ∙ sym c.read_digits.ensures.value ∙ c.in_err-value.was)

pub returns-then-text-le-HALF_DIGITS-clause-value : goal.returns-then-text-le-HALF_DIGITS-clause-value
returns-then-text-le-HALF_DIGITS-clause-value c =
    ap Some c.from.ensures ∙ sym (few_of_many c.args.text.now c.if-text-le-HALF_DIGITS.true ∙ sym c.read_digits.ensures.value ∙ c.in_ok-value.was)

pub returns-then-text-clause-value : goal.returns-then-text-clause-value
returns-then-text-clause-value c = sym (too_many c.args.text.now c.if-text.true)

pub returns-in_err-high-clause-value : goal.returns-in_err-high-clause-value
returns-in_err-high-clause-value c =
    let cut = cut_read c.args.text.now _ _ _ refl c.split_at.ensures.front c.split_at.ensures.back c.if-text-le-HALF_DIGITS.false c.if-text.false in
    c.from_residual-in_err-high.ensures ∙ sym (cut ∙ no_front _ _ (sym c.read_digits-2.ensures.value ∙ c.in_err-high.was))

pub returns-in_err-low-clause-value : goal.returns-in_err-low-clause-value
returns-in_err-low-clause-value c =
    let cut = cut_read c.args.text.now _ _ _ refl c.split_at.ensures.front c.split_at.ensures.back c.if-text-le-HALF_DIGITS.false c.if-text.false in
    c.from_residual-in_err-low.ensures ∙ sym (cut ∙ no_back _ _ _ (sym c.read_digits-2.ensures.value ∙ c.in_ok-high.was) (sym c.read_digits-3.ensures.value ∙ c.in_err-low.was))

pub returns-clause-value : goal.returns-clause-value
returns-clause-value c =
    let cut = cut_read c.args.text.now _ _ _ refl c.split_at.ensures.front c.split_at.ensures.back c.if-text-le-HALF_DIGITS.false c.if-text.false in
    let read = both_read _ _ _ _ (sym c.read_digits-2.ensures.value ∙ c.in_ok-high.was) (sym c.read_digits-3.ensures.value ∙ c.in_ok-low.was) in
    let same = ap (λ n. n * 1_000_000_000 + c.from-3.result) c.from-2.ensures ∙ ap (λ n. c.in_ok-high.high * 1_000_000_000 + n) c.from-3.ensures in
    ap Some same ∙ sym (cut ∙ read)
