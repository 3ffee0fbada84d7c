use Rattle.std.proofs.Common.{◌∙◌, sym, arith}
use Rattle.std.proofs.lemmas.List.Sums.{position_or_len_is}
use Rattle.chrono_text.specs.Lists.{is_blank}
use Rattle.chrono_cron.proofs.text.split_fields.blank_place.Goals as goal

pub returns-then-is_blank-clause-place : goal.returns-then-is_blank-clause-place
returns-then-is_blank-clause-place c =
    position_or_len_is is_blank c.args.text.now c.loop-place.place 0 (c.loop-place.invariant.0) (c.loop-place.invariant.1) (λ lt. sym c.is_blank.ensures ∙ c.if-is_blank.true)

pub returns-clause-place : goal.returns-clause-place
returns-clause-place c =
    position_or_len_is is_blank c.args.text.now c.loop-place.place 0 (c.loop-place.invariant.0) (c.loop-place.invariant.1) (λ lt. absurd (omega (arith, lt, c.loop-place-test.false)))
