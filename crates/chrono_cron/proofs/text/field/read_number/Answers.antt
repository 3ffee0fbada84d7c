use Rattle.std.proofs.Common.{◌∙◌, sym, arith}
use Rattle.chrono_cron.proofs.FieldTexts.{number_high, number_low, number_none, number_some}
use Rattle.chrono_cron.proofs.text.field.read_number.Goals as goal
use Rattle.chrono_cron.proofs.text.field.read_number.Goals.{else-low-number-via-then-low-number+else-number-high, else-low-number-via-else-low-number}

pub returns-in_default-clause-number : goal.returns-in_default-clause-number
returns-in_default-clause-number c = (sym (number_none c.args.names c.args.low c.args.high c.args.text.now (sym c.spelled_number.ensures ∙ c.in_default.is)))

pub returns-then-number-high-clause-number : goal.returns-then-number-high-clause-number
returns-then-number-high-clause-number c =
    sym (number_some c.args.names c.args.low c.args.high c.args.text.now c.in-Some.number (sym c.spelled_number.ensures ∙ c.in-Some.is) (omega (arith, c.if-low-number.true)) (omega (arith, c.if-number-high.true)))

pub returns-else-low-number-clause-number : goal.returns-else-low-number-clause-number
returns-else-low-number-clause-number c =
    let is = sym c.spelled_number.ensures ∙ c.in-Some.is in
    elim c.else-low-number.branch [
      | else-low-number-via-then-low-number+else-number-high w ↦
          sym (number_high c.args.names c.args.low c.args.high c.args.text.now c.in-Some.number is (omega (arith, w.if-low-number.true)) (omega (arith, w.if-number-high.false)))
      | else-low-number-via-else-low-number w ↦ sym (number_low c.args.names c.args.low c.args.high c.args.text.now c.in-Some.number is (omega (arith, w.if-low-number.false)))
    ]
