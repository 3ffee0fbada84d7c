use Rattle.std.proofs.Common.{◌∙◌, Some, None, ap, sym}
use Rattle.chrono_cron.specs.FieldTexts.{number_between}
use Rattle.chrono_cron.proofs.FieldTexts.{range_alone, range_first, range_last, range_star}
use Rattle.chrono_cron.proofs.text.field.read_range.Goals as goal

pub returns-then-is_star-clause-range : goal.returns-then-is_star-clause-range
returns-then-is_star-clause-range c = sym (range_star c.args.names c.args.low c.args.high c.args.text.now (sym c.is_star.ensures ∙ c.if-is_star.true))

pub returns-in_default-clause-range : goal.returns-in_default-clause-range
returns-in_default-clause-range c = sym (range_alone c.args.names c.args.low c.args.high c.args.text.now (sym c.is_star.ensures ∙ c.if-is_star.false) c.in_default.ensures.none)

pub returns-in_default-read_number-clause-range : goal.returns-in_default-read_number-clause-range
returns-in_default-read_number-clause-range c =
    let front = ap (number_between c.args.names c.args.low c.args.high) (sym c.in-Some.ensures.front) ∙ sym c.read_number.ensures.number ∙ c.in_default-read_number.is in
    sym (range_first c.args.names c.args.low c.args.high c.args.text.now (sym c.is_star.ensures ∙ c.if-is_star.false) front)

pub returns-in_default-read_number-2-clause-range : goal.returns-in_default-read_number-2-clause-range
returns-in_default-read_number-2-clause-range c =
    let first = c.in-Some-read_number.first in
    let front = ap (number_between c.args.names c.args.low c.args.high) (sym c.in-Some.ensures.front) ∙ sym c.read_number.ensures.number ∙ c.in-Some-read_number.is in
    let back = ap (number_between c.args.names first c.args.high) (sym c.in-Some.ensures.back) ∙ sym c.read_number-2.ensures.number ∙ c.in_default-read_number-2.is in
    sym (range_last c.args.names c.args.low c.args.high first c.args.text.now None (sym c.is_star.ensures ∙ c.if-is_star.false) front back)

pub returns-clause-range : goal.returns-clause-range
returns-clause-range c =
    let first = c.in-Some-read_number.first in
    let front = ap (number_between c.args.names c.args.low c.args.high) (sym c.in-Some.ensures.front) ∙ sym c.read_number.ensures.number ∙ c.in-Some-read_number.is in
    let back = ap (number_between c.args.names first c.args.high) (sym c.in-Some.ensures.back) ∙ sym c.read_number-2.ensures.number ∙ c.in-Some-read_number-2.is in
    sym (range_last c.args.names c.args.low c.args.high first c.args.text.now (Some c.in-Some-read_number-2.last) (sym c.is_star.ensures ∙ c.if-is_star.false) front back)
