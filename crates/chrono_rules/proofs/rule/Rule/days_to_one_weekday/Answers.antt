use Rattle.std.proofs.Common.{◌+◌, ◌-◌, ◌/◌, sym, ap, ◌∙◌, arith}
use Rattle.chrono_sets.specs.FiniteSets.{has}
use Rattle.chrono_rules.proofs.Skipped.{not_named}
use Rattle.chrono_rules.proofs.rule.Rule.days_to_one_weekday.Goals as goal

pub returns-clause-passed : goal.returns-clause-passed
returns-clause-passed c = λ j lt le at.
    let weeks = (j - c.args.first) / 7 in
    not_named c.args.self.now c.args.weekday (c.args.place + j) (c.args.behind - j) (1 + (c.args.place + c.args.first - 1) / 7 + weeks) (1 + (c.args.behind - c.args.first) / 7 - weeks)
    (sym c.contains.ensures ∙ c.if-contains.false)
    (ap (λ set. has set ((1 + (c.args.place + c.args.first - 1) / 7) + weeks)) (sym c.numbers_of-numbers.ensures) ∙ c.gap_up-front.ensures.left_out weeks (omega (arith, lt, at)))
    (ap (λ set. has set ((1 + (c.args.behind - c.args.first) / 7) - weeks)) (sym c.numbers_of-from_end.ensures) ∙ c.gap_down-back.ensures.left_out weeks (omega (arith, lt, at)) (omega (arith, lt, le, at)))
    (omega (arith, lt, le, at, c.requires.place))
    (omega (arith, lt, le, at))
