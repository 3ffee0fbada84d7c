use Rattle.std.proofs.Common.{◌≡◌, refl, sym, ap, ◌∙◌, arith}
use Rattle.chrono_datetime.proofs.Signed.{signed}
use Rattle.chrono_rules.specs.Instances.{in_positions, is_member}
use Rattle.chrono_rules.proofs.NamedDays.{off_position}
use Rattle.chrono_rules.proofs.rule.Rule.passed_by_position.Goals as goal

pub returns-then-lacks_positions-clause-named : goal.returns-then-lacks_positions-clause-named
unfolding in_positions
returns-then-lacks_positions-clause-named c = λ none. rw (sym c.lacks_positions.ensures ∙ c.if-lacks_positions.true) refl

pub returns-else-in_positions-clause-passed : goal.returns-else-in_positions-clause-passed
returns-else-in_positions-clause-passed c = λ d low high.
    let same : d ≡ c.args.day = omega (arith, signed, low, high) in
    ap (is_member c.args.self.now c.args.start) same ∙ off_position c.args.self.now c.args.start c.args.day (sym c.in_positions.ensures ∙ c.if-in_positions.false)
