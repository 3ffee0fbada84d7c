use Rattle.std.proofs.Common.{arith}
use Rattle.chrono_datetime.specs.Days.{IsDate}
use Rattle.chrono_datetime.proofs.Signed.{casts, signed}
use Rattle.chrono_rules.proofs.PlacesFromEnd.{behind_front}
use Rattle.chrono_rules.proofs.rule.Rule.days_to_named_place.Goals as goal

pub days_to_place_from_end-requires-clause-front : goal.days_to_place_from_end-requires-clause-front
days_to_place_from_end-requires-clause-front c = λ d low high is.
    let here = c.num_days_from_ce.ensures in
    let date : IsDate d = (omega (arith, signed, low, here.value, here.in_range), omega (arith, casts, high, c.if-from-end.false, here.value, here.in_range, c.from.ensures, c.from-2.ensures, c.to_period_end-end.ensures.low, c.to_period_end-end.ensures.high)) in
    behind_front c.args.self.now c.args.start c.args.day d c.passing_before-before.result c.last_place.result low
    (omega (arith, signed, high, c.to_period_end-end.ensures.value)) date c.passing_before-before.ensures.value c.if-before-last_place.false c.last_place.ensures.none is

pub returns-clause-passed : goal.returns-clause-passed
returns-clause-passed c = λ d low high.
    let end = c.days_to_place_from_end.ensures in
    end.passed d low (omega (arith, casts, high, end.low, end.high))
