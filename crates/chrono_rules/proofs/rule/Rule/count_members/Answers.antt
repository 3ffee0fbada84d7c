use Rattle.std.proofs.Common.{inl, inr, arith, ℤ}
use Rattle.std.proofs.lemmas.Bool.{cases_lt}
use Rattle.chrono_datetime.proofs.Signed.{signed}
use Rattle.chrono_datetime.proofs.CountBetween.{count_between-empty, count_between-le}
use Rattle.chrono_rules.specs.Instances.{is_member}
use Rattle.chrono_rules.proofs.Counts.{count-grows, count-kept}
use Rattle.chrono_rules.proofs.rule.Rule.count_members.Goals as goal

pub returns-then-num_days_from_ce-clause-value : goal.returns-then-num_days_from_ce-clause-value
returns-then-num_days_from_ce-clause-value c =
    omega (arith, count_between-empty (is_member c.args.self.now c.args.start) c.args.start c.args.date (omega (arith, signed, c.if-num_days_from_ce.true, c.num_days_from_ce.ensures.value, c.num_days_from_ce-2.ensures.value)))

pub returns-clause-value : goal.returns-clause-value
returns-clause-value c =
    let p = is_member c.args.self.now c.args.start in
    let it = c.first_members-walked.ensures in
    let day : ℤ = c.first_members-walked.result.day in
    elim (cases_lt c.first_members-walked.result.seen c.args.most) [
      | inl lt ↦ omega (arith, lt, it.counted, count-kept p c.args.start day c.args.date it.high (it.all lt))
      | inr ge ↦ omega (arith, ge, it.few, it.counted, count-grows p c.args.start day c.args.date it.high)
    ]

pub returns-clause-few : goal.returns-clause-few
returns-clause-few c =
    let it = c.first_members-walked.ensures in
    omega (arith, signed, it.counted, it.high, c.num_days_from_ce-2.ensures.value, c.num_days_from_ce-2.ensures.in_range, count_between-le (is_member c.args.self.now c.args.start) c.args.start c.first_members-walked.result.day it.low)
