use Rattle.std.proofs.Common.{arith}
use Rattle.std.proofs.lemmas.Int.{by_lt_z}
use Rattle.chrono_datetime.proofs.Signed.{signed}
use Rattle.chrono_rules.specs.Instances.{is_member}
use Rattle.chrono_rules.proofs.Counts.{count-grows, count-kept}
use Rattle.chrono_rules.proofs.rule.Rule.first_full.Goals as goal

pub returns-then-walked-count-clause-fewer : goal.returns-then-walked-count-clause-fewer
returns-then-walked-count-clause-fewer c = λ d low high.
    let it = c.first_members-walked.ensures in
    by_lt_z d c.first_members-walked.result.day
    (λ lt. it.fewer d low lt)
    (λ ge.
    let same = count-kept (is_member c.args.self.now c.args.start) c.args.start c.first_members-walked.result.day d ge (λ e from to. it.all c.if-walked-count.true e from (omega (arith, signed, to, high))) in
    omega (arith, same, it.counted, c.if-walked-count.true))

pub returns-clause-full : goal.returns-clause-full
returns-clause-full c = λ d low high.
    let it = c.first_members-walked.ensures in
    omega (arith, c.if-walked-count.false, it.counted, count-grows (is_member c.args.self.now c.args.start) c.args.start c.first_members-walked.result.day d low)
