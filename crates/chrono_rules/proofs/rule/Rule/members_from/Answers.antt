use Rattle.std.proofs.Common.{arith, sym, ◌∙◌}
use Rattle.std.proofs.lemmas.Int.{by_lt_z}
use Rattle.chrono_datetime.proofs.Signed.{signed}
use Rattle.chrono_rules.specs.Instances.{is_member}
use Rattle.chrono_rules.proofs.Counts.{count-kept}
use Rattle.chrono_rules.proofs.rule.Rule.members_from.Goals as goal

pub loop-count-init : goal.loop-count-init
loop-count-init c = record {
  low = c.requires.begun;
  high = c.requires.order;
  counted = c.requires.counted;
  few = c.requires.few;
  fewer = c.requires.fewer;
}

pub members_on-walked-requires-clause-counted : goal.members_on-walked-requires-clause-counted
members_on-walked-requires-clause-counted c =
    let found = c.in-Some.ensures in
    c.loop-count.invariant.counted ∙ sym (count-kept (is_member c.args.self.now c.args.start) c.args.start c.loop-count.from c.in-Some.member found.not_before found.least)

pub loop-count-preserved : goal.loop-count-preserved
loop-count-preserved c =
    let r = c.args.self.now in
    let inv = c.loop-count.invariant in
    let found = c.in-Some.ensures in
    let walked = c.members_on-walked.ensures in
    let test = c.loop-count-test.true in record {
      low = omega (arith, signed, inv.low, found.not_before, walked.later);
      high = walked.high;
      counted = walked.counted;
      few = walked.few;
      fewer = λ d low high. by_lt_z d c.loop-count.from
          (λ lt. inv.fewer d low lt)
          (λ ge. by_lt_z d c.in-Some.member
          (λ lt.
          let same = count-kept (is_member r c.args.start) c.args.start c.loop-count.from d ge (λ e from to. found.least e from (omega (arith, signed, to, lt))) in
          omega (arith, same, inv.counted, test))
          (λ behind. walked.fewer d behind high));
    }
