use Rattle.std.proofs.Common.{arith, ◌∙◌}
use Rattle.std.proofs.lemmas.Int.{by_lt_z, ints}
use Rattle.zoned_rules.proofs.ListedTimes.{first_of_day, listed_at, on_instance, past_day}
use Rattle.zoned_rules.proofs.local_rule.LocalRule.first_behind_day.Goals as goal

pub returns-in-Some-first_time-clause-listed : goal.returns-in-Some-first_time-clause-listed
returns-in-Some-first_time-clause-listed c =
    let r = c.args.self.now in
    let day = c.in-Some.next in
    let k = c.in-Some-first_time.second in
    listed_at r day k c.beginning.result c.beginning.ensures.value c.beginning.ensures.exists (on_instance r day k c.in-Some.ensures.instance ∙ c.in-Some-first_time.ensures.time)

pub returns-in-Some-first_time-clause-least : goal.returns-in-Some-first_time-clause-least
returns-in-Some-first_time-clause-least c = λ q h lt.
    first_of_day c.args.self.now c.in-Some.next c.in-Some-first_time.second c.beginning.result q c.in-Some-first_time.ensures.within c.beginning.ensures.value c.in-Some-first_time.ensures.least h
    (c.in-Some.ensures.least q h (c.loop-next.invariant.1 q h lt))

pub loop-next-preserved : goal.loop-next-preserved
loop-next-preserved c =
    let day = c.in-Some.next in (
      omega (arith, ints, c.loop-next.invariant.0, c.in-Some.ensures.later),
      λ q h lt.
          let le = c.in-Some.ensures.least q h (c.loop-next.invariant.1 q h lt) in
          by_lt_z day q.date (λ less. less)
          (λ ge. absurd (past_day c.args.self.now day q c.in_default-first_time.ensures.none h (omega (arith, ints, le, ge)))),
    )

pub returns-clause-none : goal.returns-clause-none
returns-clause-none c = λ q h.
    by_lt_z c.args.date q.date
    (λ lt. absurd (omega (arith, ints, c.in_default.ensures.none q h, c.loop-next.invariant.1 q h lt)))
    (λ ge. ge)
