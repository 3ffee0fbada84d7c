use Rattle.std.proofs.Common.{arith, ◌∙◌}
use Rattle.std.proofs.lemmas.Int.{by_lt_z, ints}
use Rattle.zoned_rules.proofs.ListedTimes.{before_day, last_of_day, listed_at, on_instance, past_day}
use Rattle.zoned_rules.proofs.local_rule.LocalRule.last_in_front_of_day.Goals as goal

pub returns-in-Some-last_time-clause-listed : goal.returns-in-Some-last_time-clause-listed
returns-in-Some-last_time-clause-listed c =
    let r = c.args.self.now in
    let day = c.in-Some.previous in
    let k = c.in-Some-last_time.second in
    listed_at r day k c.beginning.result c.beginning.ensures.value c.beginning.ensures.exists (on_instance r day k c.in-Some.ensures.instance ∙ c.in-Some-last_time.ensures.time)

pub returns-in-Some-last_time-clause-earlier : goal.returns-in-Some-last_time-clause-earlier
returns-in-Some-last_time-clause-earlier c =
    before_day c.args.date c.in-Some.previous c.in-Some-last_time.second c.beginning.result c.in-Some-last_time.ensures.before (omega (arith, ints, c.in-Some.ensures.earlier, c.loop-previous.invariant.0)) c.beginning.ensures.value

pub returns-in-Some-last_time-clause-greatest : goal.returns-in-Some-last_time-clause-greatest
returns-in-Some-last_time-clause-greatest c = λ q h lt.
    last_of_day c.args.self.now c.in-Some.previous c.in-Some-last_time.second c.beginning.result q c.in-Some-last_time.ensures.before c.beginning.ensures.value c.in-Some-last_time.ensures.greatest h
    (c.in-Some.ensures.greatest q h (c.loop-previous.invariant.1 q h lt))

pub loop-previous-preserved : goal.loop-previous-preserved
loop-previous-preserved c =
    let day = c.in-Some.previous in (
      omega (arith, ints, c.loop-previous.invariant.0, c.in-Some.ensures.earlier),
      λ q h lt.
          let le = c.in-Some.ensures.greatest q h (c.loop-previous.invariant.1 q h lt) in
          by_lt_z q.date day (λ less. less)
          (λ ge. absurd (past_day c.args.self.now day q c.in_default-last_time.ensures.none h (omega (arith, ints, le, ge)))),
    )
