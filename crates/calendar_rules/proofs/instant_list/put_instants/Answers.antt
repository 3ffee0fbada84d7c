use Rattle.std.proofs.Common.{ap, arith, drop, inl, inr, length, refl, take}
use Rattle.std.proofs.lemmas.List.{length-set}
use Rattle.calendar_rules.proofs.InstantLists.{all_put, first_left, more_than, one_fewer, one_put}
use Rattle.calendar_rules.proofs.instant_list.put_instants.Goals as goal

pub loop-time-preserved : goal.loop-time-preserved
loop-time-preserved g c =
    let l = c.loop-time in
    let d = c.in-Some-instant_of_time.instant in
    let same = length-set l.out l.len d in
    record {
      within = omega (arith, same, c.if-len-out.false);
      size = omega (arith, same, l.invariant.size);
      count = omega (arith, l.invariant.count, ap length c.in-Some.ensures.steps);
      same = one_put g.Z.TimeZone.ahead c.args.zone c.args.times l.times c.next.new.self c.in-Some.time l.out l.len d c.if-len-out.false c.in-Some.ensures.steps c.in-Some-instant_of_time.ensures.some l.invariant.same;
      left = λ ds are. one_fewer g.Z.TimeZone.ahead c.args.zone l.times c.next.new.self c.in-Some.time l.len ds c.in-Some.ensures.steps (l.invariant.left ds are);
    }

pub returns-clause-instants : goal.returns-clause-instants
returns-clause-instants g c =
    all_put g.Z.TimeZone.ahead c.args.zone c.args.times c.loop-time.times (take c.loop-time.len c.loop-time.out) c.in_default.ensures.steps.0 c.loop-time.invariant.same

pub returns-in_default-instant_of_time-clause-none : goal.returns-in_default-instant_of_time-clause-none
returns-in_default-instant_of_time-clause-none g c = λ ds are.
    let l = c.loop-time in
    let first = first_left g.Z.TimeZone.ahead c.args.zone l.times c.next.new.self c.in-Some.time (drop l.len ds) c.in-Some.ensures.steps (l.invariant.left ds are) in
    absurd (c.in_default-instant_of_time.ensures.none first.0 first.1)

pub returns-then-len-out-clause-none : goal.returns-then-len-out-clause-none
returns-then-len-out-clause-none g c = λ ds are.
    let l = c.loop-time in
    let more = more_than g.Z.TimeZone.ahead c.args.zone l.times c.next.new.self c.in-Some.time l.len ds c.in-Some.ensures.steps (l.invariant.left ds are) in
    omega (arith, more, c.if-len-out.true, l.invariant.size)

pub returns-in_default-instant_of_time-clause-fault : goal.returns-in_default-instant_of_time-clause-fault
returns-in_default-instant_of_time-clause-fault g c = inl (
  refl,
  λ ds are.
      let l = c.loop-time in
      let first = first_left g.Z.TimeZone.ahead c.args.zone l.times c.next.new.self c.in-Some.time (drop l.len ds) c.in-Some.ensures.steps (l.invariant.left ds are) in
      c.in_default-instant_of_time.ensures.none first.0 first.1,
)

pub returns-then-len-out-clause-fault : goal.returns-then-len-out-clause-fault
returns-then-len-out-clause-fault g c =
    inr (refl, omega (arith, c.loop-time.invariant.count, ap length c.in-Some.ensures.steps, c.if-len-out.true, c.loop-time.invariant.size))
