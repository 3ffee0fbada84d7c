use Rattle.std.proofs.Common.{◌≡◌, ◌∙◌, ◌-◌, [], length, refl, ap, sym, arith, true, false}
use Rattle.std.proofs.lemmas.List.{length-set}
use Rattle.chrono_cron.specs.DueMoments.{dues_after, dues_left}
use Rattle.numbers_c.specs.DateTimes.{numbers_for_c}
use Rattle.layers_c.specs.Schedules.{is_up_to}
use Rattle.layers_c.proofs.FilledLists.{all-written, one-written, rest-kept, shown, shown-failing, shown-none, written-count}
use Rattle.layers_c.proofs.schedules.write_due.Goals as goal

pub loop-count-init : goal.loop-count-init
loop-count-init c =
    let all : length c.args.out.now ≡ length c.args.out.now - 0 = omega arith in
    (omega arith, refl, ap (λ k. shown numbers_for_c (is_up_to c.args.until) k (dues_left c.after-moments.result)) all, refl)

pub returns-in_default-clause-count : goal.returns-in_default-clause-count
returns-in_default-clause-count c =
    let begun : dues_left c.after-moments.result ≡ dues_after c.args.schedule.now.sets c.args.start =
    ap (λ schedule. dues_after schedule.sets c.after-moments.result.last) c.after-moments.ensures.schedule ∙ ap (dues_after c.args.schedule.now.sets) c.after-moments.ensures.start in
    let room = length c.args.out.now in
    let whole = sym (ap (shown numbers_for_c (is_up_to c.args.until) room) begun) ∙ c.loop-count.invariant.2 in
    let none = shown-none numbers_for_c (is_up_to c.args.until) (room - c.loop-count.count) (dues_left c.loop-count.moments) c.in_default.ensures.steps.0 in
    written-count _ c.loop-count.out _ c.loop-count.count whole none (omega (arith, c.loop-count.invariant.0, c.loop-count.invariant.1))

pub returns-in_default-clause-due : goal.returns-in_default-clause-due
returns-in_default-clause-due c =
    let begun : dues_left c.after-moments.result ≡ dues_after c.args.schedule.now.sets c.args.start =
    ap (λ schedule. dues_after schedule.sets c.after-moments.result.last) c.after-moments.ensures.schedule ∙ ap (dues_after c.args.schedule.now.sets) c.after-moments.ensures.start in
    let room = length c.args.out.now in
    let whole = sym (ap (shown numbers_for_c (is_up_to c.args.until) room) begun) ∙ c.loop-count.invariant.2 in
    let none = shown-none numbers_for_c (is_up_to c.args.until) (room - c.loop-count.count) (dues_left c.loop-count.moments) c.in_default.ensures.steps.0 in
    all-written _ c.loop-count.out _ c.loop-count.count whole none

pub returns-in_default-clause-rest : goal.returns-in_default-clause-rest
returns-in_default-clause-rest c = c.loop-count.invariant.3

pub returns-else-is_up_to-clause-count : goal.returns-else-is_up_to-clause-count
returns-else-is_up_to-clause-count c =
    let begun : dues_left c.after-moments.result ≡ dues_after c.args.schedule.now.sets c.args.start =
    ap (λ schedule. dues_after schedule.sets c.after-moments.result.last) c.after-moments.ensures.schedule ∙ ap (dues_after c.args.schedule.now.sets) c.after-moments.ensures.start in
    let room = length c.args.out.now in
    let whole = sym (ap (shown numbers_for_c (is_up_to c.args.until) room) begun) ∙ c.loop-count.invariant.2 in
    let fails : is_up_to c.args.until c.in-Some.moment ≡ false = sym c.is_up_to.ensures ∙ c.if-is_up_to.false in
    let none = shown-failing numbers_for_c (is_up_to c.args.until) (room - c.loop-count.count) (dues_left c.loop-count.moments) c.in-Some.moment (dues_left c.step.new.self) c.in-Some.ensures.steps fails in
    written-count _ c.loop-count.out _ c.loop-count.count whole none (omega (arith, c.loop-count.invariant.0, c.loop-count.invariant.1))

pub returns-else-is_up_to-clause-due : goal.returns-else-is_up_to-clause-due
returns-else-is_up_to-clause-due c =
    let begun : dues_left c.after-moments.result ≡ dues_after c.args.schedule.now.sets c.args.start =
    ap (λ schedule. dues_after schedule.sets c.after-moments.result.last) c.after-moments.ensures.schedule ∙ ap (dues_after c.args.schedule.now.sets) c.after-moments.ensures.start in
    let room = length c.args.out.now in
    let whole = sym (ap (shown numbers_for_c (is_up_to c.args.until) room) begun) ∙ c.loop-count.invariant.2 in
    let fails : is_up_to c.args.until c.in-Some.moment ≡ false = sym c.is_up_to.ensures ∙ c.if-is_up_to.false in
    let none = shown-failing numbers_for_c (is_up_to c.args.until) (room - c.loop-count.count) (dues_left c.loop-count.moments) c.in-Some.moment (dues_left c.step.new.self) c.in-Some.ensures.steps fails in
    all-written _ c.loop-count.out _ c.loop-count.count whole none

pub returns-else-is_up_to-clause-rest : goal.returns-else-is_up_to-clause-rest
returns-else-is_up_to-clause-rest c = c.loop-count.invariant.3

pub returns-clause-count : goal.returns-clause-count
returns-clause-count c =
    let begun : dues_left c.after-moments.result ≡ dues_after c.args.schedule.now.sets c.args.start =
    ap (λ schedule. dues_after schedule.sets c.after-moments.result.last) c.after-moments.ensures.schedule ∙ ap (dues_after c.args.schedule.now.sets) c.after-moments.ensures.start in
    let room = length c.args.out.now in
    let whole = sym (ap (shown numbers_for_c (is_up_to c.args.until) room) begun) ∙ c.loop-count.invariant.2 in
    let full : room - c.loop-count.count ≡ 0 = omega (arith, c.loop-count-test.false, c.loop-count.invariant.1) in
    let none : shown numbers_for_c (is_up_to c.args.until) (room - c.loop-count.count) (dues_left c.loop-count.moments) ≡ [] =
    ap (λ k. shown numbers_for_c (is_up_to c.args.until) k (dues_left c.loop-count.moments)) full in
    written-count _ c.loop-count.out _ c.loop-count.count whole none (omega (arith, c.loop-count.invariant.0, c.loop-count.invariant.1))

pub returns-clause-due : goal.returns-clause-due
returns-clause-due c =
    let begun : dues_left c.after-moments.result ≡ dues_after c.args.schedule.now.sets c.args.start =
    ap (λ schedule. dues_after schedule.sets c.after-moments.result.last) c.after-moments.ensures.schedule ∙ ap (dues_after c.args.schedule.now.sets) c.after-moments.ensures.start in
    let room = length c.args.out.now in
    let whole = sym (ap (shown numbers_for_c (is_up_to c.args.until) room) begun) ∙ c.loop-count.invariant.2 in
    let full : room - c.loop-count.count ≡ 0 = omega (arith, c.loop-count-test.false, c.loop-count.invariant.1) in
    let none : shown numbers_for_c (is_up_to c.args.until) (room - c.loop-count.count) (dues_left c.loop-count.moments) ≡ [] =
    ap (λ k. shown numbers_for_c (is_up_to c.args.until) k (dues_left c.loop-count.moments)) full in
    all-written _ c.loop-count.out _ c.loop-count.count whole none

pub returns-clause-rest : goal.returns-clause-rest
returns-clause-rest c = c.loop-count.invariant.3

pub loop-count-smaller : goal.loop-count-smaller
loop-count-smaller c = omega (arith, c.loop-count-test.true, c.loop-count.invariant.1)

pub loop-count-preserved : goal.loop-count-preserved
loop-count-preserved c =
    let passes : is_up_to c.args.until c.in-Some.moment ≡ true = sym c.is_up_to.ensures ∙ c.if-is_up_to.true in
    let more =
    one-written numbers_for_c (is_up_to c.args.until) (length c.args.out.now) c.loop-count.count c.loop-count.out (dues_left c.loop-count.moments) c.in-Some.moment (dues_left c.step.new.self)
    (omega (arith, c.loop-count-test.true, c.loop-count.invariant.1)) c.loop-count.invariant.1 c.in-Some.ensures.steps passes in
    rw c.numbers_or_none.ensures (
      omega (arith, c.loop-count-test.true, c.loop-count.invariant.1),
      length-set c.loop-count.out c.loop-count.count (numbers_for_c c.in-Some.moment) ∙ c.loop-count.invariant.1,
      c.loop-count.invariant.2 ∙ more,
      rest-kept c.loop-count.out c.args.out.now c.loop-count.count (numbers_for_c c.in-Some.moment) c.loop-count.invariant.3,
    )
