use Rattle.std.proofs.Common.{◌≡◌, ◌∙◌, ◌-◌, [], length, refl, ap, sym, arith, rules, true, false, FitsSigned, w32}
use Rattle.std.proofs.lemmas.Int.{to_z-of_z}
use Rattle.std.proofs.lemmas.List.{length-set}
use Rattle.std.specs.Prelude.{int_le}
use Rattle.layers_c.proofs.FilledLists.{all-written, one-written, rest-kept, shown, shown-failing, shown-none, written-count}
use Rattle.layers_c.proofs.PlainLists.{begun}
use Rattle.layers_c.proofs.rules.write_instances.Goals as goal

pub loop-count-init : goal.loop-count-init
loop-count-init c =
    let all : length c.args.out.now ≡ length c.args.out.now - 0 = omega arith in
    (omega arith, refl, ap (λ k. shown (λ n. n) (λ n. int_le n c.args.until) k (c.instances_from-days.result)) all, refl)

pub returns-in_default-clause-count : goal.returns-in_default-clause-count
returns-in_default-clause-count c =
    let room = length c.args.out.now in
    let whole = begun (λ n. int_le n c.args.until) room c.instances_from-days.result _ c.instances_from-days.ensures ∙ c.loop-count.invariant.2 in
    let none = shown-none (λ n. n) (λ n. int_le n c.args.until) (room - c.loop-count.count) c.loop-count.days c.in_default.ensures.steps.0 in
    written-count _ c.loop-count.out _ c.loop-count.count whole none (omega (arith, c.loop-count.invariant.0, c.loop-count.invariant.1))

pub returns-in_default-clause-instances : goal.returns-in_default-clause-instances
returns-in_default-clause-instances c =
    let room = length c.args.out.now in
    let whole = begun (λ n. int_le n c.args.until) room c.instances_from-days.result _ c.instances_from-days.ensures ∙ c.loop-count.invariant.2 in
    let none = shown-none (λ n. n) (λ n. int_le n c.args.until) (room - c.loop-count.count) c.loop-count.days c.in_default.ensures.steps.0 in
    all-written _ c.loop-count.out _ c.loop-count.count whole none

pub returns-in_default-clause-rest : goal.returns-in_default-clause-rest
returns-in_default-clause-rest c = c.loop-count.invariant.3

pub returns-else-is_up_to-clause-count : goal.returns-else-is_up_to-clause-count
returns-else-is_up_to-clause-count c =
    let room = length c.args.out.now in
    let whole = begun (λ n. int_le n c.args.until) room c.instances_from-days.result _ c.instances_from-days.ensures ∙ c.loop-count.invariant.2 in
    let fails : int_le c.in-Some.day c.args.until ≡ false = sym c.is_up_to.ensures ∙ c.if-is_up_to.false in
    let none = shown-failing (λ n. n) (λ n. int_le n c.args.until) (room - c.loop-count.count) c.loop-count.days c.in-Some.day c.next.new.self c.in-Some.ensures.steps fails in
    written-count _ c.loop-count.out _ c.loop-count.count whole none (omega (arith, c.loop-count.invariant.0, c.loop-count.invariant.1))

pub returns-else-is_up_to-clause-instances : goal.returns-else-is_up_to-clause-instances
returns-else-is_up_to-clause-instances c =
    let room = length c.args.out.now in
    let whole = begun (λ n. int_le n c.args.until) room c.instances_from-days.result _ c.instances_from-days.ensures ∙ c.loop-count.invariant.2 in
    let fails : int_le c.in-Some.day c.args.until ≡ false = sym c.is_up_to.ensures ∙ c.if-is_up_to.false in
    let none = shown-failing (λ n. n) (λ n. int_le n c.args.until) (room - c.loop-count.count) c.loop-count.days c.in-Some.day c.next.new.self c.in-Some.ensures.steps fails in
    all-written _ c.loop-count.out _ c.loop-count.count whole none

pub returns-else-is_up_to-clause-rest : goal.returns-else-is_up_to-clause-rest
returns-else-is_up_to-clause-rest c = c.loop-count.invariant.3

pub returns-clause-count : goal.returns-clause-count
returns-clause-count c =
    let room = length c.args.out.now in
    let whole = begun (λ n. int_le n c.args.until) room c.instances_from-days.result _ c.instances_from-days.ensures ∙ c.loop-count.invariant.2 in
    let full : room - c.loop-count.count ≡ 0 = omega (arith, c.loop-count-test.false, c.loop-count.invariant.1) in
    let none : shown (λ n. n) (λ n. int_le n c.args.until) (room - c.loop-count.count) c.loop-count.days ≡ [] =
    ap (λ k. shown (λ n. n) (λ n. int_le n c.args.until) k c.loop-count.days) full in
    written-count _ c.loop-count.out _ c.loop-count.count whole none (omega (arith, c.loop-count.invariant.0, c.loop-count.invariant.1))

pub returns-clause-instances : goal.returns-clause-instances
returns-clause-instances c =
    let room = length c.args.out.now in
    let whole = begun (λ n. int_le n c.args.until) room c.instances_from-days.result _ c.instances_from-days.ensures ∙ c.loop-count.invariant.2 in
    let full : room - c.loop-count.count ≡ 0 = omega (arith, c.loop-count-test.false, c.loop-count.invariant.1) in
    let none : shown (λ n. n) (λ n. int_le n c.args.until) (room - c.loop-count.count) c.loop-count.days ≡ [] =
    ap (λ k. shown (λ n. n) (λ n. int_le n c.args.until) k c.loop-count.days) full in
    all-written _ c.loop-count.out _ c.loop-count.count whole none

pub returns-clause-rest : goal.returns-clause-rest
returns-clause-rest c = c.loop-count.invariant.3

pub loop-count-smaller : goal.loop-count-smaller
loop-count-smaller c = omega (arith, c.loop-count-test.true, c.loop-count.invariant.1)

pub loop-count-preserved : goal.loop-count-preserved
loop-count-preserved c =
    let fits : FitsSigned w32 c.num_days_from_ce.result = search rules in
    let number = to_z-of_z w32 c.num_days_from_ce.result fits ∙ c.num_days_from_ce.ensures.value in
    let passes : int_le c.in-Some.day c.args.until ≡ true = sym c.is_up_to.ensures ∙ c.if-is_up_to.true in
    let more =
    one-written (λ n. n) (λ n. int_le n c.args.until) (length c.args.out.now) c.loop-count.count c.loop-count.out c.loop-count.days c.in-Some.day c.next.new.self
    (omega (arith, c.loop-count-test.true, c.loop-count.invariant.1)) c.loop-count.invariant.1 c.in-Some.ensures.steps passes in
    rw number (
      omega (arith, c.loop-count-test.true, c.loop-count.invariant.1),
      length-set c.loop-count.out c.loop-count.count c.in-Some.day ∙ c.loop-count.invariant.1,
      c.loop-count.invariant.2 ∙ more,
      rest-kept c.loop-count.out c.args.out.now c.loop-count.count c.in-Some.day c.loop-count.invariant.3,
    )
