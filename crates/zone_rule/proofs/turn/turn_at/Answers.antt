use Rattle.std.proofs.Common.{arith, ap, ◌≡◌, ◌∙◌, ℤ, pos, ◌+ℤ◌, ◌-ℤ◌, ◌<ℤ◌, to_z, of_z, w64}
use Rattle.std.proofs.lemmas.Int.{to_z-of_z}
use Rattle.chrono_calendar.proofs.Signed.{casts, signed}
use Rattle.zone_rule.specs.Changes.{change_second}
use Rattle.zone_rule.proofs.LastChanges.{is_later-fact}
use Rattle.zone_rule.proofs.Turns.{is_before, is_first, no_more, not_before, not_yet, turn_before, turn_behind, turn_between}
use Rattle.zone_rule.proofs.turn.turn_at.Goals as goal
use Rattle.zone_rule.proofs.turn.turn_at.Goals.{then-second-came, else-second-came}

pub returns-then-second-comes-2-clause-turn : goal.returns-then-second-comes-2-clause-turn
returns-then-second-comes-2-clause-turn c = λ other at yearly others order.
    let f : ℤ → ℤ = change_second c.args.offset c.args.first.now in
    let y : ℤ = c.args.year in
    let a : ℤ = to_z w64 (of_z w64 c.args.came) in
    let b : ℤ = to_z w64 (of_z w64 c.args.comes) in
    let s : ℤ = to_z w64 (of_z w64 c.args.second) in
    let came : a ≡ f y = to_z-of_z w64 c.args.came c.ranges.came ∙ c.requires.came in
    let comes : b ≡ other y = to_z-of_z w64 c.args.comes c.ranges.comes ∙ at in
    let here : s ≡ c.args.second = to_z-of_z w64 c.args.second c.ranges.second in
    let lt = is_before s b c.if-second-comes-2.true in
    elim c.if-second-came.branch [
      | then-second-came w ↦
          let before = is_before s a w.if-second-came.true in
          turn_before f other y c.args.second _ yearly others order
          (omega (arith, casts, at, c.requires.came, c.requires.near, c.requires.far, is_later-fact b (to_z w64 (of_z w64 (a +ℤ pos 5_529_600))) c.if-comes-came.false))
          (omega (arith, casts, at, here, c.requires.near, c.requires.far, not_before s (to_z w64 (of_z w64 (b -ℤ pos 28_771_200))) c.if-second-comes.false))
          (omega (arith, signed, before, came, here))
          (not_yet a b s before)
          (w.next-is ∙ came)
      | else-second-came w ↦
          let past = not_before s a w.if-second-came.false in
          turn_between f other y c.args.second _ yearly others
          (omega (arith, casts, at, c.requires.came, c.requires.near, c.requires.far, is_later-fact (to_z w64 (of_z w64 (a +ℤ pos 28_771_200))) b c.if-came-comes.false))
          (omega (arith, signed, past, came, here))
          (omega (arith, signed, lt, comes, here))
          (is_first a b s past c.if-second-comes-2.true)
          (w.next-is ∙ comes)
    ]

pub returns-clause-turn : goal.returns-clause-turn
returns-clause-turn c = λ other at yearly others order.
    let f : ℤ → ℤ = change_second c.args.offset c.args.first.now in
    let y : ℤ = c.args.year in
    let a : ℤ = to_z w64 (of_z w64 c.args.came) in
    let b : ℤ = to_z w64 (of_z w64 c.args.comes) in
    let s : ℤ = to_z w64 (of_z w64 c.args.second) in
    let came : a ≡ f y = to_z-of_z w64 c.args.came c.ranges.came ∙ c.requires.came in
    let comes : b ≡ other y = to_z-of_z w64 c.args.comes c.ranges.comes ∙ at in
    let here : s ≡ c.args.second = to_z-of_z w64 c.args.second c.ranges.second in
    let past = not_before s b c.if-second-comes-2.false in
    let apart : (f y +ℤ pos 5_529_600) <ℤ other y
    = omega (arith, casts, at, c.requires.came, c.requires.near, c.requires.far, is_later-fact b (to_z w64 (of_z w64 (a +ℤ pos 5_529_600))) c.if-comes-came.false) in
    turn_behind f other y c.args.second _ yearly others order apart
    (omega (arith, signed, past, comes, here))
    (omega (arith, casts, here, c.requires.came, c.requires.near, is_later-fact (to_z w64 (of_z w64 (a +ℤ pos 28_771_200))) s c.if-came-second.false))
    (no_more a b s (omega (arith, signed, past, comes, came, apart)) c.if-second-comes-2.false)
    (to_z-of_z w64 c.second_in.result (record { sfits = c.second_in.type_inv }) ∙ c.second_in.ensures.value
    ∙ ap f (omega (arith, casts, c.requires.year.0, c.requires.year.1)))
