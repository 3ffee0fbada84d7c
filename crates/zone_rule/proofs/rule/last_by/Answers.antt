use Rattle.std.proofs.Common.{arith, ap, ◌∙◌, ◌≡◌, ℤ, pos, ◌+ℤ◌, ◌-ℤ◌, to_z, of_z, w64}
use Rattle.std.proofs.lemmas.Int.{to_z-of_z}
use Rattle.chrono_calendar.proofs.Signed.{casts}
use Rattle.zone_rule.specs.Changes.{change_second, last_by}
use Rattle.zone_rule.proofs.LastChanges.{is_by-fact, is_later-fact, last_by-before, last_by-first, last_by-next, last_by-same}
use Rattle.zone_rule.proofs.rule.last_by.Goals as goal

pub returns-then-next-second : goal.returns-then-next-second
returns-then-next-second c =
    let second : ℤ → ℤ = change_second c.args.offset c.args.change.now in
    let u : ℤ = to_z w64 (of_z w64 c.args.second) in
    let a : ℤ = to_z w64 (of_z w64 c.second_in-next.result) in
    let at_a : a ≡ second (c.args.year +ℤ pos 1) = to_z-of_z w64 c.second_in-next.result (record { sfits = c.second_in-next.type_inv }) ∙ c.second_in-next.ensures.value ∙ ap second (omega (arith, casts, c.requires.0, c.requires.1)) in
    last_by-next second c.args.year u a at_a (is_by-fact a u c.if-next-second.true)
    ∙ ap (λ (v : ℤ). last_by second c.args.year v) (to_z-of_z w64 c.args.second c.ranges.second)

pub returns-then-same-second : goal.returns-then-same-second
returns-then-same-second c =
    let second : ℤ → ℤ = change_second c.args.offset c.args.change.now in
    let u : ℤ = to_z w64 (of_z w64 c.args.second) in
    let a : ℤ = to_z w64 (of_z w64 c.second_in-next.result) in
    let at_a : a ≡ second (c.args.year +ℤ pos 1) = to_z-of_z w64 c.second_in-next.result (record { sfits = c.second_in-next.type_inv }) ∙ c.second_in-next.ensures.value ∙ ap second (omega (arith, casts, c.requires.0, c.requires.1)) in
    let b : ℤ = to_z w64 (of_z w64 c.second_in-same.result) in
    let at_b : b ≡ second c.args.year = to_z-of_z w64 c.second_in-same.result (record { sfits = c.second_in-same.type_inv }) ∙ c.second_in-same.ensures.value ∙ ap second (omega (arith, casts, c.requires.0, c.requires.1)) in
    last_by-same second c.args.year u a b at_a (is_later-fact a u c.if-next-second.false) at_b (is_by-fact b u c.if-same-second.true)
    ∙ ap (λ (v : ℤ). last_by second c.args.year v) (to_z-of_z w64 c.args.second c.ranges.second)

pub returns-then-before-second : goal.returns-then-before-second
returns-then-before-second c =
    let second : ℤ → ℤ = change_second c.args.offset c.args.change.now in
    let u : ℤ = to_z w64 (of_z w64 c.args.second) in
    let a : ℤ = to_z w64 (of_z w64 c.second_in-next.result) in
    let at_a : a ≡ second (c.args.year +ℤ pos 1) = to_z-of_z w64 c.second_in-next.result (record { sfits = c.second_in-next.type_inv }) ∙ c.second_in-next.ensures.value ∙ ap second (omega (arith, casts, c.requires.0, c.requires.1)) in
    let b : ℤ = to_z w64 (of_z w64 c.second_in-same.result) in
    let at_b : b ≡ second c.args.year = to_z-of_z w64 c.second_in-same.result (record { sfits = c.second_in-same.type_inv }) ∙ c.second_in-same.ensures.value ∙ ap second (omega (arith, casts, c.requires.0, c.requires.1)) in
    let d : ℤ = to_z w64 (of_z w64 c.second_in-before.result) in
    let at_d : d ≡ second (c.args.year -ℤ pos 1) = to_z-of_z w64 c.second_in-before.result (record { sfits = c.second_in-before.type_inv }) ∙ c.second_in-before.ensures.value ∙ ap second (omega (arith, casts, c.requires.0, c.requires.1)) in
    last_by-before second c.args.year u a b d at_a (is_later-fact a u c.if-next-second.false) at_b (is_later-fact b u c.if-same-second.false) at_d (is_by-fact d u c.if-before-second.true)
    ∙ ap (λ (v : ℤ). last_by second c.args.year v) (to_z-of_z w64 c.args.second c.ranges.second)

pub returns : goal.returns
returns c =
    let second : ℤ → ℤ = change_second c.args.offset c.args.change.now in
    let u : ℤ = to_z w64 (of_z w64 c.args.second) in
    let a : ℤ = to_z w64 (of_z w64 c.second_in-next.result) in
    let at_a : a ≡ second (c.args.year +ℤ pos 1) = to_z-of_z w64 c.second_in-next.result (record { sfits = c.second_in-next.type_inv }) ∙ c.second_in-next.ensures.value ∙ ap second (omega (arith, casts, c.requires.0, c.requires.1)) in
    let b : ℤ = to_z w64 (of_z w64 c.second_in-same.result) in
    let at_b : b ≡ second c.args.year = to_z-of_z w64 c.second_in-same.result (record { sfits = c.second_in-same.type_inv }) ∙ c.second_in-same.ensures.value ∙ ap second (omega (arith, casts, c.requires.0, c.requires.1)) in
    let d : ℤ = to_z w64 (of_z w64 c.second_in-before.result) in
    let at_d : d ≡ second (c.args.year -ℤ pos 1) = to_z-of_z w64 c.second_in-before.result (record { sfits = c.second_in-before.type_inv }) ∙ c.second_in-before.ensures.value ∙ ap second (omega (arith, casts, c.requires.0, c.requires.1)) in
    let e : ℤ = to_z w64 (of_z w64 c.second_in.result) in
    let at_e : e ≡ second (c.args.year -ℤ pos 2) = to_z-of_z w64 c.second_in.result (record { sfits = c.second_in.type_inv }) ∙ c.second_in.ensures.value ∙ ap second (omega (arith, casts, c.requires.0, c.requires.1)) in
    last_by-first second c.args.year u a b d e at_a (is_later-fact a u c.if-next-second.false) at_b (is_later-fact b u c.if-same-second.false) at_d (is_later-fact d u c.if-before-second.false) at_e
    ∙ ap (λ (v : ℤ). last_by second c.args.year v) (to_z-of_z w64 c.args.second c.ranges.second)
