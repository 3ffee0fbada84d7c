use Rattle.std.proofs.Common.{arith, ap, ◌∙◌, ◌≡◌, ℤ, pos, ◌+ℤ◌, ◌-ℤ◌, of_z, to_z, w64}
use Rattle.std.proofs.lemmas.Int.{to_z-of_z}
use Rattle.chrono_calendar.proofs.Signed.{signed}
use Rattle.zone_rule.specs.Changes.{change_second}
use Rattle.zone_rule.proofs.LastChanges.{is_later-fact}
use Rattle.zone_rule.proofs.MeanYears.{again_is, has_come, kept, not_come, small, sum_is, year_is}
use Rattle.zone_rule.proofs.Turns.{not_before}
use Rattle.zone_rule.proofs.turn.turn_near.Goals as goal

pub returns-then-second-next-clause-turn : goal.returns-then-second-next-clause-turn
returns-then-second-next-clause-turn c = λ g comes other u from by.
    let f : ℤ → ℤ = change_second c.args.offset c.args.first.now in
    let high = kept c.args.last.high c.requires.high.0 in
    let low = kept c.args.other.low c.requires.low.1 in
    let order = is_later-fact (to_z w64 (of_z w64 c.args.other.low)) (to_z w64 (of_z w64 c.args.last.high)) c.if-other-last.false in
    let year : c.second_in-next.result ≡ f (c.args.last.year +ℤ pos 1) = c.second_in-next.ensures.value ∙ ap f (year_is c.args.last.year c.requires.year.0 c.requires.year.1) in
    let next = to_z-of_z w64 c.second_in-next.result (record { sfits = c.second_in-next.type_inv }) in
    not_come f g c.args.second c.args.place u c.args.last c.args.other comes other c.requires.come.0 c.requires.come.1 (omega (arith, signed, order, high, low)) from
    (omega (arith, signed, by, next, year))

pub returns-clause-turn : goal.returns-clause-turn
returns-clause-turn c = λ g comes other u from by.
    let f : ℤ → ℤ = change_second c.args.offset c.args.first.now in
    let here = to_z-of_z w64 c.args.second c.ranges.second in
    let high = kept c.args.other.high c.requires.high.1 in
    let again = sum_is c.args.last.low (small c.args.last.low c.requires.low.0) c.requires.low.0 in
    let order = is_later-fact (to_z w64 (of_z w64 (to_z w64 (of_z w64 c.args.last.low) +ℤ pos 31_556_952))) (to_z w64 (of_z w64 c.args.other.high)) c.if-last-other.false in
    let year : c.second_in-next.result ≡ f (c.args.last.year +ℤ pos 1) = c.second_in-next.ensures.value ∙ ap f (year_is c.args.last.year c.requires.year.0 c.requires.year.1) in
    let next = to_z-of_z w64 c.second_in-next.result (record { sfits = c.second_in-next.type_inv }) in
    let come = not_before (to_z w64 (of_z w64 c.args.second)) (to_z w64 (of_z w64 c.second_in-next.result)) c.if-second-next.false in
    let until = to_z-of_z w64 c.comes_again.result (record { sfits = c.comes_again.type_inv }) in
    let at = to_z-of_z w64 c.args.place c.ranges.place in
    let low = kept c.args.other.low c.requires.low.1 in
    let is : c.comes_again.result ≡ (c.args.second -ℤ c.args.place +ℤ c.args.other.low +ℤ pos 31_556_952)
    = c.comes_again.ensures.value
    ∙ again_is (to_z w64 (of_z w64 c.args.second)) (to_z w64 (of_z w64 c.args.place)) (to_z w64 (of_z w64 c.args.other.low)) c.args.second c.args.place c.args.other.low here at low in
    has_come f g c.args.second c.args.place u c.args.last c.args.other comes other c.requires.come.1 (omega (arith, signed, order, high, again)) (omega (arith, signed, come, here, next, year)) from
    (omega (arith, signed, by, until, is))
