use Rattle.std.proofs.Common.{arith, ap, subst, sym, ◌∙◌, ◌≡◌, ℤ, pos, ◌<◌, ◌≤ℤ◌, ◌+ℤ◌, ◌-ℤ◌, unsigned_abs, to_z, of_z, w32, w64, SFits}
use Rattle.std.specs.Prelude.{Some, neg_ℤ}
use Rattle.std.proofs.lemmas.Int.{to_z-of_z}
use Rattle.chrono_calendar.proofs.Signed.{signed}
use Rattle.zone_rule.specs.Changes.{change_second, year_of_second}
use Rattle.zone_rule.specs.Private.{AreKnown}
use Rattle.zone_rule.specs.Rules.{IsNextSetting, is_daylight}
use Rattle.zone_rule.specs.declared.rule.Daylight.{Daylight}
use Rattle.zone_rule.proofs.Carried.{fits}
use Rattle.zone_rule.proofs.Holds.{begins_in_order, begins_yearly, ends_in_order, ends_yearly, holds_first, holds_last, next_first, next_last}
use Rattle.zone_rule.proofs.rule.Daylight.hold_in_year.Goals as goal

-- how far the next change is away
wait_fits : (next s t u : ℤ) → t ≡ next → u ≡ s → unsigned_abs next < 8_400_000_000_000 → neg_ℤ (pos 86_400) ≤ℤ s → s ≤ℤ pos 12_622_867_200 → SFits w64 (t -ℤ u)
wait_fits next s t u is here near low high = fits (t -ℤ u) (omega (arith, signed, is, here, near, low, high))

wait_is : (next s : ℤ) → SFits w64 next → SFits w64 s → unsigned_abs next < 8_400_000_000_000 → neg_ℤ (pos 86_400) ≤ℤ s → s ≤ℤ pos 12_622_867_200 → next ≡ (s +ℤ to_z w64 (of_z w64 (to_z w64 (of_z w64 next) -ℤ to_z w64 (of_z w64 s))))
wait_is next s fit here near low high =
    let is = to_z-of_z w64 next fit in
    let at = to_z-of_z w64 s here in
    let wait = to_z-of_z w64 (to_z w64 (of_z w64 next) -ℤ to_z w64 (of_z w64 s)) (wait_fits next s (to_z w64 (of_z w64 next)) (to_z w64 (of_z w64 s)) is at near low high) in
    omega (arith, signed, is, at, wait)

small_fits : (y : ℤ) → unsigned_abs y < 8_400_000_000_000 → SFits w64 y
small_fits y near = fits y (omega (arith, near))

-- the next setting by the second and by how far it is away
moved : (offset : ℤ) (d : Daylight) (here s next t : ℤ) → here ≡ s → next ≡ t → IsNextSetting (record { standard = offset; daylight = Some d }) here next → IsNextSetting (record { standard = offset; daylight = Some d }) s t
moved offset d here s next t e is h =
    subst (λ (x : ℤ). IsNextSetting (record { standard = offset; daylight = Some d }) s x) is (subst (λ (x : ℤ). IsNextSetting (record { standard = offset; daylight = Some d }) x next) e h)

pub overflow_sub-result : goal.overflow_sub-result
overflow_sub-result c =
    let near = c.in_ok-turn.ensures.in_range in
    wait_fits c.in_ok-turn.turn.next c.args.second _ _ (to_z-of_z w64 c.in_ok-turn.turn.next (small_fits c.in_ok-turn.turn.next near)) (to_z-of_z w64 c.args.second c.ranges.second) near c.requires.first c.requires.last

pub overflow_sub-result-else-begins-ends : goal.overflow_sub-result-else-begins-ends
overflow_sub-result-else-begins-ends c =
    let near = c.in_ok-turn-2.ensures.in_range in
    wait_fits c.in_ok-turn-2.turn.next c.args.second _ _ (to_z-of_z w64 c.in_ok-turn-2.turn.next (small_fits c.in_ok-turn-2.turn.next near)) (to_z-of_z w64 c.args.second c.ranges.second) near c.requires.first c.requires.last

pub returns-in_ok-turn-clause-holds : goal.returns-in_ok-turn-clause-holds
returns-in_ok-turn-clause-holds c =
    let o = c.args.standard in
    let d = c.args.self.now in
    let here : to_z w64 (of_z w64 c.args.second) ≡ c.args.second = to_z-of_z w64 c.args.second c.ranges.second in
    let year : to_z w32 (of_z w32 c.args.year) ≡ year_of_second (to_z w64 (of_z w64 c.args.second)) = to_z-of_z w32 c.args.year c.ranges.year ∙ c.requires.own ∙ sym (ap year_of_second here) in
    let known : AreKnown o d = record { begins = c.second_in-begins.ensures.change; ends = c.second_in-ends.ensures.change; near = c.second_in-begins.ensures.offset; far = c.second_in-ends.ensures.offset } in
    let turn = c.in_ok-turn.ensures.turn (change_second d.offset d.ends)
    (to_z-of_z w64 c.second_in-ends.result (record { sfits = c.second_in-ends.type_inv }) ∙ c.second_in-ends.ensures.value)
    (begins_yearly o d known) (ends_yearly o d known) (begins_in_order o d known) in
    holds_first o d (to_z w32 (of_z w32 c.args.year)) (to_z w64 (of_z w64 c.args.second)) c.in_ok-turn.turn year turn ∙ ap (is_daylight o d) here

pub returns-in_ok-turn-clause-next : goal.returns-in_ok-turn-clause-next
returns-in_ok-turn-clause-next c =
    let o = c.args.standard in
    let d = c.args.self.now in
    let here : to_z w64 (of_z w64 c.args.second) ≡ c.args.second = to_z-of_z w64 c.args.second c.ranges.second in
    let known : AreKnown o d = record { begins = c.second_in-begins.ensures.change; ends = c.second_in-ends.ensures.change; near = c.second_in-begins.ensures.offset; far = c.second_in-ends.ensures.offset } in
    let turn = c.in_ok-turn.ensures.turn (change_second d.offset d.ends)
    (to_z-of_z w64 c.second_in-ends.result (record { sfits = c.second_in-ends.type_inv }) ∙ c.second_in-ends.ensures.value)
    (begins_yearly o d known) (ends_yearly o d known) (begins_in_order o d known) in
    let near = c.in_ok-turn.ensures.in_range in
    moved o d (to_z w64 (of_z w64 c.args.second)) c.args.second c.in_ok-turn.turn.next _ here
    (wait_is c.in_ok-turn.turn.next c.args.second (small_fits c.in_ok-turn.turn.next near) c.ranges.second near c.requires.first c.requires.last)
    (next_first o d (to_z w32 (of_z w32 c.args.year)) (to_z w64 (of_z w64 c.args.second)) c.in_ok-turn.turn turn)

pub returns-in_ok-turn-2-clause-holds : goal.returns-in_ok-turn-2-clause-holds
returns-in_ok-turn-2-clause-holds c =
    let o = c.args.standard in
    let d = c.args.self.now in
    let here : to_z w64 (of_z w64 c.args.second) ≡ c.args.second = to_z-of_z w64 c.args.second c.ranges.second in
    let year : to_z w32 (of_z w32 c.args.year) ≡ year_of_second (to_z w64 (of_z w64 c.args.second)) = to_z-of_z w32 c.args.year c.ranges.year ∙ c.requires.own ∙ sym (ap year_of_second here) in
    let known : AreKnown o d = record { begins = c.second_in-begins.ensures.change; ends = c.second_in-ends.ensures.change; near = c.second_in-begins.ensures.offset; far = c.second_in-ends.ensures.offset } in
    let turn = c.in_ok-turn-2.ensures.turn (change_second o d.begins)
    (to_z-of_z w64 c.second_in-begins.result (record { sfits = c.second_in-begins.type_inv }) ∙ c.second_in-begins.ensures.value)
    (ends_yearly o d known) (begins_yearly o d known) (ends_in_order o d known) in
    holds_last o d (to_z w32 (of_z w32 c.args.year)) (to_z w64 (of_z w64 c.args.second)) c.in_ok-turn-2.turn year turn ∙ ap (is_daylight o d) here

pub returns-in_ok-turn-2-clause-next : goal.returns-in_ok-turn-2-clause-next
returns-in_ok-turn-2-clause-next c =
    let o = c.args.standard in
    let d = c.args.self.now in
    let here : to_z w64 (of_z w64 c.args.second) ≡ c.args.second = to_z-of_z w64 c.args.second c.ranges.second in
    let known : AreKnown o d = record { begins = c.second_in-begins.ensures.change; ends = c.second_in-ends.ensures.change; near = c.second_in-begins.ensures.offset; far = c.second_in-ends.ensures.offset } in
    let turn = c.in_ok-turn-2.ensures.turn (change_second o d.begins)
    (to_z-of_z w64 c.second_in-begins.result (record { sfits = c.second_in-begins.type_inv }) ∙ c.second_in-begins.ensures.value)
    (ends_yearly o d known) (begins_yearly o d known) (ends_in_order o d known) in
    let near = c.in_ok-turn-2.ensures.in_range in
    moved o d (to_z w64 (of_z w64 c.args.second)) c.args.second c.in_ok-turn-2.turn.next _ here
    (wait_is c.in_ok-turn-2.turn.next c.args.second (small_fits c.in_ok-turn-2.turn.next near) c.ranges.second near c.requires.first c.requires.last)
    (next_last o d (to_z w32 (of_z w32 c.args.year)) (to_z w64 (of_z w64 c.args.second)) c.in_ok-turn-2.turn turn)
