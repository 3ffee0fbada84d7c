use Rattle.std.proofs.Common.{◌≡◌, ⊎_elim, ℤ, ◌≤ℤ◌, of_z, to_z, w64, subst, sym}
use Rattle.std.proofs.lemmas.Int.{to_z-of_z}
use Rattle.zoned_rules.specs.Recurs.{RecursWithin}
use Rattle.zoned_rules.proofs.PublicCalls.{back_there}
use Rattle.zoned_rules.proofs.SecondsAgain.{end_before, end_behind, last_behind, up_to_last}
use Rattle.zoned_rules.proofs.zoned_rule.ZonedRule.previous_second.Goals as goal

pub returns-in_err-found-clause-greatest : goal.returns-in_err-found-clause-greatest
returns-in_err-found-clause-greatest g c = λ u earlier f.
    let last = c.last_second-last in
    let high : u ≤ℤ last.result = last.ensures.outside u f.recurs f.within in
    let r = c.earlier_of.result in
    let is_r = to_z-of_z w64 r (record { sfits = c.earlier_of.type_inv }) in
    absurd (c.in_err-found.ensures.greatest u
    (⊎_elim (λ is. end_behind c.args.end (to_z w64 (of_z w64 c.args.end)) r (to_z w64 (of_z w64 r)) u (to_z-of_z w64 c.args.end c.ranges.end) is is_r earlier)
    (λ is. last_behind last.result r (to_z w64 (of_z w64 r)) u last.ensures.low last.ensures.high is is_r high) c.earlier_of.ensures.either) f.recurs)

pub returns-clause-recurs : goal.returns-clause-recurs
returns-clause-recurs g c =
    let r = c.args.self.now.local in
    let ahead = g.Z.TimeZone.ahead c.args.self.now.zone in
    let found = c.in_ok-found.found in
    let ok = c.in_ok-found.ensures.recurs in
    let last = c.last_second-last in
    let e = c.earlier_of.result in
    let is_e = to_z-of_z w64 e (record { sfits = c.earlier_of.type_inv }) in
    let is : to_z w64 (of_z w64 found) ≡ found = back_there ahead found ok.1.recurs.dates in (
      end_before c.args.end (to_z w64 (of_z w64 c.args.end)) e (to_z w64 (of_z w64 e)) found (to_z w64 (of_z w64 found)) (to_z-of_z w64 c.args.end c.ranges.end) c.earlier_of.ensures.first is_e is ok.0,
      subst (λ (x : ℤ). RecursWithin r ahead c.args.self.now.bound x) (sym is)
          (record { recurs = ok.1; within = last.ensures.inside found ok.1 (up_to_last last.result e (to_z w64 (of_z w64 e)) found last.ensures.low last.ensures.high c.earlier_of.ensures.second is_e ok.0) }),
    )

pub returns-clause-greatest : goal.returns-clause-greatest
returns-clause-greatest g c = λ u earlier f.
    let found = c.in_ok-found.found in
    let last = c.last_second-last in
    let high : u ≤ℤ last.result = last.ensures.outside u f.recurs f.within in
    let r = c.earlier_of.result in
    let is_r = to_z-of_z w64 r (record { sfits = c.earlier_of.type_inv }) in
    subst (λ (x : ℤ). u ≤ℤ x) (sym (back_there (g.Z.TimeZone.ahead c.args.self.now.zone) found c.in_ok-found.ensures.recurs.1.recurs.dates))
    (c.in_ok-found.ensures.greatest u
    (⊎_elim (λ is. end_behind c.args.end (to_z w64 (of_z w64 c.args.end)) r (to_z w64 (of_z w64 r)) u (to_z-of_z w64 c.args.end c.ranges.end) is is_r earlier)
    (λ is. last_behind last.result r (to_z w64 (of_z w64 r)) u last.ensures.low last.ensures.high is is_r high) c.earlier_of.ensures.either) f.recurs)
