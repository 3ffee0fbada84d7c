use Rattle.std.proofs.Common.{rules, arith, ◌≡◌, ℕ, ◌+◌, ◌-◌, inl, inr}
use Rattle.std.proofs.lemmas.Bool.Decides.{leb_tells}
use Rattle.zone_table.specs.Table.{RowFollows}
use Rattle.zone_table.proofs.order.first_unordered.Goals as goal

pub loop-place-preserved : goal.loop-place-preserved
loop-place-preserved c =
    let last : ℕ = c.loop-place.place - 1 in
    let found : RowFollows c.args.first c.args.rows.now last = search (rules, c.follows.ensures, c.if-not-follows.ensures) in (
      omega (arith, c.loop-place.invariant.0),
      λ k lt. elim (leb_tells c.loop-place.place (k + 1)) [
        | inl at ↦ let same : k ≡ last = omega (arith, at.1, lt) in rw same found
        | inr below ↦ c.loop-place.invariant.1 k below.1
      ],
    )
