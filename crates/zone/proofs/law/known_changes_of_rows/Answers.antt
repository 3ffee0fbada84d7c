use Rattle.std.proofs.Common.{◌≡◌, pos, refl, arith}
use Rattle.std.proofs.lemmas.Int.{ints}
use Rattle.zone_table.specs.Sequence.{come_by}
use Rattle.zone_table.specs.Table.{offset_after}
use Rattle.zone.proofs.law.known_changes_of_rows.Goals as goal

ahead_is-not : pos 3_600 ≡ pos 0 → ⊥
ahead_is-not same = omega (arith, ints, same)

back_is-not : pos 0 ≡ pos 3_600 → ⊥
back_is-not same = omega (arith, ints, same)

pub returns-clause-ahead : goal.returns-clause-ahead
unfolding come_by offset_after
returns-clause-ahead c = ahead_is-not

pub returns-clause-back : goal.returns-clause-back
unfolding come_by offset_after
returns-clause-back c = back_is-not

pub returns-clause-before : goal.returns-clause-before
unfolding come_by offset_after
returns-clause-before c = λ changes. changes refl

pub returns-clause-behind : goal.returns-clause-behind
unfolding come_by offset_after
returns-clause-behind c = λ changes. changes refl
