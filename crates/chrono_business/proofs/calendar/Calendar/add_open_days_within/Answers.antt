use Rattle.std.proofs.Common.{rules, ◌≡◌, false, sym, ◌∙◌, w64}
use Rattle.std.proofs.lemmas.Bool.{false≢true}
use Rattle.std.proofs.lemmas.Int.{to_z-of_z}
use Rattle.chrono_business.specs.KnownYears.{is_known}
use Rattle.chrono_business.proofs.KnownDays.{known-parts}
use Rattle.chrono_business.proofs.OpenMoves.{moved-one}
use Rattle.chrono_business.proofs.calendar.Calendar.add_open_days_within.Goals as goal

pub returns-in_err-moved-clause-none : goal.returns-in_err-moved-clause-none
returns-in_err-moved-clause-none c =
    let unmoved = rw (to_z-of_z w64 c.args.n c.ranges.n) at c.in_err-moved.ensures.none in
    rw c.from_residual.ensures (λ e _ there moved. unmoved e (known-parts c.args.years e there).0 moved)

pub returns-then-not-contains-2-clause-none : goal.returns-then-not-contains-2-clause-none
returns-then-not-contains-2-clause-none c =
    let found = rw (to_z-of_z w64 c.args.n c.ranges.n) at c.in_ok-moved.ensures.moved in
    let unknown : is_known c.args.years c.in_ok-moved.moved ≡ false = search rules in
    λ e _ there moved.
    let same = moved-one c.args.self.now c.args.date e c.in_ok-moved.moved c.args.n moved found in
    false≢true (sym unknown ∙ rw same at there)
