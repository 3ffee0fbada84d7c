use Rattle.std.proofs.Common.{rules, ◌≡◌, false, sym, ◌∙◌}
use Rattle.std.proofs.lemmas.Bool.{false≢true}
use Rattle.chrono_business.specs.KnownYears.{is_roll_known}
use Rattle.chrono_business.proofs.KnownDays.{roll-known-date, rolls-one}
use Rattle.chrono_business.proofs.calendar.Calendar.roll_within.Goals as goal

pub returns-in_err-rolled-clause-none : goal.returns-in_err-rolled-clause-none
returns-in_err-rolled-clause-none c =
    rw c.from_residual.ensures (λ e known rolled. c.in_err-rolled.ensures.none e (roll-known-date c.args.years c.args.roll c.args.date e known) rolled)

pub returns-then-not-contains_roll-clause-none : goal.returns-then-not-contains_roll-clause-none
returns-then-not-contains_roll-clause-none c =
    let unknown : is_roll_known c.args.years c.args.roll c.args.date c.in_ok-rolled.rolled ≡ false = search rules in
    λ e known rolled.
    let same = rolls-one c.args.self.now c.args.roll c.args.date e c.in_ok-rolled.rolled (roll-known-date c.args.years c.args.roll c.args.date e known) c.in_ok-rolled.ensures.exists rolled c.in_ok-rolled.ensures.rolled in
    false≢true (sym unknown ∙ rw same at known)
