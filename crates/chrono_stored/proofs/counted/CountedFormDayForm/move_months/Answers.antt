use Rattle.std.proofs.Common.{Some, ◌≡◌, ℕ, ◌∙◌, ap, arith, rules, ℤ, pos, ◌+ℤ◌, ◌-ℤ◌, w32, w64, to_z, of_z, FitsSigned}
use Rattle.std.proofs.lemmas.Int.{to_z-of_z}
use Rattle.chrono_calendar.specs.Days.{IsDate, day_of}
use Rattle.chrono_calendar.specs.MonthMoves.{month_index_of}
use Rattle.chrono_calendar.proofs.Signed.{casts}
use Rattle.chrono_calendar.proofs.Moves.{month_move-None}
use Rattle.chrono_stored.proofs.MonthsFromMarch.{month_move-day}
use Rattle.chrono_stored.proofs.counted.CountedFormDayForm.move_months.Goals as goal

day_cast : (n days : ℤ) → days ≡ n → IsDate days → to_z w32 (of_z w32 days) ≡ n
day_cast n days e h = omega (arith, casts, h)

-- the index of the month that is moved to, as the code has it
index : (n days k : ℤ) (count : ℕ) → days ≡ n → IsDate days → FitsSigned w64 k → pos count ≡ month_index_of (to_z w32 (of_z w32 days)) +ℤ pos 3_148_798 → pos count +ℤ to_z w64 (of_z w64 k) -ℤ pos 3_148_798 ≡ month_index_of n +ℤ k
index n days k count e h fits counted = omega (arith, casts, rw (day_cast n days e h) at counted)

pub returns-in_err-target : goal.returns-in_err-target
returns-in_err-target c =
    let same = index c.args.self c.self.inside.days c.args.k c.months_and_day-months.result.0 c.self.view_is c.self.invariant c.ranges.k c.months_and_day-months.ensures.months in
    rw c.from_residual.ensures (month_move-None c.args.self c.args.k (λ h. c.in_err-target.ensures (rw same h)))

pub returns : goal.returns
returns c =
    let same = index c.args.self c.self.inside.days c.args.k c.months_and_day-months.result.0 c.self.view_is c.self.invariant c.ranges.k c.months_and_day-months.ensures.months in
    let found = rw same at c.in_ok-target.ensures in
    let there : pos c.in_ok-target.target -ℤ pos 3_148_798 ≡ month_index_of c.args.self +ℤ c.args.k = omega (arith, casts, same, c.in_ok-target.ensures) in
    let day = c.months_and_day-months.ensures.day ∙ ap day_of (day_cast c.args.self c.self.inside.days c.self.view_is c.self.invariant) in
    ap (λ (d : ℤ). Some d) (to_z-of_z w32 c.day_number_within.result (search rules) ∙ c.day_number_within.ensures.value)
    ∙ month_move-day c.args.self c.args.k (pos c.in_ok-target.target -ℤ pos 3_148_798) c.months_and_day-months.result.1 there day (rw there found.0)
