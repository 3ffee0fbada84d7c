use Rattle.std.proofs.Common.{◌≡◌, ℕ, ◌*◌, ◌∙◌, arith, pos, ◌+ℤ◌, ◌-ℤ◌, unsigned_abs}
use Rattle.std.proofs.lemmas.Option.{IfSome_then}
use Rattle.chrono_datetime.proofs.Signed.{signed}
use Rattle.chrono_uses.proofs.ExpiryLemmas.{friday, long}
use Rattle.chrono_uses.proofs.questions.expiry_by_steps.Goals as goal

pub returns-clause-weekday : goal.returns-clause-weekday
returns-clause-weekday c =
    let n = c.in_ok-friday.friday in
    IfSome_then c.checked_add_days.result c.checked_add_days.ensures.back (λ e h.
    let at : e ≡ n +ℤ pos (7 * 2) = omega (arith, signed, h, c.new.ensures) in
    rw at (c.weekdays_follow.ensures.weeks_later n 2 ∙ friday _ (rw c.single.ensures at c.in_ok-friday.ensures.member)))

pub returns-clause-day : goal.returns-clause-day
returns-clause-day c =
    let n = c.in_ok-first.first in
    let from = c.in_ok-friday.ensures.not_before in
    let near = c.in_ok-friday.ensures.near in
    IfSome_then c.checked_add_days.result c.checked_add_days.ensures.back (λ e h.
    let k : ℕ = unsigned_abs (e -ℤ n) in
    let at : n +ℤ pos k ≡ e = omega (arith, signed, h, c.new.ensures, from, near) in
    let day = rw at at (c.months_are_days_in_a_row.ensures.later n k (omega (arith, signed, h, c.new.ensures, from, near, c.in_ok-first.ensures.day, long n))) in
    (omega (arith, signed, day, h, c.new.ensures, from, near, c.in_ok-first.ensures.day), omega (arith, signed, day, h, c.new.ensures, from, near, c.in_ok-first.ensures.day)))
