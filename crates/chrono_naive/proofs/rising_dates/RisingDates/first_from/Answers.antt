use Rattle.std.proofs.Common.{◌≡◌, ◌<◌, List, length, subst, ap, arith, rules, ℤ, FitsSigned, w32}
use Rattle.std.proofs.lemmas.Int.{to_z-of_z}
use Rattle.chrono_calendar.proofs.Signed.{signed}
use Rattle.chrono_naive.specs.RisingDates.{AreRising}
use Rattle.chrono_naive.proofs.RisingLists.{later_listed, not_listed}
use Rattle.chrono_naive.proofs.rising_dates.RisingDates.first_from.Goals as goal

pub returns-then-place-dates-clause-least : goal.returns-then-place-dates-clause-least
returns-then-place-dates-clause-least c = λ d low high.
    let now = c.args.self.now in
    let number : c.num_days_from_ce.result ≡ c.args.date = c.num_days_from_ce.ensures.value in
    let fits : FitsSigned w32 c.num_days_from_ce.result = search rules in
    let place = simp (to_z-of_z w32 c.num_days_from_ce.result fits) at c.count_before-place.ensures.place in
    let dates : c.self.inside.dates.now ≡ now = c.self.view_is in
    let rising = subst AreRising c.self.view_is c.self.invariant in
    let first = c.count_before-place.result in
    let within : first < length now = omega (arith, c.if-place-dates.true, ap (λ (xs : List ℤ). length xs) dates) in
    not_listed now first d
    (λ k e less inside. omega (arith, signed, number, low, place.0 k e (omega arith) less))
    (λ k e more inside. omega (arith, signed, high, later_listed now first k c.index-dates-place.result e rising within (rw dates at c.index-dates-place.is) more inside))

pub returns-else-place-dates-clause-none : goal.returns-else-place-dates-clause-none
returns-else-place-dates-clause-none c = λ d low.
    let now = c.args.self.now in
    let number : c.num_days_from_ce.result ≡ c.args.date = c.num_days_from_ce.ensures.value in
    let fits : FitsSigned w32 c.num_days_from_ce.result = search rules in
    let place = simp (to_z-of_z w32 c.num_days_from_ce.result fits) at c.count_before-place.ensures.place in
    let dates : c.self.inside.dates.now ≡ now = c.self.view_is in
    let first = c.count_before-place.result in
    not_listed now first d
    (λ k e less inside. omega (arith, signed, number, low, place.0 k e (omega arith) less))
    (λ k e more inside. absurd (omega (arith, more, inside, c.if-place-dates.false, ap (λ (xs : List ℤ). length xs) dates)))
