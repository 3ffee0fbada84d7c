use Rattle.std.proofs.Common.{◌≡◌, ◌-◌, ◌<◌, length, subst, arith, rules, FitsSigned, w32}
use Rattle.std.proofs.lemmas.Int.{to_z-of_z}
use Rattle.chrono_calendar.proofs.Signed.{signed}
use Rattle.chrono_naive.specs.RisingDates.{AreRising}
use Rattle.chrono_naive.proofs.RisingLists.{earlier_listed, not_listed}
use Rattle.chrono_naive.proofs.rising_dates.RisingDates.last_before.Goals as goal

pub returns-then-place-gt0-clause-greatest : goal.returns-then-place-gt0-clause-greatest
returns-then-place-gt0-clause-greatest c = λ d low high.
    let now = c.args.self.now in
    let number : c.num_days_from_ce.result ≡ c.args.date = c.num_days_from_ce.ensures.value in
    let fits : FitsSigned w32 c.num_days_from_ce.result = search rules in
    let place = simp (to_z-of_z w32 c.num_days_from_ce.result fits) at c.count_before-place.ensures.place in
    let dates : c.self.inside.dates.now ≡ now = c.self.view_is in
    let rising = subst AreRising c.self.view_is c.self.invariant in
    let last = c.count_before-place.result - 1 in
    let within : last < length now = omega (arith, c.if-place-gt0.true, c.count_before-place.ensures.bound) in
    not_listed now c.count_before-place.result d
    (λ k e less inside. omega (arith, signed, low, earlier_listed now last k c.index-dates-place.result e rising within (rw dates at c.index-dates-place.is) (omega (arith, less))))
    (λ k e more inside. omega (arith, signed, number, high, place.1 k e more inside))

pub returns-else-place-gt0-clause-none : goal.returns-else-place-gt0-clause-none
returns-else-place-gt0-clause-none c = λ d high.
    let now = c.args.self.now in
    let number : c.num_days_from_ce.result ≡ c.args.date = c.num_days_from_ce.ensures.value in
    let fits : FitsSigned w32 c.num_days_from_ce.result = search rules in
    let place = simp (to_z-of_z w32 c.num_days_from_ce.result fits) at c.count_before-place.ensures.place in
    let dates : c.self.inside.dates.now ≡ now = c.self.view_is in
    not_listed now c.count_before-place.result d
    (λ k e less inside. absurd (omega (arith, less, c.if-place-gt0.false)))
    (λ k e more inside. omega (arith, signed, number, high, place.1 k e more inside))
