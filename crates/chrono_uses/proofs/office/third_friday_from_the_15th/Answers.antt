use Rattle.std.proofs.Common.{◌≡◌, ℕ, ◌≤◌, refl, sym, ap, subst, ◌∙◌, arith, pos, ◌+ℤ◌, ◌-ℤ◌, unsigned_abs}
use Rattle.chrono_datetime.specs.declared.Weekday.TheVariants.{Fri}
use Rattle.chrono_datetime.specs.Days.{month_of, year_of}
use Rattle.chrono_datetime.specs.Weeks.{date_of_nth_weekday, weekday_of}
use Rattle.chrono_datetime.specs.Years.{IsYear}
use Rattle.chrono_datetime.proofs.Signed.{casts, signed}
use Rattle.chrono_uses.proofs.ExpiryLemmas.{friday, long}
use Rattle.chrono_uses.proofs.office.third_friday_from_the_15th.Goals as goal

-- it lies at most six days after the 15th, and so in that month
pub returns : goal.returns
returns c =
    let n = c.in_ok-start.start in
    let e = c.in_ok-friday.friday in
    let law = c.months_are_days_in_a_row.ensures in
    let fifteenth = c.in_ok-start.ensures.day in
    let k : ℕ = unsigned_abs (e -ℤ n) in
    let at : n +ℤ pos k ≡ e = omega (arith, signed, c.in_ok-friday.ensures.not_before) in
    let few : k ≤ 6 = omega (arith, signed, at, c.in_ok-friday.ensures.near) in
    let day = rw at at (law.later n k (omega (arith, few, fifteenth, long n))) in
    let same = (law.days n e).1 (omega (arith, signed, at, fifteenth), omega (arith, signed, at, few, fifteenth, long n)) in
    let known = same.0 ∙ c.in_ok-start.ensures.year in
    let year : year_of e ≡ c.args.year = omega (arith, signed, casts, known, c.ranges.year) in
    let month : month_of e ≡ c.args.month = omega (arith, same.1, c.in_ok-start.ensures.month) in
    let weekday : weekday_of e ≡ Fri = friday _ (rw c.single.ensures at c.in_ok-friday.ensures.member) in
    let date = (c.dates_are_days_of_years.ensures e).1 (subst IsYear (sym known) ((c.in_ok-start.ensures.exists).0 refl).0) in
    ap (λ y. date_of_nth_weekday y c.args.month Fri 3) (sym year)
    ∙ ap (λ m. date_of_nth_weekday (year_of e) m Fri 3) (sym month)
    ∙ ap (λ d. date_of_nth_weekday (year_of e) (month_of e) d 3) (sym weekday)
    ∙ c.sevens_of_days_have_each_weekday.ensures.nth e 3 date (omega (arith, day, fifteenth)) (omega (arith, day, few, fifteenth))
