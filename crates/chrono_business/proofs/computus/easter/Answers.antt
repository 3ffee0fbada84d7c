use Rattle.std.proofs.Common.{refl, arith, rules, ◌∙◌, FitsSigned, ◌+ℤ◌, of_z, to_z, w32}
use Rattle.std.proofs.lemmas.Int.{to_z-of_z}
use Rattle.chrono_datetime.proofs.Signed.{casts}
use Rattle.chrono_business.proofs.EasterLemmas.{IsEasterOf, easter-none, easter-some, equinox-number}
use Rattle.chrono_business.proofs.computus.easter.Goals as goal

pub returns-in_err-equinox-clause-date : goal.returns-in_err-equinox-clause-date
returns-in_err-equinox-clause-date c =
    let inside : FitsSigned w32 c.args.year = search rules in
    c.from_residual.ensures ∙ easter-none c.args.year (rw (to_z-of_z w32 c.args.year inside) at c.in_err-equinox.ensures.date)

answer : (c : goal.After-from_num_days_from_ce_opt) → IsEasterOf c.from_num_days_from_ce_opt.result c.args.year
answer c =
    let inside : FitsSigned w32 c.args.year = search rules in
    let same = to_z-of_z w32 c.args.year inside in
    let named = rw same at c.in_ok-equinox.ensures.date in
    let year = ((rw same at c.in_ok-equinox.ensures.exists).0 refl).0 in
    let number = (equinox-number c.in_ok-equinox.equinox c.args.year named).1 in
    let days = rw same at c.days_to_full_moon.ensures.value in
    let fits : FitsSigned w32 c.next_sunday.result = search rules in
    easter-some c.from_num_days_from_ce_opt.result c.args.year c.in_ok-equinox.equinox (to_z w32 (of_z w32 (to_z w32 (of_z w32 c.num_days_from_ce.result) +ℤ to_z w32 (of_z w32 c.days_to_full_moon.result)))) c.next_sunday.result (rw (to_z-of_z w32 c.next_sunday.result fits) at c.from_num_days_from_ce_opt.ensures.date) c.next_sunday.ensures.value (omega (arith, casts, number, c.num_days_from_ce.ensures.value, days, c.days_to_full_moon.ensures.few)) named year

pub returns-clause-date : goal.returns-clause-date
returns-clause-date c = (answer c).date

pub returns-clause-exists : goal.returns-clause-exists
returns-clause-exists c =
    let inside : FitsSigned w32 c.args.year = search rules in (
      λ s. ((rw (to_z-of_z w32 c.args.year inside) at c.in_ok-equinox.ensures.exists).0 refl).0,
      λ y. (answer c).exists,
    )

pub returns-clause-sunday : goal.returns-clause-sunday
returns-clause-sunday c = (answer c).sunday

pub returns-clause-year : goal.returns-clause-year
returns-clause-year c = (answer c).year

pub returns-clause-earliest : goal.returns-clause-earliest
returns-clause-earliest c = (answer c).earliest

pub returns-clause-latest : goal.returns-clause-latest
returns-clause-latest c = (answer c).latest
