use Rattle.std.proofs.Common.{◌≡◌, [], length, take, refl, arith, rules, ℤ, pos, ◌+ℤ◌, ◌-ℤ◌, ◌≤ℤ◌, FitsSigned, of_z, to_z, w32}
use Rattle.std.proofs.lemmas.Int.{to_z-of_z}
use Rattle.chrono_datetime.proofs.Signed.{casts, signed}
use Rattle.chrono_business.specs.HolidayLists.{AreHolidaysWith, IsOfRules}
use Rattle.chrono_business.proofs.HolidayUnions.{no_holidays, only-new, too_many-more, too_many-new, with-more, with-none, years-from, years-more, years-none, years-parts}
use Rattle.chrono_business.proofs.holiday_list.holidays_of.Goals as goal

pub loop-year-init : goal.loop-year-init
loop-year-init c =
    let first : ℤ = to_z w32 (of_z w32 c.args.first_year) in
    record {
      bound = omega arith;
      same = refl;
      from = omega (arith, signed);
      end = λ h. refl;
      with = with-none c.args.weekend _ [] (no_holidays c.args.weekend) (λ d. years-none c.args.rules.now first (first -ℤ pos 1) d (omega (arith, signed)));
    }

pub insert_year-requires-clause-bound : goal.insert_year-requires-clause-bound
insert_year-requires-clause-bound c = c.loop-year.invariant.bound

pub insert_year-requires-clause-holidays : goal.insert_year-requires-clause-holidays
insert_year-requires-clause-holidays c = c.loop-year.invariant.with.holidays

pub returns-in_err-len-clause-none : goal.returns-in_err-len-clause-none
returns-in_err-len-clause-none c =
    let fits : FitsSigned w32 c.args.first_year = search rules in
    let fits_too : FitsSigned w32 c.args.last_year = search rules in
    let first : ℤ = to_z w32 (of_z w32 c.args.first_year) in
    let last : ℤ = to_z w32 (of_z w32 c.args.last_year) in
    let year : ℤ = to_z w32 c.loop-year.year-bits in
    let inv = c.loop-year.invariant in
    let rules_now = c.args.rules.now in
    let inside : year ≤ℤ last = omega (arith, signed, c.loop-year-test.true) in
    let many = too_many-more c.args.weekend _ _ (λ d. IsOfRules rules_now first last d) [] (take c.loop-year.len c.loop-year.out) (length c.loop-year.out) (length c.args.out.now) inv.with (λ d p. years-more rules_now first (year -ℤ pos 1) last d (omega (arith, signed, inside)) p) (λ d q. years-from rules_now first year last d inv.from inside q) inv.same c.in_err-len.ensures.none in
    rw c.from_residual.ensures (rw (to_z-of_z w32 c.args.first_year fits, to_z-of_z w32 c.args.last_year fits_too) at (too_many-new c.args.weekend (λ d. IsOfRules rules_now first last d) (length c.args.out.now) many))

pub loop-year-preserved : goal.loop-year-preserved
loop-year-preserved c =
    let first : ℤ = to_z w32 (of_z w32 c.args.first_year) in
    let year : ℤ = to_z w32 c.loop-year.year-bits in
    let next : ℤ = to_z w32 (of_z w32 (year +ℤ pos 1)) in
    let at : next ≡ year +ℤ pos 1 = omega (arith, casts) in
    let inv = c.loop-year.invariant in
    let rules_now = c.args.rules.now in
    record {
      bound = omega (arith, c.in_ok-len.ensures.bound, c.insert_year.auto.dates);
      same = omega (arith, inv.same, c.insert_year.auto.dates);
      from = omega (arith, signed, at, inv.from);
      end = λ past. absurd (omega (arith, signed, at, past));
      with = with-more c.args.weekend _ _ _ [] (take c.loop-year.len c.loop-year.out) (take c.in_ok-len.len c.insert_year.new.dates) inv.with c.in_ok-len.ensures.some (λ d p. years-more rules_now first (year -ℤ pos 1) (next -ℤ pos 1) d (omega (arith, signed, at)) p) (λ d q. years-from rules_now first year (next -ℤ pos 1) d inv.from (omega (arith, signed, at)) q) (λ d r. years-parts rules_now first (year -ℤ pos 1) year (next -ℤ pos 1) d (omega (arith, signed)) (omega (arith, signed, at)) r);
    }

pub returns-clause-bound : goal.returns-clause-bound
returns-clause-bound c = omega (arith, c.loop-year.invariant.bound, c.loop-year.invariant.same)

pub returns-clause-holidays : goal.returns-clause-holidays
returns-clause-holidays c = c.loop-year.invariant.with.holidays

pub returns-clause-of_rules : goal.returns-clause-of_rules
returns-clause-of_rules c = λ d h.
    let inv = c.loop-year.invariant in
    let first : ℤ = to_z w32 (of_z w32 c.args.first_year) in
    let year : ℤ = to_z w32 c.loop-year.year-bits in
    let end = inv.end (omega (arith, signed, c.loop-year-test.false)) in
    absurd (years-none c.args.rules.now first (year -ℤ pos 1) d (omega (arith, signed, end)) (only-new c.args.weekend _ (take c.loop-year.len c.loop-year.out) inv.with d h))

pub returns-clause-each : goal.returns-clause-each
returns-clause-each c = λ d p workday.
    let inv = c.loop-year.invariant in
    let fits : FitsSigned w32 c.args.first_year = search rules in
    let fits_too : FitsSigned w32 c.args.last_year = search rules in
    let end = inv.end (omega (arith, signed, c.loop-year-test.false)) in
    absurd (years-none c.args.rules.now c.args.first_year c.args.last_year d (omega (arith, signed, end, c.loop-year-test.false, to_z-of_z w32 c.args.first_year fits, to_z-of_z w32 c.args.last_year fits_too)) p)

-- behind the last year
done : (c : goal.Else-year-last_year) → AreHolidaysWith c.args.weekend [] (λ d. IsOfRules c.args.rules.now c.args.first_year c.args.last_year d) (take c.in_ok-len.len c.insert_year.new.dates)
done c =
    let fits : FitsSigned w32 c.args.first_year = search rules in
    let fits_too : FitsSigned w32 c.args.last_year = search rules in
    let first : ℤ = to_z w32 (of_z w32 c.args.first_year) in
    let last : ℤ = to_z w32 (of_z w32 c.args.last_year) in
    let year : ℤ = to_z w32 c.loop-year.year-bits in
    let end : year ≡ last = omega (arith, signed) in
    let inv = c.loop-year.invariant in
    let rules_now = c.args.rules.now in
    let all = with-more c.args.weekend _ _ (λ d. IsOfRules rules_now first last d) [] (take c.loop-year.len c.loop-year.out) (take c.in_ok-len.len c.insert_year.new.dates) inv.with c.in_ok-len.ensures.some (λ d p. years-more rules_now first (year -ℤ pos 1) last d (omega (arith, signed, end)) p) (λ d q. years-from rules_now first year last d inv.from (omega (arith, signed, end)) q) (λ d r. years-parts rules_now first (year -ℤ pos 1) year last d (omega (arith, signed)) (omega (arith, signed, end)) r) in
    rw (to_z-of_z w32 c.args.first_year fits, to_z-of_z w32 c.args.last_year fits_too) at all

pub returns-in_ok-len-clause-of_rules : goal.returns-in_ok-len-clause-of_rules
returns-in_ok-len-clause-of_rules c = only-new c.args.weekend _ (take c.in_ok-len.len c.insert_year.new.dates) (done c)

pub returns-in_ok-len-clause-each : goal.returns-in_ok-len-clause-each
returns-in_ok-len-clause-each c = (done c).each
