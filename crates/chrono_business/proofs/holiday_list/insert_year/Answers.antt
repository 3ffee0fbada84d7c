use Rattle.std.proofs.Common.{◌≡◌, ℕ, ◌+◌, ◌<◌, length, take, refl, arith, rules, ℤ, FitsSigned, of_z, to_z, w32}
use Rattle.std.proofs.lemmas.Int.{to_z-of_z}
use Rattle.chrono_business.specs.HolidayLists.{IsOfRules}
use Rattle.chrono_business.proofs.HolidayUnions.{all-first, first-is, first-more, first-next, first-none, first-parts, too_many-more, with-more, with-none, with-same}
use Rattle.chrono_business.proofs.holiday_list.insert_year.Goals as goal

pub loop-rule-init : goal.loop-rule-init
loop-rule-init c = record {
  bound = c.requires.bound;
  same = refl;
  with = with-none c.args.weekend _ (take c.args.len c.args.dates.now) c.requires.holidays (λ d. first-none c.args.rules.now _ d);
}

pub insert_rule-requires-clause-bound : goal.insert_rule-requires-clause-bound
insert_rule-requires-clause-bound c = c.loop-rule.invariant.bound

pub insert_rule-requires-clause-holidays : goal.insert_rule-requires-clause-holidays
insert_rule-requires-clause-holidays c = c.loop-rule.invariant.with.holidays

pub returns-in_err-count-clause-none : goal.returns-in_err-count-clause-none
returns-in_err-count-clause-none c =
    let fits : FitsSigned w32 c.args.year = search rules in
    let year : ℤ = to_z w32 (of_z w32 c.args.year) in
    let rules_now = c.args.rules.now in
    let i : ℕ = c.loop-rule.rule-index in
    let within : i < length rules_now = omega (arith, c.loop-rule-test.true, c.loop-rule.auto.rule-index-end) in
    let many = too_many-more c.args.weekend _ _ (λ d. IsOfRules rules_now year year d) (take c.args.len c.args.dates.now) (take c.loop-rule.count c.loop-rule.dates) (length c.loop-rule.dates) (length c.args.dates.now) c.loop-rule.invariant.with (λ d p. first-is rules_now i year d (omega (arith, within)) p) (λ d q. first-is rules_now (i + 1) year d (omega (arith, within)) (first-next rules_now i _ year d within q)) c.loop-rule.invariant.same c.in_err-count.ensures.none in
    rw c.from_residual.ensures (rw (to_z-of_z w32 c.args.year fits) at many)

pub loop-rule-preserved : goal.loop-rule-preserved
loop-rule-preserved c =
    let year : ℤ = to_z w32 (of_z w32 c.args.year) in
    let rules_now = c.args.rules.now in
    let i : ℕ = c.loop-rule.rule-index in
    let within : i < length rules_now = omega (arith, c.loop-rule-test.true, c.loop-rule.auto.rule-index-end) in
    let inv = c.loop-rule.invariant in
    record {
      bound = omega (arith, c.in_ok-count.ensures.bound, c.insert_rule.auto.dates);
      same = omega (arith, inv.same, c.insert_rule.auto.dates);
      with = with-more c.args.weekend _ _ _ (take c.args.len c.args.dates.now) (take c.loop-rule.count c.loop-rule.dates) (take c.in_ok-count.count c.insert_rule.new.dates) inv.with c.in_ok-count.ensures.some (λ d p. first-more rules_now i year d p) (λ d q. first-next rules_now i _ year d within q) (λ d r. first-parts rules_now i _ year d r);
    }

pub returns-clause-bound : goal.returns-clause-bound
returns-clause-bound c = omega (arith, c.loop-rule.invariant.bound, c.loop-rule.invariant.same)

pub returns-clause-some : goal.returns-clause-some
returns-clause-some c =
    let fits : FitsSigned w32 c.args.year = search rules in
    let year : ℤ = to_z w32 (of_z w32 c.args.year) in
    let rules_now = c.args.rules.now in
    let end : c.loop-rule.rule-index ≡ length rules_now = omega (arith, c.loop-rule-test.false, c.loop-rule.auto.rule-index-end) in
    let all = with-same c.args.weekend _ (λ d. IsOfRules rules_now year year d) (take c.args.len c.args.dates.now) (take c.loop-rule.count c.loop-rule.dates) c.loop-rule.invariant.with (λ d p. first-is rules_now c.loop-rule.rule-index year d (omega (arith, end)) p) (λ d p. all-first rules_now c.loop-rule.rule-index year d end p) in
    rw (to_z-of_z w32 c.args.year fits) at all
