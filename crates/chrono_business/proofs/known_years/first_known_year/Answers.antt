use Rattle.std.proofs.Common.{rules, ◌≡◌, ◌⊎◌, ℕ, ◌<◌, length, slice_index_or, inl, inr, arith, pos, ◌≤ℤ◌, FitsSigned, w32, to_z}
use Rattle.std.proofs.lemmas.Int.{to_z-of_z}
use Rattle.chrono_datetime.proofs.Signed.{signed}
use Rattle.chrono_datetime.specs.declared.Month.TheVariants.{January}
use Rattle.chrono_business.specs.declared.holiday_rule.HolidayDay.TheVariants.{Fixed}
use Rattle.chrono_business.specs.declared.holiday_rule.HolidayRule.{HolidayRule}
use Rattle.chrono_business.specs.declared.holiday_rule.Moved.TheVariants.{Stays}
use Rattle.chrono_business.specs.KnownYears.{BeginsIn}
use Rattle.chrono_business.proofs.FirstYears.{begins-next, least-next}
use Rattle.chrono_business.proofs.known_years.first_known_year.Goals as goal

pub loop-rule-preserved : goal.loop-rule-preserved
loop-rule-preserved c =
    let fits : FitsSigned w32 c.earlier-first.result = search rules in
    let number = to_z-of_z w32 c.earlier-first.result fits in
    let i : ℕ = c.loop-rule.rule-index in
    let within : i < length c.args.rules.now = omega (arith, c.loop-rule-test.true, c.loop-rule.auto.rule-index-end) in
    let le : c.earlier-first.result ≤ℤ to_z w32 c.loop-rule.first-bits = omega (arith, signed, c.earlier-first.ensures.before, c.loop-rule.first-is) in
    let none : HolidayRule = record { day = Fixed January 0; moved = Stays; first_year = pos 0; last_year = pos 0 } in
    let holds : c.earlier-first.result ≤ℤ (slice_index_or c.args.rules.now i none).first_year = omega (arith, signed, c.earlier-first.ensures.holds) in
    rw number (record {
      begins = elim c.earlier-first.ensures.either [
        | inl same ↦
            let is : c.earlier-first.result ≡ to_z w32 c.loop-rule.first-bits = omega (arith, signed, same, c.loop-rule.first-is) in
            begins-next c.args.rules.now i none _ c.earlier-first.result within c.loop-rule.invariant.begins (inl is)
        | inr year ↦ begins-next c.args.rules.now i none _ c.earlier-first.result within c.loop-rule.invariant.begins (inr year)
      ];
      least = least-next c.args.rules.now i none _ c.earlier-first.result within le holds c.loop-rule.invariant.least;
    })
