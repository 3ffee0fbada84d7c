use Rattle.std.proofs.Common.{◌≡◌, ℕ, ◌%◌, ap, sym, ◌∙◌, arith, inl, inr, true, false, pos, ◌+ℤ◌, ◌-ℤ◌, unsigned_abs}
use Rattle.std.proofs.lemmas.Bool.{cases_lt}
use Rattle.chrono_datetime.specs.Weekday.{days_from_monday}
use Rattle.chrono_datetime.specs.Weeks.{weekday_of}
use Rattle.chrono_datetime.proofs.IsoWeeks.{days_from_monday-of}
use Rattle.chrono_datetime.proofs.Signed.{signed}
use Rattle.chrono_rules.specs.ByParts.{on_weekday}
use Rattle.chrono_rules.proofs.Skipped.{named_later}
use Rattle.chrono_rules.proofs.rule.Rule.days_to_numbered.Goals as goal

pub loop-first-init : goal.loop-first-init
loop-first-init c =
    let week : days_from_monday (weekday_of c.args.day) ≡ c.num_days_from_monday-weekday.result = ap days_from_monday (sym c.weekday.ensures.value) ∙ sym c.num_days_from_monday-weekday.ensures in
    (omega arith, omega arith, omega (arith, week, days_from_monday-of c.args.day), λ j less le among. absurd (omega (arith, among)), λ none. absurd (omega (arith, none)))

pub loop-first-preserved : goal.loop-first-preserved
loop-first-preserved c = (
  omega arith,
  omega arith,
  omega (arith, c.loop-first.invariant.2),
  λ j less le among.
      elim (cases_lt (j % 7) c.loop-first.first) [
        | inl lt ↦ c.loop-first.invariant.3 j (omega arith) le lt
        | inr ge ↦ named_later c.args.self.now c.args.day (c.args.day +ℤ pos j) j _ _ _ false c.requires.date (omega (arith, signed)) (omega (arith, le, c.days_behind-behind.ensures.value)) (omega (arith, c.loop-first.invariant.2)) (omega (arith, c.counted_place-place.ensures.value)) (omega (arith, c.days_behind-behind.ensures.value)) (c.days_to_one_weekday-one.ensures.passed j (omega arith) le (omega arith))
      ],
  λ none.
      elim (cases_lt 0 c.loop-first.days) [
        | inl some ↦
            let here : c.days_to_one_weekday-one.result ≡ 0 = omega (arith, none, some) in
            let now = c.days_to_one_weekday-one.ensures.here here in
            named_later c.args.self.now c.args.day c.args.day 0 _ _ _ true c.requires.date (omega (arith, signed)) (omega arith) (omega (arith, now, c.loop-first.invariant.2)) (omega (arith, c.counted_place-place.ensures.value)) (omega (arith, c.days_behind-behind.ensures.value)) (c.days_to_one_weekday-one.ensures.named here)
        | inr zero ↦ c.loop-first.invariant.4 (omega (arith, zero))
      ],
)

pub returns-clause-passed : goal.returns-clause-passed
returns-clause-passed c = λ d low high.
    let j : ℕ = unsigned_abs (d -ℤ c.args.day) in
    let at : c.args.day +ℤ pos j ≡ d = omega (arith, signed, low) in
    ap (on_weekday c.args.self.now) (sym at) ∙ c.loop-first.invariant.3 j (omega (arith, signed, low, high)) (omega (arith, signed, low, high)) (omega (arith, signed, low, high))

pub returns-clause-named : goal.returns-clause-named
returns-clause-named c = c.loop-first.invariant.4
