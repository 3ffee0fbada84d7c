use Rattle.std.proofs.Common.{◌≡◌, ℕ, ◌+◌, sym, ap, ◌∙◌, arith, ◌-ℤ◌, unsigned_abs}
use Rattle.chrono_datetime.specs.Weekday.{days_from_monday}
use Rattle.chrono_datetime.specs.Weeks.{weekday_of}
use Rattle.chrono_datetime.proofs.IsoWeeks.{days_from_monday-of}
use Rattle.chrono_datetime.proofs.Signed.{signed}
use Rattle.chrono_sets.specs.FiniteSets.{has}
use Rattle.chrono_rules.proofs.NamedDays.{every_such_day, off_weekday}
use Rattle.chrono_rules.proofs.rule.Rule.days_to_weekday.Goals as goal

pub returns-clause-passed : goal.returns-clause-passed
returns-clause-passed c = λ d low high.
    let week : days_from_monday (weekday_of c.args.day) ≡ c.num_days_from_monday-weekday.result = ap days_from_monday (sym c.weekday.ensures.value) ∙ sym c.num_days_from_monday-weekday.ensures in
    let j : ℕ = unsigned_abs (d -ℤ c.args.day) in
    let lt = c.gap_around.ensures.few in
    off_weekday c.args.self.now c.args.day d j (sym c.has_numbers.ensures ∙ c.if-has_numbers.false) (omega (arith, signed, low)) (omega (arith, signed, low, high, lt))
    (rw week (c.gap_around.ensures.ahead j (omega (arith, signed, low, high))))
    (rw week (c.gap_around.ensures.around j (omega (arith, signed, low, high))))

pub returns-clause-named : goal.returns-clause-named
returns-clause-named c = λ none.
    let week : days_from_monday (weekday_of c.args.day) ≡ c.num_days_from_monday-weekday.result = ap days_from_monday (sym c.weekday.ensures.value) ∙ sym c.num_days_from_monday-weekday.ensures in
    let at : days_from_monday (weekday_of c.args.day) ≡ c.num_days_from_monday-weekday.result + c.gap_around.result = omega (arith, none, week) in
    every_such_day c.args.self.now c.args.day (ap (has c.args.self.now.weekdays.every) at ∙ c.gap_around.ensures.member_ahead (omega (arith, none, week, days_from_monday-of c.args.day)))
