use Rattle.std.proofs.Common.{◌≡◌, sym, ◌∙◌, arith}
use Rattle.chrono_datetime.specs.Weekday.{days_since}
use Rattle.chrono_datetime.specs.Weeks.{weekday_of}
use Rattle.chrono_datetime.proofs.Signed.{signed}
use Rattle.chrono_rules.proofs.PlacesInPeriods.{same_week}
use Rattle.chrono_rules.proofs.Skipped.{not_week, week-same}
use Rattle.chrono_rules.proofs.rule.Rule.passed_by_week.Goals as goal

pub returns-clause-passed : goal.returns-clause-passed
returns-clause-passed c = λ d low high.
    let r = c.args.self.now in
    let since : c.days_since.result ≡ days_since (weekday_of c.args.day) r.week_start = rw c.weekday.ensures.value at c.days_since.ensures in
    not_week r c.args.start d (sym c.lacks_weeks.ensures ∙ c.if-lacks_weeks.false)
    (week-same r c.args.day d (same_week c.args.day d r.week_start low (omega (arith, signed, high, since))) ∙ (sym c.in_week.ensures ∙ c.if-in_week.false))
