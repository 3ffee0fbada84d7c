use Rattle.dates_answer.proofs.Ground.{◌≡◌, ◌∙◌, ap, arith, w64, rules, to_z-of_z, signed}
use Rattle.chrono_datetime.specs.declared.Weekday.{Weekday}
use Rattle.chrono_datetime.specs.Days.{date_of_day}
use Rattle.chrono_datetime.specs.MonthMoves.{month_first_of}
use Rattle.chrono_datetime.specs.Weekday.{days_since}
use Rattle.chrono_datetime.specs.Weeks.{weekday_of}
use Rattle.dates_answer.proofs.sheet.MonthSheet.date.Goals as goal

pub returns : goal.returns
returns c =
    let first = c.first_day_of_month-first.ensures.first in
    let before : c.days_since-before.result ≡ days_since (weekday_of (month_first_of c.args.self.now.month)) c.args.self.now.start =
    c.days_since-before.ensures ∙ ap (λ (w : Weekday). days_since w c.args.self.now.start) (c.weekday.ensures.value ∙ ap weekday_of first) in
    (rw (to_z-of_z w64 c.days_on.result (search rules)) at c.moved_by_days.ensures.date) ∙ ap date_of_day (omega (arith, signed, c.days_on.ensures, first, before))
