use Rattle.dates_answer.proofs.Ground.{Some, None, arith, signed}
use Rattle.chrono_calendar.proofs.NamedDates.{none-date_of_day}
use Rattle.dates_answer.proofs.CellLemmas.{sheet_day-SomeIff}
use Rattle.chrono_calendar.proofs.NamedDates.{some-date_of_day}
use Rattle.dates_answer.proofs.sheet.MonthSheet.day.Goals as goal

pub returns-in_default : goal.returns-in_default
returns-in_default c = sheet_day-SomeIff None c.args.self.now.month c.args.self.now.start c.args.row c.args.column (λ lies. none-date_of_day _ c.in_default.ensures (
  omega (arith, signed, lies.0, c.first_day_of_month-first.ensures.in_range.0, c.first_day_of_month-first.ensures.first),
  omega (arith, signed, lies.1, c.last_day_of_month-last.ensures.in_range.1, c.last_day_of_month-last.ensures.last),
))

pub returns-then-days_between-lt0 : goal.returns-then-days_between-lt0
returns-then-days_between-lt0 c = sheet_day-SomeIff None c.args.self.now.month c.args.self.now.start c.args.row c.args.column
    (λ lies. omega (arith, signed, lies.0, c.if-days_between-lt0.true, c.days_between.ensures.is, c.first_day_of_month-first.ensures.first, (some-date_of_day _ _ c.in-Some.ensures).1))

pub returns-then-days_between-lt0-2 : goal.returns-then-days_between-lt0-2
returns-then-days_between-lt0-2 c = sheet_day-SomeIff None c.args.self.now.month c.args.self.now.start c.args.row c.args.column
    (λ lies. omega (arith, signed, lies.1, c.if-days_between-lt0-2.true, c.days_between-2.ensures.is, c.last_day_of_month-last.ensures.last, (some-date_of_day _ _ c.in-Some.ensures).1))

pub returns : goal.returns
returns c =
    let same = (some-date_of_day _ _ c.in-Some.ensures).1 in
    sheet_day-SomeIff (Some c.in-Some.date) c.args.self.now.month c.args.self.now.start c.args.row c.args.column (
      (
        omega (arith, signed, c.if-days_between-lt0.false, c.days_between.ensures.is, c.first_day_of_month-first.ensures.first, same),
        omega (arith, signed, c.if-days_between-lt0-2.false, c.days_between-2.ensures.is, c.last_day_of_month-last.ensures.last, same),
      ),
      same,
    )
