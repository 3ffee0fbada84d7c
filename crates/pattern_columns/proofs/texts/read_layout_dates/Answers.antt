use Rattle.pattern_columns.proofs.texts.read_layout_dates.Goals as goal

pub returns-in-YearMonthDay : goal.returns-in-YearMonthDay
returns-in-YearMonthDay c i h = rw (c.in-YearMonthDay.is) (c.read_each.ensures i h)

pub returns-in-DayMonthYear : goal.returns-in-DayMonthYear
returns-in-DayMonthYear c i h = rw (c.in-DayMonthYear.is) (c.read_each-in-DayMonthYear.ensures i h)

pub returns-in-MonthDayYear : goal.returns-in-MonthDayYear
returns-in-MonthDayYear c i h = rw (c.in-MonthDayYear.is) (c.read_each-in-MonthDayYear.ensures i h)
