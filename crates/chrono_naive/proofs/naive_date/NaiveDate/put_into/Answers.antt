use Rattle.std.proofs.Common.{subst}
use Rattle.chrono_units.specs.Years.{IsYear}
use Rattle.chrono_naive.proofs.DateTextLemmas.{IsAscii-date_text}
use Rattle.chrono_naive.proofs.naive_date.NaiveDate.put_into.Goals as goal

pub returns-clause-ascii : goal.returns-clause-ascii
returns-clause-ascii g c = IsAscii-date_text c.args.self.now (subst IsYear c.year_month_day-year.ensures.year c.year_month_day-year.ensures.in_range)
