use Rattle.chrono_reading.proofs.OneErrorLemmas.{date_one, ordinal_one, time_one, week_one}
use Rattle.chrono_reading.proofs.law.texts_have_one_error.Goals as goal

pub returns-clause-date : goal.returns-clause-date
returns-clause-date c = date_one c.args.text.now

pub returns-clause-ordinal_date : goal.returns-clause-ordinal_date
returns-clause-ordinal_date c = ordinal_one c.args.text.now

pub returns-clause-week_date : goal.returns-clause-week_date
returns-clause-week_date c = week_one c.args.text.now

pub returns-clause-time : goal.returns-clause-time
returns-clause-time c = time_one c.args.text.now
