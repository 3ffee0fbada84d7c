use Rattle.chrono_stamps.proofs.rfc2822_reader.mail_date.Goals as goal

pub returns-in_err-year-clause-every : goal.returns-in_err-year-clause-every
returns-in_err-year-clause-every c = λ n is. let read = c.in_err-year.ensures.every is.year_number is.year_is in cc
