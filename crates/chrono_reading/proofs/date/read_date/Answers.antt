use Rattle.chrono_reading.proofs.date.read_date.Goals as goal

pub returns-in-Some-clause-every : goal.returns-in-Some-clause-every
returns-in-Some-clause-every c = λ n is. let found = c.in-Some.ensures.every n is in cc

pub returns-in-None-clause-every : goal.returns-in-None-clause-every
returns-in-None-clause-every c = λ n is. let found = c.in-None.ensures.every n is in cc
