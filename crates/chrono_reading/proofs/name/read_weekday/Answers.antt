use Rattle.chrono_reading.proofs.name.read_weekday.Goals as goal

pub returns-in-Some-clause-every : goal.returns-in-Some-clause-every
returns-in-Some-clause-every c = λ d is. let found = c.in-Some.ensures.every d is in cc

pub returns-in-None-clause-every : goal.returns-in-None-clause-every
returns-in-None-clause-every c = λ d is. let found = c.in-None.ensures.every d is in cc
