use Rattle.chrono_reading.proofs.duration.read_duration.Goals as goal

pub returns-in-Some-clause-every : goal.returns-in-Some-clause-every
returns-in-Some-clause-every c = λ x is. let found = c.in-Some.ensures.every x is in cc

pub returns-in-None-clause-every : goal.returns-in-None-clause-every
returns-in-None-clause-every c = λ x is. let found = c.in-None.ensures.every x is in cc
