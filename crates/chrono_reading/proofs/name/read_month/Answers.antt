use Rattle.chrono_reading.proofs.name.read_month.Goals as goal

pub returns-in-Some-clause-every : goal.returns-in-Some-clause-every
returns-in-Some-clause-every c = λ m is. let found = c.in-Some.ensures.every m is in cc

pub returns-in-None-clause-every : goal.returns-in-None-clause-every
returns-in-None-clause-every c = λ m is. let found = c.in-None.ensures.every m is in cc
