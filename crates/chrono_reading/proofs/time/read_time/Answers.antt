use Rattle.chrono_reading.proofs.time.read_time.Goals as goal

pub returns-in-Some-clause-every : goal.returns-in-Some-clause-every
returns-in-Some-clause-every c = λ t is. let found = c.in-Some.ensures.every t is in cc

pub returns-in-None-clause-every : goal.returns-in-None-clause-every
returns-in-None-clause-every c = λ t is. let found = c.in-None.ensures.every t is in cc
