use Rattle.layers_c.proofs.FileLemmas.{reason-within}
use Rattle.layers_c.proofs.zone_faults.calendar_zone_check.Goals as goal

pub fault_of-requires : goal.fault_of-requires
fault_of-requires c = reason-within c.args.zone.now c.in-Err.reason c.in-Err.ensures.why

pub returns-in-Err-clause-fault : goal.returns-in-Err-clause-fault
returns-in-Err-clause-fault c = λ _. (c.in-Err.reason, c.in-Err.ensures.why, c.fault_of.ensures.why, c.fault_of.ensures.placed)
