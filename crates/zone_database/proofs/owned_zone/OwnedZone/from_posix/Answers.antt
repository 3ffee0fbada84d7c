use Rattle.zone_database.proofs.owned_zone.OwnedZone.from_posix.Goals as goal

pub returns-in-Err-clause-error : goal.returns-in-Err-clause-error
returns-in-Err-clause-error g c = λ rule is. c.in-Err.ensures.every is.standard is.daylight rule is.written
