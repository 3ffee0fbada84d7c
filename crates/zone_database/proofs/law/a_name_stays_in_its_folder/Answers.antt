use Rattle.std.proofs.Common.{length, nat_le}
use Rattle.std.proofs.lemmas.Bool.{and_parts}
use Rattle.zone_database.specs.Names.{are_name_parts}
use Rattle.zone_database.proofs.NameLemmas.{name_inside, no_slash_in_front}
use Rattle.zone_database.proofs.law.a_name_stays_in_its_folder.Goals as goal

pub returns-clause-bytes : goal.returns-clause-bytes
returns-clause-bytes c = λ name is. name_inside name (and_parts (nat_le (length name) 255) (are_name_parts name) is).1

pub returns-clause-front : goal.returns-clause-front
returns-clause-front c = λ name is. no_slash_in_front name (and_parts (nat_le (length name) 255) (are_name_parts name) is).1
