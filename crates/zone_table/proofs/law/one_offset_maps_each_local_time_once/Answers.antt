use Rattle.zone_table.proofs.TableLemmas.{one_offset}
use Rattle.zone_table.proofs.law.one_offset_maps_each_local_time_once.Goals as goal

pub returns : goal.returns
returns c = one_offset
