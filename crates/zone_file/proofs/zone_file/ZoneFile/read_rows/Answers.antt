use Rattle.std.proofs.Common.{◌∙◌, arith}
use Rattle.std.proofs.lemmas.List.{length-set}
use Rattle.zone_file.proofs.RowLemmas.{one_more}
use Rattle.zone_file.proofs.zone_file.ZoneFile.read_rows.Goals as goal

pub loop-place-preserved : goal.loop-place-preserved
loop-place-preserved c = record {
  within = omega (arith, c.loop-place-test.true);
  room = length-set c.loop-place.rows c.loop-place.place c.in-Some.row ∙ c.loop-place.invariant.room;
  rows = one_more _ _ _ _ c.loop-place.place c.loop-place.rows c.in-Some.row (omega (arith, c.loop-place-test.true, c.if-rows-count.false, c.loop-place.invariant.room)) c.loop-place.invariant.rows c.in-Some.ensures.read;
}
