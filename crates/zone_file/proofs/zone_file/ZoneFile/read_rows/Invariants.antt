-- The rows so far are those of the file.
use Rattle.std.proofs.Common.{◌≡◌, ◌-◌, ◌≤◌, length}
use Rattle.zone_file.specs.Tables.{AreFileRows}
use Rattle.zone_file.proofs.zone_file.ZoneFile.read_rows.Given as goal

abbrev pub invariant-loop-place : goal.invariant-loop-place
invariant-loop-place l = record {
  within : l.place ≤ l.count;
  room : length l.rows ≡ length l.initial.rows;
  rows : AreFileRows l.self.version l.self.times.now l.self.places.now l.self.kinds.now l.place l.rows;
}

abbrev pub decreases-loop-place : goal.decreases-loop-place
decreases-loop-place l = l.count - l.place
