-- The instants so far, with those of the times that are left behind them, are those of all times. Behind so many instants of all times stand those
-- of the times that are left.
use Rattle.std.proofs.Common.{◌≡◌, ◌≤◌, ◌+◌, ◌++◌, List, length, take, drop}
use Rattle.chrono_zoned.specs.Zoned.{Zoned}
use Rattle.calendar_rules.specs.Recurrences.{AreInstantsOf}
use Rattle.calendar_rules.proofs.instant_list.put_instants.Given as goal

abbrev pub invariant-loop-time : goal.invariant-loop-time
invariant-loop-time g l = record {
  within : l.len ≤ length l.out;
  size : length l.out ≡ length l.initial.out;
  count : l.len + length l.times ≡ length l.initial.times;
  same : (rest : List (Zoned g.row.Z.Denot)) → AreInstantsOf (g.Z.TimeZone.ahead) l.zone l.times rest → AreInstantsOf (g.Z.TimeZone.ahead) l.zone l.initial.times (take l.len l.out ++ rest);
  left : (ds : List (Zoned g.row.Z.Denot)) → AreInstantsOf (g.Z.TimeZone.ahead) l.zone l.initial.times ds → AreInstantsOf (g.Z.TimeZone.ahead) l.zone l.times (drop l.len ds);
}

abbrev pub decreases-loop-time : goal.decreases-loop-time
decreases-loop-time g l = length l.times
