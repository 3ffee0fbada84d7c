-- What is put and the ranges that are left are all ranges.
use Rattle.std.proofs.Common.{◌≡◌, ◌+◌, ◌-◌, ◌*◌, ◌≤◌, ◌++◌, length}
use Rattle.std.specs.Prelude.{map}
use Rattle.chrono_text.specs.Lists.{each_behind}
use Rattle.chrono_cron.specs.WrittenTexts.{range_text, ranges_from}
use Rattle.chrono_cron.proofs.text.schedule_writer.put_ranges.Given as goal

abbrev pub invariant-loop-from : goal.invariant-loop-from
invariant-loop-from g l = record {
  from : l.fn.low ≤ l.from;
  within : l.from ≤ l.fn.end;
  text : l.text ++ each_behind 44 (map range_text (ranges_from l.fn.set (l.fn.end - l.from) l.from)) ≡ l.fn.text ++ each_behind 44 (map range_text (ranges_from l.fn.set (l.fn.end - l.fn.low) l.fn.low));
  fits : length l.text + 3 * (l.fn.end - l.from) ≤ length l.fn.text + 3 * (l.fn.end - l.fn.low);
}

abbrev pub decreases-loop-from : goal.decreases-loop-from
decreases-loop-from g l = l.fn.end - l.from
