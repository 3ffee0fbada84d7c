-- What is put and the names that are left are all names.
use Rattle.std.proofs.Common.{◌≡◌, ◌+◌, ◌-◌, ◌*◌, ◌≤◌, ◌++◌, length}
use Rattle.chrono_text.specs.Lists.{each_behind}
use Rattle.chrono_cron.specs.WrittenTexts.{names_from}
use Rattle.chrono_cron.proofs.text.schedule_writer.put_names.Given as goal

abbrev pub invariant-loop-number : goal.invariant-loop-number
invariant-loop-number g l = record {
  from : l.fn.low ≤ l.number;
  within : l.number ≤ l.fn.end;
  text : l.text ++ each_behind 44 (names_from l.fn.naming l.fn.set (l.fn.end - l.number) l.number) ≡ l.fn.text ++ each_behind 44 (names_from l.fn.naming l.fn.set (l.fn.end - l.fn.low) l.fn.low);
  fits : length l.text + 5 * (l.fn.end - l.number) ≤ length l.fn.text + 5 * (l.fn.end - l.fn.low);
}

abbrev pub decreases-loop-number : goal.decreases-loop-number
decreases-loop-number g l = l.fn.end - l.number
