-- What is put and the weekdays that are left are all.
use Rattle.std.proofs.Common.{◌≡◌, ◌+◌, ◌-◌, ◌*◌, ◌≤◌, ◌++◌, ◌||◌, drop, length}
use Rattle.chrono_rules.specs.WrittenRules.{listed_on, numbered_items, some_in}
use Rattle.chrono_rules.proofs.text.list_writer.put_numbered.Given as goal

abbrev pub invariant-loop-weekday : goal.invariant-loop-weekday
invariant-loop-weekday g l = record {
  within : l.weekday ≤ 7;
  text : l.text ++ listed_on l.begun (numbered_items l.from_end (drop l.weekday l.sets) l.weekday) ≡ l.fn.text ++ listed_on l.fn.begun (numbered_items l.fn.from_end l.fn.sets 0);
  begun : (l.begun || some_in (numbered_items l.from_end (drop l.weekday l.sets) l.weekday)) ≡ (l.fn.begun || some_in (numbered_items l.fn.from_end l.fn.sets 0));
  fits : length l.text + 371 * (7 - l.weekday) ≤ length l.fn.text + 2600;
}

abbrev pub decreases-loop-weekday : goal.decreases-loop-weekday
decreases-loop-weekday g l = 7 - l.weekday
