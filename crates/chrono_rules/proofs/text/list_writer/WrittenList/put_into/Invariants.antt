-- What is put and the items that are left are all items.
use Rattle.std.proofs.Common.{◌≡◌, ◌+◌, ◌-◌, ◌*◌, ◌≤◌, ◌++◌, ◌||◌, length}
use Rattle.chrono_rules.specs.WrittenRules.{items, listed_on, members, some_in}
use Rattle.chrono_rules.proofs.text.list_writer.WrittenList.put_into.Given as goal

abbrev pub invariant-loop-number : goal.invariant-loop-number
invariant-loop-number g l = record {
  from : l.self.low ≤ l.number;
  within : l.number ≤ l.self.end;
  text : l.text ++ listed_on l.begun (items (members l.self.listed) l.self.naming l.self.from_end (l.self.end - l.number) l.number)
      ≡ l.fn.text ++ listed_on l.fn.begun (items (members l.self.listed) l.self.naming l.self.from_end (l.self.end - l.self.low) l.self.low);
  begun : (l.begun || some_in (items (members l.self.listed) l.self.naming l.self.from_end (l.self.end - l.number) l.number))
      ≡ (l.fn.begun || some_in (items (members l.self.listed) l.self.naming l.self.from_end (l.self.end - l.self.low) l.self.low));
  fits : length l.text + 7 * (l.self.end - l.number) ≤ length l.fn.text + 7 * (l.self.end - l.self.low);
}

abbrev pub decreases-loop-number : goal.decreases-loop-number
decreases-loop-number g l = l.self.end - l.number
