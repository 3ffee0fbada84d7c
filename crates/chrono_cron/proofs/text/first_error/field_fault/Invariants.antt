-- What is wrong with the field is what is wrong with the rest of it.
use Rattle.std.proofs.Common.{◌≡◌, ◌==◌, ◌+◌, ◌≤◌, length}
use Rattle.std.specs.List.{position_or_len}
use Rattle.chrono_cron.specs.ScheduleErrors.{field_fault}
use Rattle.chrono_cron.proofs.text.first_error.field_fault.Given as goal

abbrev pub invariant-loop-len : goal.invariant-loop-len
invariant-loop-len l = record {
  at : position_or_len (λ x. x == 44) l.rest ≡ l.len;
  within : l.len ≤ length l.rest;
  end : l.place + length l.rest ≡ l.fn.word.place + length l.fn.word.text.now;
  same : field_fault l.fn.field (l.fn.word.place, l.fn.word.text.now) ≡ field_fault l.fn.field (l.place, l.rest);
}

abbrev pub decreases-loop-len : goal.decreases-loop-len
decreases-loop-len l = length l.rest
