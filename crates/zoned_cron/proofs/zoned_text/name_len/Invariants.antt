-- No byte so far is a blank.
use Rattle.std.proofs.Common.{◌≡◌, ◌-◌, ◌<◌, ◌≤◌, ℕ, false, get_or, length}
use Rattle.chrono_text.specs.Lists.{is_blank}
use Rattle.zoned_cron.proofs.zoned_text.name_len.Given as goal

abbrev pub invariant-loop-len : goal.invariant-loop-len
invariant-loop-len l = record {
  within : l.len ≤ length l.text;
  words : (k : ℕ) → k < l.len → is_blank (get_or l.text k 0) ≡ false;
}

abbrev pub decreases-loop-len : goal.decreases-loop-len
decreases-loop-len l = length l.text - l.len
