-- No byte so far is a blank.
use Rattle.std.proofs.Common.{◌≡◌, ◌<◌, ◌≤◌, ◌-◌, ℕ, false, length, get_or}
use Rattle.chrono_text.specs.Lists.{is_blank}
use Rattle.chrono_cron.proofs.text.split_fields.blank_place.Given as goal

abbrev pub invariant-loop-place : goal.invariant-loop-place
invariant-loop-place l = (l.place ≤ length l.text) × ((k : ℕ) → k < l.place → is_blank (get_or l.text k 0) ≡ false)

abbrev pub decreases-loop-place : goal.decreases-loop-place
decreases-loop-place l = length l.text - l.place
