-- What is written, and what is to be written behind it, are all numbers.
use Rattle.std.proofs.Common.{◌≡◌, ◌≤◌, ◌-◌, ◌++◌, length, map, take, drop}
use Rattle.std.specs.Prelude.{take_while}
use Rattle.chrono_cron.specs.DueMoments.{dues_left}
use Rattle.numbers_c.specs.DateTimes.{numbers_for_c}
use Rattle.layers_c.specs.Schedules.{is_up_to}
use Rattle.layers_c.proofs.schedules.write_due.Given as goal

abbrev pub invariant-loop-count : goal.invariant-loop-count
invariant-loop-count l =
    (l.count ≤ length l.initial.out) × (length l.out ≡ length l.initial.out)
    × (take (length l.initial.out) (map numbers_for_c (take_while (is_up_to l.until) (dues_left l.initial.moments)))
    ≡ take l.count l.out ++ take (length l.initial.out - l.count) (map numbers_for_c (take_while (is_up_to l.until) (dues_left l.moments))))
    × (drop l.count l.out ≡ drop l.count l.initial.out)

abbrev pub decreases-loop-count : goal.decreases-loop-count
decreases-loop-count l = length l.initial.out - l.count
