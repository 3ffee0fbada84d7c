-- No day so far is in the recurrence, and what was seen is kept.
use Rattle.std.proofs.Common.{◌≡◌, ◌≤◌, false, ℤ, ◌≤ℤ◌, ◌<ℤ◌}
use Rattle.chrono_datetime.specs.Days.{IsDate}
use Rattle.chrono_datetime.specs.Recurrence.{dates_before, dates_left}
use Rattle.chrono_rules.specs.InstanceWalks.{IsKept}
use Rattle.chrono_rules.specs.RecurrenceSets.{is_in_recurrence}
use Rattle.chrono_rules.proofs.search.recurrence.Recurrence.first_from.Given as goal

abbrev pub invariant-loop-found : goal.invariant-loop-found
invariant-loop-found l = record {
  low : l.fn.date ≤ℤ l.from;
  date : IsDate l.from;
  none : (d : ℤ) → l.fn.date ≤ℤ d → d <ℤ l.from → is_in_recurrence l.self d ≡ false;
  kept : IsKept l.self.rule l.self.start l.from l.walked;
  few : l.walked ≤ dates_before l.from;
}

abbrev pub decreases-loop-found : goal.decreases-loop-found
decreases-loop-found l = dates_left l.from
