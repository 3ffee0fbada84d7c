-- Of the days so far, each as many days later as one of the first is but for whole weeks, BYDAY names none; the weekday is that of the
-- next.
-- Once no day is left before it, BYDAY names the day itself.
use Rattle.std.proofs.Common.{◌≡◌, ◌+◌, ◌-◌, ◌%◌, ◌≤◌, ◌<◌, true, false, ℕ, pos, ◌+ℤ◌}
use Rattle.chrono_datetime.specs.Weekday.{days_from_monday}
use Rattle.chrono_datetime.specs.Weeks.{weekday_of}
use Rattle.chrono_rules.specs.ByParts.{on_weekday}
use Rattle.chrono_rules.proofs.rule.Rule.days_to_numbered.Given as goal

abbrev pub invariant-loop-first : goal.invariant-loop-first
invariant-loop-first l =
    (l.days ≤ l.behind + 1) × (l.first ≤ 7) × (l.weekday ≡ (days_from_monday (weekday_of l.fn.day) + l.first) % 7)
    × ((j : ℕ) → j < l.days → j ≤ l.behind → j % 7 < l.first → on_weekday l.self (l.fn.day +ℤ pos j) ≡ false)
    × (l.days ≡ 0 → on_weekday l.self l.fn.day ≡ true)

abbrev pub decreases-loop-first : goal.decreases-loop-first
decreases-loop-first l = 7 - l.first
