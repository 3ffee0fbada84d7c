-- So many months are passed over, the month is the one behind them, and from it on as many more as the gap has.
use Rattle.std.proofs.Common.{◌≡◌, ◌+◌, ◌-◌, ◌≤◌, ◌<◌, ◌≤ℤ◌, ◌+ℤ◌, ℕ, ℤ, false, neg_ℤ, pos}
use Rattle.std.specs.Int.{IsInRange}
use Rattle.chrono_datetime.specs.MonthMoves.{month_index, month_index_of, month_length_of}
use Rattle.chrono_rules.specs.Instances.{is_member}
use Rattle.chrono_rules.proofs.rule.Rule.months_passed.Given as goal

abbrev pub invariant-loop-gap : goal.invariant-loop-gap
invariant-loop-gap l =
    (IsInRange 1 12 l.month) × (month_index l.year l.month ≡ month_index_of l.fn.day +ℤ pos l.months) × (l.months < 60) × (l.gap ≤ 12) × (0 < l.months + l.gap)
    × (neg_ℤ (pos 262_143) ≤ℤ l.year) × (l.year ≤ℤ (pos 262_142 +ℤ pos l.months))
    × ((d : ℤ) (j : ℕ) → j < l.months → month_index_of d ≡ month_index_of l.fn.day +ℤ pos j → is_member l.self l.start d ≡ false)
    × ((d : ℤ) (j : ℕ) → j < l.gap → month_index_of d ≡ month_index l.year l.month +ℤ pos j → is_member l.self l.start d ≡ false)
    × ((d : ℤ) → month_length_of d < l.shortest → is_member l.self l.start d ≡ false)

abbrev pub decreases-loop-gap : goal.decreases-loop-gap
decreases-loop-gap l = 60 - l.months
