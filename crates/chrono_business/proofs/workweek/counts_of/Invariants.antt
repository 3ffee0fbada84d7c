-- The counts so far are those of the days so far.
use Rattle.std.proofs.Common.{◌≡◌, ℕ, ◌≤◌, length, pos, ◌+ℤ◌}
use Rattle.std.specs.Prelude.{slice_index_or}
use Rattle.chrono_datetime.specs.Weeks.{weekday_of}
use Rattle.chrono_datetime.specs.Recurrence.{count_where, first_date}
use Rattle.chrono_business.specs.OpenDays.{is_workday}
use Rattle.chrono_business.proofs.workweek.counts_of.Given as goal

abbrev pub invariant-loop-day : goal.invariant-loop-day
invariant-loop-day l = record {
  weekday : l.weekday ≡ weekday_of (first_date +ℤ pos l.day);
  count : l.count ≡ count_where (is_workday l.weekend) l.day first_date;
  few : l.count ≤ l.day;
  size : length l.counts ≡ 8;
  counts : (days d : ℕ) → days ≤ l.day → slice_index_or l.counts days d ≡ count_where (is_workday l.weekend) days first_date;
}
