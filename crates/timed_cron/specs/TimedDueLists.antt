-- The moments at which a schedule with seconds is due, one after another.
use Rattle.std.specs.Prelude.{ℕ, zero, suc, List, [], ◌∷◌, filter, ℤ, pos, ◌+ℤ◌, ◌-ℤ◌, ◌*ℤ◌, unsigned_abs}
use Rattle.std.specs.Int.{int_div_euclid, int_rem_euclid}
use Rattle.chrono_datetime.specs.Moment.{Moment, moment}
use Rattle.chrono_datetime.specs.Recurrence.{past_last_date}
use Rattle.chrono_datetime.specs.Time.{time_at}
use Rattle.timed_cron.specs.declared.timed_dues.TimedDues.{TimedDues}
use Rattle.timed_cron.specs.declared.timed_schedule.TimedSchedule.{TimedSchedule}
use Rattle.timed_cron.specs.DueSeconds.{is_timed_due}

-- the beginning of the k-th second, counted from that with which day 0 begins
abbrev pub beginning_of_second : ℤ → Moment
beginning_of_second k = moment (int_div_euclid k (pos 86_400)) (time_at 0 0 (unsigned_abs (int_rem_euclid k (pos 86_400))) 0)

-- the second in which a moment lies, so counted
abbrev pub second_number_of : Moment → ℤ
second_number_of m = (m.date *ℤ pos 86_400) +ℤ pos m.time.second

-- how many seconds begin after a moment, up to the end of the last date
abbrev pub seconds_left : Moment → ℕ
seconds_left m = unsigned_abs ((past_last_date *ℤ pos 86_400) -ℤ (second_number_of m +ℤ pos 1))

-- the beginnings of k seconds in a row, of the n-th one first
unfoldable pub seconds_in_a_row : ℕ → ℤ → List Moment
seconds_in_a_row zero n = []
seconds_in_a_row (suc k) n = beginning_of_second n ∷ seconds_in_a_row k (n +ℤ pos 1)

-- of the beginnings of all seconds after a moment, those at which the schedule is due
unfoldable pub timed_dues_after : TimedSchedule → Moment → List Moment
timed_dues_after s m = filter (is_timed_due s) (seconds_in_a_row (seconds_left m) (second_number_of m +ℤ pos 1))

-- what an iterator has left to give
abbrev pub timed_dues_left : TimedDues → List Moment
timed_dues_left it = timed_dues_after it.schedule it.last
