-- The moments at which a schedule is due, one after another.
use Rattle.std.specs.Prelude.{ℕ, zero, suc, ◌/◌, List, [], ◌∷◌, filter, ℤ, pos, ◌+ℤ◌, ◌-ℤ◌, ◌*ℤ◌, unsigned_abs}
use Rattle.std.specs.Int.{int_div_euclid, int_rem_euclid}
use Rattle.chrono_datetime.specs.Moment.{Moment, moment}
use Rattle.chrono_datetime.specs.Recurrence.{past_last_date}
use Rattle.chrono_datetime.specs.Time.{time_at}
use Rattle.chrono_cron.specs.declared.search.due_moments.Dues.{Dues}
use Rattle.chrono_cron.specs.declared.field_sets.FieldSets.{FieldSets}
use Rattle.chrono_cron.specs.Due.{is_due}

-- the beginning of the k-th minute, counted from that with which day 0 begins
abbrev pub minute_at : ℤ → Moment
minute_at k = moment (int_div_euclid k (pos 1440)) (time_at 0 (unsigned_abs (int_rem_euclid k (pos 1440))) 0 0)

-- the minute in which a moment lies, so counted
abbrev pub minute_number_of : Moment → ℤ
minute_number_of m = (m.date *ℤ pos 1440) +ℤ pos (m.time.second / 60)

-- how many minutes begin after a moment, up to the end of the last date
abbrev pub minutes_left : Moment → ℕ
minutes_left m = unsigned_abs ((past_last_date *ℤ pos 1440) -ℤ (minute_number_of m +ℤ pos 1))

-- the beginnings of k minutes in a row, of the n-th one first
unfoldable pub minutes_from : ℕ → ℤ → List Moment
minutes_from zero n = []
minutes_from (suc k) n = minute_at n ∷ minutes_from k (n +ℤ pos 1)

-- of the beginnings of all minutes after a moment, those at which the schedule is due
unfoldable pub dues_after : FieldSets → Moment → List Moment
dues_after s m = filter (is_due s) (minutes_from (minutes_left m) (minute_number_of m +ℤ pos 1))

-- what an iterator has left to give
abbrev pub dues_left : Dues → List Moment
dues_left it = dues_after it.schedule.sets it.last
