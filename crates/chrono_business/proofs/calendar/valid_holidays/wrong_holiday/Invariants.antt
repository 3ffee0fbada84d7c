-- The holidays so far are those of a calendar.
use Rattle.std.proofs.Common.{◌≡◌, ℕ, ◌<◌, true, ℤ, ◌<ℤ◌}
use Rattle.std.specs.Prelude.{slice_index_or}
use Rattle.std.specs.List.{AllWithin}
use Rattle.chrono_datetime.specs.Days.{IsDate}
use Rattle.chrono_business.specs.OpenDays.{is_workday}
use Rattle.chrono_business.proofs.calendar.valid_holidays.wrong_holiday.Given as goal

abbrev pub invariant-loop-place : goal.invariant-loop-place
invariant-loop-place l = record {
  dates : AllWithin IsDate l.holidays 0 l.place;
  rising : (i j : ℕ) (d : ℤ) → i < j → j < l.place → slice_index_or l.holidays i d <ℤ slice_index_or l.holidays j d;
  workdays : AllWithin (λ h. is_workday l.weekend h ≡ true) l.holidays 0 l.place;
}
