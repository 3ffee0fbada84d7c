use Rattle.std.proofs.Common.{arith}
use Rattle.layers_c.specs.Schedules.{sets_from_c}
use Rattle.layers_c.proofs.DigitLemmas.{whole_set}
use Rattle.layers_c.proofs.SetsOfFields.{same_sets}
use Rattle.layers_c.proofs.schedule_numbers.numbers_of.Goals as goal

pub returns : goal.returns
unfolding sets_from_c
returns c =
    let s = c.args.schedule.now.sets in
    same_sets s _ _ _ _ _ _ _ _ _ _ _ _
    (whole_set _ s.minutes 0 60 c.digits_of.ensures (omega arith) c.requires.minutes)
    (whole_set _ s.hours 0 24 c.digits_of-2.ensures (omega arith) c.requires.hours)
    (whole_set _ s.days 1 32 c.digits_of-3.ensures (omega arith) c.requires.days)
    (whole_set _ s.months 1 13 c.digits_of-4.ensures (omega arith) c.requires.months)
    (whole_set _ s.weekdays 0 7 c.digits_of-5.ensures (omega arith) c.requires.weekdays)
    (whole_set _ s.month_days.from_end 0 31 c.digits_of-6.ensures (omega arith) c.requires.from_end)
    (whole_set _ s.month_days.nearest_workdays 1 32 c.digits_of-7.ensures (omega arith) c.requires.nearest_workdays)
    (whole_set _ s.month_days.last_weekdays 0 7 c.digits_of-8.ensures (omega arith) c.requires.last_weekdays)
    (whole_set _ s.month_days.nth_weekdays 0 35 c.digits_of-9.ensures (omega arith) c.requires.nth_weekdays)
    c.marks_of.ensures.last_workday c.marks_of.ensures.either c.marks_of.ensures.follows_clock
