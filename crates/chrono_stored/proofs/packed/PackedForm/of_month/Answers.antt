use Rattle.std.proofs.Common.{◌≡◌, ◌∙◌, sym, ap, w32}
use Rattle.std.proofs.lemmas.Int.{to_z-of_z}
use Rattle.chrono_units.specs.Years.{is_leap_year}
use Rattle.chrono_calendar.specs.Days.{day_number_of_yo, ordinal_of_ymd, IsOrdinalName, IsCalendarName}
use Rattle.chrono_calendar.proofs.Months.{ordinal_within}
use Rattle.chrono_calendar.proofs.Weeks.{is_leap_year-flags}
use Rattle.chrono_stored.proofs.packed.PackedForm.of_month.Goals as goal

pub returns-in_err-ordinal : goal.returns-in_err-ordinal
returns-in_err-ordinal c =
    let leap = c.is_leap_by.ensures ∙ sym (is_leap_year-flags c.args.year c.bits.result (c.bits.ensures.value ∙ c.requires.flags)) in
    rw c.from_residual.ensures (λ h. c.in_err-ordinal.ensures (rw leap h))

-- the day is one of the year's, and the ordinal is its place
named : (c : goal.In_ok-ordinal) → IsCalendarName c.args.year c.args.month c.args.day × (c.in_ok-ordinal.ordinal ≡ ordinal_of_ymd c.args.year c.args.month c.args.day)
named c =
    let leap = c.is_leap_by.ensures ∙ sym (is_leap_year-flags c.args.year c.bits.result (c.bits.ensures.value ∙ c.requires.flags)) in
    rw leap at c.in_ok-ordinal.ensures

exists : (c : goal.In_ok-ordinal) → IsOrdinalName c.args.year c.in_ok-ordinal.ordinal
exists c =
    rw (named c).1 (ordinal_within (is_leap_year c.args.year) c.args.month c.args.day (named c).0.0 (named c).0.1)

pub pack-requires-clause-ordinal : goal.pack-requires-clause-ordinal
pack-requires-clause-ordinal c = rw (to_z-of_z w32 c.args.year c.ranges.year) (exists c)

pub returns : goal.returns
returns c =
    ((named c.before).0, c.pack.ensures ∙ ap (λ y. day_number_of_yo y c.in_ok-ordinal.ordinal) (to_z-of_z w32 c.args.year c.ranges.year) ∙ ap (λ o. day_number_of_yo c.args.year o) (named c.before).1)
