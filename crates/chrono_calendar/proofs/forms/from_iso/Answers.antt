use Rattle.std.proofs.Common.{ℤ, pos, ◌+ℤ◌, ◌-ℤ◌, ap, ◌∙◌, arith, to_z, of_z, w32}
use Rattle.std.proofs.lemmas.Int.{to_z-of_z}
use Rattle.chrono_units.specs.Years.{year_length}
use Rattle.chrono_calendar.specs.Days.{days_before_year}
use Rattle.chrono_calendar.specs.Weeks.{days_from_sunday_of}
use Rattle.chrono_text.proofs.Signed.{casts}
use Rattle.chrono_calendar.proofs.Names.{year_length_bounds}
use Rattle.chrono_calendar.proofs.IsoDates.{before_monday-bound, date_of_iso-no_year, date_of_iso-no_week, date_of_iso-before, date_of_iso-inside, date_of_iso-after}
use Rattle.chrono_calendar.proofs.forms.from_iso.Goals as goal
use Rattle.chrono_calendar.proofs.forms.from_iso.Goals.{then-year-lt-MIN_YEAR-via-then-year-lt-MIN_YEAR, then-year-lt-MIN_YEAR-via-else-year-lt-MIN_YEAR+then-year}

pub returns-then-year-lt-MIN_YEAR : goal.returns-then-year-lt-MIN_YEAR
returns-then-year-lt-MIN_YEAR g c =
    elim c.then-year-lt-MIN_YEAR.branch [
      | then-year-lt-MIN_YEAR-via-then-year-lt-MIN_YEAR w ↦ date_of_iso-no_year c.args.year c.args.week c.args.weekday (λ low high. omega (arith, casts, w.if-year-lt-MIN_YEAR.true))
      | then-year-lt-MIN_YEAR-via-else-year-lt-MIN_YEAR+then-year w ↦ date_of_iso-no_year c.args.year c.args.week c.args.weekday (λ low high. omega (arith, casts, w.if-year.true))
    ]

pub returns-then-week-eq0 : goal.returns-then-week-eq0
returns-then-week-eq0 g c =
    date_of_iso-no_week c.args.year c.args.week c.args.weekday (λ first last. omega (arith, year_length_bounds c.args.year, before_monday-bound c.args.year, c.then-week-eq0.either))

pub returns-then-week-length : goal.returns-then-week-length
returns-then-week-length g c =
    let y = c.args.year in
    let same = to_z-of_z w32 y c.ranges.year in
    let days = c.year_length-length.ensures ∙ ap year_length same in
    let before = c.days_from_sunday_before.ensures ∙ ap (λ (z : ℤ). days_from_sunday_of (days_before_year z)) same in
    date_of_iso-no_week y c.args.week c.args.weekday (λ first last. omega (arith, days, before))

pub returns-then-place-before_monday : goal.returns-then-place-before_monday
returns-then-place-before_monday g c =
    let y = c.args.year in
    let same = to_z-of_z w32 y c.ranges.year in
    let days = c.year_length-length.ensures ∙ ap year_length same in
    let before = c.days_from_sunday_before.ensures ∙ ap (λ (z : ℤ). days_from_sunday_of (days_before_year z)) same in
    let p = to_z w32 (of_z w32 (to_z w32 (of_z w32 y) -ℤ pos 1)) in
    let past = c.year_length.ensures in
    let bounds = year_length_bounds p in
    c.from_yo.ensures ∙ date_of_iso-before y p c.args.week _ c.args.weekday (omega arith) (omega (arith, days, before)) (omega (arith, casts)) (omega (arith, past, before, c.num_days_from_monday.ensures)) (omega (arith, past, before))

pub returns-then-ordinal-length : goal.returns-then-ordinal-length
returns-then-ordinal-length g c =
    let y = c.args.year in
    let same = to_z-of_z w32 y c.ranges.year in
    let days = c.year_length-length.ensures ∙ ap year_length same in
    let before = c.days_from_sunday_before.ensures ∙ ap (λ (z : ℤ). days_from_sunday_of (days_before_year z)) same in
    c.from_yo-then-ordinal-length.ensures ∙ date_of_iso-after y (to_z w32 (of_z w32 (to_z w32 (of_z w32 y) +ℤ pos 1))) c.args.week _ c.args.weekday (omega arith) (omega (arith, days, before)) (omega (arith, casts)) (omega (arith, days, before, c.num_days_from_monday.ensures)) (omega (arith, days, before))

pub returns : goal.returns
returns g c =
    let y = c.args.year in
    let same = to_z-of_z w32 y c.ranges.year in
    let days = c.year_length-length.ensures ∙ ap year_length same in
    let before = c.days_from_sunday_before.ensures ∙ ap (λ (z : ℤ). days_from_sunday_of (days_before_year z)) same in
    rw same at c.from_yo-2.ensures ∙ date_of_iso-inside y c.args.week _ c.args.weekday (omega arith) (omega (arith, days, before)) (omega (arith, days, before, c.num_days_from_monday.ensures)) (omega (arith, before)) (omega (arith, days, before))
