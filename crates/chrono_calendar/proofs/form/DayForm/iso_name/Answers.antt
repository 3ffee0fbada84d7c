use Rattle.std.proofs.Common.{◌≡◌, ℕ, ℤ, pos, ◌+◌, ◌-◌, ◌+ℤ◌, ◌-ℤ◌, sym, ap, ◌∙◌, Bool, true, false, cond, refl, arith, to_z, of_z, w32}
use mir.Val.{bool_byte}
use Rattle.chrono_units.specs.Years.{is_leap_year, year_length}
use Rattle.chrono_units.specs.Weekday.{days_from_monday}
use Rattle.chrono_calendar.specs.Days.{year_of, ordinal_of}
use Rattle.chrono_calendar.specs.Weeks.{iso_year_of, iso_week_of}
use Rattle.chrono_text.proofs.Signed.{casts}
use Rattle.chrono_calendar.proofs.Names.{year_length_bounds}
use Rattle.chrono_calendar.proofs.NamedDates.{number-ordinal_name, IsDate-year}
use Rattle.chrono_calendar.proofs.IsoWeeks.{has_iso_name, iso_name-before, iso_name-inside, iso_name-after, iso_year_of-range}
use Rattle.chrono_calendar.proofs.form.DayForm.iso_name.Given.{Over}
use Rattle.chrono_calendar.proofs.form.DayForm.iso_name.Goals as goal

-- the year as the code has it
abbrev year_read : ℤ → ℤ
year_read y = to_z w32 (of_z w32 y)

-- in the week of a Thursday of the year before
before : (g : Over) (c : goal.After-week_of_thursday g) → has_iso_name (g.Self.DayForm.number c.args.self.now) (year_read (year_read c.year_ordinal-year.result.0 -ℤ pos 1)) (c.year_ordinal-year.result.1 + 3 + c.year_length.result - c.num_days_from_monday-from_monday.result)
before g c =
    let n = g.Self.DayForm.number c.args.self.now in
    let monday = c.num_days_from_monday-from_monday.ensures ∙ ap days_from_monday c.weekday.ensures in
    let past : year_read (year_read c.year_ordinal-year.result.0 -ℤ pos 1) ≡ year_of n -ℤ pos 1 = omega (arith, casts, c.year_ordinal-year.ensures.year) in
    rw (c.year_ordinal-year.ensures.ordinal, c.year_length.ensures)
    (iso_name-before n (year_of n) (year_read (year_read c.year_ordinal-year.result.0 -ℤ pos 1)) (ordinal_of n) c.num_days_from_monday-from_monday.result (sym (number-ordinal_name n)) monday past (omega (arith, c.year_ordinal-year.ensures.ordinal, c.year_ordinal-year.ensures.exists)) (omega (arith, c.year_ordinal-year.ensures.ordinal, c.year_ordinal-year.ensures.exists)))

pub returns-then-place-from_monday-clause-year : goal.returns-then-place-from_monday-clause-year
returns-then-place-from_monday-clause-year g c = sym (before g c).0

pub returns-then-place-from_monday-clause-week : goal.returns-then-place-from_monday-clause-week
returns-then-place-from_monday-clause-week g c = c.week_of_thursday.ensures ∙ sym (before g c).1

pub returns-then-place-from_monday-clause-year_in_range : goal.returns-then-place-from_monday-clause-year_in_range
returns-then-place-from_monday-clause-year_in_range g c =
    rw (before g c).0 at (iso_year_of-range (g.Self.DayForm.number c.args.self.now) (IsDate-year (g.Self.DayForm.number c.args.self.now) c.year_ordinal-year.ensures.in_range))

-- in the week of a Thursday of the same year, one of its first 365 days
within : (g : Over) (c : goal.After-week_of_thursday-then-thursday-le365 g) → has_iso_name (g.Self.DayForm.number c.args.self.now) (year_read c.year_ordinal-year.result.0) (c.year_ordinal-year.result.1 + 3 - c.num_days_from_monday-from_monday.result)
within g c =
    let n = g.Self.DayForm.number c.args.self.now in
    let monday = c.num_days_from_monday-from_monday.ensures ∙ ap days_from_monday c.weekday.ensures in
    let same : year_read c.year_ordinal-year.result.0 ≡ year_of n = omega (arith, casts, c.year_ordinal-year.ensures.year) in
    let long = year_length_bounds (year_of n) in
    rw (same, c.year_ordinal-year.ensures.ordinal)
    (iso_name-inside n (year_of n) (ordinal_of n) c.num_days_from_monday-from_monday.result (sym (number-ordinal_name n)) monday (omega (arith, c.year_ordinal-year.ensures.ordinal)) (omega (arith, c.year_ordinal-year.ensures.ordinal, long)))

pub returns-then-thursday-le365-clause-year : goal.returns-then-thursday-le365-clause-year
returns-then-thursday-le365-clause-year g c = sym (within g c).0

pub returns-then-thursday-le365-clause-week : goal.returns-then-thursday-le365-clause-week
returns-then-thursday-le365-clause-week g c = c.week_of_thursday-then-thursday-le365.ensures ∙ sym (within g c).1

leap_length : (b : Bool) → 365 + bool_byte b ≡ cond b 366 365
leap_length true = refl
leap_length false = refl

-- the days of the year as the code counts them
length : (y : ℤ) (b : Bool) (k : ℕ) → k ≡ bool_byte b → b ≡ is_leap_year y → 365 + k ≡ year_length y
length y b k e f = ap (λ (i : ℕ). 365 + i) e ∙ leap_length b ∙ ap (λ (l : Bool). cond {A = ℕ} l 366 365) f

-- in the first week of the year after
after : (g : Over) (c : goal.Then-thursday-from g) → (iso_year_of (g.Self.DayForm.number c.args.self.now) ≡ year_read (year_read c.year_ordinal-year.result.0 +ℤ pos 1)) × (iso_week_of (g.Self.DayForm.number c.args.self.now) ≡ 1)
after g c =
    let n = g.Self.DayForm.number c.args.self.now in
    let monday = c.num_days_from_monday-from_monday.ensures ∙ ap days_from_monday c.weekday.ensures in
    let next : year_read (year_read c.year_ordinal-year.result.0 +ℤ pos 1) ≡ year_of n +ℤ pos 1 = omega (arith, casts, c.year_ordinal-year.ensures.year) in
    let days = length (year_of n) c.is_leap.result c.from.result c.from.ensures c.is_leap.ensures in
    iso_name-after n (year_of n) (year_read (year_read c.year_ordinal-year.result.0 +ℤ pos 1)) (ordinal_of n) c.num_days_from_monday-from_monday.result (sym (number-ordinal_name n)) monday next (omega (arith, c.year_ordinal-year.ensures.ordinal, c.year_ordinal-year.ensures.exists)) (omega (arith, c.year_ordinal-year.ensures.ordinal, c.year_ordinal-year.ensures.exists, days))

pub returns-then-thursday-from-clause-year : goal.returns-then-thursday-from-clause-year
returns-then-thursday-from-clause-year g c = sym (after g c).0

pub returns-then-thursday-from-clause-week : goal.returns-then-thursday-from-clause-week
returns-then-thursday-from-clause-week g c = sym (after g c).1

-- in the week of a Thursday of the same year
inside : (g : Over) (c : goal.After-week_of_thursday-2 g) → has_iso_name (g.Self.DayForm.number c.args.self.now) (year_read c.year_ordinal-year.result.0) (c.year_ordinal-year.result.1 + 3 - c.num_days_from_monday-from_monday.result)
inside g c =
    let n = g.Self.DayForm.number c.args.self.now in
    let monday = c.num_days_from_monday-from_monday.ensures ∙ ap days_from_monday c.weekday.ensures in
    let same : year_read c.year_ordinal-year.result.0 ≡ year_of n = omega (arith, casts, c.year_ordinal-year.ensures.year) in
    let days = length (year_of n) c.is_leap.result c.from.result c.from.ensures c.is_leap.ensures in
    rw (same, c.year_ordinal-year.ensures.ordinal)
    (iso_name-inside n (year_of n) (ordinal_of n) c.num_days_from_monday-from_monday.result (sym (number-ordinal_name n)) monday (omega (arith, c.year_ordinal-year.ensures.ordinal, c.year_ordinal-year.ensures.exists)) (omega (arith, c.year_ordinal-year.ensures.ordinal, c.year_ordinal-year.ensures.exists, days)))

pub returns-clause-year : goal.returns-clause-year
returns-clause-year g c = sym (inside g c).0

pub returns-clause-week : goal.returns-clause-week
returns-clause-week g c = c.week_of_thursday-2.ensures ∙ sym (inside g c).1
