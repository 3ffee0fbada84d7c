use Rattle.std.proofs.Common.{◌≡◌, ◌+◌, ◌*◌, ℕ, ℤ, Bool, true, false, nat_lt, pos, ◌-ℤ◌, sym, ap, ◌∙◌, subst, arith, to_z, of_z, w32}
use mir.Val.{bool_byte}
use Rattle.chrono_units.specs.Years.{IsYear}
use Rattle.chrono_calendar.specs.Days.{IsCalendarName, day_number_of_ymd, year_of}
use Rattle.chrono_text.proofs.Signed.{casts}
use Rattle.chrono_calendar.proofs.NamedDates.{calendar_name-number}
use Rattle.chrono_calendar.proofs.WholeYears.{years_counted, place, years_between-None, years_between-Some}
use Rattle.chrono_calendar.proofs.forms.years_between_names.Goals as goal

-- the difference as the code makes it
abbrev difference : ℤ → ℤ → ℤ → ℤ
difference y z r = to_z w32 (of_z w32 (to_z w32 (of_z w32 (to_z w32 (of_z w32 y) -ℤ to_z w32 (of_z w32 z))) -ℤ to_z w32 (of_z w32 r)))

difference-counted : (y z p q r : ℤ) (e : Bool) → p ≡ y → q ≡ z → IsYear y → IsYear z → r ≡ pos (bool_byte e) → difference p q r ≡ years_counted y z e
difference-counted y z p q r true a b h k f = omega (arith, casts)
difference-counted y z p q r false a b h k f = omega (arith, casts)

-- the place in its year of the day with a name
named_place : (y : ℤ) (m d : ℕ) → IsCalendarName y m d → place (day_number_of_ymd y m d) ≡ m * 32 + d
named_place y m d h = let name = calendar_name-number y m d h in omega (arith, name.1, name.2)

-- the names are those of the days with their numbers
counted : (y : ℤ) (m d : ℕ) (z : ℤ) (p q : ℕ) (r : ℤ) → IsYear y × IsCalendarName y m d → IsYear z × IsCalendarName z p q → r ≡ pos (bool_byte (nat_lt (m * 32 + d) (p * 32 + q)))
    → difference y z r ≡ years_counted (year_of (day_number_of_ymd y m d)) (year_of (day_number_of_ymd z p q)) (nat_lt (place (day_number_of_ymd y m d)) (place (day_number_of_ymd z p q)))
counted y m d z p q r a b earlier =
    let n = day_number_of_ymd y m d in
    let base = day_number_of_ymd z p q in
    let year = (calendar_name-number y m d a.1).0 in
    let base_year = (calendar_name-number z p q b.1).0 in
    let same : pos (bool_byte (nat_lt (m * 32 + d) (p * 32 + q))) ≡ pos (bool_byte (nat_lt (place n) (place base))) =
    ap (λ i. pos (bool_byte (nat_lt i (p * 32 + q)))) (sym (named_place y m d a.1)) ∙ ap (λ i. pos (bool_byte (nat_lt (place n) i))) (sym (named_place z p q b.1)) in
    difference-counted (year_of n) (year_of base) y z r (nat_lt (place n) (place base)) (sym year) (sym base_year) (subst IsYear (sym year) a.0) (subst IsYear (sym base_year) b.0) (earlier ∙ same)

pub returns-then-years-lt0 : goal.returns-then-years-lt0
returns-then-years-lt0 c =
    let a = c.args.date in
    let b = c.args.base in
    let years = counted a.0 a.1 a.2 b.0 b.1 b.2 c.from.result c.requires.date c.requires.base c.from.ensures in
    years_between-None _ _ (rw (← years) (omega (arith, casts, c.if-years-lt0.true)))

pub returns : goal.returns
returns c =
    let a = c.args.date in
    let b = c.args.base in
    let years = counted a.0 a.1 a.2 b.0 b.1 b.2 c.from.result c.requires.date c.requires.base c.from.ensures in
    years_between-Some _ _ _ (rw (← years) (omega (arith, casts, c.if-years-lt0.false)))
