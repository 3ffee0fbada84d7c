use Rattle.std.proofs.Common.{◌≡◌, ℕ, ℤ, Option, Some, refl, ap, sym, ◌∙◌, subst, to_z, of_z, w32}
use Rattle.std.specs.Option.{option_map, option_and_then}
use Rattle.chrono_units.specs.Years.{IsYear}
use Rattle.chrono_units.proofs.Years.{year_fits}
use Rattle.chrono_calendar.specs.Days.{IsCalendarName, day_number_of_ymd}
use Rattle.chrono_calendar.specs.YearsBetween.{years_between}
use Rattle.chrono_calendar.proofs.GivenNames.{given_ymd}
use Rattle.chrono_calendar.proofs.WholeYears.{number-named}
use Rattle.caltool_command.specs.declared.arguments.CalendarDate.{CalendarDate}
use Rattle.caltool_form.specs.Named.{date_named as the_date}
use Rattle.caltool_form.proofs.asked.years_since.Goals as goal

-- a date that the numbers name has their name
record Named (date : CalendarDate) (n : ℤ) : Type 0 where
  name : IsYear date.year × IsCalendarName date.year date.month date.day
  number : day_number_of_ymd date.year date.month date.day ≡ n

named : (date : CalendarDate) (n : ℤ) → Some n ≡ the_date date → Named date n
unfolding the_date
named date n e =
    let given = given_ymd (Some n) date.year date.month date.day e in
    record {
      name = given.0.0 refl;
      number = number-named n date.year date.month date.day (sym given.1) (sym given.2) (sym given.3);
    }

years : (date base : CalendarDate) (n m : ℤ) (result : Option ℕ) → Some n ≡ the_date date → Some m ≡ the_date base
    → result ≡ years_between (day_number_of_ymd date.year date.month date.day) (day_number_of_ymd base.year base.month base.day)
    → result ≡ option_and_then (λ i. option_and_then (λ k. years_between i k) (the_date base)) (the_date date)
years date base n m result e f is =
    let a = (named date n e).number in
    let b = (named base m f).number in
    rw (← e, ← f) (is ∙ ap (λ i. years_between i (day_number_of_ymd base.year base.month base.day)) a ∙ ap (years_between n) b)

-- the year as the call is passed it
same : (date : CalendarDate) (n : ℤ) → Named date n → to_z w32 (of_z w32 date.year) ≡ date.year
same date n h = year_fits date.year h.name.0

passed : (date : CalendarDate) (n : ℤ) → Some n ≡ the_date date → let y = to_z w32 (of_z w32 date.year) in IsYear y × IsCalendarName y date.month date.day
passed date n e =
    let h = named date n e in
    subst (λ y. IsYear y × IsCalendarName y date.month date.day) (sym (same date n h)) h.name

pub years_between_names-requires-clause-date : goal.years_between_names-requires-clause-date
years_between_names-requires-clause-date g c =
    passed c.args.date (g.A.CommandAnswers.number c.in_ok-date_named.field-0) (ap (option_map g.A.CommandAnswers.number) (sym c.in_ok-date_named.was) ∙ c.date_named.ensures)

pub years_between_names-requires-clause-base : goal.years_between_names-requires-clause-base
years_between_names-requires-clause-base g c =
    passed c.args.base (g.A.CommandAnswers.number c.in_ok-date_named-2.field-0) (ap (option_map g.A.CommandAnswers.number) (sym c.in_ok-date_named-2.was) ∙ c.date_named-2.ensures)

pub returns : goal.returns
returns g c =
    let number = g.A.CommandAnswers.number in
    let n = number c.in_ok-date_named.field-0 in
    let m = number c.in_ok-date_named-2.field-0 in
    let e : Some n ≡ the_date c.args.date = ap (option_map number) (sym c.in_ok-date_named.was) ∙ c.date_named.ensures in
    let f : Some m ≡ the_date c.args.base = ap (option_map number) (sym c.in_ok-date_named-2.was) ∙ c.date_named-2.ensures in
    let year = same c.args.date n (named c.args.date n e) in
    let base_year = same c.args.base m (named c.args.base m f) in
    years c.args.date c.args.base n m c.years_between_names.result e f (rw (year, base_year) at c.years_between_names.ensures)
