use Rattle.std.proofs.Common.{◌≡◌, ℕ, ℤ, Option}
use Rattle.chrono_calendar.specs.YearsBetween.{years_between}
use Rattle.chrono_calendar.proofs.WholeYears.{number-named}
use Rattle.chrono_calendar.proofs.forms.years_between.Goals as goal

same_years : (r : Option ℕ) (a b n base : ℤ) → a ≡ n → b ≡ base → r ≡ years_between a b → r ≡ years_between n base
same_years r a b n base e f h = cc

pub returns : goal.returns
returns g c =
    let n = g.F.DayForm.number c.args.f.now in
    let base = g.F.DayForm.number c.args.base.now in
    let of_n = c.year_month_day.ensures in
    let of_base = c.year_month_day-2.ensures in
    same_years _ _ _ n base (number-named n _ _ _ of_n.year of_n.month of_n.day) (number-named base _ _ _ of_base.year of_base.month of_base.day) c.years_between_names.ensures
