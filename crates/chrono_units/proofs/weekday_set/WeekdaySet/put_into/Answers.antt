use Rattle.std.proofs.Common.{ℕ, length, length-append, append_assoc, ap, refl, arith, rules}
use Rattle.chrono_units.specs.declared.weekday.Weekday.TheVariants.{Mon}
use Rattle.chrono_units.proofs.WalkLengths.{length-walk-le}
use Rattle.chrono_units.proofs.weekday_set.WeekdaySet.put_into.Goals as goal

pub put_days-requires : goal.put_days-requires
put_days-requires g c =
    (search rules, omega (arith, length-append {A = ℕ}, ap length c.push.ensures, ap length c.iter.ensures, length-walk-le c.args.self Mon))

pub push-requires-2 : goal.push-requires-2
push-requires-2 g c =
    (search rules, omega (arith, length-append {A = ℕ}, ap length c.push.ensures, ap length c.iter.ensures, length-walk-le c.args.self Mon, c.put_days.ensures.fits))

pub returns-clause-text : goal.returns-clause-text
returns-clause-text g c = rw (c.push-2.ensures, c.put_days.ensures.text, c.push.ensures, c.iter.ensures) (simp append_assoc refl)

pub returns-clause-fits : goal.returns-clause-fits
returns-clause-fits g c =
    omega (arith, length-append {A = ℕ}, ap length c.push.ensures, ap length c.iter.ensures, length-walk-le c.args.self Mon, c.put_days.ensures.fits, ap length c.push-2.ensures)
