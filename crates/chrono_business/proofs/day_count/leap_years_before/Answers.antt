use Rattle.std.proofs.Common.{◌≡◌, arith, ℤ, pos, neg_ℤ, ◌-ℤ◌, ◌*ℤ◌, ◌≤ℤ◌, to_z, of_z, w64}
use Rattle.chrono_datetime.specs.Days.{ordinal_of, year_of}
use Rattle.chrono_datetime.proofs.Signed.{casts, signed}
use Rattle.chrono_business.proofs.day_count.leap_years_before.Goals as goal
use Rattle.chrono_datetime.proofs.Names.{ordinal_name_of-number, year_length_bounds}

abbrev IsSmall : ℤ → Type 0
IsSmall n = (neg_ℤ (pos 100_000_000) ≤ℤ n) × (n ≤ℤ pos 100_000_000)

difference : (a b : ℤ) → IsSmall a → IsSmall b → to_z w64 (of_z w64 (to_z w64 (of_z w64 a) -ℤ to_z w64 (of_z w64 b))) ≡ a -ℤ b
difference a b h k = omega (arith, casts, h.0, h.1, k.0, k.1)

days : (c : goal.After-from-2) → c.from.result ≡ c.args.date -ℤ pos (ordinal_of c.args.date)
days c =
    omega (arith, casts, c.from.ensures, c.num_days_from_ce.ensures.value, c.num_days_from_ce.ensures.in_range, c.ordinal.ensures.value, c.ordinal.ensures.exists.1, (year_length_bounds (year_of c.args.date)).1)

years : (c : goal.After-from-2) → c.from-2.result ≡ pos 365 *ℤ (year_of c.args.date -ℤ pos 1)
years c = omega (arith, casts, c.from-2.ensures, c.year.ensures.value, c.year.ensures.in_range)

-- each is small
few : (c : goal.After-from-2) → IsSmall c.from.result × IsSmall c.from-2.result
few c =
    let date = rw c.num_days_from_ce.ensures.value at c.num_days_from_ce.ensures.in_range in
    let year = rw c.year.ensures.value at c.year.ensures.in_range in
    let short = (year_length_bounds (year_of c.args.date)).1 in
    let ordinal = (ordinal_name_of-number c.args.date).exists.1 in (
      (omega (arith, signed, days c, date.0, ordinal, short), omega (arith, signed, days c, date.1)),
      (omega (arith, signed, years c, year.0), omega (arith, signed, years c, year.1)),
    )

pub returns-clause-value : goal.returns-clause-value
returns-clause-value c =
    omega (arith, signed, difference c.from.result c.from-2.result (few c).0 (few c).1, days c, years c)

pub returns-clause-low : goal.returns-clause-low
returns-clause-low c =
    omega (arith, signed, difference c.from.result c.from-2.result (few c).0 (few c).1, (few c).0.0, (few c).1.1)

pub returns-clause-high : goal.returns-clause-high
returns-clause-high c =
    omega (arith, signed, difference c.from.result c.from-2.result (few c).0 (few c).1, (few c).0.1, (few c).1.0)
