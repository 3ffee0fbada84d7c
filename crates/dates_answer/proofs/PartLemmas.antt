-- How years, months and days add up.
use Rattle.dates_answer.proofs.Ground.{◌≡◌, Option, Some, None, IsSomeAnd, refl, sym, ap, subst, ◌∙◌, arith, ℤ, pos, neg_ℤ, ◌+ℤ◌, ◌-ℤ◌, ◌*ℤ◌, ◌≤ℤ◌, ◌<ℤ◌, [], ◌∷◌, by_lt_z, int_div, unwrap_or, negsuc, IsDate, date_of_day, signed, Unit, Days, Months, moved_from, unit_move, IsUnitsBetween, IsPartsBetween}
use Rattle.std.proofs.Common.{int_rem}
use Rattle.std.proofs.lemmas.Int.{quot-rem}
use Rattle.chrono_calendar.proofs.NamedDates.{date_of_day-Some}
use Rattle.dates_answer.proofs.Distances.{Comes, at_unit, reads}

-- a move that comes to a day
found_at : (o : Option ℤ) (unit : Unit) (n z : ℤ) (P : ℤ → Type 0) → o ≡ unit_move unit n z → IsSomeAnd o P → Comes unit n z
found_at (Some m) unit n z P e p = record { day = m; is = sym e }
found_at None unit n z P e p = elim p [ ]

-- by the order of the two days
pub by_order : (A : Type 0) (from to : ℤ) → (from ≤ℤ to → A) → (to <ℤ from → A) → A
by_order A from to forth back = by_lt_z to from back forth

months_come : (from to z : ℤ) → IsUnitsBetween Months from to z → Comes Months from z
months_come from to z most =
    by_order (Comes Months from z) from to (λ le. found_at (unit_move Months from z) Months from z (λ m. m ≤ℤ to) refl (most.forth le).reached)
    (λ lt. found_at (unit_move Months from z) Months from z (λ m. to ≤ℤ m) refl (most.back lt).reached)

-- twelve times the years, and the months, are all of them
twelfths : (z : ℤ) → pos 12 *ℤ int_div z (pos 12) +ℤ int_rem z (pos 12) ≡ z
twelfths z = omega (arith, signed, quot-rem z (pos 12))

over_forth : (z : ℤ) → pos 0 ≤ℤ z → (pos 0 ≤ℤ int_rem z (pos 12)) × (int_rem z (pos 12) <ℤ pos 12)
over_forth (pos n) le = (omega (arith, signed), omega (arith, signed))
over_forth (negsuc n) le = absurd (omega (arith, signed, le))

over_back : (z : ℤ) → z ≤ℤ pos 0 → (neg_ℤ (pos 12) <ℤ int_rem z (pos 12)) × (int_rem z (pos 12) ≤ℤ pos 0)
over_back (pos n) le = (omega (arith, signed, le), omega (arith, signed, le))
over_back (negsuc n) le = (omega (arith, signed), omega (arith, signed))

-- so fewer than twelve are over
pub over : (z : ℤ) → (neg_ℤ (pos 12) <ℤ int_rem z (pos 12)) × (int_rem z (pos 12) <ℤ pos 12)
over (pos n) = (omega (arith, signed), omega (arith, signed))
over (negsuc n) = (omega (arith, signed), omega (arith, signed))

last_days : (m to days : ℤ) → IsDate to → days ≡ to -ℤ m → unit_move Days m days ≡ Some to
unfolding unit_move
last_days m to days date e = ap date_of_day (omega (arith, signed, e)) ∙ date_of_day-Some to date

-- months that are read, in years and months, and then days
pub are_read : (from to z days m : ℤ) (o : Option ℤ) → IsDate to → IsUnitsBetween Months from to z → o ≡ unit_move Months from z → m ≡ unwrap_or o to → days ≡ to -ℤ m
    → IsPartsBetween from to (record { years = int_div z (pos 12); months = int_rem z (pos 12); days = days })
    × (moved_from (record { count = pos 12 *ℤ int_div z (pos 12) +ℤ int_rem z (pos 12); unit = Months } ∷ record { count = days; unit = Days } ∷ []) from ≡ Some to)
unfolding moved_from
are_read from to z days m o date most e out e_days =
    let first = reads Months from z to m o (months_come from to z most) e out in
    let second : unit_move Days m days ≡ Some to = last_days m to days date e_days in
    let whole = twelfths z in (
      record {
        months = subst (λ k. IsUnitsBetween Months from to k) (sym whole) most;
        forth = λ le. over_forth z (most.forth le).forth;
        back = λ lt. over_back z (most.back lt).back;
        days = subst (λ k. IsSomeAnd (unit_move Months from k) (λ l. days ≡ to -ℤ l)) (sym whole) (at_unit Months from z m (λ l. days ≡ to -ℤ l) first e_days);
      },
      rw (whole, first, second) refl,
    )
