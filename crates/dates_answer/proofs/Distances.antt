-- Whole units between two days: those that the second lies on from the first, or one less where a move by them is past it.
use Rattle.dates_answer.proofs.Ground.{◌≡◌, ◌⊎◌, inl, inr, Option, Some, None, IfSome, IsSomeAnd, refl, sym, ap, ◌∙◌, arith, ℤ, pos, neg_ℤ, negsuc, ◌+ℤ◌, ◌-ℤ◌, ◌*ℤ◌, ◌≤ℤ◌, ◌<ℤ◌, int_div, false≢true, by_lt_z, same_Some, unwrap_or, IsDate, date_of_day, month_move, month_index_of, year_of_month_index, signed, month_move-parts, month_move-exists, month_index_of-rises, year_of-rises, year_of-range, Unit, Days, Weeks, Months, Years, unit_move, units_apart, IsUnitsBetween}
use Rattle.chrono_units.specs.Years.{IsYear}
use Rattle.chrono_calendar.proofs.EveryMonths.{date_every-start}
use Rattle.chrono_calendar.proofs.MonthOrder.{month_of-range}
use Rattle.chrono_calendar.proofs.NamedDates.{date_of_day-Some, some-date_of_day}

-- division rounds towards 0
sevenths : (d : ℤ) → ((pos 0 ≤ℤ d) × ((pos 7 *ℤ int_div d (pos 7)) ≤ℤ d) × (d <ℤ (pos 7 *ℤ int_div d (pos 7) +ℤ pos 7))) ⊎ ((d <ℤ pos 0) × (d ≤ℤ (pos 7 *ℤ int_div d (pos 7))) × ((pos 7 *ℤ int_div d (pos 7) -ℤ pos 7) <ℤ d))
sevenths (pos n) = inl (omega (arith, signed), omega (arith, signed), omega (arith, signed))
sevenths (negsuc n) = inr (omega (arith, signed), omega (arith, signed), omega (arith, signed))

-- a move by no unit stays
stays : (unit : Unit) (n z : ℤ) → IsDate n → z ≡ pos 0 → unit_move unit n z ≡ Some n
unfolding unit_move
stays Days n z date e = ap date_of_day (omega (arith, signed, e)) ∙ date_of_day-Some n date
stays Weeks n z date e = ap date_of_day (omega (arith, signed, e)) ∙ date_of_day-Some n date
stays Months n z date e = ap (month_move n) e ∙ date_every-start n (pos 0) 0 date refl
stays Years n z date e = ap (month_move n) (omega (arith, signed, e)) ∙ date_every-start n (pos 0) 0 date refl

-- a move by z comes to a day that lies z units on
lies_on : (unit : Unit) (n z m : ℤ) → unit_move unit n z ≡ Some m → units_apart unit n m ≡ z
unfolding unit_move units_apart
lies_on Days n z m e = omega (arith, signed, (some-date_of_day (n +ℤ z) m (sym e)).1)
lies_on Weeks n z m e = omega (arith, signed, (some-date_of_day (n +ℤ pos 7 *ℤ z) m (sym e)).1, sevenths (m -ℤ n))
lies_on Months n z m e = omega (arith, signed, (month_move-parts n z m e).0)
lies_on Years n z m e = omega (arith, signed, (month_move-parts n (pos 12 *ℤ z) m e).0, month_of-range n, month_of-range m)

-- a later day lies no fewer units on
rises : (unit : Unit) (n a b : ℤ) → a ≤ℤ b → units_apart unit n a ≤ℤ units_apart unit n b
unfolding units_apart
rises Days n a b le = omega (arith, signed, le)
rises Weeks n a b le = omega (arith, signed, le, sevenths (a -ℤ n), sevenths (b -ℤ n))
rises Months n a b le = omega (arith, signed, month_index_of-rises a b le)
rises Years n a b le = omega (arith, signed, year_of-rises a b le)

-- a move that comes to a day
pub record Comes (unit : Unit) (n z : ℤ) : Type 0 where
  pub day : ℤ
  pub is : unit_move unit n z ≡ Some day

month_comes : (o : Option ℤ) (n k : ℤ) → o ≡ month_move n k → IsYear (year_of_month_index (month_index_of n +ℤ k)) → (m : ℤ) × (month_move n k ≡ Some m)
month_comes (Some m) n k e year = (m, sym e)
month_comes None n k e year = absurd (false≢true ((month_move-exists None n k e).1 year))

-- a move comes to a date if it lies between those by as many units as two dates lie on
pub comes : (unit : Unit) (n z low high : ℤ) → IsDate n → IsDate low → IsDate high → units_apart unit n low ≤ℤ z → z ≤ℤ units_apart unit n high → Comes unit n z
unfolding unit_move units_apart
comes Days n z low high date is also above below = record { day = n +ℤ z; is = date_of_day-Some (n +ℤ z) (omega (arith, signed, is.0, above), omega (arith, signed, also.1, below)) }
comes Weeks n z low high date is also above below = record {
  day = n +ℤ pos 7 *ℤ z;
  is = date_of_day-Some (n +ℤ pos 7 *ℤ z)
      (omega (arith, signed, date.0, is.0, above, sevenths (low -ℤ n)), omega (arith, signed, date.1, also.1, below, sevenths (high -ℤ n)));
}
comes Months n z low high date is also above below =
    let found = month_comes (month_move n z) n z refl
    (omega (arith, signed, above, (year_of-range low is).0, month_of-range low), omega (arith, signed, below, (year_of-range high also).1, month_of-range high)) in
    record { day = found.0; is = found.1 }
comes Years n z low high date is also above below =
    let found = month_comes (month_move n (pos 12 *ℤ z)) n (pos 12 *ℤ z) refl
    (omega (arith, signed, above, (year_of-range low is).0, month_of-range n), omega (arith, signed, below, (year_of-range high also).1, month_of-range n)) in
    record { day = found.0; is = found.1 }

-- a move by more units than a day lies on comes past it, as one by fewer comes before it
pub after : (unit : Unit) (n z m to : ℤ) → unit_move unit n z ≡ Some m → units_apart unit n to <ℤ z → to <ℤ m
after unit n z m to e lt = by_lt_z to m (λ later. later) (λ le. absurd (omega (arith, signed, lt, rises unit n m to le, lies_on unit n z m e)))

pub before : (unit : Unit) (n z m to : ℤ) → unit_move unit n z ≡ Some m → z <ℤ units_apart unit n to → m <ℤ to
before unit n z m to e lt = by_lt_z m to (λ earlier. earlier) (λ le. absurd (omega (arith, signed, lt, rises unit n to m le, lies_on unit n z m e)))

-- what is known of where a move comes to
pub at_unit : (unit : Unit) (n z m : ℤ) (P : ℤ → Type 0) → unit_move unit n z ≡ Some m → P m → IsSomeAnd (unit_move unit n z) P
at_unit unit n z m P e p = rw e p

if_any : (o : Option ℤ) (P : ℤ → Type 0) → ((m : ℤ) → o ≡ Some m → P m) → IfSome o P
if_any (Some m) P known = known m refl
if_any None P known = tt

-- no unit lies between a day and itself
none_apart : (unit : Unit) (n : ℤ) → IsDate n → units_apart unit n n ≡ pos 0
none_apart unit n date = lies_on unit n (pos 0) n (stays unit n (pos 0) date refl)

-- what is read of a move that comes to a day is that day
pub reads : (unit : Unit) (n z to k : ℤ) (o : Option ℤ) → Comes unit n z → o ≡ unit_move unit n z → k ≡ unwrap_or o to → unit_move unit n z ≡ Some k
reads unit n z to k o found e out = found.is ∙ ap Some (sym (out ∙ ap (λ p. unwrap_or p to) (e ∙ found.is)))

-- the units forth, and back, by where the first day comes to, moved by those that the second lies on
pub forth_by : (unit : Unit) (from to z m : ℤ) (o : Option ℤ) → IsDate from → IsDate to → from ≤ℤ to → z ≡ units_apart unit from to → o ≡ unit_move unit from z → m ≡ unwrap_or o to
    → (m ≤ℤ to → IsUnitsBetween unit from to z) × (to <ℤ m → IsUnitsBetween unit from to (z -ℤ pos 1))
forth_by unit from to z m o date also le e moved out =
    let none = none_apart unit from date in
    let forth : pos 0 ≤ℤ z = omega (arith, signed, none, e, rises unit from from to le) in
    let is = reads unit from z to m o (comes unit from z from to date date also (omega (arith, signed, none, forth)) (omega (arith, signed, e))) moved out in (
      (λ not_past. record {
        forth = λ _. record {
          forth = forth;
          reached = at_unit unit from z m (λ k. k ≤ℤ to) is not_past;
          most = λ more lt. if_any (unit_move unit from more) (λ k. to <ℤ k) (λ k there. after unit from more k to there (omega (arith, signed, e, lt)));
        };
        back = λ lt. absurd (omega (arith, signed, le, lt));
      }),
      (λ past.
          let some : pos 1 ≤ℤ z = by_lt_z (pos 0) z (λ lt. omega (arith, signed, lt)) (λ ge. absurd (omega (arith, signed, le, past, same_Some m from (sym is ∙ stays unit from z date (omega (arith, signed, ge, forth)))))) in
          let short = comes unit from (z -ℤ pos 1) from to date date also (omega (arith, signed, none, some)) (omega (arith, signed, e)) in
          record {
            forth = λ _. record {
              forth = omega (arith, signed, some);
              reached = at_unit unit from (z -ℤ pos 1) short.day (λ k. k ≤ℤ to) short.is (omega (arith, signed, before unit from (z -ℤ pos 1) short.day to short.is (omega (arith, signed, e))));
              most = λ more lt. if_any (unit_move unit from more) (λ k. to <ℤ k) (λ k there. by_lt_z z more (λ further. after unit from more k to there (omega (arith, signed, e, further)))
                  (λ at. let same : more ≡ z = omega (arith, signed, at, lt) in omega (arith, signed, past, same_Some k m (sym there ∙ ap (unit_move unit from) same ∙ is))));
            };
            back = λ lt. absurd (omega (arith, signed, le, lt));
          }),
    )

pub back_by : (unit : Unit) (from to z m : ℤ) (o : Option ℤ) → IsDate from → IsDate to → to <ℤ from → z ≡ units_apart unit from to → o ≡ unit_move unit from z → m ≡ unwrap_or o to
    → (to ≤ℤ m → IsUnitsBetween unit from to z) × (m <ℤ to → IsUnitsBetween unit from to (z +ℤ pos 1))
back_by unit from to z m o date also lt e moved out =
    let none = none_apart unit from date in
    let back : z ≤ℤ pos 0 = omega (arith, signed, none, e, rises unit from to from (omega (arith, signed, lt))) in
    let is = reads unit from z to m o (comes unit from z to from date also date (omega (arith, signed, e)) (omega (arith, signed, none, back))) moved out in (
      (λ not_past. record {
        forth = λ le. absurd (omega (arith, signed, le, lt));
        back = λ _. record {
          back = back;
          reached = at_unit unit from z m (λ k. to ≤ℤ k) is not_past;
          most = λ more less. if_any (unit_move unit from more) (λ k. k <ℤ to) (λ k there. before unit from more k to there (omega (arith, signed, e, less)));
        };
      }),
      (λ past.
          let some : z ≤ℤ neg_ℤ (pos 1) = by_lt_z z (pos 0) (λ less. omega (arith, signed, less)) (λ ge. absurd (omega (arith, signed, lt, past, same_Some m from (sym is ∙ stays unit from z date (omega (arith, signed, ge, back)))))) in
          let short = comes unit from (z +ℤ pos 1) to from date also date (omega (arith, signed, e)) (omega (arith, signed, none, some)) in
          record {
            forth = λ le. absurd (omega (arith, signed, le, lt));
            back = λ _. record {
              back = omega (arith, signed, some);
              reached = at_unit unit from (z +ℤ pos 1) short.day (λ k. to ≤ℤ k) short.is (omega (arith, signed, after unit from (z +ℤ pos 1) short.day to short.is (omega (arith, signed, e))));
              most = λ more less. if_any (unit_move unit from more) (λ k. k <ℤ to) (λ k there. by_lt_z more z (λ further. before unit from more k to there (omega (arith, signed, e, further)))
                  (λ at. let same : more ≡ z = omega (arith, signed, at, less) in omega (arith, signed, past, same_Some k m (sym there ∙ ap (unit_move unit from) same ∙ is))));
            };
          }),
    )
