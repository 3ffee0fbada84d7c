-- A test that every weekday, every set of weekdays or every set's number passes: it computes, and gives the fact at each.
use Rattle.std.proofs.Common.{◌≡◌, refl, ap, sym, ◌∙◌, Bool, true, false, ◌&&◌, ℕ, ◌<◌}
use Rattle.std.proofs.lemmas.Bool.{agree_below, agree_below_at, and_parts}
use Rattle.chrono_units.specs.declared.weekday.Weekday.{Weekday}
use Rattle.chrono_units.specs.declared.weekday.Weekday.TheVariants.{Mon, Tue, Wed, Thu, Fri, Sat, Sun}
use Rattle.chrono_units.specs.Weekday.{days_from_monday, weekday_from_monday}
use Rattle.chrono_units.specs.WeekdaySet.{DaySet, contains, days_where}
use Rattle.chrono_units.proofs.WeekdayCycle.{days_from_monday-lt, weekday_from_monday-days_from_monday}

-- every day passes
unfoldable pub each_day : (Weekday → Bool) → Bool
each_day p = agree_below (λ n. p (weekday_from_monday n)) (λ n. true) 7

pub each_day-at : (p : Weekday → Bool) → each_day p ≡ true → (d : Weekday) → p d ≡ true
unfolding each_day
each_day-at p h d =
    sym (ap p (weekday_from_monday-days_from_monday d))
    ∙ agree_below_at (λ n. p (weekday_from_monday n)) (λ n. true) 7 (days_from_monday d) h (days_from_monday-lt d)

-- every number of a set passes
unfoldable pub each_number : (ℕ → Bool) → Bool
each_number p = agree_below p (λ n. true) 128

pub each_number-at : (p : ℕ → Bool) → each_number p ≡ true → (n : ℕ) → n < 128 → p n ≡ true
unfolding each_number
each_number-at p h n below = agree_below_at p (λ k. true) 128 n h below

-- both truth values pass
unfoldable pub both : (Bool → Bool) → Bool
both q = q true && q false

both-at : (q : Bool → Bool) → both q ≡ true → (b : Bool) → q b ≡ true
unfolding both
both-at q h = let parts = and_parts _ _ h in elim [ true ↦ parts.0 | false ↦ parts.1 ]

-- every set passes
unfoldable pub each_set : (DaySet → Bool) → Bool
each_set p =
    both (λ a. both (λ b. both (λ c. both (λ d. both (λ e. both (λ f. both (λ g.
    p (record { mon = a; tue = b; wed = c; thu = d; fri = e; sat = f; sun = g }))))))))

pub each_set-at : (p : DaySet → Bool) → each_set p ≡ true → (s : DaySet) → p s ≡ true
unfolding each_set
each_set-at p h s =
    both-at _ (both-at _ (both-at _ (both-at _ (both-at _ (both-at _ (both-at _ h s.mon) s.tue) s.wed) s.thu) s.fri) s.sat) s.sun

-- sets with the same days are one set
pub same_days : (s t : DaySet) → ((d : Weekday) → contains s d ≡ contains t d) → s ≡ t
same_days s t h =
    λ i. record { mon = h Mon i; tue = h Tue i; wed = h Wed i; thu = h Thu i; fri = h Fri i; sat = h Sat i; sun = h Sun i }

-- the days that pass a test are the members of the set of those days
pub contains-days_where : (p : Weekday → Bool) (d : Weekday) → contains (days_where p) d ≡ p d
contains-days_where p = elim [ Mon ↦ refl | Tue ↦ refl | Wed ↦ refl | Thu ↦ refl | Fri ↦ refl | Sat ↦ refl | Sun ↦ refl ]
