-- Date-times that compare as equal are one.
use Rattle.std.specs.Prelude.{◌≡◌, true, ℕ}
use Rattle.std.proofs.Common.{Less, Equal, Greater, arith, refl, ap, ◌∙◌}
use Rattle.std.proofs.lemmas.Bool.Decides.{nat_tests}
use Rattle.std.specs.Cmp.{signed_Decides}
use Rattle.std.specs.Ordering.{eq_by_cmp, int_cmp, is_eq, nat_cmp, ordering_then}
use Rattle.std.specs.declared.cmp.Ordering.{Ordering}
use Rattle.chrono_datetime.specs.Moment.{Moment, moment, moment_cmp}
use Rattle.chrono_datetime.specs.Time.{TimeOfDay}

both_equal : (r s : Ordering) → is_eq (ordering_then r s) ≡ true → (is_eq r ≡ true) × (is_eq s ≡ true)
both_equal Less s h = absurd cc
both_equal Equal s h = (refl, h)
both_equal Greater s h = absurd cc

same_number : (x y : ℕ) → is_eq (nat_cmp x y) ≡ true → x ≡ y
same_number x y h = grind (arith, nat_tests)

pub same_moment : (a b : Moment) → eq_by_cmp moment_cmp a b ≡ true → a ≡ b
same_moment a b same =
    let seconds = nat_cmp a.time.second b.time.second in
    let fractions = nat_cmp a.time.fraction b.time.fraction in
    let parts = both_equal (int_cmp a.date b.date) (ordering_then seconds fractions) same in
    let times = both_equal seconds fractions parts.1 in
    let date : a.date ≡ b.date = (signed_Decides a.date b.date).0 parts.0 in
    let second : a.time.second ≡ b.time.second = same_number a.time.second b.time.second times.0 in
    let fraction : a.time.fraction ≡ b.time.fraction = same_number a.time.fraction b.time.fraction times.1 in
    let time : ℕ → ℕ → TimeOfDay = λ n m. record { second = n; fraction = m } in
    ap (λ n. moment n a.time) date ∙ ap (λ n. moment b.date (time n a.time.fraction)) second ∙ ap (λ n. moment b.date (time b.time.second n)) fraction
