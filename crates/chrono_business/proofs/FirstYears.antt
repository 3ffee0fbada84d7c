-- The first year of the rules so far, and with the next one.
use Rattle.std.proofs.Common.{◌≡◌, ◌⊎◌, ℕ, ◌+◌, ◌<◌, inl, inr, sym, ap, ◌∙◌, arith, List, length, slice_index_or, ℤ, pos, ◌≤ℤ◌}
use Rattle.std.specs.List.{AllWithin}
use Rattle.std.proofs.lemmas.Int.{by_lt_z}
use Rattle.std.proofs.lemmas.List.{get_or_default}
use Rattle.chrono_datetime.proofs.Signed.{signed}
use Rattle.chrono_business.specs.declared.holiday_rule.HolidayRule.{HolidayRule}
use Rattle.chrono_business.specs.KnownYears.{BeginsIn}

pub begins-next : (rules : List HolidayRule) (i : ℕ) (x : HolidayRule) (y z : ℤ) → i < length rules → BeginsIn rules y → ((z ≡ y) ⊎ (z ≡ (slice_index_or rules i x).first_year)) → BeginsIn rules z
begins-next rules i x y z within begins either = elim either [
  | inl same ↦ rw same begins
  | inr year ↦ record {
    place = i;
    within = within;
    begins = λ r. sym (year ∙ ap (λ (s : HolidayRule). s.first_year) (get_or_default rules i x r within));
  }
]

pub least-next : (rules : List HolidayRule) (i : ℕ) (x : HolidayRule) (y z : ℤ) → i < length rules → z ≤ℤ y → z ≤ℤ (slice_index_or rules i x).first_year → AllWithin (λ (r : HolidayRule). y ≤ℤ r.first_year) rules 0 i → AllWithin (λ (r : HolidayRule). z ≤ℤ r.first_year) rules 0 (i + 1)
least-next rules i x y z within le here front = λ k d low high. by_lt_z (pos k) (pos i) (λ lt. omega (arith, signed, front k d low (omega (arith, signed, lt)), le)) (λ ge.
    let same : k ≡ i = omega (arith, signed, ge, high) in
    let at : slice_index_or rules i x ≡ slice_index_or rules k d = get_or_default rules i x d within ∙ ap (λ j. slice_index_or rules j d) (sym same) in
    rw at at here)
