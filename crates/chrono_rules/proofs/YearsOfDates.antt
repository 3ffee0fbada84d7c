-- The days of one year.
use Rattle.std.proofs.Common.{◌≡◌, ℕ, ◌+◌, ◌≤◌, true, ◌&&◌, Some, refl, sym, ◌∙◌, arith, ℤ, pos, ◌+ℤ◌, ◌-ℤ◌, ◌≤ℤ◌, ◌<ℤ◌, unsigned_abs}
use Rattle.std.proofs.lemmas.Bool.{and_parts}
use Rattle.std.proofs.lemmas.Bool.Decides.{nat_tests}
use Rattle.std.proofs.lemmas.Option.{cond_some}
use Rattle.chrono_datetime.specs.Days.{IsDate, date_of_yo, day_number_of_yo, is_ordinal_name, ordinal_of, year_of}
use Rattle.chrono_datetime.specs.Years.{is_year, year_length}
use Rattle.chrono_datetime.proofs.Names.{ordinal_name_of-number}
use Rattle.chrono_datetime.proofs.NamedDates.{date_of_day-Some, date_of_day-number, date_of_yo-again, date_of_yo-day, date_of_yo-name, number-ordinal_name}
use Rattle.chrono_datetime.proofs.Signed.{signed}

-- a day from a date on, up to the last of its year, is a date of that year
pub in_year_date : (n d : ℤ) → n ≤ℤ d → d <ℤ (((n +ℤ pos 1) +ℤ pos (year_length (year_of n))) -ℤ pos (ordinal_of n)) → IsDate n → IsDate d
unfolding date_of_yo
in_year_date n d low high date =
    let y = year_of n in
    let o : ℕ = ordinal_of n + unsigned_abs (d -ℤ n) in
    let first : 1 ≤ o = omega (arith, (ordinal_name_of-number n).exists) in
    let last : o ≤ year_length y = omega (arith, signed, low, high) in
    let number : day_number_of_yo y o ≡ d = omega (arith, signed, low, number-ordinal_name n) in
    let again = cond_some (is_year y && is_ordinal_name y (ordinal_of n)) (day_number_of_yo y (ordinal_of n)) n (date_of_yo-again n date) in
    let year : is_year y ≡ true = (and_parts (is_year y) (is_ordinal_name y (ordinal_of n)) again.0).0 in
    let named : is_ordinal_name y o ≡ true = grind (arith, nat_tests, first, last) in
    let some : date_of_yo y o ≡ Some (day_number_of_yo y o) = rw (year, named) refl in
    rw number at (date_of_day-number (day_number_of_yo y o) d (sym (date_of_yo-day d y o number (first, last)) ∙ some)).0

pub same_year : (n d : ℤ) → n ≤ℤ d → d <ℤ (((n +ℤ pos 1) +ℤ pos (year_length (year_of n))) -ℤ pos (ordinal_of n)) → IsDate d → year_of d ≡ year_of n
same_year n d low high date =
    let y = year_of n in
    let o : ℕ = ordinal_of n + unsigned_abs (d -ℤ n) in
    let first : 1 ≤ o = omega (arith, (ordinal_name_of-number n).exists) in
    let last : o ≤ year_length y = omega (arith, signed, low, high) in
    let number : day_number_of_yo y o ≡ d = omega (arith, signed, low, number-ordinal_name n) in
    sym (date_of_yo-name d y o (date_of_yo-day d y o number (first, last) ∙ date_of_day-Some d date)).0
