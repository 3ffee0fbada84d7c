use Rattle.std.proofs.Common.{◌≡◌, ℕ, ◌&&◌, ◌==◌, nat_lt, cond, refl, ◌∙◌, arith, ℤ, pos, ◌+ℤ◌, ◌-ℤ◌, ◌*ℤ◌, Some}
use Rattle.chrono_datetime.specs.Years.{is_leap_year}
use Rattle.chrono_datetime.specs.Days.{date_of_yo, date_of_ymd, days_before_year, days_of_months_in, days_of_years}
use Rattle.chrono_datetime.proofs.Signed.{signed}
use Rattle.chrono_datetime.proofs.NamedDates.{date_of_yo-name, date_of_ymd-name}
use Rattle.chrono_business.specs.DayCounts.{at_most_30, days_30_360, days_30e_360}
use Rattle.chrono_business.specs.LeapDays.{leap_before, leap_before_in}
use Rattle.chrono_business.proofs.LeapDayCounts.{actual_actual-is}
use Rattle.chrono_business.proofs.law.known_day_counts.Goals as goal

-- by the names of the two days
leap_before-named : (n y : ℤ) (o : ℕ) → date_of_yo y o ≡ Some n → leap_before n ≡ leap_before_in (is_leap_year y) y o n
unfolding leap_before
leap_before-named n y o e = let name = date_of_yo-name n y o e in rw (name.0, name.1) refl

bond : (a b y z : ℤ) (m d p e : ℕ) → date_of_ymd y m d ≡ Some a → date_of_ymd z p e ≡ Some b → days_30_360 a b ≡ (pos 360 *ℤ (z -ℤ y) +ℤ pos 30 *ℤ (pos p -ℤ pos m)) +ℤ (pos (cond ((e == 31) && nat_lt 29 d) 30 e) -ℤ pos (at_most_30 d))
bond a b y z m d p e first last =
    let from = date_of_ymd-name a y m d first in
    let to = date_of_ymd-name b z p e last in
    rw (from.0, from.1, from.2, to.0, to.1, to.2) refl

eurobond : (a b y z : ℤ) (m d p e : ℕ) → date_of_ymd y m d ≡ Some a → date_of_ymd z p e ≡ Some b → days_30e_360 a b ≡ (pos 360 *ℤ (z -ℤ y) +ℤ pos 30 *ℤ (pos p -ℤ pos m)) +ℤ (pos (at_most_30 e) -ℤ pos (at_most_30 d))
eurobond a b y z m d p e first last =
    let from = date_of_ymd-name a y m d first in
    let to = date_of_ymd-name b z p e last in
    rw (from.0, from.1, from.2, to.0, to.1, to.2) refl

pub returns-clause-actual_actual : goal.returns-clause-actual_actual
unfolding date_of_yo days_before_year days_of_years
returns-clause-actual_actual c =
    actual_actual-is (pos 731_520) (pos 731_702)
    ∙ omega (arith, signed, leap_before-named (pos 731_520) (pos 2003) 305 refl, leap_before-named (pos 731_702) (pos 2004) 122 refl)

pub returns-clause-actual_actual_back : goal.returns-clause-actual_actual_back
unfolding date_of_yo days_before_year days_of_years
returns-clause-actual_actual_back c =
    actual_actual-is (pos 731_702) (pos 731_520)
    ∙ omega (arith, signed, leap_before-named (pos 731_520) (pos 2003) 305 refl, leap_before-named (pos 731_702) (pos 2004) 122 refl)

pub returns-clause-leap_year : goal.returns-clause-leap_year
unfolding date_of_yo days_before_year days_of_years
returns-clause-leap_year c =
    actual_actual-is (pos 738_886) (pos 739_252)
    ∙ omega (arith, signed, leap_before-named (pos 738_886) (pos 2024) 1 refl, leap_before-named (pos 739_252) (pos 2025) 1 refl)

pub returns-clause-bond : goal.returns-clause-bond
unfolding date_of_ymd days_before_year days_of_years days_of_months_in
returns-clause-bond c = bond (pos 732_735) (pos 732_919) (pos 2007) (pos 2007) 2 28 8 31 refl refl ∙ refl

pub returns-clause-eurobond : goal.returns-clause-eurobond
unfolding date_of_ymd days_before_year days_of_years days_of_months_in
returns-clause-eurobond c = eurobond (pos 732_735) (pos 732_919) (pos 2007) (pos 2007) 2 28 8 31 refl refl ∙ refl

pub returns-clause-bond_to_february : goal.returns-clause-bond_to_february
unfolding date_of_ymd days_before_year days_of_years days_of_months_in
returns-clause-bond_to_february c = bond (pos 732_554) (pos 732_735) (pos 2006) (pos 2007) 8 31 2 28 refl refl ∙ refl

pub returns-clause-eurobond_to_february : goal.returns-clause-eurobond_to_february
unfolding date_of_ymd days_before_year days_of_years days_of_months_in
returns-clause-eurobond_to_february c =
    eurobond (pos 732_554) (pos 732_735) (pos 2006) (pos 2007) 8 31 2 28 refl refl ∙ refl

pub returns-clause-bond_from_29th : goal.returns-clause-bond_from_29th
unfolding date_of_ymd days_before_year days_of_years days_of_months_in
returns-clause-bond_from_29th c = bond (pos 738_914) (pos 738_976) (pos 2024) (pos 2024) 1 29 3 31 refl refl ∙ refl

pub returns-clause-bond_from_30th : goal.returns-clause-bond_from_30th
unfolding date_of_ymd days_before_year days_of_years days_of_months_in
returns-clause-bond_from_30th c = bond (pos 738_915) (pos 738_976) (pos 2024) (pos 2024) 1 30 3 31 refl refl ∙ refl

pub returns-clause-bond_from_31st : goal.returns-clause-bond_from_31st
unfolding date_of_ymd days_before_year days_of_years days_of_months_in
returns-clause-bond_from_31st c = bond (pos 738_916) (pos 738_976) (pos 2024) (pos 2024) 1 31 3 31 refl refl ∙ refl
