-- Easter: the moons of the tables by their period, and the days of March and April on which it falls.
use Rattle.std.proofs.Common.{◌≡◌, ℕ, ◌+◌, ◌-◌, ◌*◌, ◌%◌, ◌≤◌, ◌&&◌, Bool, true, false, cond, refl, sym, ap, ◌∙◌, arith, Option, Some, None, IfSome, ℤ, pos, ◌+ℤ◌, ◌-ℤ◌, ◌≤ℤ◌, ◌<ℤ◌, unsigned_abs}
use Rattle.std.specs.Prelude.{IsSome}
use Rattle.std.proofs.lemmas.Option.{cond_some}
use Rattle.std.specs.Int.{int_rem_euclid}
use Rattle.std.proofs.lemmas.Bool.Decides.{nat_tests}
use Rattle.std.proofs.lemmas.Int.{by_lt_z}
use Rattle.chrono_datetime.specs.Years.{IsYear, is_leap_year, is_year}
use Rattle.chrono_datetime.specs.Days.{IsDate, date_of_day, date_of_ymd, day_number_of_ymd, days_of_months_in, year_of}
use Rattle.chrono_datetime.specs.Weeks.{days_from_sunday_of}
use Rattle.chrono_datetime.proofs.Signed.{signed}
use Rattle.chrono_datetime.proofs.NamedDates.{IsDate-year, calendar_name-number, date_of_day-Some}
use Rattle.chrono_business.specs.Easter.{date_of_easter, days_to_moon, easter_day, epact, golden_number, century_of, solar_correction, lunar_correction, paschal_full_moon, sunday_after}

-- the moons come again after 5,700,000 years
pub golden-again : (y z : ℤ) → z ≡ y +ℤ pos 5_700_000 → golden_number z ≡ golden_number y
golden-again y z e = omega (arith, signed, e)

century-again : (y z : ℤ) → z ≡ y +ℤ pos 5_700_000 → century_of z ≡ century_of y +ℤ pos 57_000
century-again y z e = omega (arith, signed, e)

solar-again : (y z : ℤ) → z ≡ y +ℤ pos 5_700_000 → solar_correction z ≡ solar_correction y +ℤ pos 42_750
solar-again y z e = omega (arith, signed, century-again y z e)

lunar-again : (y z : ℤ) → z ≡ y +ℤ pos 5_700_000 → lunar_correction z ≡ lunar_correction y +ℤ pos 18_240
lunar-again y z e = omega (arith, signed, century-again y z e)

rest-again : (a b : ℤ) → a ≡ b -ℤ pos 24_510 → unsigned_abs (int_rem_euclid a (pos 30)) ≡ unsigned_abs (int_rem_euclid b (pos 30))
rest-again a b e = omega (arith, signed, e)

pub epact-again : (y z : ℤ) → z ≡ y +ℤ pos 5_700_000 → epact z ≡ epact y
unfolding epact
epact-again y z e =
    rest-again _ _ (omega (arith, signed, golden-again y z e, solar-again y z e, lunar-again y z e))

-- the place of the epact by one division
pub place-turned : (c : ℤ) (a e k : ℕ) → e ≡ unsigned_abs (int_rem_euclid (pos (11 * a) +ℤ (pos 8 -ℤ c)) (pos 30)) → pos k ≡ pos (19 * a + 15) +ℤ c → k % 30 ≡ (53 - e) % 30
place-turned c a e k h f = omega (arith, signed, h, f)

pub place-of_year : (y k a : ℕ) → a ≡ y % 19 → pos k ≡ pos (19 * a + 15) +ℤ (solar_correction (pos y) -ℤ lunar_correction (pos y)) → k % 30 ≡ (53 - epact (pos y)) % 30
unfolding epact
place-of_year y k a at f =
    place-turned (solar_correction (pos y) -ℤ lunar_correction (pos y)) a _ k (ap (λ n. unsigned_abs (int_rem_euclid n (pos 30))) (omega (arith, signed, at))) f

-- the moon is at most 28 days behind 21 March
pub moon-bound : (g e : ℕ) → days_to_moon g e ≤ 28
unfolding days_to_moon
moon-bound g e = grind (arith, nat_tests)

pub moon-again : (y z : ℤ) → z ≡ y +ℤ pos 5_700_000 → days_to_moon (golden_number z) (epact z) ≡ days_to_moon (golden_number y) (epact y)
moon-again y z e = rw (golden-again y z e, epact-again y z e) refl

-- ---- the days of March and April

march_ends : (leap : Bool) → days_of_months_in leap 3 ≡ days_of_months_in leap 2 + 31
unfolding days_of_months_in
march_ends leap = refl

april : (y : ℤ) (d : ℕ) → day_number_of_ymd y 4 d ≡ day_number_of_ymd y 3 31 +ℤ pos d
april y d = omega (arith, signed, march_ends (is_leap_year y))

-- a day up to 35 days behind 21 March is of that year
pub year_of-spring : (y n : ℤ) (k : ℕ) → n ≡ day_number_of_ymd y 3 21 +ℤ pos k → k ≤ 35 → year_of n ≡ y
year_of-spring y n k e h =
    by_lt_z (pos 10) (pos k)
    (λ lt.
    let same : n ≡ day_number_of_ymd y 4 (k - 10) = omega (arith, signed, e, lt, april y (k - 10)) in
    ap year_of same ∙ (calendar_name-number y 4 (k - 10) ((omega arith, omega arith), (omega (arith, signed, lt), omega (arith, h)))).0)
    (λ ge.
    let same : n ≡ day_number_of_ymd y 3 (21 + k) = omega (arith, signed, e, ge) in
    ap year_of same ∙ (calendar_name-number y 3 (21 + k) ((omega arith, omega arith), (omega arith, omega (arith, signed, ge)))).0)

pub day-latest : (y : ℤ) → day_number_of_ymd y 4 25 ≡ day_number_of_ymd y 3 21 +ℤ pos 35
day-latest y = omega (arith, signed, april y 25)

-- a day of the seven behind another, and a Sunday
pub sunday-place : (n : ℤ) → (n <ℤ sunday_after n) × (sunday_after n ≤ℤ (n +ℤ pos 7)) × (days_from_sunday_of (sunday_after n) ≡ 0)
sunday-place n = (omega (arith, signed), omega (arith, signed), omega (arith, signed))

pub moon-is : (y : ℤ) (n r : ℕ) → r ≡ days_to_moon (golden_number (pos n)) (epact (pos n)) → pos n ≡ y +ℤ pos 5_700_000 → r ≡ days_to_moon (golden_number y) (epact y)
moon-is y n r e same = e ∙ moon-again y (pos n) same

-- ---- the date of Easter, where the year has a 21 March

date-named : (b : Bool) (m x : ℤ) → Some m ≡ cond (b && true) (Some x) None → (b ≡ true) × (m ≡ x)
date-named true m x e = let found = cond_some true x m (sym e) in (refl, sym found.1)
date-named false m x e = absurd (cc)

pub equinox-number : (m y : ℤ) → Some m ≡ date_of_ymd y 3 21 → (is_year y ≡ true) × (m ≡ day_number_of_ymd y 3 21)
unfolding date_of_ymd
equinox-number m y e = date-named (is_year y) m (day_number_of_ymd y 3 21) e

none-named : (b : Bool) (x z : ℤ) → None ≡ cond (b && true) (Some x) None → None ≡ cond b (Some z) None
none-named true x z e = absurd (cc)
none-named false x z e = refl

pub easter-none : (y : ℤ) → None ≡ date_of_ymd y 3 21 → None ≡ date_of_easter y
unfolding date_of_ymd date_of_easter
easter-none y e = none-named (is_year y) (day_number_of_ymd y 3 21) (easter_day y) e

-- what Easter is
pub record IsEasterOf (o : Option ℤ) (y : ℤ) : Type 0 where
  pub date : o ≡ date_of_easter y
  pub exists : IsSome o
  pub year : IfSome o (λ e. year_of e ≡ y)
  pub sunday : IfSome o (λ e. days_from_sunday_of e ≡ 0)
  pub earliest : IfSome o (λ e. day_number_of_ymd y 3 22 ≤ℤ e)
  pub latest : IfSome o (λ e. e ≤ℤ day_number_of_ymd y 4 25)

easter-cond : (y e : ℤ) → is_year y ≡ true → e ≡ easter_day y → Some e ≡ date_of_easter y
unfolding date_of_easter
easter-cond y e t h = rw (t, h) refl

easter-of : (y e : ℤ) → e ≡ sunday_after (paschal_full_moon y) → e ≡ easter_day y
unfolding easter_day
easter-of y e h = h

easter-fields : (y e : ℤ) → is_year y ≡ true → IsYear y → e ≡ sunday_after (paschal_full_moon y) → IsDate e × IsEasterOf (Some e) y
easter-fields y e t is h =
    let place = rw (← h) at (sunday-place (paschal_full_moon y)) in
    let bound = moon-bound (golden_number y) (epact y) in
    let k : ℕ = unsigned_abs (e -ℤ day_number_of_ymd y 3 21) in
    let year = year_of-spring y e k (omega (arith, signed, place.0)) (omega (arith, signed, place.0, place.1, bound)) in (
      IsDate-year e (rw (← year) at is),
      record {
        date = easter-cond y e t (easter-of y e h);
        exists = refl;
        year = year;
        sunday = place.2;
        earliest = omega (arith, signed, place.0);
        latest = omega (arith, signed, place.1, bound, day-latest y);
      },
    )

pub easter-some : (o : Option ℤ) (y m moon n : ℤ) → o ≡ date_of_day n → n ≡ sunday_after moon → moon ≡ paschal_full_moon y → Some m ≡ date_of_ymd y 3 21 → IsYear y → IsEasterOf o y
easter-some o y m moon n e h same named is =
    let found = easter-fields y n (equinox-number m y named).0 is (h ∙ ap sunday_after same) in
    rw (← (e ∙ date_of_day-Some n found.0)) at found.1
