-- Days compare by their ISO names as they do by their numbers.
use Rattle.std.proofs.Common.{◌≡◌, ℕ, ◌<◌, refl, sym, ap, arith, ℤ, ◌<ℤ◌, int_cmp}
use Rattle.std.proofs.lemmas.Cmp.{ranked, int_ranked}
use Rattle.std.specs.Cmp.{int_cmp_is}
use Rattle.std.specs.Ordering.{nat_cmp, ordering_then}
use Rattle.chrono_units.specs.Weekday.{days_from_monday}
use Rattle.chrono_calendar.specs.Days.{days_before_year, ordinal_of}
use Rattle.chrono_calendar.specs.Weeks.{weekday_of, thursday_of_week, iso_year_of, iso_week_of}
use Rattle.chrono_calendar.specs.NameLaws.{iso_cmp}
use Rattle.chrono_text.proofs.Signed.{signed}
use Rattle.chrono_calendar.proofs.Names.{ordinal_name_of-number, day_number-lt_year}
use Rattle.chrono_calendar.proofs.Order.{ranked_then, ranked_by}
use Rattle.chrono_calendar.proofs.IsoWeeks.{before_monday, days_from_monday-of, thursday_of_week-monday}
use Rattle.chrono_calendar.proofs.IsoDates.{thursday-place}

-- a day whose Thursday is earlier is in an earlier week
earlier_thursday : (n m : ℤ) → thursday_of_week n <ℤ thursday_of_week m → n <ℤ m
earlier_thursday n m h =
    omega (arith, signed, thursday_of_week-monday n, thursday_of_week-monday m, days_from_monday-of n, days_from_monday-of m)

earlier_iso_year : (n m : ℤ) → iso_year_of n <ℤ iso_year_of m → n <ℤ m
earlier_iso_year n m h =
    let s = thursday_of_week n in
    let t = thursday_of_week m in
    let a = ordinal_name_of-number s in
    let b = ordinal_name_of-number t in
    earlier_thursday n m (omega (arith, signed, a.number, b.number, day_number-lt_year (iso_year_of n) (iso_year_of m) (ordinal_of s) (ordinal_of t) a.exists b.exists h))

earlier_week : (n m : ℤ) → iso_year_of n ≡ iso_year_of m → iso_week_of n < iso_week_of m → n <ℤ m
earlier_week n m e h =
    let before = ap days_before_year e in
    earlier_thursday n m (omega (arith, signed, before, (ordinal_name_of-number (thursday_of_week n)).number, (ordinal_name_of-number (thursday_of_week m)).number))

same_thursday : (n m : ℤ) → iso_year_of n ≡ iso_year_of m → iso_week_of n ≡ iso_week_of m → thursday_of_week n ≡ thursday_of_week m
same_thursday n m e f =
    omega (arith, signed, ap days_before_year e, ap before_monday e, thursday-place n, thursday-place m)

earlier_weekday_of_week : (n m : ℤ) → thursday_of_week n ≡ thursday_of_week m → days_from_monday (weekday_of n) < days_from_monday (weekday_of m) → n <ℤ m
earlier_weekday_of_week n m e h = omega (arith, signed, thursday_of_week-monday n, thursday_of_week-monday m)

same_weekday_of_week : (n m : ℤ) → thursday_of_week n ≡ thursday_of_week m → days_from_monday (weekday_of n) ≡ days_from_monday (weekday_of m) → n ≡ m
same_weekday_of_week n m e h = omega (arith, signed, thursday_of_week-monday n, thursday_of_week-monday m)

abbrev weekday_number : ℤ → ℕ
weekday_number n = days_from_monday (weekday_of n)

pub iso_cmp-numbers : (n m : ℤ) → iso_cmp n m ≡ int_cmp n m
unfolding iso_cmp
iso_cmp-numbers n m =
    int_cmp_is n m (ordering_then (int_cmp (iso_year_of n) (iso_year_of m)) (ordering_then (nat_cmp (iso_week_of n) (iso_week_of m)) (nat_cmp (weekday_number n) (weekday_number m))))
    (ranked_then _ _ _ _ _ _ (int_cmp (iso_year_of n) (iso_year_of m)) (ordering_then (nat_cmp (iso_week_of n) (iso_week_of m)) (nat_cmp (weekday_number n) (weekday_number m))) (int_ranked (iso_year_of n) (iso_year_of m) (int_cmp (iso_year_of n) (iso_year_of m)) refl) (earlier_iso_year n m) (earlier_iso_year m n)
    (λ e. ranked_then _ _ _ _ _ _ (nat_cmp (iso_week_of n) (iso_week_of m)) (nat_cmp (weekday_number n) (weekday_number m)) (ranked (iso_week_of n) (iso_week_of m) (nat_cmp (iso_week_of n) (iso_week_of m)) refl) (earlier_week n m e) (earlier_week m n (sym e))
    (λ f. ranked_by _ _ _ _ _ _ (nat_cmp (weekday_number n) (weekday_number m)) (ranked (weekday_number n) (weekday_number m) (nat_cmp (weekday_number n) (weekday_number m)) refl) (earlier_weekday_of_week n m (same_thursday n m e f)) (same_weekday_of_week n m (same_thursday n m e f)) (earlier_weekday_of_week m n (sym (same_thursday n m e f))))))
