-- The date that fits parts is the one that they name.
use Rattle.std.proofs.Common.{◌≡◌, ℕ, Bool, true, false, ◌&&◌, Option, None, Some, refl, ap, sym, subst, ◌∙◌, ◌≤◌, ℤ, pos, neg_ℤ, SFits, of_z, to_z, w32, arith, rules}
use Rattle.std.proofs.lemmas.Bool.{and_parts, false≢true}
use Rattle.std.proofs.lemmas.Bool.Decides.{Decides-int_eq}
use Rattle.std.proofs.lemmas.Int.{ints, to_z-of_z}
use Rattle.std.specs.Cmp.Derive.{both_true}
use Rattle.std.specs.Int.{int_div_euclid, int_rem_euclid}
use Rattle.std.proofs.lemmas.Option.{same_Some}
use Rattle.std.specs.Prelude.{◌≤ℤ◌, IfSome, if◌then◌else◌, int_le, unsigned_abs}
use Rattle.chrono_calendar.proofs.IsoDates.{before_monday-bound, date_of_iso-again, iso_week_of-bounds}
use Rattle.chrono_calendar.proofs.IsoWeeks.{iso_year_of-range}
use Rattle.chrono_calendar.proofs.Signed.{signed}
use Rattle.chrono_calendar.proofs.NamedDates.{calendar_name-exists, date_of_yo-again, date_of_ymd-again, day_of-small}
use Rattle.chrono_calendar.proofs.Names.{ordinal_name_of-number, year_length_bounds}
use Rattle.chrono_datetime.specs.Days.{IsDate, date_of_ymd, date_of_yo, day_of, month_of, ordinal_of, year_of}
use Rattle.chrono_datetime.specs.Weekday.{number_from_monday}
use Rattle.chrono_datetime.specs.Years.{IsYear}
use Rattle.chrono_datetime.specs.Weeks.{date_of_iso, iso_week_of, iso_year_of, weekday_of}
use Rattle.chrono_datetime.specs.declared.Weekday.{Weekday}
use Rattle.chrono_datetime.specs.declared.Weekday.TheVariants.{Mon, Tue, Wed, Thu, Fri, Sat, Sun}
use Rattle.chrono_pattern.specs.DateParts.{date_fits, day_fits, in_window, is_present, names_calendar, names_date, names_ordinal, names_week, names_year, names_year_week, says, week_fits, weekday_at_number, year_fits, year_week_fits}
use Rattle.chrono_pattern.specs.PlainParts.{IsCalendarAlone}
use Rattle.chrono_pattern.specs.YearWeeks.{week_from_monday, week_from_sunday}
use Rattle.chrono_pattern.specs.declared.parsed.Parsed.{Parsed}

-- ---- what fits

-- a part that is given is what it says
pub said : (o : Option ℤ) (w v : ℤ) → o ≡ Some w → says o v ≡ true → w ≡ v
said None w v is fits = cc
said (Some u) w v is fits = let same : u ≡ w = cc in sym same ∙ (Decides-int_eq u v).0 fits

-- the parts of a year, of a day and of a week fit each
pub record FitsEach (p : Parsed) (n : ℤ) : Type 0 where
  pub year : year_fits p (year_of n) ≡ true
  pub day : day_fits p n ≡ true
  pub week : week_fits p n ≡ true
  pub year_week : year_week_fits p n ≡ true

pub fits_each : (p : Parsed) (n : ℤ) → date_fits p n ≡ true → FitsEach p n
unfolding date_fits
fits_each p n fits =
    let both = and_parts (year_fits p (year_of n)) (day_fits p n && (week_fits p n && year_week_fits p n)) fits in
    let rest = and_parts (day_fits p n) (week_fits p n && year_week_fits p n) both.1 in
    let weeks = and_parts (week_fits p n) (year_week_fits p n) rest.1 in
    record { year = both.0; day = rest.0; week = weeks.0; year_week = weeks.1 }

-- the weeks of the year that fit
pub from_sunday_fits : (p : Parsed) (n : ℤ) → date_fits p n ≡ true → says p.week_from_sun (pos (week_from_sunday n)) ≡ true
unfolding year_week_fits
from_sunday_fits p n fits = (and_parts _ _ (fits_each p n fits).year_week).0

pub from_monday_fits : (p : Parsed) (n : ℤ) → date_fits p n ≡ true → says p.week_from_mon (pos (week_from_monday n)) ≡ true
unfolding year_week_fits
from_monday_fits p n fits = (and_parts _ _ (fits_each p n fits).year_week).1

pub month_said : (p : Parsed) (n m : ℤ) → day_fits p n ≡ true → p.month ≡ Some m → m ≡ pos (month_of n)
unfolding day_fits
month_said p n m fits is = said p.month m _ is (and_parts _ _ (and_parts _ _ fits).0).0

pub day_said : (p : Parsed) (n d : ℤ) → day_fits p n ≡ true → p.day ≡ Some d → d ≡ pos (day_of n)
unfolding day_fits
day_said p n d fits is = said p.day d _ is (and_parts _ _ (and_parts _ _ fits).0).1

pub ordinal_said : (p : Parsed) (n o : ℤ) → day_fits p n ≡ true → p.ordinal ≡ Some o → o ≡ pos (ordinal_of n)
unfolding day_fits
ordinal_said p n o fits is = said p.ordinal o _ is (and_parts _ _ (and_parts _ _ fits).1).0

pub isoyear_said : (p : Parsed) (n y : ℤ) → week_fits p n ≡ true → p.isoyear ≡ Some y → y ≡ iso_year_of n
unfolding week_fits
isoyear_said p n y fits is = said p.isoyear y _ is (and_parts _ _ (and_parts _ _ fits).0).0

pub isoweek_said : (p : Parsed) (n w : ℤ) → week_fits p n ≡ true → p.isoweek ≡ Some w → w ≡ pos (iso_week_of n)
unfolding week_fits
isoweek_said p n w fits is = said p.isoweek w _ is (and_parts _ _ (and_parts _ _ fits).1).0

pub weekday_said : (p : Parsed) (n d : ℤ) → week_fits p n ≡ true → p.weekday ≡ Some d → d ≡ pos (number_from_monday (weekday_of n))
unfolding week_fits
weekday_said p n d fits is = said p.weekday d _ is (and_parts _ _ (and_parts _ _ fits).1).1

-- ---- what is named

-- a part that is wanted is there
pub is_missing : (o : Option ℤ) → o ≡ None → is_present o ≡ true → ⊥
is_missing None none given = absurd (false≢true given)
is_missing (Some v) none given = cc

pub record NamesCalendar (p : Parsed) : Type 0 where
  pub year : names_year p ≡ true
  pub month : is_present p.month ≡ true
  pub day : is_present p.day ≡ true

pub calendar_names : (p : Parsed) → names_calendar p ≡ true → NamesCalendar p
unfolding names_calendar
calendar_names p named =
    let both = and_parts (names_year p) (is_present p.month && is_present p.day) named in
    let rest = and_parts (is_present p.month) (is_present p.day) both.1 in
    record { year = both.0; month = rest.0; day = rest.1 }

pub ordinal_names : (p : Parsed) → names_ordinal p ≡ true → (names_year p ≡ true) × (is_present p.ordinal ≡ true)
unfolding names_ordinal
ordinal_names p named = and_parts (names_year p) (is_present p.ordinal) named

pub record NamesWeek (p : Parsed) : Type 0 where
  pub year : is_present p.isoyear ≡ true
  pub week : is_present p.isoweek ≡ true
  pub weekday : is_present p.weekday ≡ true

pub week_names : (p : Parsed) → names_week p ≡ true → NamesWeek p
unfolding names_week
week_names p named =
    let both = and_parts (is_present p.isoyear) (is_present p.isoweek && is_present p.weekday) named in
    let rest = and_parts (is_present p.isoweek) (is_present p.weekday) both.1 in
    record { year = both.0; week = rest.0; weekday = rest.1 }

pub year_week_names : (week : Option ℤ) (p : Parsed) → names_year_week week p ≡ true
    → (names_year p ≡ true) × (is_present week ≡ true) × (is_present p.weekday ≡ true)
unfolding names_year_week
year_week_names week p named =
    let both = and_parts (names_year p) (is_present week && is_present p.weekday) named in
    let rest = and_parts (is_present week) (is_present p.weekday) both.1 in
    (both.0, rest.0, rest.1)

-- the last of five tests holds where the others do not
fifth : (a b c d e : Bool) → (if a then true else if b then true else if c then true else if d then true else e) ≡ true
    → a ≡ false → b ≡ false → c ≡ false → d ≡ false → e ≡ true
fifth false false false false e h first second third fourth = h
fifth true b c d e h first second third fourth = absurd (false≢true (sym first))
fifth false true c d e h first second third fourth = absurd (false≢true (sym second))
fifth false false true d e h first second third fourth = absurd (false≢true (sym third))
fifth false false false true e h first second third fourth = absurd (false≢true (sym fourth))

pub last_named : (p : Parsed) → names_date p ≡ true → names_calendar p ≡ false → names_ordinal p ≡ false → names_week p ≡ false
    → names_year_week p.week_from_sun p ≡ false → names_year_week p.week_from_mon p ≡ true
unfolding names_date
last_named p named first second third fourth =
    fifth (names_calendar p) (names_ordinal p) (names_week p) (names_year_week p.week_from_sun p) (names_year_week p.week_from_mon p) named first second third fourth

-- ---- the year

pub year_said : (p : Parsed) (y z : ℤ) → year_fits p y ≡ true → p.year ≡ Some z → z ≡ y
unfolding year_fits
year_said p y z fits is = said p.year z y is (and_parts _ _ (and_parts _ _ fits).0).0

pub century_said : (p : Parsed) (y q : ℤ) → year_fits p y ≡ true → p.year_div_100 ≡ Some q → q ≡ int_div_euclid y (pos 100)
unfolding year_fits
century_said p y q fits is = said p.year_div_100 q _ is (and_parts _ _ (and_parts _ _ fits).0).1

pub place_said : (p : Parsed) (y r : ℤ) → year_fits p y ≡ true → p.year_mod_100 ≡ Some r → r ≡ int_rem_euclid y (pos 100)
unfolding year_fits
place_said p y r fits is = said p.year_mod_100 r _ is (and_parts _ _ (and_parts _ _ fits).1).0

within_window : (y : ℤ) → (int_le (pos 1970) y && int_le y (pos 2069)) ≡ true → (pos 1970 ≤ℤ y) × (y ≤ℤ pos 2069)
within_window y within = (grind (arith, ints), grind (arith, ints))

window : (a b c : Option ℤ) (r y : ℤ) → a ≡ None → b ≡ None → c ≡ Some r → in_window a b c y ≡ true → (pos 1970 ≤ℤ y) × (y ≤ℤ pos 2069)
window None None (Some r) s y first second third within = within_window y within
window None None None s y first second third within = cc
window None (Some b) c s y first second third within = cc
window (Some a) b c s y first second third within = cc

pub window_said : (p : Parsed) (y r : ℤ) → year_fits p y ≡ true → p.year ≡ None → p.year_div_100 ≡ None → p.year_mod_100 ≡ Some r
    → (pos 1970 ≤ℤ y) × (y ≤ℤ pos 2069)
unfolding year_fits
window_said p y r fits year century place =
    window p.year p.year_div_100 p.year_mod_100 r y year century place (and_parts _ _ (and_parts _ _ fits).1).1

-- ---- numbers as machine words

small_fits : (z : ℤ) → neg_ℤ (pos 1_000_000) ≤ℤ z → z ≤ℤ pos 1_000_000 → SFits w32 z
small_fits z least most = search rules

cast_is : (x y : ℤ) → neg_ℤ (pos 1_000_000) ≤ℤ y → y ≤ℤ pos 1_000_000 → x ≡ y → to_z w32 (of_z w32 x) ≡ y
cast_is x y least most same = ap (λ (z : ℤ). to_z w32 (of_z w32 z)) same ∙ to_z-of_z w32 y (small_fits y least most)

pub year_cast : (x y : ℤ) → IsYear y → x ≡ y → to_z w32 (of_z w32 x) ≡ y
year_cast x y year same = cast_is x y (omega (arith, signed, year.0)) (omega (arith, signed, year.1)) same

pub year_is_year : (x y : ℤ) → IsYear y → x ≡ y → IsYear (to_z w32 (of_z w32 x))
year_is_year x y year same = subst IsYear (sym (year_cast x y year same)) year

pub iso_year_cast : (x n : ℤ) → IsDate n → x ≡ iso_year_of n → to_z w32 (of_z w32 x) ≡ iso_year_of n
iso_year_cast x n date same =
    let range = iso_year_of-range n date in
    cast_is x (iso_year_of n) (omega (arith, signed, range.0)) (omega (arith, signed, range.1)) same

pub century_cast : (x y : ℤ) → IsYear y → x ≡ int_div_euclid y (pos 100) → to_z w32 (of_z w32 x) ≡ int_div_euclid y (pos 100)
century_cast x y year same = cast_is x (int_div_euclid y (pos 100)) (omega (arith, signed, year.0)) (omega (arith, signed, year.1)) same

pub place_cast : (x y : ℤ) → x ≡ int_rem_euclid y (pos 100) → to_z w32 (of_z w32 x) ≡ int_rem_euclid y (pos 100)
place_cast x y same = cast_is x (int_rem_euclid y (pos 100)) (omega (arith, signed)) (omega (arith, signed)) same

pub number_cast : (x : ℤ) (k : ℕ) → k ≤ 1_000_000 → x ≡ pos k → to_z w32 (of_z w32 x) ≡ pos k
number_cast x k small same = cast_is x (pos k) (omega (arith, signed, small)) (omega (arith, signed, small)) same

numbers_small : (d : Weekday) → number_from_monday d ≤ 1_000_000
numbers_small Mon = omega arith
numbers_small Tue = omega arith
numbers_small Wed = omega arith
numbers_small Thu = omega arith
numbers_small Fri = omega arith
numbers_small Sat = omega arith
numbers_small Sun = omega arith

pub weekday_cast : (x : ℤ) (d : Weekday) → x ≡ pos (number_from_monday d) → to_z w32 (of_z w32 x) ≡ pos (number_from_monday d)
weekday_cast x d same = number_cast x (number_from_monday d) (numbers_small d) same

pub month_cast : (x n : ℤ) → x ≡ pos (month_of n) → to_z w32 (of_z w32 x) ≡ pos (month_of n)
month_cast x n same = number_cast x (month_of n) (omega (arith, (calendar_name-exists n).0)) same

pub day_cast : (x n : ℤ) → x ≡ pos (day_of n) → to_z w32 (of_z w32 x) ≡ pos (day_of n)
day_cast x n same = number_cast x (day_of n) (omega (arith, day_of-small n)) same

pub ordinal_cast : (x n : ℤ) → x ≡ pos (ordinal_of n) → to_z w32 (of_z w32 x) ≡ pos (ordinal_of n)
ordinal_cast x n same =
    number_cast x (ordinal_of n) (omega (arith, (ordinal_name_of-number n).exists, year_length_bounds (year_of n))) same

pub iso_week_cast : (x n : ℤ) → x ≡ pos (iso_week_of n) → to_z w32 (of_z w32 x) ≡ pos (iso_week_of n)
iso_week_cast x n same =
    number_cast x (iso_week_of n) (omega (arith, iso_week_of-bounds n, year_length_bounds (iso_year_of n), before_monday-bound (iso_year_of n))) same

-- ---- the date of names

pub ymd_found : (n y : ℤ) (a b : ℕ) (found : Option ℤ) → IsDate n → found ≡ date_of_ymd y a b → y ≡ year_of n → a ≡ month_of n
    → b ≡ day_of n → found ≡ Some n
ymd_found n y a b found date is year month day =
    is
    ∙ ap (λ (z : ℤ). date_of_ymd z a b) year
    ∙ ap (λ (k : ℕ). date_of_ymd (year_of n) k b) month
    ∙ ap (λ (k : ℕ). date_of_ymd (year_of n) (month_of n) k) day
    ∙ date_of_ymd-again n date

pub yo_found : (n y : ℤ) (a : ℕ) (found : Option ℤ) → IsDate n → found ≡ date_of_yo y a → y ≡ year_of n → a ≡ ordinal_of n
    → found ≡ Some n
yo_found n y a found date is year ordinal =
    is
    ∙ ap (λ (z : ℤ). date_of_yo z a) year
    ∙ ap (λ (k : ℕ). date_of_yo (year_of n) k) ordinal
    ∙ date_of_yo-again n date

pub numbered : (d : Weekday) → weekday_at_number (pos (number_from_monday d)) ≡ d
numbered Mon = refl
numbered Tue = refl
numbered Wed = refl
numbered Thu = refl
numbered Fri = refl
numbered Sat = refl
numbered Sun = refl

pub iso_found : (n y : ℤ) (a : ℕ) (k : Weekday) (found : Option ℤ) → IsDate n → found ≡ date_of_iso y a k → y ≡ iso_year_of n
    → a ≡ iso_week_of n → k ≡ weekday_of n → found ≡ Some n
iso_found n y a k found date is year week day =
    is
    ∙ ap (λ (z : ℤ). date_of_iso z a k) year
    ∙ ap (λ (z : ℕ). date_of_iso (iso_year_of n) z k) week
    ∙ ap (λ (z : Weekday). date_of_iso (iso_year_of n) (iso_week_of n) z) day
    ∙ date_of_iso-again n date

-- ---- a year, a month and a day alone

unsaid : (o : Option ℤ) (v : ℤ) → o ≡ None → says o v ≡ true
unsaid o v none = ap (λ (x : Option ℤ). says x v) none

pub is_said : (o : Option ℤ) (v : ℤ) → o ≡ Some v → says o v ≡ true
is_said o v is = ap (λ (x : Option ℤ). says x v) is ∙ (Decides-int_eq v v).1 refl

no_window : (year century : Option ℤ) (y : ℤ) → in_window year century None y ≡ true
no_window None None y = refl
no_window None (Some c) y = refl
no_window (Some w) century y = refl

year_alone : (p : Parsed) (y : ℤ) → IsCalendarAlone p → p.year ≡ Some y → year_fits p y ≡ true
unfolding year_fits
year_alone p y alone year =
    let window = ap (λ (o : Option ℤ). in_window p.year p.year_div_100 o y) alone.place ∙ no_window p.year p.year_div_100 y in
    both_true (both_true (is_said p.year y year) (unsaid p.year_div_100 _ alone.century)) (both_true (unsaid p.year_mod_100 _ alone.place) window)

day_alone : (p : Parsed) (n : ℤ) → IsCalendarAlone p → p.month ≡ Some (pos (month_of n)) → p.day ≡ Some (pos (day_of n)) → day_fits p n ≡ true
unfolding day_fits
day_alone p n alone month day =
    both_true (both_true (is_said p.month _ month) (is_said p.day _ day)) (both_true (unsaid p.ordinal _ alone.ordinal) (unsaid p.quarter _ alone.quarter))

weeks_alone : (p : Parsed) (n : ℤ) → IsCalendarAlone p → (week_fits p n && year_week_fits p n) ≡ true
unfolding week_fits year_week_fits
weeks_alone p n alone =
    both_true
    (both_true (both_true (unsaid p.isoyear _ alone.iso_year) (unsaid p.isoyear_mod_100 _ alone.iso_place))
    (both_true (unsaid p.isoweek _ alone.iso_week) (unsaid p.weekday _ alone.weekday)))
    (both_true (unsaid p.week_from_sun _ alone.from_sunday) (unsaid p.week_from_mon _ alone.from_monday))

alone_fits : (p : Parsed) (n : ℤ) → IsCalendarAlone p → p.year ≡ Some (year_of n) → p.month ≡ Some (pos (month_of n))
    → p.day ≡ Some (pos (day_of n)) → date_fits p n ≡ true
unfolding date_fits
alone_fits p n alone year month day =
    both_true (year_alone p (year_of n) alone year) (both_true (day_alone p n alone month day) (weeks_alone p n alone))

pub calendar_fits : (p : Parsed) (found : Option ℤ) → IsCalendarAlone p → IfSome found (λ n. p.year ≡ Some (year_of n))
    → IfSome found (λ n. p.month ≡ Some (pos (month_of n))) → IfSome found (λ n. p.day ≡ Some (pos (day_of n)))
    → IfSome found (λ n. date_fits p n ≡ true)
calendar_fits p None alone year month day = tt
calendar_fits p (Some n) alone year month day = alone_fits p n alone year month day

-- a year, a month and a day suffice
given : (o : Option ℤ) (v : ℤ) → o ≡ Some v → is_present o ≡ true
given o v is = ap (λ (x : Option ℤ). is_present x) is

all_given : (p : Parsed) (y m d : ℤ) → p.year ≡ Some y → p.month ≡ Some m → p.day ≡ Some d → names_date p ≡ true
unfolding names_date names_calendar
all_given p y m d year month day =
    let first = ap (λ (b : Bool). if b then true else is_present p.year_mod_100) (given p.year y year) in
    let all = both_true first (both_true (given p.month m month) (given p.day d day)) in
    ap (λ (b : Bool). if b then true else if names_ordinal p then true else if names_week p then true else if names_year_week p.week_from_sun p then true else names_year_week p.week_from_mon p) all

pub calendar_named : (p : Parsed) (found : Option ℤ) → IfSome found (λ n. p.year ≡ Some (year_of n)) → IfSome found (λ n. p.month ≡ Some (pos (month_of n)))
    → IfSome found (λ n. p.day ≡ Some (pos (day_of n))) → IfSome found (λ n. names_date p ≡ true)
calendar_named p None year month day = tt
calendar_named p (Some n) year month day = all_given p _ _ _ year month day

-- a date that fits has the same year, month and day, and so is the same
same_name : (p : Parsed) (n e : ℤ) → p.year ≡ Some (year_of n) → p.month ≡ Some (pos (month_of n)) → p.day ≡ Some (pos (day_of n))
    → IsDate n → IsDate e → date_fits p e ≡ true → n ≡ e
unfolding year_fits
same_name p n e year month day date other fits =
    let each = fits_each p e fits in
    let same_year = said p.year (year_of n) (year_of e) year (and_parts _ _ (and_parts _ _ each.year).0).0 in
    let same_month = month_said p e (pos (month_of n)) each.day month in
    let same_day = day_said p e (pos (day_of n)) each.day day in
    same_Some n e (sym (date_of_ymd-again n date)
    ∙ ymd_found e (year_of n) (month_of n) (day_of n) (date_of_ymd (year_of n) (month_of n) (day_of n)) other refl same_year (ap unsigned_abs same_month) (ap unsigned_abs same_day))

pub calendar_only : (p : Parsed) (found : Option ℤ) → IfSome found (λ n. p.year ≡ Some (year_of n)) → IfSome found (λ n. p.month ≡ Some (pos (month_of n)))
    → IfSome found (λ n. p.day ≡ Some (pos (day_of n))) → IfSome found IsDate
    → IfSome found (λ n. (e : ℤ) → IsDate e → date_fits p e ≡ true → n ≡ e)
calendar_only p None year month day date = tt
calendar_only p (Some n) year month day date = λ e other fits. same_name p n e year month day date other fits
