-- The first day of an ISO year: the Monday of its week 1.
use Rattle.std.proofs.Common.{◌≡◌, ◌↔◌, ℕ, Option, Some, None, IsSome, IfSome, refl, ap, ◌∙◌, arith, ℤ, pos, neg_ℤ, ◌+ℤ◌, ◌-ℤ◌, ◌≤ℤ◌, ◌<ℤ◌}
use Rattle.std.proofs.lemmas.Int.{by_lt_z}
use Rattle.chrono_units.specs.declared.weekday.Weekday.{Weekday}
use Rattle.chrono_units.specs.declared.weekday.Weekday.TheVariants.{Mon}
use Rattle.chrono_units.specs.Weekday.{days_from_monday, number_from_monday, previous_weekday}
use Rattle.chrono_calendar.specs.Days.{IsDate, days_before_year}
use Rattle.chrono_calendar.specs.Flags.{IsIsoWeek}
use Rattle.chrono_calendar.specs.Weeks.{day_number_of_iso, days_from_sunday_of, iso_week_of, iso_year_of, thursday_of_week, weekday_of}
use Rattle.chrono_calendar.proofs.Signed.{signed}
use Rattle.chrono_calendar.proofs.Years.{days_before_year-closed}
use Rattle.chrono_calendar.proofs.Names.{days_before_year-later, year_length_bounds}
use Rattle.chrono_calendar.proofs.WeekDays.{weekday_of-previous}
use Rattle.chrono_calendar.proofs.IsoWeeks.{before_monday, last_years, thursday_of_week-monday}
use Rattle.chrono_calendar.proofs.IsoDates.{before_monday-bound, day_number_of_iso-place, iso_week_of-bounds, thursday-place}
use Rattle.chrono_calendar.proofs.GivenNames.{weeks_of_iso_year-range}

-- no day of the ISO year lies before that Monday
least : (e d y : ℤ) → iso_year_of e ≡ y → iso_week_of e ≡ 1 → weekday_of e ≡ Mon → iso_year_of d ≡ y → e ≤ℤ d
least e d y year week monday same =
    let here = rw year at (thursday-place e) in
    let there = rw same at (thursday-place d) in
    omega (arith, signed, here, there, week, ap days_from_monday monday, thursday_of_week-monday e, thursday_of_week-monday d, iso_week_of-bounds d)

pub if_first : (o : Option ℤ) (y : ℤ) (w : ℕ) (m : Weekday) → w ≡ 1 → m ≡ Mon → IfSome o (λ e. iso_year_of e ≡ y) → IfSome o (λ e. iso_week_of e ≡ w) → IfSome o (λ e. weekday_of e ≡ m) → IfSome o (λ e. (d : ℤ) → iso_year_of d ≡ y → e ≤ℤ d)
if_first None y w m one monday year week weekday = tt
if_first (Some e) y w m one monday year week weekday = λ d same. least e d y year (week ∙ one) (weekday ∙ monday) same

-- and the day before it is of the ISO year before
year_before : (e d y : ℤ) → d ≡ e -ℤ pos 1 → iso_year_of e ≡ y → iso_week_of e ≡ 1 → weekday_of e ≡ Mon → iso_year_of d ≡ y -ℤ pos 1
year_before e d y place year week monday =
    let here = rw year at (thursday-place e) in
    let there = thursday-place d in
    let sunday = ap days_from_monday (weekday_of-previous e d place ∙ ap previous_weekday monday) in
    let ends = iso_week_of-bounds d in
    let e_thursday = thursday_of_week-monday e in
    let d_thursday = thursday_of_week-monday d in
    let from_monday = ap days_from_monday monday in
    let apart : thursday_of_week d ≡ days_before_year y -ℤ pos (before_monday y) = omega (arith, signed, place, here, week, sunday, e_thursday, d_thursday, from_monday) in
    by_lt_z (iso_year_of d) y
    (λ less. by_lt_z (iso_year_of d) (y -ℤ pos 1)
    (λ two. absurd (omega (arith, signed, there, apart, ends, before_monday-bound y, days_before_year-later (iso_year_of d) (y -ℤ pos 1) two, days_before_year-later (y -ℤ pos 1) y (omega (arith, signed)), year_length_bounds (y -ℤ pos 1))))
    (λ one. omega (arith, signed, less, one)))
    (λ not_less. by_lt_z y (iso_year_of d)
    (λ more. absurd (omega (arith, signed, there, apart, ends, before_monday-bound (iso_year_of d), days_before_year-later y (iso_year_of d) more, year_length_bounds y)))
    (λ same. absurd (omega (arith, signed, place, least e d y year week monday (omega (arith, signed, not_less, same))))))

pub if_before : (o : Option ℤ) (y : ℤ) (w : ℕ) (m : Weekday) → w ≡ 1 → m ≡ Mon → IfSome o (λ e. iso_year_of e ≡ y) → IfSome o (λ e. iso_week_of e ≡ w) → IfSome o (λ e. weekday_of e ≡ m) → IfSome o (λ e. iso_year_of (e -ℤ pos 1) ≡ y -ℤ pos 1)
if_before None y w m one monday year week weekday = tt
if_before (Some e) y w m one monday year week weekday = year_before e (e -ℤ pos 1) y refl year (week ∙ one) (weekday ∙ monday)

-- where it is a date: in all ISO years that dates have but the first
place : (y : ℤ) → day_number_of_iso y 1 1 ≡ days_before_year y +ℤ pos 4 -ℤ pos (before_monday y)
place y = omega (arith, signed, day_number_of_iso-place y 1 Mon)

last_year : days_before_year (pos 262_143) ≡ pos 95_745_399
last_year = omega (arith, signed, days_before_year-closed (pos 262_143))

in_last_year : (y : ℤ) → y ≡ pos 262_143 → day_number_of_iso y 1 1 ≡ pos 95_745_399
in_last_year y e =
    let before : days_before_year y ≡ pos 95_745_399 = ap days_before_year e ∙ last_year in
    let monday : days_from_sunday_of (days_before_year y) ≡ 1 = ap days_from_sunday_of before in
    omega (arith, signed, place y, before, monday)

in_first_year : (y : ℤ) → y ≡ neg_ℤ (pos 262_143) → day_number_of_iso y 1 1 ≡ neg_ℤ (pos 95_746_132)
in_first_year y e =
    let before : days_before_year y ≡ neg_ℤ (pos 95_746_130) = ap days_before_year e ∙ last_years.0 in
    let wednesday : days_from_sunday_of (days_before_year y) ≡ 3 = ap days_from_sunday_of before in
    omega (arith, signed, place y, before, wednesday)

is_date : (y : ℤ) → neg_ℤ (pos 262_143) <ℤ y → y ≤ℤ pos 262_143 → IsDate (day_number_of_iso y 1 1)
is_date y low high =
    let first = days_before_year-later (neg_ℤ (pos 262_143)) y low in
    let at = place y in
    let bound = before_monday-bound y in (
      omega (arith, signed, at, bound, first, last_years.0, year_length_bounds (neg_ℤ (pos 262_143))),
      by_lt_z y (pos 262_143)
          (λ less. omega (arith, signed, at, bound, days_before_year-later y (pos 262_143) less, last_year, year_length_bounds y))
          (λ not_less. omega (arith, signed, in_last_year y (omega (arith, signed, not_less, high)))),
    )

is_later : (y : ℤ) → IsDate (day_number_of_iso y 1 1) → neg_ℤ (pos 262_143) <ℤ y
is_later y date =
    by_lt_z (neg_ℤ (pos 262_143)) y
    (λ less. less)
    (λ not_less. by_lt_z y (neg_ℤ (pos 262_143))
    (λ before. absurd (omega (arith, signed, place y, date.0, days_before_year-later y (neg_ℤ (pos 262_143)) before, last_years.0, year_length_bounds y)))
    (λ from. absurd (omega (arith, signed, date.0, in_first_year y (omega (arith, signed, not_less, from))))))

is_earlier : (y : ℤ) → IsDate (day_number_of_iso y 1 1) → y ≤ℤ pos 262_143
is_earlier y date =
    by_lt_z (pos 262_143) y
    (λ past. absurd (omega (arith, signed, place y, before_monday-bound y, date.1, days_before_year-later (pos 262_143) y past, last_year, year_length_bounds (pos 262_143))))
    (λ not_past. not_past)

pub first_exists : (o : Option ℤ) (y : ℤ) (w : ℕ) (m : Weekday) → w ≡ 1 → m ≡ Mon → (IsSome o ↔ (IsIsoWeek y w × IsDate (day_number_of_iso y w (number_from_monday m)))) → IsSome o ↔ ((neg_ℤ (pos 262_143) <ℤ y) × (y ≤ℤ pos 262_143))
first_exists o y w m one monday exists =
    let known : IsSome o ↔ (IsIsoWeek y 1 × IsDate (day_number_of_iso y 1 1)) = rw (one, monday) at exists in (
      (λ some. (is_later y (known.0 some).1, is_earlier y (known.0 some).1)),
      (λ range. known.1 ((omega arith, omega (arith, weeks_of_iso_year-range y)), is_date y range.0 range.1)),
    )
