-- How the text of a date falls into its parts, and the ranges of those that name a date.
use Rattle.std.proofs.Common.{[], ◌+◌, ◌≡◌, ℕ, ◌-◌, ◌<◌, true, List, ◌∷◌, ◌++◌, codes, length, take, drop, append_assoc, ℤ, unsigned_abs, Option, Some, None, IfSome, arith, rules, refl, sym, ◌∙◌}
use Rattle.std.proofs.lemmas.Bool.{and_parts}
use Rattle.std.proofs.lemmas.Bool.Decides.{nat_tests}
use Rattle.std.proofs.lemmas.List.{take-append-drop}
use Rattle.std.proofs.lemmas.Option.{cond_some, some_pair_parts}
use Rattle.std.proofs.Common.{SFits, w32}
use Rattle.std.specs.Int.{IsInRange}
use Rattle.chrono_calendar.proofs.Dates.{is_year-fact}
use Rattle.chrono_calendar.proofs.Years.{IsYear-small}
use Rattle.chrono_datetime.specs.Years.{is_leap_year, is_year}
use Rattle.chrono_datetime.specs.Days.{IsDate, year_of, month_of, day_of, ordinal_of, date_of_ymd, date_of_yo, is_calendar_name, is_ordinal_name}
use Rattle.chrono_datetime.specs.declared.Weekday.{Weekday}
use Rattle.chrono_datetime.specs.Fields.{IsIsoYear}
use Rattle.chrono_datetime.specs.Weekday.{number_from_monday}
use Rattle.chrono_datetime.specs.Weeks.{date_of_iso, iso_week_of, iso_year_of, weekday_of}
use Rattle.chrono_datetime.specs.DateText.{date_text}
use Rattle.chrono_datetime.specs.NameLaws.{DatesHaveOneCalendarName, DatesHaveOneIsoName, DatesHaveOneOrdinalName}
use Rattle.chrono_datetime.proofs.MonthLengths.{month_length_in-bounds}
use Rattle.chrono_datetime.proofs.Names.{year_length_bounds}
use Rattle.chrono_text.proofs.TextLemmas.{end_is}
use Rattle.chrono_text.specs.Text.{all_digits, two_digits, year_text, calendar_text, ordinal_text, week_date_text}
use Rattle.chrono_reading.specs.DateTexts.{IsDateText, IsOrdinalDateText, IsWeekDateText}

pub date_parts : (year : List ℕ) (m d : ℕ) → year ++ codes "-" ++ two_digits m ++ codes "-" ++ two_digits d ≡ year ++ (45 ∷ two_digits m ++ 45 ∷ two_digits d)
date_parts year m d = simp append_assoc

pub calendar_text-parts : (y : ℤ) (m d : ℕ) → calendar_text y m d ≡ year_text y ++ (45 ∷ two_digits m ++ 45 ∷ two_digits d)
calendar_text-parts y m d = date_parts (year_text y) m d

-- the year stands before the last six bytes
pub calendar_text-split : (text : List ℕ) (y : ℤ) (m d : ℕ) → calendar_text y m d ≡ text
    → (year_text y ≡ take (length text - 6) text) × (45 ∷ two_digits m ++ 45 ∷ two_digits d ≡ drop (length text - 6) text)
calendar_text-split text y m d e =
    let cut = end_is text (year_text y) (45 ∷ two_digits m ++ 45 ∷ two_digits d) 6 refl (sym (calendar_text-parts y m d) ∙ e) in (sym cut.0, sym cut.1)

pub calendar_text-joined : (text : List ℕ) (y : ℤ) (m d k : ℕ) → year_text y ≡ take k text → 45 ∷ two_digits m ++ 45 ∷ two_digits d ≡ drop k text → calendar_text y m d ≡ text
calendar_text-joined text y m d k front end = calendar_text-parts y m d ∙ rw (front, end) (take-append-drop k text)

-- the parts of the name of a date are small
pub date_of_ymd-small : (y : ℤ) (m d : ℕ) (n : ℤ) → date_of_ymd y m d ≡ Some n → (unsigned_abs y < 1_000_000) × (m < 100) × (d < 100)
unfolding date_of_ymd
date_of_ymd-small y m d n e =
    let named = and_parts (is_year y) (is_calendar_name y m d) (cond_some _ _ _ e).0 in
    let last = (month_length_in-bounds (is_leap_year y) m).1 in
    (IsYear-small y (is_year-fact y named.0), grind (arith, nat_tests), grind (arith, nat_tests))

-- a date found by its name has the text of that name
pub IsDateText-found : (r : Option ℤ) (text : List ℕ) (y : ℤ) (m d : ℕ) → r ≡ date_of_ymd y m d → calendar_text y m d ≡ text → IfSome r (λ n. IsDateText text n)
IsDateText-found None text y m d found written = tt
IsDateText-found (Some n) text y m d found written =
    record { year = y; month = m; day = d; names = sym found; written = written }

-- and is found by it
pub found_by_name : (r : Option ℤ) (y z : ℤ) (m k d j : ℕ) (n : ℤ) → r ≡ date_of_ymd y m d → Some y ≡ Some z → ◌≡◌ {A = Option (ℕ × ℕ)} (Some (m, d)) (Some (k, j)) → date_of_ymd z k j ≡ Some n → r ≡ Some n
found_by_name r y z m k d j n found year tail names = let parts = some_pair_parts m k d j tail in cc

-- a year of six digits at most is the same as a machine word
pub year_fits : (y : ℤ) → unsigned_abs y < 1_000_000 → SFits w32 y
year_fits y small = search rules

-- names that are the same are written the same
calendar_text-same : (y z : ℤ) (m k d j : ℕ) → y ≡ z → m ≡ k → d ≡ j → calendar_text y m d ≡ calendar_text z k j
calendar_text-same y z m k d j year month day = rw (year, month, day) refl

-- what is a text of a date is the one that is printed
pub date_text-only : (text : List ℕ) (n m : ℤ) → m ≡ n → IsDate m → DatesHaveOneCalendarName → IsDateText text n → IsDate n × (text ≡ date_text n)
date_text-only text n m same inside law is =
    let within = rw same at inside in
    let parts = (law n is.year is.month is.day within).0 is.names in
    (within, sym is.written ∙ calendar_text-same is.year (year_of n) is.month (month_of n) is.day (day_of n) parts.0 parts.1 parts.2)

-- so two texts of a date are the same
pub date_text-same : (text other : List ℕ) (n m : ℤ) → m ≡ n → IsDate m → DatesHaveOneCalendarName → IsDateText text n → IsDateText other n → text ≡ other
date_text-same text other n m same inside law is also =
    (date_text-only text n m same inside law is).1 ∙ sym (date_text-only other n m same inside law also).1

-- ---- ordinal dates

pub joined : (front end text : List ℕ) (k : ℕ) → front ≡ take k text → end ≡ drop k text → front ++ end ≡ text
joined front end text k e f = rw (e, f) (take-append-drop k text)

ordinal-small : (y : ℤ) (o : ℕ) → is_ordinal_name y o ≡ true → o < 1_000
ordinal-small y o e = let last = (year_length_bounds y).1 in grind (arith, nat_tests)

pub ordinal_parts : (year : List ℕ) (o : ℕ) → year ++ codes "-" ++ all_digits 3 o ≡ year ++ 45 ∷ all_digits 3 o
ordinal_parts year o = simp append_assoc

ordinal_text-parts : (y : ℤ) (o : ℕ) → ordinal_text y o ≡ year_text y ++ 45 ∷ all_digits 3 o
ordinal_text-parts y o = ordinal_parts (year_text y) o

pub ordinal_text-split : (text : List ℕ) (y : ℤ) (o : ℕ) → ordinal_text y o ≡ text
    → (year_text y ≡ take (length text - 4) text) × (45 ∷ all_digits 3 o ≡ drop (length text - 4) text)
ordinal_text-split text y o e =
    let cut = end_is text (year_text y) (45 ∷ all_digits 3 o) 4 refl (sym (ordinal_text-parts y o) ∙ e) in (sym cut.0, sym cut.1)

pub ordinal_text-joined : (text : List ℕ) (y : ℤ) (o k : ℕ) → year_text y ≡ take k text → 45 ∷ all_digits 3 o ≡ drop k text → ordinal_text y o ≡ text
ordinal_text-joined text y o k front end = ordinal_text-parts y o ∙ joined (year_text y) (45 ∷ all_digits 3 o) text k front end

pub date_of_yo-small : (y : ℤ) (o : ℕ) (n : ℤ) → date_of_yo y o ≡ Some n → (unsigned_abs y < 1_000_000) × (o < 1_000)
unfolding date_of_yo
date_of_yo-small y o n e =
    let named = and_parts (is_year y) (is_ordinal_name y o) (cond_some _ _ _ e).0 in
    (IsYear-small y (is_year-fact y named.0), ordinal-small y o named.1)

pub IsOrdinalDateText-found : (r : Option ℤ) (text : List ℕ) (y : ℤ) (o : ℕ) → r ≡ date_of_yo y o → ordinal_text y o ≡ text
    → IfSome r (λ n. IsOrdinalDateText text n)
IsOrdinalDateText-found None text y o found written = tt
IsOrdinalDateText-found (Some n) text y o found written = record { year = y; ordinal = o; names = sym found; written = written }

pub found_by_ordinal : (r : Option ℤ) (y z : ℤ) (o p : ℕ) (n : ℤ) → r ≡ date_of_yo y o → Some y ≡ Some z → Some o ≡ Some p → date_of_yo z p ≡ Some n → r ≡ Some n
found_by_ordinal r y z o p n found year ordinal names = cc

ordinal_text-of : (y z : ℤ) (o p : ℕ) → y ≡ z → o ≡ p → ordinal_text y o ≡ ordinal_text z p
ordinal_text-of y z o p year ordinal = rw (year, ordinal) refl

pub ordinal_text-only : (text : List ℕ) (n m : ℤ) → m ≡ n → IsDate m → DatesHaveOneOrdinalName → IsOrdinalDateText text n
    → IsDate n × (text ≡ ordinal_text (year_of n) (ordinal_of n))
ordinal_text-only text n m same inside law is =
    let within = rw same at inside in
    let parts = (law n is.year is.ordinal within).0 is.names in
    (within, sym is.written ∙ ordinal_text-of is.year (year_of n) is.ordinal (ordinal_of n) parts.0 parts.1)

-- ---- week dates

-- what stands behind the year
abbrev pub week_tail : ℕ → Weekday → List ℕ
week_tail w d = 45 ∷ 87 ∷ two_digits w ++ 45 ∷ (48 + number_from_monday d) ∷ []

pub week_parts : (year : List ℕ) (w d : ℕ) → year ++ codes "-W" ++ two_digits w ++ codes "-" ++ (48 + d) ∷ [] ≡ year ++ (45 ∷ 87 ∷ two_digits w ++ 45 ∷ (48 + d) ∷ [])
week_parts year w d = simp append_assoc

week_date_text-parts : (y : ℤ) (w : ℕ) (d : Weekday) → week_date_text y w (number_from_monday d) ≡ year_text y ++ week_tail w d
week_date_text-parts y w d = week_parts (year_text y) w (number_from_monday d)

pub week_date_text-split : (text : List ℕ) (y : ℤ) (w : ℕ) (d : Weekday) → week_date_text y w (number_from_monday d) ≡ text
    → (year_text y ≡ take (length text - 6) text) × (week_tail w d ≡ drop (length text - 6) text)
week_date_text-split text y w d e =
    let cut = end_is text (year_text y) (week_tail w d) 6 refl (sym (week_date_text-parts y w d) ∙ e) in (sym cut.0, sym cut.1)

pub week_date_text-joined : (text : List ℕ) (y : ℤ) (w : ℕ) (d : Weekday) (k : ℕ) → year_text y ≡ take k text → week_tail w d ≡ drop k text
    → week_date_text y w (number_from_monday d) ≡ text
week_date_text-joined text y w d k front end = week_date_text-parts y w d ∙ joined (year_text y) (week_tail w d) text k front end

pub found_by_week : (r : Option ℤ) (y z : ℤ) (w v : ℕ) (d e : Weekday) (n : ℤ) → r ≡ date_of_iso y w d → Some y ≡ Some z
    → ◌≡◌ {A = Option (ℕ × Weekday)} (Some (w, d)) (Some (v, e)) → date_of_iso z v e ≡ Some n → r ≡ Some n
found_by_week r y z w v d e n found year tail names = let parts = some_pair_parts w v d e tail in cc

pub IsWeekDateText-found : (r : Option ℤ) (text : List ℕ) (y : ℤ) (w : ℕ) (d : Weekday) → r ≡ date_of_iso y w d → IsIsoYear y → IsInRange 1 53 w
    → week_date_text y w (number_from_monday d) ≡ text → IfSome r (λ n. IsWeekDateText text n)
IsWeekDateText-found None text y w d found range week written = tt
IsWeekDateText-found (Some n) text y w d found range week written =
    record { year = y; week = w; weekday = d; year_in_range = range; week_in_year = week; names = sym found; written = written }

pub iso_year_fits : (y : ℤ) → IsIsoYear y → SFits w32 y
iso_year_fits y h = search rules

-- its own ISO name is a text of a date
pub IsWeekDateText-named : (n : ℤ) → IsDate n → IsIsoYear (iso_year_of n) → IsInRange 1 53 (iso_week_of n) → DatesHaveOneIsoName
    → IsWeekDateText (week_date_text (iso_year_of n) (iso_week_of n) (number_from_monday (weekday_of n))) n
IsWeekDateText-named n is range week law = record {
  year = iso_year_of n;
  week = iso_week_of n;
  weekday = weekday_of n;
  year_in_range = range;
  week_in_year = week;
  names = (law n (iso_year_of n) (iso_week_of n) (weekday_of n) is).1 (refl, refl, refl);
  written = refl;
}

week_date_text-of : (y z : ℤ) (w v : ℕ) (d e : Weekday) → y ≡ z → w ≡ v → d ≡ e
    → week_date_text y w (number_from_monday d) ≡ week_date_text z v (number_from_monday e)
week_date_text-of y z w v d e year week weekday = rw (year, week, weekday) refl

-- and its only one
pub week_date_text-only : (text : List ℕ) (n m : ℤ) → m ≡ n → IsDate m → DatesHaveOneIsoName → IsWeekDateText text n
    → IsDate n × (text ≡ week_date_text (iso_year_of n) (iso_week_of n) (number_from_monday (weekday_of n)))
week_date_text-only text n m same inside law is =
    let within = rw same at inside in
    let parts = (law n is.year is.week is.weekday within).0 is.names in
    (within, sym is.written ∙ week_date_text-of is.year (iso_year_of n) is.week (iso_week_of n) is.weekday (weekday_of n) parts.0 parts.1 parts.2)
