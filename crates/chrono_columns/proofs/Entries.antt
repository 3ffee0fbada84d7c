-- What stands in a column for a date, and for a number that is none.
use Rattle.std.proofs.Common.{◌≡◌, ◌∙◌, ℤ, pos, neg_ℤ, Bool, true, false, ◌&&◌, Option, Some, None, ap, sym, refl, ◌+ℤ◌, ◌-ℤ◌}
use Rattle.std.proofs.lemmas.Bool.{false≢true}
use Rattle.std.specs.Option.{option_and_then, option_map}
use Rattle.chrono_units.specs.Weekday.{number_from_monday}
use Rattle.chrono_calendar.specs.Days.{IsDate, is_date, date_of_day, year_of, ordinal_of, month_of, day_of}
use Rattle.chrono_calendar.specs.Weeks.{iso_week_of, iso_year_of, weekday_of}
use Rattle.chrono_calendar.specs.MonthMoves.{month_move}
use Rattle.chrono_calendar.proofs.Dates.{is_date-fact, is_date-test}
use Rattle.chrono_calendar.proofs.NamedDates.{date_of_day-Some, date_of_day-None}
use Rattle.chrono_columns.specs.Columns.{number_entry, count_entry, wide_entry, year_entry, ordinal_entry, month_entry, day_entry, weekday_entry, iso_year_entry, iso_week_entry, later_entry, months_later_entry, distance_entry, unix_date_entry, unix_days_entry}

-- a test that said no, or yes
pub no_date : (n : ℤ) → false ≡ is_date n → None ≡ date_of_day n
no_date n e = date_of_day-None n (λ h. false≢true (e ∙ is_date-test n h))

-- of a date the entry is what holds of it, here told of the nearest date
there : {X : Type 0} (from : Option ℤ → X) (n d : ℤ) → true ≡ is_date n → (IsDate n → d ≡ n) → from (Some d) ≡ from (date_of_day n)
there from n d e same =
    let date = is_date-fact n (sym e) in
    ap (λ z. from (Some z)) (same date) ∙ ap from (sym (date_of_day-Some n date))

pub year-there : (n d : ℤ) → true ≡ is_date n → (IsDate n → d ≡ n) → year_of d ≡ year_entry n
unfolding year_entry
year-there n d e same = there (λ o. number_entry (option_map year_of o)) n d e same

pub ordinal-there : (n d : ℤ) → true ≡ is_date n → (IsDate n → d ≡ n) → ordinal_of d ≡ ordinal_entry n
unfolding ordinal_entry
ordinal-there n d e same = there (λ o. count_entry (option_map ordinal_of o)) n d e same

pub month-there : (n d : ℤ) → true ≡ is_date n → (IsDate n → d ≡ n) → month_of d ≡ month_entry n
unfolding month_entry
month-there n d e same = there (λ o. count_entry (option_map month_of o)) n d e same

pub day-there : (n d : ℤ) → true ≡ is_date n → (IsDate n → d ≡ n) → day_of d ≡ day_entry n
unfolding day_entry
day-there n d e same = there (λ o. count_entry (option_map day_of o)) n d e same

pub weekday-there : (n d : ℤ) → true ≡ is_date n → (IsDate n → d ≡ n) → number_from_monday (weekday_of d) ≡ weekday_entry n
unfolding weekday_entry
weekday-there n d e same = there (λ o. count_entry (option_map (λ z. number_from_monday (weekday_of z)) o)) n d e same

pub iso_year-there : (n d : ℤ) → true ≡ is_date n → (IsDate n → d ≡ n) → iso_year_of d ≡ iso_year_entry n
unfolding iso_year_entry
iso_year-there n d e same = there (λ o. number_entry (option_map iso_year_of o)) n d e same

pub iso_week-there : (n d : ℤ) → true ≡ is_date n → (IsDate n → d ≡ n) → iso_week_of d ≡ iso_week_entry n
unfolding iso_week_entry
iso_week-there n d e same = there (λ o. count_entry (option_map iso_week_of o)) n d e same

-- of no date it is what stands for none
pub year-none : (n : ℤ) → false ≡ is_date n → neg_ℤ (pos 2_147_483_648) ≡ year_entry n
unfolding year_entry
year-none n e = ap (λ o. number_entry (option_map year_of o)) (no_date n e)

pub ordinal-none : (n : ℤ) → false ≡ is_date n → 0 ≡ ordinal_entry n
unfolding ordinal_entry
ordinal-none n e = ap (λ o. count_entry (option_map ordinal_of o)) (no_date n e)

pub month-none : (n : ℤ) → false ≡ is_date n → 0 ≡ month_entry n
unfolding month_entry
month-none n e = ap (λ o. count_entry (option_map month_of o)) (no_date n e)

pub day-none : (n : ℤ) → false ≡ is_date n → 0 ≡ day_entry n
unfolding day_entry
day-none n e = ap (λ o. count_entry (option_map day_of o)) (no_date n e)

pub weekday-none : (n : ℤ) → false ≡ is_date n → 0 ≡ weekday_entry n
unfolding weekday_entry
weekday-none n e = ap (λ o. count_entry (option_map (λ z. number_from_monday (weekday_of z)) o)) (no_date n e)

pub iso_year-none : (n : ℤ) → false ≡ is_date n → neg_ℤ (pos 2_147_483_648) ≡ iso_year_entry n
unfolding iso_year_entry
iso_year-none n e = ap (λ o. number_entry (option_map iso_year_of o)) (no_date n e)

pub iso_week-none : (n : ℤ) → false ≡ is_date n → 0 ≡ iso_week_entry n
unfolding iso_week_entry
iso_week-none n e = ap (λ o. count_entry (option_map iso_week_of o)) (no_date n e)

-- days since 1970
pub unix_date-there : (z : ℤ) → true ≡ is_date (z +ℤ pos 719_163) → z +ℤ pos 719_163 ≡ unix_date_entry z
unfolding unix_date_entry
unix_date-there z e = ap number_entry (sym (date_of_day-Some (z +ℤ pos 719_163) (is_date-fact (z +ℤ pos 719_163) (sym e))))

pub unix_date-none : (z : ℤ) → false ≡ is_date (z +ℤ pos 719_163) → neg_ℤ (pos 2_147_483_648) ≡ unix_date_entry z
unfolding unix_date_entry
unix_date-none z e = ap number_entry (no_date (z +ℤ pos 719_163) e)

pub unix_days-there : (n : ℤ) → true ≡ is_date n → n -ℤ pos 719_163 ≡ unix_days_entry n
unfolding unix_days_entry
unix_days-there n e = there (λ o. wide_entry (option_map (λ d. d -ℤ pos 719_163) o)) n n e (λ _. refl)

pub unix_days-none : (n : ℤ) → false ≡ is_date n → neg_ℤ (pos 9_223_372_036_854_775_808) ≡ unix_days_entry n
unfolding unix_days_entry
unix_days-none n e = ap (λ o. wide_entry (option_map (λ d. d -ℤ pos 719_163) o)) (no_date n e)

-- dates moved by days, and the days between two
pub later-there : (k n e : ℤ) → IsDate n → IsDate e → e ≡ n +ℤ k → e ≡ later_entry k n
unfolding later_entry
later-there k n e from to same =
    ap number_entry (sym (date_of_day-Some e to))
    ∙ ap (λ z. number_entry (date_of_day z)) same
    ∙ ap (λ o. number_entry (option_and_then (λ d. date_of_day (d +ℤ k)) o)) (sym (date_of_day-Some n from))

later-past : (k n : ℤ) → IsDate n → (IsDate (n +ℤ k) → ⊥) → neg_ℤ (pos 2_147_483_648) ≡ later_entry k n
unfolding later_entry
later-past k n from past =
    ap number_entry (date_of_day-None (n +ℤ k) past)
    ∙ ap (λ o. number_entry (option_and_then (λ d. date_of_day (d +ℤ k)) o)) (sym (date_of_day-Some n from))

pub later-none : (k n : ℤ) (a b : Bool) → (a && b) ≡ false → a ≡ is_date n → (IsDate n → IsDate (n +ℤ k) → b ≡ true) → neg_ℤ (pos 2_147_483_648) ≡ later_entry k n
unfolding later_entry
later-none k n false b e from to = ap (λ o. number_entry (option_and_then (λ d. date_of_day (d +ℤ k)) o)) (no_date n from)
later-none k n true false e from to = later-past k n (is_date-fact n (sym from)) (λ h. false≢true (to (is_date-fact n (sym from)) h))
later-none k n true true e from to = absurd (false≢true (sym e))

pub distance-there : (n m : ℤ) → true ≡ is_date n → true ≡ is_date m → n -ℤ m ≡ distance_entry n m
unfolding distance_entry
distance-there n m a b =
    ap (λ o. number_entry (option_map (λ e. n -ℤ e) o)) (sym (date_of_day-Some m (is_date-fact m (sym b))))
    ∙ ap (λ o. number_entry (option_and_then (λ d. option_map (λ e. d -ℤ e) (date_of_day m)) o)) (sym (date_of_day-Some n (is_date-fact n (sym a))))

nowhere : (o : Option ℤ) → neg_ℤ (pos 2_147_483_648) ≡ number_entry (option_and_then (λ (d : ℤ). None) o)
nowhere None = refl
nowhere (Some n) = refl

pub distance-none : (n m : ℤ) (a b : Bool) → (a && b) ≡ false → a ≡ is_date n → b ≡ is_date m → neg_ℤ (pos 2_147_483_648) ≡ distance_entry n m
unfolding distance_entry
distance-none n m false b e f g = ap (λ o. number_entry (option_and_then (λ d. option_map (λ e. d -ℤ e) (date_of_day m)) o)) (no_date n f)
distance-none n m true false e f g =
    nowhere (date_of_day n)
    ∙ ap (λ o. number_entry (option_and_then (λ d. option_map (λ e. d -ℤ e) o) (date_of_day n))) (no_date m g)
distance-none n m true true e f g = absurd (false≢true (sym e))

-- dates moved by months
pub months-there : (k n e : ℤ) → IsDate n → Some e ≡ month_move n k → e ≡ months_later_entry k n
unfolding months_later_entry
months-there k n e from to =
    ap number_entry to
    ∙ ap (λ o. number_entry (option_and_then (λ d. month_move d k) o)) (sym (date_of_day-Some n from))

pub months-none : (k n : ℤ) (a b : Bool) → (a && b) ≡ false → a ≡ is_date n → (IsDate n → b ≡ false → None ≡ month_move n k) → neg_ℤ (pos 2_147_483_648) ≡ months_later_entry k n
unfolding months_later_entry
months-none k n false b e from past = ap (λ o. number_entry (option_and_then (λ d. month_move d k) o)) (no_date n from)
months-none k n true false e from past =
    ap number_entry (past (is_date-fact n (sym from)) refl)
    ∙ ap (λ o. number_entry (option_and_then (λ d. month_move d k) o)) (sym (date_of_day-Some n (is_date-fact n (sym from))))
months-none k n true true e from past = absurd (false≢true (sym e))
