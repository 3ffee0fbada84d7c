use Rattle.std.proofs.Common.{◌≡◌, ℕ, codes, inl, inr, pos, refl, sym, ap, subst, nat_lt, ◌≤◌, ◌∙◌, arith}
use Rattle.chrono_calendar.specs.Flags.{weeks_of_iso_year}
use Rattle.chrono_reading.specs.Fitting.{fitting, leading_digits, year_form}
use Rattle.std.specs.Int.{IsInRange}
use Rattle.std.specs.Prelude.{IsSome, None, ℤ, if◌then◌else◌}
use Rattle.chrono_text.proofs.DigitLemmas.{by_size}
use Rattle.chrono_reading.specs.declared.error.ReadCause.TheVariants.{DateOutOfRange, WeekAbove}
use Rattle.chrono_reading.proofs.NearMisses.{no_date_parts}
use Rattle.chrono_reading.specs.DateErrors.{error_at, calendar_error, ordinal_error, week_error}
use Rattle.chrono_reading.proofs.law.known_errors_of_dates.Goals as goal

pub returns-clause-day : goal.returns-clause-day
unfolding calendar_error year_form leading_digits fitting
returns-clause-day c = inr (
  codes "2023",
  2,
  29,
  record { year_is = record { fits_front = refl; ends = refl }; small = (omega arith, omega arith); written = refl },
  inr (pos 2023, (omega arith, omega arith), refl, refl),
)

pub returns-clause-month : goal.returns-clause-month
unfolding calendar_error year_form leading_digits fitting
returns-clause-month c = inr (
  codes "2024",
  13,
  1,
  record { year_is = record { fits_front = refl; ends = refl }; small = (omega arith, omega arith); written = refl },
  inr (pos 2024, (omega arith, omega arith), refl, refl),
)

pub returns-clause-ordinal : goal.returns-clause-ordinal
unfolding ordinal_error year_form leading_digits fitting
returns-clause-ordinal c = inr (
  codes "2023",
  366,
  record { year_is = record { fits_front = refl; ends = refl }; small = omega arith; written = refl },
  inr (pos 2023, (omega arith, omega arith), refl, refl),
)

pub returns-clause-one_digit : goal.returns-clause-one_digit
unfolding year_form leading_digits fitting
returns-clause-one_digit c = inl (no_date_parts, refl)

-- an ISO year with no week 53 has 52
fewer_weeks : (weeks : ℕ) → IsInRange 52 53 weeks → (53 ≤ weeks → ⊥) → weeks ≡ 52
fewer_weeks weeks range none = by_size 53 weeks (λ less. omega (arith, range.0)) (λ more. absurd (none more))

none_is_some : IsSome {T = ℤ} None → ⊥
none_is_some is = cc

pub returns-clause-week_53 : goal.returns-clause-week_53
unfolding week_error year_form leading_digits fitting
returns-clause-week_53 c =
    let date = c.from_isoywd_opt-date.ensures in
    let weeks = fewer_weeks (weeks_of_iso_year (pos 2021)) date.weeks (λ more. none_is_some (subst IsSome (date.date ∙ c.known_weeks.ensures.no_week_53) (date.inside (omega arith) (omega arith) (omega arith, more)))) in
    inr (
      codes "2021",
      53,
      1,
      record { year_is = record { fits_front = refl; ends = refl }; small = (omega arith, omega arith); written = refl },
      inr (pos 2021, (omega arith, omega arith), refl, ap (λ w. if nat_lt w 53 then error_at (WeekAbove w) 6 else error_at DateOutOfRange 0) (sym weeks)),
    )
