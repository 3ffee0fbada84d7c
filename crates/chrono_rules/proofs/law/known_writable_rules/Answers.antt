use Rattle.std.proofs.Common.{pos, ◌≤ℤ◌, arith, refl, subst, sym}
use Rattle.std.proofs.lemmas.Bool.{false≢true}
use Rattle.chrono_datetime.specs.Days.{date_of_ymd, days_before_year, days_of_months_in, days_of_years}
use Rattle.chrono_datetime.proofs.NamedDates.{date_of_ymd-name}
use Rattle.chrono_datetime.proofs.Signed.{signed}
use Rattle.chrono_rules.specs.ByParts.{has_numbers}
use Rattle.chrono_rules.specs.RuleTexts.{has_month_days, has_year_parts}
use Rattle.chrono_rules.proofs.law.known_writable_rules.Goals as goal

pub returns-clause-greatest : goal.returns-clause-greatest
unfolding has_month_days has_year_parts has_numbers
returns-clause-greatest c = record {
  interval = (omega arith, omega arith);
  end = omega arith;
  months = refl;
  month_days = refl;
  month_days_from_end = refl;
  weekdays = refl;
  numbered_weekdays = refl;
  numbered_weekdays_from_end = refl;
  year_days = refl;
  year_days_from_end = refl;
  weeks = refl;
  weeks_from_end = refl;
  positions = refl;
  positions_from_end = refl;
  fitting = refl;
}

pub returns-clause-monday_53 : goal.returns-clause-monday_53
unfolding has_month_days has_year_parts has_numbers
returns-clause-monday_53 c = record {
  interval = (omega arith, omega arith);
  end = tt;
  months = refl;
  month_days = refl;
  month_days_from_end = refl;
  weekdays = refl;
  numbered_weekdays = refl;
  numbered_weekdays_from_end = refl;
  year_days = refl;
  year_days_from_end = refl;
  weeks = refl;
  weeks_from_end = refl;
  positions = refl;
  positions_from_end = refl;
  fitting = refl;
}

pub returns-clause-interval_0 : goal.returns-clause-interval_0
returns-clause-interval_0 c = λ is. omega (arith, is.interval.0)

pub returns-clause-month_0 : goal.returns-clause-month_0
returns-clause-month_0 c = λ is. false≢true is.months

pub returns-clause-month_13 : goal.returns-clause-month_13
returns-clause-month_13 c = λ is. false≢true is.months

pub returns-clause-eighth_weekday : goal.returns-clause-eighth_weekday
returns-clause-eighth_weekday c = λ is. false≢true is.weekdays

pub returns-clause-year_10000 : goal.returns-clause-year_10000
unfolding date_of_ymd days_before_year days_of_years days_of_months_in
returns-clause-year_10000 c = λ is.
    let late : pos 10_000 ≤ℤ pos 9_999 = subst (λ y. y ≤ℤ pos 9_999) (sym (date_of_ymd-name (pos 3_652_060) (pos 10_000) 1 1 refl).0) is.end.1 in
    omega (arith, signed, late)
