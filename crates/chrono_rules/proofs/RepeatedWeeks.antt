-- A rule by days or weeks that names days by their weekdays alone repeats after seven days for each period that INTERVAL counts.
use Rattle.std.proofs.Common.{◌≡◌, ℕ, ◌*◌, Bool, true, false, refl, subst, sym, ap, ◌∙◌, arith, ℤ, pos, ◌+ℤ◌}
use Rattle.chrono_datetime.specs.Days.{day_of, month_of, ordinal_of, year_of}
use Rattle.chrono_datetime.specs.MonthMoves.{month_length_of}
use Rattle.chrono_datetime.specs.Years.{year_length}
use Rattle.chrono_datetime.specs.Weekday.{days_since}
use Rattle.chrono_datetime.specs.Weeks.{weekday_of}
use Rattle.chrono_datetime.specs.declared.Weekday.{Weekday}
use Rattle.chrono_datetime.proofs.Signed.{signed}
use Rattle.chrono_datetime.proofs.WeekDays.{weekday_of-weeks}
use Rattle.chrono_rules.specs.ByParts.{fills_day, fills_month, has_numbers, in_week, passes}
use Rattle.chrono_rules.specs.Periods.{period_end, period_first, period_of}
use Rattle.chrono_rules.specs.RuleCycles.{RepeatsAfter}
use Rattle.chrono_rules.specs.RuleParts.{lacks_month_days, lacks_months, lacks_weeks, lacks_year_days}
use Rattle.chrono_rules.specs.declared.rule.Frequency.{Frequency}
use Rattle.chrono_rules.specs.declared.rule.Frequency.TheVariants.{Daily, Weekly}
use Rattle.chrono_rules.specs.declared.rule.Rule.{Rule}
use Rattle.chrono_rules.proofs.Repeated.{in_interval-again, passes-is, passes_at, step_of, step_of-some}

-- what the frequency fills in is a weekday, and weeks later its periods lie as they do here: `often` of them in seven days
pub record GoesByWeeks (f : Frequency) (often : ℕ) : Type 0 where
  pub numbers : has_numbers f ≡ false
  pub day : (r : Rule) → fills_day f r ≡ false
  pub month : (r : Rule) → fills_month f r ≡ false
  pub period : (w : Weekday) (n m : ℤ) (s : ℕ) → m ≡ n +ℤ pos (7 * s) → period_of f w m ≡ period_of f w n +ℤ pos (often * s)
  pub first : (w : Weekday) (n m : ℤ) (s : ℕ) → m ≡ n +ℤ pos (7 * s) → period_first f w m ≡ period_first f w n +ℤ pos (7 * s)
  pub end : (w : Weekday) (n m : ℤ) (s : ℕ) → m ≡ n +ℤ pos (7 * s) → period_end f w m ≡ period_end f w n +ℤ pos (7 * s)

pub daily_weeks : GoesByWeeks Daily 7
unfolding has_numbers fills_day fills_month period_of period_first period_end
daily_weeks = record {
  numbers = refl;
  day = λ r. refl;
  month = λ r. refl;
  period = λ w n m s e. e;
  first = λ w n m s e. e;
  end = λ w n m s e. omega (arith, signed, e);
}

same_weekday : (w : Weekday) (n m : ℤ) (s : ℕ) → m ≡ n +ℤ pos (7 * s) → days_since (weekday_of m) w ≡ days_since (weekday_of n) w
same_weekday w n m s e = ap (λ (x : Weekday). days_since x w) (weekday_of-weeks n m s e)

pub weekly_weeks : GoesByWeeks Weekly 1
unfolding has_numbers fills_day fills_month period_of period_first period_end
weekly_weeks = record {
  numbers = refl;
  day = λ r. refl;
  month = λ r. refl;
  period = λ w n m s e. omega (arith, signed, e, same_weekday w n m s e);
  first = λ w n m s e. omega (arith, signed, e, same_weekday w n m s e);
  end = λ w n m s e. omega (arith, signed, e, same_weekday w n m s e);
}

-- the parts of the rule ask the weekday of a day alone
record AsksWeekdays (r : Rule) : Type 0 where
  numbers : has_numbers r.frequency ≡ false
  day : fills_day r.frequency r ≡ false
  month : fills_month r.frequency r ≡ false
  months : lacks_months r ≡ true
  month_days : lacks_month_days r ≡ true
  year_days : lacks_year_days r ≡ true
  weeks : lacks_weeks r ≡ true

passes_at-weekday : (r : Rule) (start : ℤ) (w v : Weekday) (m n d e l k o p y z : ℕ) (a b : Bool) → AsksWeekdays r → w ≡ v → passes_at r start w m d l o y a ≡ passes_at r start v n e k p z b
passes_at-weekday r start w v m n d e l k o p y z a b asks same = rw (same, asks.numbers, asks.day, asks.month, asks.months, asks.month_days, asks.year_days, asks.weeks) refl

passes-weekday : (r : Rule) (start n m : ℤ) → AsksWeekdays r → weekday_of m ≡ weekday_of n → passes r start m ≡ passes r start n
passes-weekday r start n m asks same =
    passes-is r start m
    ∙ (passes_at-weekday r start (weekday_of m) (weekday_of n) (month_of m) (month_of n) (day_of m) (day_of n) (month_length_of m) (month_length_of n) (ordinal_of m) (ordinal_of n) (year_length (year_of m)) (year_length (year_of n)) (in_week r m) (in_week r n) asks same
    ∙ sym (passes-is r start n))

pub weeks-repeat : (r : Rule) (f : Frequency) (often : ℕ) → r.frequency ≡ f → GoesByWeeks f often → lacks_months r ≡ true → lacks_month_days r ≡ true → lacks_year_days r ≡ true → lacks_weeks r ≡ true → RepeatsAfter r (pos (7 * step_of r))
weeks-repeat r f often is goes months month_days year_days weeks =
    let at : GoesByWeeks r.frequency often = subst (λ g. GoesByWeeks g often) (sym is) goes in
    let asks : AsksWeekdays r = record { numbers = at.numbers; day = at.day r; month = at.month r; months = months; month_days = month_days; year_days = year_days; weeks = weeks } in record {
      later = omega (arith, signed, step_of-some r.interval);
      passing = λ start n m e. passes-weekday r start n m asks (weekday_of-weeks n m (step_of r) e);
      counting = λ start n m e. in_interval-again r often start n m (at.period r.week_start n m (step_of r) e);
      firsts = λ n m e. at.first r.week_start n m (step_of r) e;
      ends = λ n m e. at.end r.week_start n m (step_of r) e;
    }
