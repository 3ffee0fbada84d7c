-- The days of a rule repeat after 400 years for each period that INTERVAL counts.
use Rattle.std.proofs.Common.{◌≡◌, ◌==◌, ℕ, zero, suc, ◌+◌, ◌-◌, ◌*◌, ◌/◌, ◌%◌, ◌<◌, Bool, true, false, cond, ◌&&◌, ◌||◌, not, refl, sym, ap, ◌∙◌, subst, arith, ℤ, pos, ◌+ℤ◌, ◌-ℤ◌, ◌≤ℤ◌, ◌<ℤ◌, int_le, unsigned_abs}
use Rattle.std.specs.Int.{IsGcd, int_rem_euclid}
use Rattle.std.proofs.lemmas.Int.{by_lt_z, int_rem_euclid_is}
use Rattle.std.proofs.lemmas.Bool.Decides.{nat_tests}
use Rattle.std.proofs.Math.Nat.{add-mul-mod_self_right}
use Rattle.std.proofs.lemmas.Nat.{div-add-mod'}
use Rattle.std.proofs.lemmas.Nat.Gcd.{mod-eq-zero_of_dvd}
use Rattle.std.proofs.lemmas.Bool.{and_right}
use Rattle.chrono_datetime.specs.Days.{IsDate, day_of, month_of, ordinal_of, year_of}
use Rattle.chrono_datetime.specs.MonthMoves.{month_length_of}
use Rattle.chrono_datetime.specs.Recurrence.{count_between, first_date, past_last_date}
use Rattle.chrono_datetime.specs.Years.{is_leap_year, year_length}
use Rattle.chrono_datetime.specs.Weekday.{days_from_monday, days_since}
use Rattle.chrono_datetime.specs.Weeks.{week_first_of, weekday_of}
use Rattle.chrono_datetime.specs.declared.Weekday.{Weekday}
use Rattle.chrono_datetime.proofs.CountBetween.{count_between-empty, count_between-first, count_between-sum}
use Rattle.chrono_datetime.proofs.CountWhere.{one_if}
use Rattle.chrono_datetime.proofs.Cycles.{calendar_name-again, ordinal_name-again, year_length-again}
use Rattle.chrono_datetime.proofs.MonthLengths.{month_length_in-bounds}
use Rattle.chrono_datetime.proofs.MonthDays.{day_of-bounds}
use Rattle.chrono_datetime.proofs.Signed.{signed}
use Rattle.chrono_datetime.proofs.WeekDays.{week_first_of-place, weekday_of-weeks}
use Rattle.chrono_rules.specs.ByParts.{counts_in_month, date_passes, fills_day, fills_month, fills_weekday, in_week, names_weekday, on_month_day, on_weekday, on_year_day, passes}
use Rattle.chrono_sets.specs.FiniteSets.{has}
use Rattle.chrono_rules.specs.Instances.{in_interval, in_positions, is_counted, is_member, not_after}
use Rattle.chrono_rules.specs.RuleParts.{lacks_month_days, lacks_months, lacks_weekdays, lacks_weeks, lacks_year_days}
use Rattle.chrono_rules.specs.Periods.{period_end, period_first, period_of}
use Rattle.chrono_rules.specs.RuleCycles.{RepeatsAfter, periods_of_400_years}
use Rattle.chrono_rules.specs.InstanceWalks.{may_follow}
use Rattle.chrono_rules.specs.declared.rule.End.{End}
use Rattle.chrono_rules.specs.declared.rule.End.TheVariants.{Count, Never, Until}
use Rattle.chrono_rules.specs.declared.rule.Frequency.{Frequency}
use Rattle.chrono_rules.specs.declared.rule.Frequency.TheVariants.{Daily, Monthly, Weekly, Yearly}
use Rattle.chrono_rules.specs.declared.rule.Rule.{Rule}
use Rattle.chrono_rules.proofs.Intervals.{many}
use Rattle.chrono_rules.proofs.PlacesInPeriods.{date_passes-is, from_period, to_period}
use Rattle.chrono_datetime.proofs.MonthPlaces.{not_longer}
use Rattle.chrono_datetime.proofs.Names.{ordinal_name_of-number, year_length_bounds}

-- ---- what the calendar says of a day, and of one that is whole cycles later

pub record IsAlike (n m : ℤ) (k : ℕ) : Type 0 where
  pub weekday : weekday_of m ≡ weekday_of n
  pub year : year_of m ≡ year_of n +ℤ pos (400 * k)
  pub month : month_of m ≡ month_of n
  pub day : day_of m ≡ day_of n
  pub ordinal : ordinal_of m ≡ ordinal_of n
  pub month_length : month_length_of m ≡ month_length_of n
  pub year_length : year_length (year_of m) ≡ year_length (year_of n)

one_cycle : (n m : ℤ) → m ≡ n +ℤ pos 146_097 → IsAlike n m 1
one_cycle n m e =
    let name = calendar_name-again n m e in
    let again = ordinal_name-again n m e in
    let later : (k : ℕ) → day_of (m +ℤ pos k) ≡ day_of (n +ℤ pos k) = λ k. (calendar_name-again (n +ℤ pos k) (m +ℤ pos k) (omega (arith, signed, e))).1 in record {
      weekday = weekday_of-weeks n m 20_871 e;
      year = again.0;
      month = name.0;
      day = name.1;
      ordinal = again.1;
      month_length = omega (arith, not_longer n m name.1 later, not_longer m n (sym name.1) (λ k. sym (later k)));
      year_length = year_length-again (year_of n) (year_of m) again.0;
    }

pub alike : (n m : ℤ) (k : ℕ) → m ≡ n +ℤ pos (146_097 * k) → IsAlike n m k
alike n m zero e =
    let same : m ≡ n = omega (arith, signed, e) in record {
      weekday = ap weekday_of same;
      year = omega (arith, signed, ap year_of same);
      month = ap month_of same;
      day = ap day_of same;
      ordinal = ap ordinal_of same;
      month_length = ap (λ (d : ℤ). month_length_of d) same;
      year_length = ap (λ (d : ℤ). year_length (year_of d)) same;
    }
alike n m (suc k) e =
    let l : ℤ = n +ℤ pos (146_097 * k) in
    let up = alike n l k refl in
    let one = one_cycle l m (omega (arith, signed, e)) in record {
      weekday = one.weekday ∙ up.weekday;
      year = omega (arith, signed, one.year, up.year);
      month = one.month ∙ up.month;
      day = one.day ∙ up.day;
      ordinal = one.ordinal ∙ up.ordinal;
      month_length = one.month_length ∙ up.month_length;
      year_length = one.year_length ∙ up.year_length;
    }

-- ---- the parts of a rule

week_at : Rule → ℕ → ℕ → Bool
week_at r ordinal year = has r.weeks (1 + (ordinal - 1) / 7) || has r.weeks_from_end (1 + (year - ordinal) / 7)

in_week-is : (r : Rule) (n f : ℤ) → f ≡ week_first_of n r.week_start +ℤ pos 3 → in_week r n ≡ week_at r (ordinal_of f) (year_length (year_of f))
unfolding in_week week_at
in_week-is r n f e = ap (λ (f : ℤ). week_at r (ordinal_of f) (year_length (year_of f))) (sym e)

week_at-same : (r : Rule) (o p y z : ℕ) → o ≡ p → y ≡ z → week_at r o y ≡ week_at r p z
week_at-same r o p y z os ys = ap (λ o. week_at r o y) os ∙ ap (week_at r p) ys

in_week-again : (r : Rule) (n m : ℤ) (k : ℕ) → m ≡ n +ℤ pos (146_097 * k) → in_week r m ≡ in_week r n
in_week-again r n m k e =
    let f : ℤ = week_first_of n r.week_start +ℤ pos 3 in
    let g : ℤ = week_first_of m r.week_start +ℤ pos 3 in
    let weekday = (alike n m k e).weekday in
    let same = ap (λ (x : Weekday). days_since x r.week_start) weekday in
    let is = alike f g k (omega (arith, signed, e, same)) in
    in_week-is r m g refl ∙ (week_at-same r (ordinal_of g) (ordinal_of f) (year_length (year_of g)) (year_length (year_of f)) is.ordinal is.year_length ∙ sym (in_week-is r n f refl))

abbrev pub passes_at : Rule → ℤ → Weekday → ℕ → ℕ → ℕ → ℕ → ℕ → Bool → Bool
passes_at r start weekday month day length ordinal year week =
    ((not (fills_weekday r.frequency r) || (days_from_monday weekday == days_from_monday (weekday_of start)))
    && ((not (fills_day r.frequency r) || (day == day_of start)) && (not (fills_month r.frequency r) || (month == month_of start))))
    && ((lacks_months r || has r.months month)
    && ((lacks_month_days r || (has r.month_days day || has r.month_days_from_end ((length - day) + 1)))
    && ((lacks_weekdays r || names_weekday r (days_from_monday weekday) (cond (counts_in_month r.frequency r) day ordinal) (cond (counts_in_month r.frequency r) (length - day) (year - ordinal)))
    && ((lacks_year_days r || (has r.year_days ordinal || has r.year_days_from_end ((year - ordinal) + 1))) && (lacks_weeks r || week)))))

pub passes-is : (r : Rule) (start n : ℤ) → passes r start n ≡ passes_at r start (weekday_of n) (month_of n) (day_of n) (month_length_of n) (ordinal_of n) (year_length (year_of n)) (in_week r n)
unfolding passes on_month_day on_weekday on_year_day
passes-is r start n = refl

passes_at-same : (r : Rule) (start : ℤ) (w v : Weekday) (m n d e l k o p y z : ℕ) (a b : Bool) → w ≡ v → m ≡ n → d ≡ e → l ≡ k → o ≡ p → y ≡ z → a ≡ b → passes_at r start w m d l o y a ≡ passes_at r start v n e k p z b
passes_at-same r start w v m n d e l k o p y z a b ws ms ds ls os ys weeks = rw (ws, ms, ds, ls, os, ys, weeks) refl

pub passes-again : (r : Rule) (start n m : ℤ) (k : ℕ) → m ≡ n +ℤ pos (146_097 * k) → passes r start m ≡ passes r start n
passes-again r start n m k e =
    let is = alike n m k e in
    passes-is r start m
    ∙ (passes_at-same r start (weekday_of m) (weekday_of n) (month_of m) (month_of n) (day_of m) (day_of n) (month_length_of m) (month_length_of n) (ordinal_of m) (ordinal_of n) (year_length (year_of m)) (year_length (year_of n)) (in_week r m) (in_week r n)
    is.weekday is.month is.day is.month_length is.ordinal is.year_length (in_week-again r n m k e)
    ∙ sym (passes-is r start n))

-- ---- INTERVAL

period_of-again : (f : Frequency) (w : Weekday) (n m : ℤ) (k : ℕ) → m ≡ n +ℤ pos (146_097 * k) → period_of f w m ≡ period_of f w n +ℤ pos (periods_of_400_years f * k)
unfolding period_of periods_of_400_years
period_of-again Daily w n m k e = e
period_of-again Weekly w n m k e = omega (arith, signed, e, ap (λ (x : Weekday). days_since x w) (alike n m k e).weekday)
period_of-again Monthly w n m k e =
    let is = alike n m k e in
    omega (arith, signed, is.year, is.month)
period_of-again Yearly w n m k e = (alike n m k e).year

rem-again : (a b : ℤ) (n p : ℕ) → 0 < n → b ≡ a +ℤ pos (p * n) → unsigned_abs (int_rem_euclid b (pos n)) ≡ unsigned_abs (int_rem_euclid a (pos n))
rem-again a b n p some at =
    let k : ℕ = unsigned_abs a in
    let m : ℕ = unsigned_abs (a +ℤ pos (k * n)) in
    let up : a +ℤ pos (k * n) ≡ pos m = omega (arith, signed, many k n some) in
    let here : unsigned_abs (int_rem_euclid a (pos n)) ≡ m % n = ap unsigned_abs (int_rem_euclid_is a (pos n) n k m some refl up) in
    let there : unsigned_abs (int_rem_euclid b (pos n)) ≡ (m + p * n) % n = ap unsigned_abs (int_rem_euclid_is b (pos n) n k (m + p * n) some refl (omega (arith, signed, up, at))) in
    there ∙ (add-mul-mod_self_right m p n ∙ sym here)

-- how many periods lie from one that counts to the next
abbrev pub step_of : Rule → ℕ
step_of r = cond (r.interval == 0) 1 r.interval

pub step_of-some : (i : ℕ) → 0 < cond (i == 0) 1 i
step_of-some zero = omega arith
step_of-some (suc i) = grind arith

-- a whole number of intervals lies between
pub in_interval-again : (r : Rule) (p : ℕ) (start n m : ℤ) → period_of r.frequency r.week_start m ≡ period_of r.frequency r.week_start n +ℤ pos (p * step_of r) → in_interval r start m ≡ in_interval r start n
unfolding in_interval
in_interval-again r p start n m there =
    let a : ℤ = period_of r.frequency r.week_start n -ℤ period_of r.frequency r.week_start start in
    let b : ℤ = period_of r.frequency r.week_start m -ℤ period_of r.frequency r.week_start start in
    ap (λ x. x == 0) (rem-again a b (step_of r) p (step_of-some r.interval) (omega (arith, signed, there)))

-- ---- the periods

first-again : (f : Frequency) (w : Weekday) (n m : ℤ) (k : ℕ) → m ≡ n +ℤ pos (146_097 * k) → period_first f w m ≡ period_first f w n +ℤ pos (146_097 * k)
unfolding period_first
first-again Daily w n m k e = e
first-again Weekly w n m k e = omega (arith, signed, e, ap (λ (x : Weekday). days_since x w) (alike n m k e).weekday)
first-again Monthly w n m k e = omega (arith, signed, e, (alike n m k e).day)
first-again Yearly w n m k e = omega (arith, signed, e, (alike n m k e).ordinal)

end-again : (f : Frequency) (w : Weekday) (n m : ℤ) (k : ℕ) → m ≡ n +ℤ pos (146_097 * k) → period_end f w m ≡ period_end f w n +ℤ pos (146_097 * k)
unfolding period_end
end-again Daily w n m k e = omega (arith, signed, e)
end-again Weekly w n m k e = omega (arith, signed, e, ap (λ (x : Weekday). days_since x w) (alike n m k e).weekday)
end-again Monthly w n m k e =
    let is = alike n m k e in
    omega (arith, signed, e, is.day, is.month_length)
end-again Yearly w n m k e =
    let is = alike n m k e in
    omega (arith, signed, e, is.ordinal, is.year_length)

-- no period is longer than a year of 366 days
first-near : (f : Frequency) (w : Weekday) (n : ℤ) → n ≤ℤ (period_first f w n +ℤ pos 366)
unfolding period_first
first-near Daily w n = omega (arith, signed)
first-near Weekly w n = omega (arith, signed, (week_first_of-place n (week_first_of n w) w refl).2)
first-near Monthly w n = omega (arith, signed, day_of-bounds n, month_length_in-bounds (is_leap_year (year_of n)) (month_of n))
first-near Yearly w n = omega (arith, signed, (ordinal_name_of-number n).exists, (year_length_bounds (year_of n)).1)

end-near : (f : Frequency) (w : Weekday) (n : ℤ) → period_end f w n ≤ℤ (n +ℤ pos 366)
unfolding period_end
end-near Daily w n = omega (arith, signed)
end-near Weekly w n = omega (arith, signed, (week_first_of-place n (week_first_of n w) w refl).1)
end-near Monthly w n = omega (arith, signed, day_of-bounds n, month_length_in-bounds (is_leap_year (year_of n)) (month_of n))
end-near Yearly w n = omega (arith, signed, (ordinal_name_of-number n).exists, (year_length_bounds (year_of n)).1)

-- a count of days that are so many days later
pub count-shifted : (p q : ℤ → Bool) (a c b d : ℤ) (s k : ℕ) → c ≡ a +ℤ pos k → b ≡ a +ℤ pos s → d ≡ c +ℤ pos s → ((e f : ℤ) → a ≤ℤ e → e <ℤ c → f ≡ e +ℤ pos s → q f ≡ p e) → count_between q b d ≡ count_between p a c
count-shifted p q a c b d s zero at first last same =
    omega (arith, count_between-empty q b d (omega (arith, signed, at, first, last)), count_between-empty p a c (omega (arith, signed, at)))
count-shifted p q a c b d s (suc k) at first last same =
    let up = count-shifted p q (a +ℤ pos 1) c (b +ℤ pos 1) d s k (omega (arith, signed, at)) (omega (arith, signed, first)) last (λ e f low high is. same e f (omega (arith, signed, low)) high is) in
    let here = count_between-first p a (a +ℤ pos 1) c (omega (arith, signed, at)) refl in
    let there = count_between-first q b (b +ℤ pos 1) d (omega (arith, signed, at, first, last)) refl in
    let one = ap (λ t. one_if t) (same a b (omega (arith, signed)) (omega (arith, signed, at)) first) in
    omega (arith, up, here, there, one)

-- ---- after how many days a rule repeats

multiple : (p s g q k j : ℕ) → p ≡ q * g → s ≡ j * g → k ≡ j → p * k ≡ q * s
multiple p s g q k j p-is s-is k-is = rw (p-is, s-is, k-is) (omega arith)

rounds-some : (s g k : ℕ) → 0 < s → s ≡ k * g → 0 < k
rounds-some s g zero some is = absurd (omega (arith, some, is))
rounds-some s g (suc k) some is = omega arith

-- so many times 400 years, if a whole number of intervals lies there
pub rounds-repeat : (r : Rule) (s p g k : ℕ) → IsGcd s p g → k ≡ s / g → s ≡ step_of r → p ≡ periods_of_400_years r.frequency → RepeatsAfter r (pos (146_097 * k))
rounds-repeat r s p g k divides k-is s-is p-is =
    let f = r.frequency in
    let w = r.week_start in
    let step : s ≡ s / g * g = omega (arith, div-add-mod' s g, mod-eq-zero_of_dvd g divides.0) in
    let periods : p ≡ p / g * g = omega (arith, div-add-mod' p g, mod-eq-zero_of_dvd g divides.1) in
    let some = rounds-some s g k (omega (arith, s-is, step_of-some r.interval)) (rw k-is step) in
    let whole = multiple p s g (p / g) k (s / g) periods step k-is in
    let even : periods_of_400_years f * k ≡ p / g * step_of r = rw (sym p-is, sym s-is) whole in record {
      later = omega (arith, signed, some);
      passing = λ start n m e. passes-again r start n m k e;
      counting = λ start n m e. in_interval-again r (p / g) start n m (omega (arith, signed, period_of-again f w n m k e, even));
      firsts = λ n m e. first-again f w n m k e;
      ends = λ n m e. end-again f w n m k e;
    }

-- ---- BYSETPOS

-- of the days from which a whole year lies before the calendar's ends
date_passes-again : (r : Rule) (days : ℤ) → RepeatsAfter r days → (start e f : ℤ) → f ≡ e +ℤ days → first_date ≤ℤ e → f <ℤ past_last_date → date_passes r start f ≡ date_passes r start e
date_passes-again r days again start e f at low high =
    let later = again.later in
    date_passes-is r start f (omega (arith, signed, at, low, later), omega (arith, signed, high))
    ∙ (again.passing start e f at
    ∙ sym (date_passes-is r start e (omega (arith, signed, low), omega (arith, signed, at, high, later))))

in_positions-again : (r : Rule) (days : ℤ) → RepeatsAfter r days → (start n m : ℤ) → m ≡ n +ℤ days → (first_date +ℤ pos 366) ≤ℤ n → (m +ℤ pos 366) ≤ℤ past_last_date → in_positions r start m ≡ in_positions r start n
unfolding in_positions
in_positions-again r days again start n m e low high =
    let p = date_passes r start in
    let f = r.frequency in
    let w = r.week_start in
    let s : ℕ = unsigned_abs days in
    let later = again.later in
    let is : days ≡ pos s = omega (arith, signed, later) in
    let first = period_first f w n in
    let end = period_end f w n in
    let near = first-near f w n in
    let firsts = again.firsts n m e in
    let ends = again.ends n m e in
    let front : count_between p (period_first f w m) (m +ℤ pos 1) ≡ count_between p first (n +ℤ pos 1) =
    count-shifted p p first (n +ℤ pos 1) (period_first f w m) (m +ℤ pos 1) s (unsigned_abs ((n +ℤ pos 1) -ℤ first))
    (omega (arith, signed, from_period f w n)) (omega (arith, signed, firsts, is)) (omega (arith, signed, e, is))
    (λ d g from to at. date_passes-again r days again start d g (omega (arith, signed, at, is)) (omega (arith, signed, from, near, low)) (omega (arith, signed, to, at, is, e, high))) in
    let back : count_between p m (period_end f w m) ≡ count_between p n end =
    count-shifted p p n end m (period_end f w m) s (unsigned_abs (end -ℤ n))
    (omega (arith, signed, to_period f w n)) (omega (arith, signed, e, is)) (omega (arith, signed, ends, is))
    (λ d g from to at. date_passes-again r days again start d g (omega (arith, signed, at, is)) (omega (arith, signed, from, low)) (omega (arith, signed, to, at, is, e, ends, end-near f w m, high))) in
    rw (front, back) refl

-- ---- the members

-- a day that UNTIL lets be lies before no other that it does not
pub not_after-earlier : (u : End) (n m : ℤ) → n ≤ℤ m → not_after u m ≡ true → not_after u n ≡ true
unfolding not_after
not_after-earlier Never n m le is = is
not_after-earlier (Count c) n m le is = is
not_after-earlier (Until u) n m le is = grind (arith, signed, le, is)

-- a day is a member if the one a cycle later is
pub member-again : (r : Rule) (days : ℤ) → RepeatsAfter r days → (start n m : ℤ) → m ≡ n +ℤ days → start ≤ℤ n → (first_date +ℤ pos 366) ≤ℤ n → (m +ℤ pos 366) ≤ℤ past_last_date → not_after r.end m ≡ true → is_member r start m ≡ is_member r start n
unfolding is_member
member-again r days again start n m e from low high until =
    let later = again.later in
    let here : int_le start n ≡ true = grind (arith, signed, from) in
    let there : int_le start m ≡ true = grind (arith, signed, from, e, later) in
    rw (here, there, until, not_after-earlier r.end n m (omega (arith, signed, e, later)) until, again.counting start n m e, again.passing start n m e, in_positions-again r days again start n m e low high) refl

-- a day that UNTIL does not let be is no member
pub until_none : (r : Rule) (start d : ℤ) → not_after r.end d ≡ false → is_member r start d ≡ false
unfolding is_member
until_none r start d past = and_right (int_le start d) _ (rw past refl)

-- where a day is none, so is the one that lies a cycle later
none-again : (r : Rule) (days : ℤ) → RepeatsAfter r days → (start n m : ℤ) (b : Bool) → not_after r.end m ≡ b → m ≡ n +ℤ days → start ≤ℤ n → (first_date +ℤ pos 366) ≤ℤ n → (m +ℤ pos 366) ≤ℤ past_last_date → is_member r start n ≡ false → is_member r start m ≡ false
none-again r days again start n m true until e from low high none = member-again r days again start n m e from low high until ∙ none
none-again r days again start n m false until e from low high none = until_none r start m until

-- where no day of a cycle is a member, no later one is, but for the calendar's last year
none_later : (r : Rule) (days : ℤ) → RepeatsAfter r days → (start from : ℤ) (k : ℕ) (d : ℤ) → start ≤ℤ from → (first_date +ℤ pos 366) ≤ℤ from → ((e : ℤ) → from ≤ℤ e → e <ℤ (from +ℤ days) → is_member r start e ≡ false) → from ≤ℤ d → d <ℤ ((from +ℤ days) +ℤ pos k) → (d +ℤ pos 366) ≤ℤ past_last_date → is_member r start d ≡ false
none_later r days again start from zero d begun low none le less high = none d le (omega (arith, signed, less))
none_later r days again start from (suc k) d begun low none le less high =
    by_lt_z d (from +ℤ days)
    (λ lt. none d le lt)
    (λ ge.
    let e : ℤ = d -ℤ days in
    let later = again.later in
    none-again r days again start e d (not_after r.end d) refl (omega (arith, signed)) (omega (arith, signed, begun, ge)) (omega (arith, signed, low, ge)) high
    (none_later r days again start from k e begun low none (omega (arith, signed, ge)) (omega (arith, signed, less, later)) (omega (arith, signed, high, later))))

none_from : (r : Rule) (days : ℤ) → RepeatsAfter r days → (start from d : ℤ) → start ≤ℤ from → (first_date +ℤ pos 366) ≤ℤ from → ((e : ℤ) → from ≤ℤ e → e <ℤ (from +ℤ days) → is_member r start e ≡ false) → from ≤ℤ d → (d +ℤ pos 366) ≤ℤ past_last_date → is_member r start d ≡ false
none_from r days again start from d begun low none le high =
    let later = again.later in
    none_later r days again start from (unsigned_abs (d -ℤ from)) d begun low none le (omega (arith, signed, le, later)) high

-- where no day of a cycle is a member, no earlier one is, but for a year from the start on
none_earlier : (r : Rule) (days : ℤ) → RepeatsAfter r days → (start to : ℤ) (k : ℕ) (d : ℤ) → (to +ℤ pos 366) ≤ℤ past_last_date → ((e : ℤ) → e <ℤ to → not_after r.end e ≡ true) → ((e : ℤ) → (to -ℤ days) ≤ℤ e → e <ℤ to → is_member r start e ≡ false) → d <ℤ to → ((to -ℤ days) -ℤ pos k) ≤ℤ d → start ≤ℤ d → (first_date +ℤ pos 366) ≤ℤ d → is_member r start d ≡ false
none_earlier r days again start to zero d high until none less le begun low = none d (omega (arith, signed, le)) less
none_earlier r days again start to (suc k) d high until none less le begun low =
    by_lt_z d (to -ℤ days)
    (λ lt.
    let e : ℤ = d +ℤ days in
    let later = again.later in
    sym (member-again r days again start d e refl begun low (omega (arith, signed, lt, high)) (until e (omega (arith, signed, lt))))
    ∙ none_earlier r days again start to k e high until none (omega (arith, signed, lt)) (omega (arith, signed, le, later)) (omega (arith, signed, begun, later)) (omega (arith, signed, low, later)))
    (λ ge. none d ge less)

none_up_to : (r : Rule) (days : ℤ) → RepeatsAfter r days → (start to d : ℤ) → (to +ℤ pos 366) ≤ℤ past_last_date → ((e : ℤ) → e <ℤ to → not_after r.end e ≡ true) → ((e : ℤ) → (to -ℤ days) ≤ℤ e → e <ℤ to → is_member r start e ≡ false) → d <ℤ to → start ≤ℤ d → (first_date +ℤ pos 366) ≤ℤ d → is_member r start d ≡ false
none_up_to r days again start to d high until none less begun low =
    let later = again.later in
    none_earlier r days again start to (unsigned_abs (to -ℤ d)) d high until none less (omega (arith, signed, less, later)) begun low

-- what a search of a cycle leaves to look at: the calendar's last year, and the first from the start on
pub none_far : (r : Rule) (start date from near d : ℤ) → RepeatsAfter r ((near -ℤ from) -ℤ pos 366) → start ≤ℤ from → date ≤ℤ from → IsDate from → IsDate date → (near +ℤ pos 366) ≤ℤ past_last_date → ((e : ℤ) → date ≤ℤ e → e <ℤ near → IsDate e → is_member r start e ≡ false) → date ≤ℤ d → (d +ℤ pos 366) ≤ℤ past_last_date → is_member r start d ≡ false
none_far r start date from near d again begun after from-date date-date past none low high =
    let later = again.later in
    by_lt_z d near
    (λ lt. none d low lt (omega (arith, signed, date-date.0, low), omega (arith, signed, lt, past)))
    (λ ge.
    none_from r ((near -ℤ from) -ℤ pos 366) again start (from +ℤ pos 366) d (omega (arith, signed, begun)) (omega (arith, signed, from-date.0))
    (λ e from-e less. none e (omega (arith, signed, from-e, after)) (omega (arith, signed, less)) (omega (arith, signed, from-date.0, from-e), omega (arith, signed, less, past)))
    (omega (arith, signed, ge, later)) high)

pub none_near : (r : Rule) (start floor top d : ℤ) → RepeatsAfter r ((top -ℤ floor) -ℤ pos 366) → IsDate start → IsDate top → ((e : ℤ) → floor ≤ℤ e → e <ℤ top → is_member r start e ≡ false) → ((e : ℤ) → e <ℤ top → not_after r.end e ≡ true) → (start +ℤ pos 366) ≤ℤ d → d <ℤ top → is_member r start d ≡ false
none_near r start floor top d again start-date top-date none until low less =
    let later = again.later in
    by_lt_z d floor
    (λ lt.
    none_up_to r ((top -ℤ floor) -ℤ pos 366) again start (top -ℤ pos 366) d (omega (arith, signed, top-date.1)) (λ e under. until e (omega (arith, signed, under)))
    (λ e from under. none e (omega (arith, signed, from)) (omega (arith, signed, under)))
    (omega (arith, signed, lt, later)) (omega (arith, signed, low)) (omega (arith, signed, low, start-date.0)))
    (λ ge. none d ge less)

-- a cycle later there are as many members
count-again : (r : Rule) (days : ℤ) → RepeatsAfter r days → (start a c b d : ℤ) → a ≤ℤ c → b ≡ a +ℤ days → d ≡ c +ℤ days → start ≤ℤ a → (first_date +ℤ pos 366) ≤ℤ a → (d +ℤ pos 366) ≤ℤ past_last_date → ((e : ℤ) → e <ℤ d → not_after r.end e ≡ true) → count_between (is_member r start) b d ≡ count_between (is_member r start) a c
count-again r days again start a c b d le first last begun low high until =
    let later = again.later in
    let s : ℕ = unsigned_abs days in
    let is : days ≡ pos s = omega (arith, signed, later) in
    count-shifted (is_member r start) (is_member r start) a c b d s (unsigned_abs (c -ℤ a)) (omega (arith, signed, le)) (omega (arith, signed, first, is)) (omega (arith, signed, last, is))
    (λ e f from to at. member-again r days again start e f (omega (arith, signed, at, is)) (omega (arith, signed, begun, from)) (omega (arith, signed, low, from)) (omega (arith, signed, at, to, last, high, is)) (until f (omega (arith, signed, at, to, last, is))))

-- so many cycles later there are as many members in a cycle, and all that lie between come before
cycles_up : (r : Rule) (start base from last : ℤ) (s k : ℕ) (before to : ℤ) → RepeatsAfter r (pos s) → from ≡ base +ℤ pos s → before ≡ base +ℤ pos (k * s) → to ≡ from +ℤ pos (k * s) → to ≤ℤ last → start ≤ℤ base → (first_date +ℤ pos 366) ≤ℤ base → (last +ℤ pos 366) ≤ℤ past_last_date → ((e : ℤ) → e <ℤ last → not_after r.end e ≡ true) → (count_between (is_member r start) start to ≡ count_between (is_member r start) start from + k * count_between (is_member r start) base from) × (count_between (is_member r start) before to ≡ count_between (is_member r start) base from)
cycles_up r start base from last s zero before to again cycle front at high begun low past until =
    let p = is_member r start in
    let first : before ≡ base = omega (arith, signed, front) in
    let second : to ≡ from = omega (arith, signed, at) in
    (omega (arith, ap (count_between p start) second), ap (λ d. count_between p d to) first ∙ ap (count_between p base) second)
cycles_up r start base from last s (suc k) before to again cycle front at high begun low past until =
    let p = is_member r start in
    let b : ℤ = base +ℤ pos (k * s) in
    let t : ℤ = from +ℤ pos (k * s) in
    let up = cycles_up r start base from last s k b t again cycle refl refl (omega (arith, signed, at, high)) begun low past until in
    let same : before ≡ t = omega (arith, signed, front, cycle) in
    let one = count-again r (pos s) again start b t before to (omega (arith, signed, cycle)) (omega (arith, signed, front)) (omega (arith, signed, at)) (omega (arith, signed, begun)) (omega (arith, signed, low)) (omega (arith, signed, high, past)) (λ e less. until e (omega (arith, signed, less, high))) in
    let sum = count_between-sum p start before to (omega (arith, signed, begun, front)) (omega (arith, signed, front, at, cycle)) in
    (omega (arith, sum, one, up.0, up.1, ap (count_between p start) same), one ∙ up.1)

pub cycles_more : (r : Rule) (start base from last : ℤ) (s k : ℕ) (to : ℤ) → RepeatsAfter r (from -ℤ base) → from ≡ base +ℤ pos s → to ≡ from +ℤ pos (k * s) → to ≤ℤ last → start ≤ℤ base → (first_date +ℤ pos 366) ≤ℤ base → (last +ℤ pos 366) ≤ℤ past_last_date → ((e : ℤ) → e <ℤ last → not_after r.end e ≡ true) → count_between (is_member r start) start to ≡ count_between (is_member r start) start from + k * count_between (is_member r start) base from
cycles_more r start base from last s k to again cycle at high begun low past until =
    let days : from -ℤ base ≡ pos s = omega (arith, signed, cycle) in
    (cycles_up r start base from last s k (base +ℤ pos (k * s)) to (subst (RepeatsAfter r) days again) cycle refl at high begun low past until).0

-- ---- days that UNTIL lets be

pub not_after-never : (f : End) (d : ℤ) → f ≡ Never → not_after f d ≡ true
unfolding not_after
not_after-never f d is = ap (λ f. not_after f d) is

pub not_after-count : (f : End) (c : ℕ) (d : ℤ) → f ≡ Count c → not_after f d ≡ true
unfolding not_after
not_after-count f c d is = ap (λ f. not_after f d) is

pub not_after-until : (f : End) (u d : ℤ) → f ≡ Until u → d ≤ℤ u → not_after f d ≡ true
unfolding not_after
not_after-until f u d is le =
    let may : int_le d u ≡ true = grind (arith, signed, le) in
    ap (λ f. not_after f d) is ∙ may

-- ---- COUNT=0

pub count_none : (f : End) (r : Rule) (start d : ℤ) → may_follow f 0 ≡ false → is_counted f r start d ≡ false
unfolding is_counted may_follow
count_none Never r start d full = full
count_none (Until u) r start d full = full
count_none (Count c) r start d full = grind (arith, nat_tests, full)
