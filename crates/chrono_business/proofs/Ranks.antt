-- The rank of a day, how many open days the dates before it have: its workdays less its holidays; and the open day of a rank.
use Rattle.std.proofs.Common.{◌≡◌, ℕ, zero, suc, ◌+◌, ◌-◌, ◌*◌, ◌/◌, ◌%◌, ◌<◌, ◌≤◌, Bool, true, false, not, ◌&&◌, length, Option, Some, None, IfSome, IfNone, refl, sym, ap, ◌∙◌, arith, ℤ, pos, ◌+ℤ◌, ◌-ℤ◌, ◌≤ℤ◌, ◌<ℤ◌, unsigned_abs}
use Rattle.std.specs.Prelude.{slice_index_or}
use Rattle.std.specs.List.{AllWithin}
use Rattle.std.specs.List.Sorted.{IsPartitionPoint}
use Rattle.std.proofs.Math.Nat.{div-add-mod, mul_comm}
use Rattle.std.proofs.lemmas.Bool.{false≢true, false_from_ne_true}
use Rattle.std.proofs.lemmas.Int.{by_lt_z}
use Rattle.chrono_datetime.specs.Days.{IsDate}
use Rattle.chrono_datetime.specs.Recurrence.{count_where, first_date, past_last_date}
use Rattle.chrono_datetime.proofs.Signed.{signed}
use Rattle.chrono_datetime.proofs.CountWhere.{count_where-next, count_where-no_days, count_where-sum, one_if}
use Rattle.chrono_datetime.proofs.CountBetween.{count_between-empty, count_between-le, count_between-next, count_between-sum, count_between-where}
use Rattle.chrono_business.specs.OpenDays.{AreHolidays, Closed, IsNthOpenBack, IsNthOpenFrom, is_holiday, is_open, is_workday, open_days, open_days_signed}
use Rattle.chrono_datetime.proofs.RisingLists.{in_order}
use Rattle.chrono_business.proofs.Early.{early, early-at, early-next, early-none, early-place, holiday_on_workday, one_if-true}
use Rattle.chrono_business.proofs.Workdays.{no_workdays, workday-weeks, workdays-weeks}

-- ---- counts between days

-- the days to a later day hold those to one between
pub open-rises : (c : Closed) (a b e : ℤ) → a ≤ℤ b → b ≤ℤ e → open_days c a b ≤ open_days c a e
open-rises c a b e ab be = omega (arith, count_between-sum (is_open c) a b e ab be)

-- an open day counts behind itself
pub open-behind : (c : Closed) (a b e : ℤ) → a ≤ℤ b → e ≡ b +ℤ pos 1 → is_open c b ≡ true → open_days c a e ≡ open_days c a b + 1
open-behind c a b e ab at is = omega (arith, count_between-next (is_open c) a b e ab at, one_if-true (is_open c b) is)

-- where none is counted each day is closed
pub closed-between : (c : Closed) (a b d : ℤ) → open_days c a b ≡ 0 → a ≤ℤ d → d <ℤ b → is_open c d ≡ false
closed-between c a b d none low high =
    false_from_ne_true (is_open c d) (λ is.
    let next : ℤ = d +ℤ pos 1 in
    omega (arith, none, open-behind c a d next low refl is, open-rises c a next b (omega (arith, signed, low)) (omega (arith, signed, high))))

-- ---- workdays less holidays

one_day : (w h : Bool) → (h ≡ true → w ≡ true) → one_if (w && not h) + one_if h ≡ one_if w
one_day true true f = refl
one_day true false f = refl
one_day false true f = absurd (false≢true (f refl))
one_day false false f = refl

open-early : (c : Closed) (k : ℕ) (n m : ℤ) → AreHolidays c.weekend c.holidays → m ≡ n +ℤ pos k → count_where (is_open c) k n + early c.holidays m ≡ count_where (is_workday c.weekend) k n + early c.holidays n
unfolding is_open
open-early c zero n m are e =
    let same : m ≡ n = omega (arith, signed, e) in
    omega (arith, ap (early c.holidays) same, count_where-no_days (is_open c) n, count_where-no_days (is_workday c.weekend) n)
open-early c (suc k) n m are e =
    let d : ℤ = n +ℤ pos k in
    let day = one_day (is_workday c.weekend d) (is_holiday c.holidays d) (holiday_on_workday c.weekend c.holidays d are.workdays) in
    omega (arith, open-early c k n d are refl, count_where-next (is_open c) k (suc k) n d (omega arith) refl, count_where-next (is_workday c.weekend) k (suc k) n d (omega arith) refl, early-next c.holidays d m are.rising (omega (arith, signed, e)), day)

-- the rank of the day k days behind the first date
pub rank-is : (c : Closed) (t : ℤ) (k : ℕ) → AreHolidays c.weekend c.holidays → t ≡ first_date +ℤ pos k → open_days c first_date t + early c.holidays t ≡ count_where (is_workday c.weekend) k first_date
rank-is c t k are e =
    let none = early-none c.holidays first_date (pos 0) (λ i within. (are.dates i (pos 0) within).0) in
    omega (arith, count_between-where (is_open c) first_date t k e, open-early c k first_date t are e, none)

-- with the place of t among the holidays
pub rank-at_place : (c : Closed) (t : ℤ) (k j : ℕ) → AreHolidays c.weekend c.holidays → t ≡ first_date +ℤ pos k → j ≤ length c.holidays → IsPartitionPoint (λ h. h <ℤ t) (λ h. t ≤ℤ h) c.holidays j → open_days c first_date t + j ≡ count_where (is_workday c.weekend) k first_date
rank-at_place c t k j are e bound place =
    omega (arith, rank-is c t k are e, early-place c.holidays t (pos 0) j bound (λ i low. place.0 i (pos 0) (omega arith) low) (λ i low within. place.1 i (pos 0) low within))

-- the rank of a holiday
pub rank-holiday : (c : Closed) (d : ℤ) (j k : ℕ) → AreHolidays c.weekend c.holidays → j < length c.holidays → slice_index_or c.holidays j d ≡ first_date +ℤ pos k → open_days c first_date (slice_index_or c.holidays j d) + j ≡ count_where (is_workday c.weekend) k first_date
rank-holiday c d j k are within e =
    omega (arith, rank-is c (slice_index_or c.holidays j d) k are e, early-at c.holidays d j are.rising within)

-- holidays rise by a day at least, so there are no more of them than dates
pub few_holidays : (c : Closed) (j : ℕ) → AreHolidays c.weekend c.holidays → j < length c.holidays → (first_date +ℤ pos j) ≤ℤ slice_index_or c.holidays j (pos 0)
few_holidays c zero are within = omega (arith, signed, (are.dates 0 (pos 0) within).0)
few_holidays c (suc j) are within =
    omega (arith, signed, few_holidays c j are (omega arith), are.rising j (suc j) (pos 0) (omega arith) within)

pub at_most_all_dates : (c : Closed) (j : ℕ) → AreHolidays c.weekend c.holidays → j ≤ length c.holidays → j ≤ 191_491_529
at_most_all_dates c zero are bound = omega arith
at_most_all_dates c (suc j) are bound =
    omega (arith, signed, few_holidays c j are (omega arith), (are.dates j (pos 0) (omega arith)).1)

-- a later holiday has no lower rank
pub rank-rises : (c : Closed) (d : ℤ) (i j : ℕ) → AreHolidays c.weekend c.holidays → i ≤ j → j < length c.holidays → open_days c first_date (slice_index_or c.holidays i d) ≤ open_days c first_date (slice_index_or c.holidays j d)
rank-rises c d i j are low within =
    open-rises c first_date (slice_index_or c.holidays i d) (slice_index_or c.holidays j d) (are.dates i d (omega arith)).0 (in_order c.holidays d j i are.rising (omega arith) within)

-- ---- the open day of a rank

-- j holidays have a rank of at most r, and the workday with r + j workdays before it is e
pub record IsPlaced (c : Closed) (r j k : ℕ) (e : ℤ) : Type 0 where
  pub bound : j ≤ length c.holidays
  pub behind : (i : ℕ) (d : ℤ) → i < j → open_days c first_date (slice_index_or c.holidays i d) ≤ r
  pub ahead : (i : ℕ) (d : ℤ) → j ≤ i → i < length c.holidays → r < open_days c first_date (slice_index_or c.holidays i d)
  pub at : e ≡ first_date +ℤ pos k
  pub workday : is_workday c.weekend e ≡ true
  pub count : count_where (is_workday c.weekend) k first_date ≡ r + j

workdays-rise : (c : Closed) (i k : ℕ) → i ≤ k → count_where (is_workday c.weekend) i first_date ≤ count_where (is_workday c.weekend) k first_date
workdays-rise c i k h =
    omega (arith, count_where-sum (is_workday c.weekend) i (k - i) k first_date (first_date +ℤ pos i) (omega arith) refl)

-- the j holidays come before e, and the others behind it
holiday_before : (c : Closed) (r j k : ℕ) (e : ℤ) → AreHolidays c.weekend c.holidays → IsPlaced c r j k e → (i : ℕ) → i < j → slice_index_or c.holidays i (pos 0) <ℤ e
holiday_before c r j k e are placed i low =
    let h : ℤ = slice_index_or c.holidays i (pos 0) in
    let within : i < length c.holidays = omega (arith, placed.bound) in
    let m : ℕ = unsigned_abs (h -ℤ first_date) in
    let at : h ≡ first_date +ℤ pos m = omega (arith, signed, (are.dates i (pos 0) within).0) in
    by_lt_z h e (λ lt. lt) (λ ge. absurd (omega (arith, rank-holiday c (pos 0) i m are within at, placed.behind i (pos 0) low, placed.count, low, workdays-rise c k m (omega (arith, signed, ge, at, placed.at)))))

holiday_behind : (c : Closed) (r j k : ℕ) (e : ℤ) → AreHolidays c.weekend c.holidays → IsPlaced c r j k e → (i : ℕ) → j ≤ i → i < length c.holidays → e <ℤ slice_index_or c.holidays i (pos 0)
holiday_behind c r j k e are placed i low within =
    let h : ℤ = slice_index_or c.holidays i (pos 0) in
    let m : ℕ = unsigned_abs (h -ℤ first_date) in
    let at : h ≡ first_date +ℤ pos m = omega (arith, signed, (are.dates i (pos 0) within).0) in
    by_lt_z e h (λ lt. lt) (λ ge. absurd (omega (arith, rank-holiday c (pos 0) i m are within at, placed.ahead i (pos 0) low within, placed.count, low, workdays-rise c m k (omega (arith, signed, ge, at, placed.at)))))

-- by whole weeks: per workdays a week, and the workday of a week that has p days before it
parts : (n d : ℕ) → n / d * d + n % d ≡ n
parts n d = omega (arith, div-add-mod n d, mul_comm (n / d) d)

pub placed-by_weeks : (c : Closed) (r j n per p k : ℕ) (e : ℤ) → per ≡ count_where (is_workday c.weekend) 7 first_date → n ≡ r + j → k ≡ n / per * 7 + p → e ≡ first_date +ℤ pos k → is_workday c.weekend (first_date +ℤ pos p) ≡ true → count_where (is_workday c.weekend) p first_date ≡ n % per → j ≤ length c.holidays → AllWithin (λ h. open_days c first_date h ≤ r) c.holidays 0 j → AllWithin (λ h. r < open_days c first_date h) c.holidays j (length c.holidays) → IsPlaced c r j k e
placed-by_weeks c r j n per p k e per-is n-is k-is at workday count bound behind ahead =
    let w : ℕ = n / per in
    let from : ℤ = first_date +ℤ pos p in
    let weeks = workdays-weeks c.weekend w p k first_date (omega arith) in
    let same : w * count_where (is_workday c.weekend) 7 first_date ≡ w * per = ap (λ m. w * m) (sym per-is) in
    record {
      bound = bound;
      behind = λ i d low. behind i d (omega arith) low;
      ahead = ahead;
      at = at;
      workday = workday-weeks c.weekend w from e (omega (arith, signed, at, k-is)) ∙ workday;
      count = omega (arith, weeks, same, count, parts n per, n-is);
    }

-- so as many come before it as before the next day
pub record IsOpenAt (c : Closed) (r : ℕ) (e : ℤ) : Type 0 where
  pub passes : is_open c e ≡ true
  pub count : open_days c first_date e ≡ r

no_holiday : (w h : Bool) → w ≡ true → one_if h ≡ 0 → (w && not h) ≡ true
no_holiday true true is none = absurd (omega arith)
no_holiday true false is none = refl
no_holiday false h is none = absurd (false≢true is)

pub placed-open : (c : Closed) (r j k : ℕ) (e : ℤ) → AreHolidays c.weekend c.holidays → IsPlaced c r j k e → IsOpenAt c r e
unfolding is_open
placed-open c r j k e are placed =
    let hs = c.holidays in
    let next : ℤ = e +ℤ pos 1 in
    let here = early-place hs e (pos 0) j placed.bound (holiday_before c r j k e are placed) (λ i low within. omega (arith, signed, holiday_behind c r j k e are placed i low within)) in
    let there = early-place hs next (pos 0) j placed.bound (λ i low. omega (arith, signed, holiday_before c r j k e are placed i low)) (λ i low within. omega (arith, signed, holiday_behind c r j k e are placed i low within)) in
    record {
      passes = no_holiday (is_workday c.weekend e) (is_holiday hs e) placed.workday (omega (arith, here, there, early-next hs e next are.rising refl));
      count = omega (arith, rank-is c e k are placed.at, here, placed.count);
    }

-- no date has a rank above that of an open day past the last
pub none-past : (c : Closed) (r : ℕ) (e : ℤ) → IsOpenAt c r e → past_last_date ≤ℤ e → open_days c first_date past_last_date ≤ r
none-past c r e is past = omega (arith, is.count, open-rises c first_date past_last_date e (omega (arith, signed)) past)

-- nor is any open where no day of a week is a workday
pub none-open : (c : Closed) (r : ℕ) → AreHolidays c.weekend c.holidays → count_where (is_workday c.weekend) 7 first_date ≡ 0 → open_days c first_date past_last_date ≤ r
none-open c r are none =
    omega (arith, rank-is c past_last_date 191_491_529 are refl, no_workdays c.weekend 191_491_529 first_date none)

-- ---- the n-th open day from a day

pub nth-from : (c : Closed) (d e : ℤ) (n r : ℕ) → IsDate d → IsDate e → r ≡ open_days c first_date d + n → is_open c e ≡ true → open_days c first_date e ≡ r → IsNthOpenFrom c d n e
nth-from c d e n r d-is e-is rank is count =
    let next : ℤ = e +ℤ pos 1 in
    let not_before : d ≤ℤ e = by_lt_z e d
    (λ lt. absurd (omega (arith, rank, count, open-behind c first_date e next e-is.0 refl is, open-rises c first_date next d (omega (arith, signed, e-is.0)) (omega (arith, signed, lt)))))
    (λ ge. ge) in
    record {
      passes = is;
      not_before = not_before;
      count = omega (arith, rank, count, count_between-sum (is_open c) first_date d e d-is.0 not_before);
    }

pub none-from : (c : Closed) (d : ℤ) (n r : ℕ) → IsDate d → r ≡ open_days c first_date d + n → open_days c first_date past_last_date ≤ r → open_days c d past_last_date ≤ n
none-from c d n r d-is rank few =
    omega (arith, rank, few, count_between-sum (is_open c) first_date d past_last_date d-is.0 (omega (arith, signed, d-is.1)))

pub few-from : (c : Closed) (d : ℤ) (n : ℕ) → IsDate d → 191_491_529 ≤ n → open_days c d past_last_date ≤ n
few-from c d n d-is many =
    omega (arith, signed, many, d-is.0, count_between-le (is_open c) d past_last_date (omega (arith, signed, d-is.1)))

pub nth-back : (c : Closed) (d e : ℤ) (n r : ℕ) → IsDate d → IsDate e → r + n + 1 ≡ open_days c first_date (d +ℤ pos 1) → is_open c e ≡ true → open_days c first_date e ≡ r → IsNthOpenBack c d n e
nth-back c d e n r d-is e-is rank is count =
    let next : ℤ = e +ℤ pos 1 in
    let end : ℤ = d +ℤ pos 1 in
    let not_after : e ≤ℤ d = by_lt_z d e
    (λ lt. absurd (omega (arith, rank, count, open-rises c first_date end e (omega (arith, signed, d-is.0)) (omega (arith, signed, lt)))))
    (λ ge. ge) in
    record {
      passes = is;
      not_after = not_after;
      count = omega (arith, rank, count, open-behind c first_date e next e-is.0 refl is, count_between-sum (is_open c) first_date next end (omega (arith, signed, e-is.0)) (omega (arith, signed, not_after)));
    }

-- no date before the last has as many open days up to it as the last
pub none-back : (c : Closed) (d : ℤ) (n r : ℕ) → IsDate d → r + n + 1 ≡ open_days c first_date (d +ℤ pos 1) → open_days c first_date past_last_date ≤ r → ⊥
none-back c d n r d-is rank few =
    omega (arith, rank, few, open-rises c first_date (d +ℤ pos 1) past_last_date (omega (arith, signed, d-is.0)) (omega (arith, signed, d-is.1)))

-- ---- of an option that a call answers

pub if-nth_from : (o : Option ℤ) (c : Closed) (d : ℤ) (n r : ℕ) → IsDate d → r ≡ open_days c first_date d + n → IfSome o IsDate → IfSome o (λ e. is_open c e ≡ true) → IfSome o (λ e. open_days c first_date e ≡ r) → IfSome o (λ e. IsNthOpenFrom c d n e)
if-nth_from None c d n r d-is rank date passes count = tt
if-nth_from (Some e) c d n r d-is rank date passes count = nth-from c d e n r d-is date rank passes count

pub if-none_from : (o : Option ℤ) (c : Closed) (d : ℤ) (n r : ℕ) → IsDate d → r ≡ open_days c first_date d + n → IfNone o (open_days c first_date past_last_date ≤ r) → IfNone o (open_days c d past_last_date ≤ n)
if-none_from None c d n r d-is rank few = none-from c d n r d-is rank few
if-none_from (Some e) c d n r d-is rank few = tt

pub if-nth_back : (o : Option ℤ) (c : Closed) (d : ℤ) (n r : ℕ) → IsDate d → r + n + 1 ≡ open_days c first_date (d +ℤ pos 1) → IfSome o IsDate → IfSome o (λ e. is_open c e ≡ true) → IfSome o (λ e. open_days c first_date e ≡ r) → IfSome o (λ e. IsNthOpenBack c d n e)
if-nth_back None c d n r d-is rank date passes count = tt
if-nth_back (Some e) c d n r d-is rank date passes count = nth-back c d e n r d-is date rank passes count

pub if-none_back : (o : Option ℤ) (c : Closed) (d : ℤ) (n r : ℕ) → IsDate d → r + n + 1 ≡ open_days c first_date (d +ℤ pos 1) → IfNone o (open_days c first_date past_last_date ≤ r) → IfNone o (open_days c first_date (d +ℤ pos 1) ≤ n)
if-none_back None c d n r d-is rank few = absurd (none-back c d n r d-is rank few)
if-none_back (Some e) c d n r d-is rank few = tt

-- the 0th open day from a day on is the next one, and the 0th back the last one
pub if-next : (o : Option ℤ) (c : Closed) (d : ℤ) → IfSome o (λ e. IsNthOpenFrom c d 0 e) → IfSome o (λ e. (f : ℤ) → d ≤ℤ f → f <ℤ e → is_open c f ≡ false)
if-next None c d nth = tt
if-next (Some e) c d nth = λ f low high. closed-between c d e f nth.count low high

pub if-no_next : (o : Option ℤ) (c : Closed) (d : ℤ) → IfNone o (open_days c d past_last_date ≤ 0) → IfNone o ((f : ℤ) → d ≤ℤ f → IsDate f → is_open c f ≡ false)
if-no_next None c d few = λ f low date. closed-between c d past_last_date f (omega (arith, few)) low (omega (arith, signed, date.1))
if-no_next (Some e) c d few = tt

pub if-last : (o : Option ℤ) (c : Closed) (d : ℤ) → IfSome o (λ e. IsNthOpenBack c d 0 e) → IfSome o (λ e. (f : ℤ) → e <ℤ f → f ≤ℤ d → is_open c f ≡ false)
if-last None c d nth = tt
if-last (Some e) c d nth = λ f low high. closed-between c (e +ℤ pos 1) (d +ℤ pos 1) f nth.count (omega (arith, signed, low)) (omega (arith, signed, high))

pub if-no_last : (o : Option ℤ) (c : Closed) (d : ℤ) → IfNone o (open_days c first_date (d +ℤ pos 1) ≤ 0) → IfNone o ((f : ℤ) → f ≤ℤ d → IsDate f → is_open c f ≡ false)
if-no_last None c d few = λ f high date. closed-between c first_date (d +ℤ pos 1) f (omega (arith, few)) date.0 (omega (arith, signed, high))
if-no_last (Some e) c d few = tt

-- ---- counts with a sign

-- between two days the signed count is the difference of their ranks
pub signed-ranks_from : (c : Closed) (a b : ℤ) → first_date ≤ℤ a → first_date ≤ℤ b → open_days_signed c a b ≡ pos (open_days c first_date b) -ℤ pos (open_days c first_date a)
signed-ranks_from c a b a-from b-from =
    by_lt_z a b
    (λ lt. omega (arith, signed, count_between-sum (is_open c) first_date a b a-from (omega (arith, signed, lt)), count_between-empty (is_open c) b a (omega (arith, signed, lt))))
    (λ ge. omega (arith, signed, count_between-sum (is_open c) first_date b a b-from ge, count_between-empty (is_open c) a b ge))

pub signed-ranks : (c : Closed) (a b : ℤ) → IsDate a → IsDate b → open_days_signed c a b ≡ pos (open_days c first_date b) -ℤ pos (open_days c first_date a)
signed-ranks c a b a-is b-is = signed-ranks_from c a b a-is.0 b-is.0

-- so the signed counts of two stretches add up
pub signed-sum : (c : Closed) (a b e : ℤ) → open_days_signed c a b +ℤ open_days_signed c b e ≡ open_days_signed c a e
signed-sum c a b e =
    let sum = count_between-sum (is_open c) in
    let none = count_between-empty (is_open c) in
    by_lt_z a b
    (λ ab. by_lt_z b e
    (λ be. omega (arith, signed, sum a b e (omega (arith, signed, ab)) (omega (arith, signed, be)), none b a (omega (arith, signed, ab)), none e b (omega (arith, signed, be)), none e a (omega (arith, signed, ab, be))))
    (λ eb. by_lt_z a e
    (λ ae. omega (arith, signed, sum a e b (omega (arith, signed, ae)) eb, none b a (omega (arith, signed, ab)), none b e eb, none e a (omega (arith, signed, ae))))
    (λ ea. omega (arith, signed, sum e a b ea (omega (arith, signed, ab)), none b a (omega (arith, signed, ab)), none b e eb, none a e ea))))
    (λ ba. by_lt_z b e
    (λ be. by_lt_z a e
    (λ ae. omega (arith, signed, sum b a e ba (omega (arith, signed, ae)), none a b ba, none e b (omega (arith, signed, be)), none e a (omega (arith, signed, ae))))
    (λ ea. omega (arith, signed, sum b e a (omega (arith, signed, be)) ea, none a b ba, none e b (omega (arith, signed, be)), none a e ea)))
    (λ eb. omega (arith, signed, sum e b a eb ba, none a b ba, none b e eb, none a e (omega (arith, signed, ba, eb)))))
