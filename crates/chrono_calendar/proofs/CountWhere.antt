-- How many of some days in a row pass a test.
use Rattle.std.proofs.Common.{◌≡◌, ℕ, zero, suc, ◌+◌, ◌*◌, ◌≤◌, Bool, true, false, cond, ◌∷◌, filter, length, refl, sym, ap, ◌∙◌, arith, ℤ, pos, ◌+ℤ◌, ◌-ℤ◌, ◌≤ℤ◌, ◌<ℤ◌, unsigned_abs}
use Rattle.std.proofs.lemmas.Int.{by_lt_z}
use Rattle.chrono_units.specs.declared.weekday.Weekday.{Weekday}
use Rattle.chrono_units.specs.declared.weekday.Weekday.TheVariants.{Mon}
use Rattle.chrono_units.specs.Weekday.{next_weekday}
use Rattle.chrono_units.specs.WeekdaySet.{DaySet, contains, days_in_row, walk}
use Rattle.chrono_calendar.specs.Weeks.{weekday_of}
use Rattle.chrono_calendar.specs.Recurrence.{IsWeekly, count_where, is_on}
use Rattle.chrono_text.proofs.Signed.{signed}
use Rattle.chrono_calendar.proofs.WeekDays.{weekday_of-next, weekday_of-week}

-- what a day that passes, or does not, adds to a count
abbrev pub one_if : Bool → ℕ
one_if b = cond b 1 0

one_if-le : (b : Bool) → one_if b ≤ 1
one_if-le true = omega arith
one_if-le false = omega arith

-- the first day and those after it
count_where-first : (p : ℤ → Bool) (k : ℕ) (n m : ℤ) → m ≡ n +ℤ pos 1 → count_where p (suc k) n ≡ one_if (p n) + count_where p k m
unfolding count_where
count_where-first p k n m e = ap (λ d. one_if (p n) + count_where p k d) (sym e)

pub count_where-no_days : (p : ℤ → Bool) (n : ℤ) → count_where p 0 n ≡ 0
unfolding count_where
count_where-no_days p n = refl

-- a count over two stretches, the second of which begins where the first ends
pub count_where-sum : (p : ℤ → Bool) (j k i : ℕ) (n m : ℤ) → i ≡ j + k → m ≡ n +ℤ pos j → count_where p i n ≡ count_where p j n + count_where p k m
count_where-sum p zero k i n m e at =
    let days : i ≡ k = omega arith in
    let here : m ≡ n = omega (arith, signed) in
    omega (arith, ap (λ h. count_where p h n) days, ap (count_where p k) here, count_where-no_days p n)
count_where-sum p (suc j) k i n m e at =
    let days : i ≡ suc (j + k) = omega arith in
    let next : ℤ = n +ℤ pos 1 in
    omega (arith, ap (λ h. count_where p h n) days, count_where-first p (j + k) n next refl, count_where-first p j n next refl, count_where-sum p j k (j + k) next m refl (omega (arith, signed, at)))

-- one day more
pub count_where-next : (p : ℤ → Bool) (k i : ℕ) (n m : ℤ) → i ≡ k + 1 → m ≡ n +ℤ pos k → count_where p i n ≡ count_where p k n + one_if (p m)
count_where-next p k i n m e at =
    omega (arith, count_where-sum p k 1 i n m e at, count_where-first p 0 m (m +ℤ pos 1) refl, count_where-no_days p (m +ℤ pos 1))

-- no more than there are days
pub count_where-le : (p : ℤ → Bool) (k : ℕ) (n : ℤ) → count_where p k n ≤ k
count_where-le p zero n = omega (arith, count_where-no_days p n)
count_where-le p (suc k) n =
    omega (arith, count_where-first p k n (n +ℤ pos 1) refl, count_where-le p k (n +ℤ pos 1), one_if-le (p n))

-- two tests that say the same of each of the days
pub count_where-same : (p q : ℤ → Bool) (k : ℕ) (n : ℤ) → ((d : ℤ) → n ≤ℤ d → d <ℤ (n +ℤ pos k) → p d ≡ q d) → count_where p k n ≡ count_where q k n
count_where-same p q zero n h = count_where-no_days p n ∙ sym (count_where-no_days q n)
count_where-same p q (suc k) n h =
    let next : ℤ = n +ℤ pos 1 in
    let here = ap one_if (h n (omega (arith, signed)) (omega (arith, signed))) in
    let rest = count_where-same p q k next (λ d low high. h d (omega (arith, signed, low)) (omega (arith, signed, high))) in
    omega (arith, count_where-first p k n next refl, count_where-first q k n next refl, here, rest)

-- none passes, or each does
count_where-never : (k : ℕ) (n : ℤ) → count_where (λ d. false) k n ≡ 0
count_where-never zero n = count_where-no_days (λ d. false) n
count_where-never (suc k) n =
    omega (arith, count_where-first (λ d. false) k n (n +ℤ pos 1) refl, count_where-never k (n +ℤ pos 1))

count_where-always : (k : ℕ) (n : ℤ) → count_where (λ d. true) k n ≡ k
count_where-always zero n = count_where-no_days (λ d. true) n
count_where-always (suc k) n =
    omega (arith, count_where-first (λ d. true) k n (n +ℤ pos 1) refl, count_where-always k (n +ℤ pos 1))

pub count_where-none : (p : ℤ → Bool) (k : ℕ) (n : ℤ) → ((d : ℤ) → n ≤ℤ d → d <ℤ (n +ℤ pos k) → p d ≡ false) → count_where p k n ≡ 0
count_where-none p k n h = count_where-same p (λ d. false) k n h ∙ count_where-never k n

pub count_where-all : (p : ℤ → Bool) (k : ℕ) (n : ℤ) → ((d : ℤ) → n ≤ℤ d → d <ℤ (n +ℤ pos k) → p d ≡ true) → count_where p k n ≡ k
count_where-all p k n h = count_where-same p (λ d. true) k n h ∙ count_where-always k n

-- ---- a weekly test

-- any seven days in a row count alike
any_week-next : (p : ℤ → Bool) → IsWeekly p → (n m : ℤ) → m ≡ n +ℤ pos 1 → count_where p 7 m ≡ count_where p 7 n
any_week-next p weekly n m e =
    omega (arith, count_where-first p 7 n m e, count_where-next p 7 8 n (n +ℤ pos 7) refl refl, ap one_if (weekly n))

any_week-later : (p : ℤ → Bool) → IsWeekly p → (k : ℕ) (n m : ℤ) → m ≡ n +ℤ pos k → count_where p 7 m ≡ count_where p 7 n
any_week-later p weekly zero n m e = let here : m ≡ n = omega (arith, signed) in ap (count_where p 7) here
any_week-later p weekly (suc k) n m e =
    any_week-next p weekly (n +ℤ pos k) m (omega (arith, signed)) ∙ any_week-later p weekly k n (n +ℤ pos k) refl

pub any_week : (p : ℤ → Bool) → IsWeekly p → (n m : ℤ) → count_where p 7 m ≡ count_where p 7 n
any_week p weekly n m =
    by_lt_z n m
    (λ lt. any_week-later p weekly (unsigned_abs (m -ℤ n)) n m (omega (arith, signed, lt)))
    (λ ge. sym (any_week-later p weekly (unsigned_abs (n -ℤ m)) m n (omega (arith, signed, ge))))

-- some days count alike a week later
count_where-week : (p : ℤ → Bool) → IsWeekly p → (k : ℕ) (n m : ℤ) → m ≡ n +ℤ pos 7 → count_where p k m ≡ count_where p k n
count_where-week p weekly k n m e =
    omega (arith, count_where-sum p 7 k (7 + k) n m refl e, count_where-sum p k 7 (7 + k) n (n +ℤ pos k) (omega arith) refl, any_week p weekly n (n +ℤ pos k))

-- whole weeks, and some days
pub count_where-weeks : (p : ℤ → Bool) → IsWeekly p → (w r i : ℕ) (n : ℤ) → i ≡ 7 * w + r → count_where p i n ≡ w * count_where p 7 n + count_where p r n
count_where-weeks p weekly zero r i n e = let days : i ≡ r = omega arith in omega (arith, ap (λ h. count_where p h n) days)
count_where-weeks p weekly (suc w) r i n e =
    let next : ℤ = n +ℤ pos 7 in
    let rest = count_where-weeks p weekly w r (7 * w + r) n refl in
    omega (arith, count_where-sum p 7 (7 * w + r) i n next (omega arith) refl, count_where-week p weekly (7 * w + r) n next refl, rest)

-- a test of weekdays is weekly
pub weekdays-weekly : (q : Weekday → Bool) → IsWeekly (λ d. q (weekday_of d))
weekdays-weekly q = λ d. ap q (weekday_of-week d (d +ℤ pos 7) refl)

-- the days of a row that pass it, by their weekdays
length-filter_first : (b : Bool) (q : Weekday → Bool) (k : ℕ) (d e : Weekday) → q d ≡ b → length (filter q (d ∷ days_in_row k e)) ≡ one_if b + length (filter q (days_in_row k e))
length-filter_first true q k d e h = rw h (omega arith)
length-filter_first false q k d e h = rw h (omega arith)

pub count_where-row : (q : Weekday → Bool) (k : ℕ) (n : ℤ) (d : Weekday) → weekday_of n ≡ d → count_where (λ m. q (weekday_of m)) k n ≡ length (filter q (days_in_row k d))
count_where-row q zero n d e = count_where-no_days (λ m. q (weekday_of m)) n
count_where-row q (suc k) n d e =
    let next : ℤ = n +ℤ pos 1 in
    let rest = count_where-row q k next (next_weekday d) (weekday_of-next n next refl ∙ ap next_weekday e) in
    let here : q d ≡ q (weekday_of n) = ap q (sym e) in
    omega (arith, count_where-first (λ m. q (weekday_of m)) k n next refl, rest, length-filter_first (q (weekday_of n)) q k d (next_weekday d) here)

-- so a week has as many days on a set as the set has members: day 1 is a Monday
pub count_where-monday : (set : DaySet) (n : ℤ) → count_where (is_on set) 7 n ≡ length (walk set Mon)
count_where-monday set n =
    any_week (is_on set) (weekdays-weekly (contains set)) (pos 1) n ∙ count_where-row (contains set) 7 (pos 1) Mon refl
