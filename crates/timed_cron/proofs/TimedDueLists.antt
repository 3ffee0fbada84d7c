-- The list of the moments at which a schedule with seconds is due: how long it is, and what a step takes from it.
use Rattle.std.proofs.Common.{◌≡◌, ℕ, zero, suc, ◌+◌, ◌*◌, ◌<◌, ◌≤◌, Bool, true, false, cond, [], ◌∷◌, length, inl, inr, refl, sym, ap, ◌∙◌, arith, ℤ, pos, neg_ℤ, ◌+ℤ◌, ◌-ℤ◌, ◌≤ℤ◌, ◌<ℤ◌, unsigned_abs}
use Rattle.std.proofs.lemmas.Int.{by_lt_z}
use Rattle.std.specs.Prelude.{filter}
use Rattle.std.specs.Int.{int_div_euclid, int_rem_euclid}
use Rattle.chrono_text.proofs.ListLemmas.{filter-few}
use Rattle.chrono_datetime.specs.Moment.{Moment, moment, IsBefore, IsMoment}
use Rattle.chrono_datetime.specs.Time.{time_at}
use Rattle.chrono_datetime.proofs.Signed.{signed}
use Rattle.timed_cron.specs.declared.timed_schedule.TimedSchedule.{TimedSchedule}
use Rattle.timed_cron.specs.DueSeconds.{is_timed_due}
use Rattle.timed_cron.specs.TimedDueLists.{beginning_of_second, second_number_of, seconds_left, seconds_in_a_row, timed_dues_after}
use Rattle.timed_cron.proofs.MinuteOrder.{second_parts}
use Rattle.timed_cron.proofs.YearSteps.{timed_parts}

-- ---- seconds in a row, and moments

beginning_of_second-later : (start : Moment) (k : ℤ) → second_number_of start <ℤ k → IsBefore start (beginning_of_second k)
beginning_of_second-later start k less =
    by_lt_z start.date (int_div_euclid k (pos 86_400)) (λ lt. inl lt) (λ ge. inr (omega (arith, signed, ge, less), inl (omega (arith, signed, ge, less))))

beginning_of_second-earlier : (m : Moment) (k : ℤ) → m.time.second < 86_400 → k <ℤ second_number_of m → IsBefore (beginning_of_second k) m
beginning_of_second-earlier m k small less =
    by_lt_z (int_div_euclid k (pos 86_400)) m.date (λ lt. inl lt) (λ ge. inr (omega (arith, signed, small, ge, less), inl (omega (arith, signed, small, ge, less))))

beginning_of_second-moment : (k : ℤ) → neg_ℤ (pos 8_272_465_545_600) ≤ℤ k → k <ℤ pos 8_272_402_560_000 → IsMoment (beginning_of_second k)
beginning_of_second-moment k low high =
    record {
      date = (omega (arith, signed, low), omega (arith, signed, high));
      time = record { second = omega (arith, signed); fraction = omega arith };
    }

beginning_of_second-same : (m : Moment) → m.time.second < 86_400 → m.time.fraction ≡ 0 → beginning_of_second (second_number_of m) ≡ m
beginning_of_second-same m small none =
    let date : int_div_euclid (second_number_of m) (pos 86_400) ≡ m.date = omega (arith, signed, small) in
    let second : 0 * 3_600 + 0 * 60 + unsigned_abs (int_rem_euclid (second_number_of m) (pos 86_400)) ≡ m.time.second = omega (arith, signed, small) in
    rw (date, second, sym none) refl

-- a second's beginning that comes later lies in a later second
second_number_of-later : (start m : Moment) → start.time.second < 86_400 → m.time.fraction ≡ 0 → IsBefore start m → second_number_of start <ℤ second_number_of m
second_number_of-later start m small none (inl later) = omega (arith, signed, small, later)
second_number_of-later start m small none (inr (date, inl later)) = omega (arith, signed, date, later)
second_number_of-later start m small none (inr (date, inr same)) = absurd (omega (arith, same.1, none))

-- ---- the list

length-seconds_in_a_row : (k : ℕ) (n : ℤ) → length (seconds_in_a_row k n) ≡ k
unfolding seconds_in_a_row
length-seconds_in_a_row zero n = refl
length-seconds_in_a_row (suc k) n = ap suc (length-seconds_in_a_row k (n +ℤ pos 1))

pub timed_dues_after-few : (s : TimedSchedule) (m : Moment) → length (timed_dues_after s m) ≤ seconds_left m
unfolding timed_dues_after
timed_dues_after-few s m =
    let after = seconds_in_a_row (seconds_left m) (second_number_of m +ℤ pos 1) in
    omega (arith, filter-few (is_timed_due s) after, length-seconds_in_a_row (seconds_left m) (second_number_of m +ℤ pos 1))

-- one second more in front
seconds-in_front : (s : TimedSchedule) (b : Bool) (t k : ℕ) (n : ℤ) → t ≡ suc k → is_timed_due s (beginning_of_second n) ≡ b → filter (is_timed_due s) (seconds_in_a_row t n) ≡ cond b (beginning_of_second n ∷ filter (is_timed_due s) (seconds_in_a_row k (n +ℤ pos 1))) (filter (is_timed_due s) (seconds_in_a_row k (n +ℤ pos 1)))
unfolding seconds_in_a_row
seconds-in_front s b t k n count first =
    ap (λ t. filter (is_timed_due s) (seconds_in_a_row t n)) count
    ∙ ap (λ b. cond b (beginning_of_second n ∷ filter (is_timed_due s) (seconds_in_a_row k (n +ℤ pos 1))) (filter (is_timed_due s) (seconds_in_a_row k (n +ℤ pos 1)))) first

none_among : (s : TimedSchedule) (k : ℕ) (n : ℤ) → ((d : ℤ) → n ≤ℤ d → d <ℤ (n +ℤ pos k) → is_timed_due s (beginning_of_second d) ≡ false) → filter (is_timed_due s) (seconds_in_a_row k n) ≡ []
unfolding seconds_in_a_row
none_among s zero n none = refl
none_among s (suc k) n none =
    seconds-in_front s false (suc k) k n refl (none n (omega (arith, signed)) (omega (arith, signed)))
    ∙ none_among s k (n +ℤ pos 1) (λ d low high. none d (omega (arith, signed, low)) (omega (arith, signed, high)))

first_among : (s : TimedSchedule) (t k r : ℕ) (n e : ℤ) → t ≡ k + suc r → e ≡ n +ℤ pos k → ((d : ℤ) → n ≤ℤ d → d <ℤ e → is_timed_due s (beginning_of_second d) ≡ false) → is_timed_due s (beginning_of_second e) ≡ true → filter (is_timed_due s) (seconds_in_a_row t n) ≡ beginning_of_second e ∷ filter (is_timed_due s) (seconds_in_a_row r (e +ℤ pos 1))
first_among s t zero r n e count at none due =
    let here : n ≡ e = omega (arith, signed, at) in
    seconds-in_front s true t r n (omega (arith, count)) (ap (λ d. is_timed_due s (beginning_of_second d)) here ∙ due)
    ∙ ap (λ d. beginning_of_second d ∷ filter (is_timed_due s) (seconds_in_a_row r (d +ℤ pos 1))) here
first_among s t (suc k) r n e count at none due =
    seconds-in_front s false t (k + suc r) n (omega (arith, count)) (none n (omega (arith, signed)) (omega (arith, signed, at)))
    ∙ first_among s (k + suc r) k r (n +ℤ pos 1) e refl (omega (arith, signed, at)) (λ d low high. none d (omega (arith, signed, low)) high) due

-- ---- what a step takes from it

pub timed_dues_after-none : (s : TimedSchedule) (start : Moment) → IsMoment start → ((q : Moment) → IsMoment q → IsBefore start q → is_timed_due s q ≡ false) → timed_dues_after s start ≡ []
unfolding timed_dues_after
timed_dues_after-none s start is none =
    none_among s (seconds_left start) (second_number_of start +ℤ pos 1)
    (λ d low high.
    none (beginning_of_second d)
    (beginning_of_second-moment d (omega (arith, signed, is.date.0, low)) (omega (arith, signed, is.date.1, is.time.second, high)))
    (beginning_of_second-later start d (omega (arith, signed, low))))

pub timed_dues_after-first : (s : TimedSchedule) (start m : Moment) → IsMoment start → IsMoment m → is_timed_due s m ≡ true → IsBefore start m → ((q : Moment) → IsMoment q → IsBefore start q → IsBefore q m → is_timed_due s q ≡ false) → timed_dues_after s start ≡ m ∷ timed_dues_after s m
unfolding timed_dues_after
timed_dues_after-first s start m is end due later least =
    let at = second_parts s m (timed_parts s m due).0 in
    let less = second_number_of-later start m is.time.second at.fraction later in
    let here = beginning_of_second-same m end.time.second at.fraction in
    let skipped : ℕ = unsigned_abs (second_number_of m -ℤ (second_number_of start +ℤ pos 1)) in
    let count : seconds_left start ≡ skipped + suc (seconds_left m) = omega (arith, signed, less, end.date.1, end.time.second) in
    first_among s (seconds_left start) skipped (seconds_left m) (second_number_of start +ℤ pos 1) (second_number_of m) count (omega (arith, signed, less))
    (λ d low high.
    least (beginning_of_second d)
    (beginning_of_second-moment d (omega (arith, signed, is.date.0, low)) (omega (arith, signed, end.date.1, end.time.second, high)))
    (beginning_of_second-later start d (omega (arith, signed, low)))
    (beginning_of_second-earlier m d end.time.second high))
    (ap (is_timed_due s) here ∙ due)
    ∙ ap (λ x. x ∷ filter (is_timed_due s) (seconds_in_a_row (seconds_left m) (second_number_of m +ℤ pos 1))) here
