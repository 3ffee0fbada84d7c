-- The list of the moments at which a schedule is due: how long it is, and what a step takes from it.
use Rattle.std.proofs.Common.{◌≡◌, ℕ, zero, suc, ◌+◌, ◌*◌, ◌%◌, ◌<◌, ◌≤◌, Bool, true, false, cond, [], ◌∷◌, length, inl, inr, refl, sym, ap, ◌∙◌, arith, ℤ, pos, neg_ℤ, ◌+ℤ◌, ◌-ℤ◌, ◌≤ℤ◌, ◌<ℤ◌, unsigned_abs}
use Rattle.std.proofs.lemmas.Int.{by_lt_z}
use Rattle.std.specs.Prelude.{filter}
use Rattle.std.specs.Int.{int_div_euclid, int_rem_euclid}
use Rattle.chrono_text.proofs.ListLemmas.{filter-few}
use Rattle.chrono_datetime.specs.Moment.{Moment, moment, IsBefore, IsMoment}
use Rattle.chrono_datetime.specs.Time.{time_at}
use Rattle.chrono_datetime.proofs.Signed.{signed}
use Rattle.chrono_cron.specs.declared.field_sets.FieldSets.{FieldSets}
use Rattle.chrono_cron.specs.Due.{is_due}
use Rattle.chrono_cron.specs.DueMoments.{minute_at, minute_number_of, minutes_left, minutes_from, dues_after}
use Rattle.chrono_cron.proofs.MomentOrder.{due_parts}

-- ---- minutes in a row, and moments

minute_at-later : (start : Moment) (k : ℤ) → minute_number_of start <ℤ k → IsBefore start (minute_at k)
minute_at-later start k less =
    by_lt_z start.date (int_div_euclid k (pos 1440)) (λ lt. inl lt) (λ ge. inr (omega (arith, signed, ge, less), inl (omega (arith, signed, ge, less))))

minute_at-earlier : (m : Moment) (k : ℤ) → m.time.second < 86_400 → m.time.second % 60 ≡ 0 → k <ℤ minute_number_of m → IsBefore (minute_at k) m
minute_at-earlier m k small whole less =
    by_lt_z (int_div_euclid k (pos 1440)) m.date (λ lt. inl lt) (λ ge. inr (omega (arith, signed, small, ge, less), inl (omega (arith, signed, small, whole, ge, less))))

minute_at-moment : (k : ℤ) → neg_ℤ (pos 137_874_425_760) ≤ℤ k → k <ℤ pos 137_873_376_000 → IsMoment (minute_at k)
minute_at-moment k low high =
    record {
      date = (omega (arith, signed, low), omega (arith, signed, high));
      time = record { second = omega (arith, signed); fraction = omega arith };
    }

minute_at-same : (m : Moment) → m.time.second < 86_400 → m.time.second % 60 ≡ 0 → m.time.fraction ≡ 0 → minute_at (minute_number_of m) ≡ m
minute_at-same m small whole none =
    let date : int_div_euclid (minute_number_of m) (pos 1440) ≡ m.date = omega (arith, signed, small) in
    let second : 0 * 3_600 + unsigned_abs (int_rem_euclid (minute_number_of m) (pos 1440)) * 60 + 0 ≡ m.time.second = omega (arith, signed, small, whole) in
    rw (date, second, sym none) refl

-- a minute's beginning that comes later lies in a later minute
minute_number_of-later : (start m : Moment) → start.time.second < 86_400 → m.time.second % 60 ≡ 0 → m.time.fraction ≡ 0 → IsBefore start m → minute_number_of start <ℤ minute_number_of m
minute_number_of-later start m small whole none (inl later) = omega (arith, signed, small, later)
minute_number_of-later start m small whole none (inr (date, inl later)) = omega (arith, signed, date, whole, later)
minute_number_of-later start m small whole none (inr (date, inr same)) = absurd (omega (arith, same.1, none))

-- ---- the list

length-minutes_from : (k : ℕ) (n : ℤ) → length (minutes_from k n) ≡ k
unfolding minutes_from
length-minutes_from zero n = refl
length-minutes_from (suc k) n = ap suc (length-minutes_from k (n +ℤ pos 1))

pub dues_after-few : (s : FieldSets) (m : Moment) → length (dues_after s m) ≤ minutes_left m
unfolding dues_after
dues_after-few s m =
    let after = minutes_from (minutes_left m) (minute_number_of m +ℤ pos 1) in
    omega (arith, filter-few (is_due s) after, length-minutes_from (minutes_left m) (minute_number_of m +ℤ pos 1))

-- one minute more in front
minutes-in_front : (s : FieldSets) (b : Bool) (t k : ℕ) (n : ℤ) → t ≡ suc k → is_due s (minute_at n) ≡ b → filter (is_due s) (minutes_from t n) ≡ cond b (minute_at n ∷ filter (is_due s) (minutes_from k (n +ℤ pos 1))) (filter (is_due s) (minutes_from k (n +ℤ pos 1)))
unfolding minutes_from
minutes-in_front s b t k n count first =
    ap (λ t. filter (is_due s) (minutes_from t n)) count
    ∙ ap (λ b. cond b (minute_at n ∷ filter (is_due s) (minutes_from k (n +ℤ pos 1))) (filter (is_due s) (minutes_from k (n +ℤ pos 1)))) first

none_among : (s : FieldSets) (k : ℕ) (n : ℤ) → ((d : ℤ) → n ≤ℤ d → d <ℤ (n +ℤ pos k) → is_due s (minute_at d) ≡ false) → filter (is_due s) (minutes_from k n) ≡ []
unfolding minutes_from
none_among s zero n none = refl
none_among s (suc k) n none =
    minutes-in_front s false (suc k) k n refl (none n (omega (arith, signed)) (omega (arith, signed)))
    ∙ none_among s k (n +ℤ pos 1) (λ d low high. none d (omega (arith, signed, low)) (omega (arith, signed, high)))

first_among : (s : FieldSets) (t k r : ℕ) (n e : ℤ) → t ≡ k + suc r → e ≡ n +ℤ pos k → ((d : ℤ) → n ≤ℤ d → d <ℤ e → is_due s (minute_at d) ≡ false) → is_due s (minute_at e) ≡ true → filter (is_due s) (minutes_from t n) ≡ minute_at e ∷ filter (is_due s) (minutes_from r (e +ℤ pos 1))
first_among s t zero r n e count at none due =
    let here : n ≡ e = omega (arith, signed, at) in
    minutes-in_front s true t r n (omega (arith, count)) (ap (λ d. is_due s (minute_at d)) here ∙ due)
    ∙ ap (λ d. minute_at d ∷ filter (is_due s) (minutes_from r (d +ℤ pos 1))) here
first_among s t (suc k) r n e count at none due =
    minutes-in_front s false t (k + suc r) n (omega (arith, count)) (none n (omega (arith, signed)) (omega (arith, signed, at)))
    ∙ first_among s (k + suc r) k r (n +ℤ pos 1) e refl (omega (arith, signed, at)) (λ d low high. none d (omega (arith, signed, low)) high) due

-- ---- what a step takes from it

pub dues_after-none : (s : FieldSets) (start : Moment) → IsMoment start → ((q : Moment) → IsMoment q → IsBefore start q → is_due s q ≡ false) → dues_after s start ≡ []
unfolding dues_after
dues_after-none s start is none =
    none_among s (minutes_left start) (minute_number_of start +ℤ pos 1)
    (λ d low high.
    none (minute_at d)
    (minute_at-moment d (omega (arith, signed, is.date.0, low)) (omega (arith, signed, is.date.1, is.time.second, high)))
    (minute_at-later start d (omega (arith, signed, low))))

pub dues_after-first : (s : FieldSets) (start m : Moment) → IsMoment start → IsMoment m → is_due s m ≡ true → IsBefore start m → ((q : Moment) → IsMoment q → IsBefore start q → IsBefore q m → is_due s q ≡ false) → dues_after s start ≡ m ∷ dues_after s m
unfolding dues_after
dues_after-first s start m is end due later least =
    let at = due_parts s m due in
    let less = minute_number_of-later start m is.time.second at.second at.fraction later in
    let here = minute_at-same m end.time.second at.second at.fraction in
    let skipped : ℕ = unsigned_abs (minute_number_of m -ℤ (minute_number_of start +ℤ pos 1)) in
    let count : minutes_left start ≡ skipped + suc (minutes_left m) = omega (arith, signed, less, end.date.1, end.time.second) in
    first_among s (minutes_left start) skipped (minutes_left m) (minute_number_of start +ℤ pos 1) (minute_number_of m) count (omega (arith, signed, less))
    (λ d low high.
    least (minute_at d)
    (minute_at-moment d (omega (arith, signed, is.date.0, low)) (omega (arith, signed, end.date.1, end.time.second, high)))
    (minute_at-later start d (omega (arith, signed, low)))
    (minute_at-earlier m d end.time.second at.second high))
    (ap (is_due s) here ∙ due)
    ∙ ap (λ x. x ∷ filter (is_due s) (minutes_from (minutes_left m) (minute_number_of m +ℤ pos 1))) here
