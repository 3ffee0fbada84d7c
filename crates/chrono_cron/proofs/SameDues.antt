-- Two schedules that are due at the same moments have the same days and the same minutes, if they are due at all.
use Rattle.std.proofs.Common.{◌≡◌, ℕ, zero, suc, ◌+◌, ◌*◌, ◌/◌, ◌%◌, ◌<◌, ◌==◌, true, ◌&&◌, sym, ap, ap₂, ◌∙◌, arith, ℤ, pos, ◌+ℤ◌, ◌-ℤ◌, ◌≤ℤ◌, ◌<ℤ◌, unsigned_abs}
use Rattle.std.proofs.lemmas.Bool.{and_from, and_parts}
use Rattle.std.proofs.lemmas.Int.{by_lt_z}
use Rattle.chrono_datetime.specs.Days.{IsDate}
use Rattle.chrono_datetime.specs.Moment.{moment}
use Rattle.chrono_datetime.specs.Time.{time_at}
use Rattle.chrono_datetime.proofs.Signed.{signed}
use Rattle.chrono_cron.specs.declared.field_sets.FieldSets.{FieldSets}
use Rattle.chrono_cron.specs.Due.{IsNeverDue, MeanTheSame, begins_minute, is_day, is_due, is_minute}
use Rattle.chrono_cron.proofs.DayCycles.{is_day-again}
use Rattle.std.proofs.Math.Bool.{and-true}

-- whether a schedule is due at the beginning of a minute of a day
due-beginning : (s : FieldSets) (n : ℤ) (k : ℕ) → is_due s (moment n (time_at 0 k 0 0)) ≡ (is_day s n && is_minute s k)
unfolding is_due
due-beginning s n k =
    let place : (0 * 3_600 + k * 60 + 0) / 60 ≡ k = omega arith in
    let whole : (0 * 3_600 + k * 60 + 0) % 60 ≡ 0 = omega arith in
    ap₂ (λ j r. is_day s n && (is_minute s j && (r == 0 && 0 == 0))) place whole ∙ ap (λ b. is_day s n && b) (and-true (is_minute s k))

same-beginning : (s t : FieldSets) (n : ℤ) (k : ℕ) → MeanTheSame s t → IsDate n → k < 1440 → (is_day s n && is_minute s k) ≡ (is_day t n && is_minute t k)
same-beginning s t n k same date small =
    sym (due-beginning s n k)
    ∙ same (moment n (time_at 0 k 0 0)) (record { date = date; time = record { second = omega (arith, small); fraction = omega arith } })
    ∙ due-beginning t n k

-- the other schedule is due where the first is
pub same-due : (s t : FieldSets) (n : ℤ) (k : ℕ) → MeanTheSame s t → IsDate n → k < 1440 → is_day s n ≡ true → is_minute s k ≡ true → (is_day t n ≡ true) × (is_minute t k ≡ true)
same-due s t n k same date small day minute =
    and_parts (is_day t n) (is_minute t k) (sym (same-beginning s t n k same date small) ∙ and_from (is_day s n) (is_minute s k) day minute)

-- minutes, by those of a day of both
pub same-minutes : (s t : FieldSets) (n : ℤ) → MeanTheSame s t → IsDate n → is_day s n ≡ true → is_day t n ≡ true → (k : ℕ) → k < 1440 → is_minute s k ≡ is_minute t k
same-minutes s t n same date day other k small =
    sym (ap (λ b. b && is_minute s k) day) ∙ same-beginning s t n k same date small ∙ ap (λ b. b && is_minute t k) other

-- days, by a minute of both
pub same-days : (s t : FieldSets) (k : ℕ) → MeanTheSame s t → k < 1440 → is_minute s k ≡ true → is_minute t k ≡ true → (d : ℤ) → IsDate d → is_day s d ≡ is_day t d
same-days s t k same small minute other d date =
    sym (ap (λ b. is_day s d && b) minute ∙ and-true (is_day s d)) ∙ same-beginning s t d k same date small ∙ (ap (λ b. is_day t d && b) other ∙ and-true (is_day t d))

-- the same days and the same minutes are enough
pub same-dues : (s t : FieldSets) → ((k : ℕ) → k < 1440 → is_minute s k ≡ is_minute t k) → ((d : ℤ) → IsDate d → is_day s d ≡ is_day t d) → MeanTheSame s t
unfolding is_due
same-dues s t minutes days = λ m is.
    ap₂ (λ d k. d && (k && begins_minute m)) (days m.date is.date) (minutes (m.time.second / 60) (omega (arith, is.time.second)))

-- schedules that are never due mean the same
pub same-never : (s t : FieldSets) → IsNeverDue s → IsNeverDue t → MeanTheSame s t
same-never s t never other = λ m is. never m is ∙ sym (other m is)

pub never-same : (s t : FieldSets) → IsNeverDue s → MeanTheSame s t → IsNeverDue t
never-same s t never same = λ m is. sym (same m is) ∙ never m is

-- the days of two schedules agree from one day up to before another
abbrev pub AgreeFrom : FieldSets → FieldSets → ℤ → ℤ → Type 0
AgreeFrom s t from end = (d : ℤ) → from ≤ℤ d → d <ℤ end → is_day s d ≡ is_day t d

-- where those of 400 years do, all later ones do
agree_later : (s t : FieldSets) (from : ℤ) (k : ℕ) (d : ℤ) → AgreeFrom s t from (from +ℤ pos 146_097) → from ≤ℤ d → d <ℤ (from +ℤ pos (146_097 * suc k)) → is_day s d ≡ is_day t d
agree_later s t from zero d agree low high = agree d low (omega (arith, signed, high))
agree_later s t from (suc k) d agree low high =
    by_lt_z d (from +ℤ pos 146_097)
    (λ lt. agree d low lt)
    (λ ge.
    is_day-again s (d -ℤ pos 146_097) d (omega (arith, signed))
    ∙ agree_later s t from k (d -ℤ pos 146_097) agree (omega (arith, signed, ge)) (omega (arith, signed, high))
    ∙ sym (is_day-again t (d -ℤ pos 146_097) d (omega (arith, signed))))

pub agree_from : (s t : FieldSets) (from d : ℤ) → AgreeFrom s t from (from +ℤ pos 146_097) → from ≤ℤ d → is_day s d ≡ is_day t d
agree_from s t from d agree low = agree_later s t from (unsigned_abs (d -ℤ from)) d agree low (omega (arith, signed, low))

-- and one day more
pub agree_next : (s t : FieldSets) (from n d : ℤ) → AgreeFrom s t from n → is_day s n ≡ is_day t n → from ≤ℤ d → d <ℤ (n +ℤ pos 1) → is_day s d ≡ is_day t d
agree_next s t from n d agree here low high =
    by_lt_z d n (λ lt. agree d low lt) (λ ge.
    let same : d ≡ n = omega (arith, signed, ge, high) in
    ap (is_day s) same ∙ here ∙ sym (ap (is_day t) same))
