-- No due moment lies between a start and the one that was found.
use Rattle.std.proofs.Common.{◌≡◌, ℕ, ◌+◌, ◌*◌, ◌/◌, ◌%◌, ◌<◌, ◌≤◌, ◌==◌, inl, inr, true, false, ◌&&◌, refl, sym, ap, ◌∙◌, arith, ℤ, pos, neg_ℤ, ◌+ℤ◌, ◌≤ℤ◌, ◌<ℤ◌}
use Rattle.std.proofs.lemmas.Bool.{and_from, and_left, and_parts, and_right, both_ways, eq-eqb, eqb-true, false_from_ne_true}
use Rattle.chrono_datetime.specs.Days.{IsDate}
use Rattle.chrono_datetime.specs.Moment.{Moment, moment, IsBefore, IsMoment}
use Rattle.chrono_datetime.specs.Time.{TimeOfDay, IsTime, IsEarlier, time_at}
use Rattle.chrono_datetime.proofs.Signed.{signed}
use Rattle.chrono_cron.specs.declared.field_sets.FieldSets.{FieldSets}
use Rattle.chrono_cron.specs.Due.{IsNeverDue, NotDueOn, is_day, is_minute, is_due}

-- what a moment has at which a schedule is due
pub record IsDueAt (s : FieldSets) (q : Moment) : Type 0 where
  pub day : is_day s q.date ≡ true
  pub minute : is_minute s (q.time.second / 60) ≡ true
  pub second : q.time.second % 60 ≡ 0
  pub fraction : q.time.fraction ≡ 0

pub due_parts : (s : FieldSets) (q : Moment) → is_due s q ≡ true → IsDueAt s q
unfolding is_due
due_parts s q due =
    let day = and_parts (is_day s q.date) (is_minute s (q.time.second / 60) && (q.time.second % 60 == 0 && q.time.fraction == 0)) due in
    let minute = and_parts (is_minute s (q.time.second / 60)) (q.time.second % 60 == 0 && q.time.fraction == 0) day.1 in
    let begins = and_parts (q.time.second % 60 == 0) (q.time.fraction == 0) minute.1 in
    record { day = day.0; minute = minute.0; second = eqb-true _ _ begins.0; fraction = eqb-true _ _ begins.1 }

not_due : (s : FieldSets) (q : Moment) → (IsDueAt s q → ⊥) → is_due s q ≡ false
not_due s q never = false_from_ne_true (is_due s q) (λ due. never (due_parts s q due))

is_due-at : (s : FieldSets) (m : Moment) → IsDueAt s m → is_due s m ≡ true
unfolding is_due
is_due-at s m at =
    and_from (is_day s m.date) (is_minute s (m.time.second / 60) && (m.time.second % 60 == 0 && m.time.fraction == 0)) at.day
    (and_from (is_minute s (m.time.second / 60)) (m.time.second % 60 == 0 && m.time.fraction == 0) at.minute
    (and_from (m.time.second % 60 == 0) (m.time.fraction == 0) (eq-eqb _ _ at.second) (eq-eqb _ _ at.fraction)))

-- the beginning of a minute of the schedule's on a day of the schedule's
pub is_due-beginning : (s : FieldSets) (n : ℤ) (k : ℕ) → is_day s n ≡ true → is_minute s k ≡ true → is_due s (moment n (time_at 0 k 0 0)) ≡ true
is_due-beginning s n k day minute =
    let place : (0 * 3_600 + k * 60 + 0) / 60 ≡ k = omega arith in
    let whole : (0 * 3_600 + k * 60 + 0) % 60 ≡ 0 = omega arith in
    is_due-at s (moment n (time_at 0 k 0 0)) (record { day = day; minute = ap (is_minute s) place ∙ minute; second = whole; fraction = refl })

-- the minute that begins later than a time, and one that ends before another begins
minute_after : (a t : TimeOfDay) → IsEarlier a t → t.second % 60 ≡ 0 → t.fraction ≡ 0 → a.second / 60 + 1 ≤ t.second / 60
minute_after a t (inl less) whole none = omega (arith, less, whole)
minute_after a t (inr same) whole none = absurd (omega (arith, same.1, none))

minute_before : (t : TimeOfDay) (k : ℕ) → IsEarlier t (time_at 0 k 0 0) → t.second / 60 < k
minute_before t k (inl less) = omega (arith, less)
minute_before t k (inr same) = absurd (omega (arith, same.1))

-- none of these minutes of the day is one of the schedule's
abbrev pub NoMinutes : FieldSets → ℕ → ℕ → Type 0
NoMinutes s from end = (j : ℕ) → from ≤ j → j < end → is_minute s j ≡ false

-- nor of these days
abbrev pub NoDays : FieldSets → ℤ → ℤ → Type 0
NoDays s from end = (d : ℤ) → from ≤ℤ d → d <ℤ end → is_day s d ≡ false

pub not_day : (s : FieldSets) (n : ℤ) (from end : ℕ) → is_day s n ≡ false → NotDueOn s n from end
not_day s n from end none = λ j low high. and_left (is_day s n) (is_minute s j) none

pub no_minute : (s : FieldSets) (n : ℤ) (from end : ℕ) → NoMinutes s from end → NotDueOn s n from end
no_minute s n from end none = λ j low high. and_right (is_day s n) (is_minute s j) (none j low high)

not_due-on : (s : FieldSets) (n : ℤ) (q : Moment) (from end : ℕ) → q.date ≡ n → NotDueOn s n from end → (IsDueAt s q → (from ≤ q.time.second / 60) × (q.time.second / 60 < end)) → is_due s q ≡ false
not_due-on s n q from end date none within =
    not_due s q (λ at.
    let bounds = within at in
    let both = and_from (is_day s n) (is_minute s (q.time.second / 60)) (ap (is_day s) (sym date) ∙ at.day) at.minute in
    both_ways (is_day s n && is_minute s (q.time.second / 60)) (none (q.time.second / 60) bounds.0 bounds.1) both)

-- ---- after a start

-- on its day, up to a minute
pub least_today : (s : FieldSets) (start q : Moment) (k : ℕ) → NotDueOn s start.date (start.time.second / 60 + 1) k → IsBefore start q → IsBefore q (moment start.date (time_at 0 k 0 0)) → is_due s q ≡ false
least_today s start q k none (inl later) (inl earlier) = absurd (omega (arith, signed, later, earlier))
least_today s start q k none (inl later) (inr same) = absurd (omega (arith, signed, later, same.0))
least_today s start q k none (inr same) (inl earlier) = absurd (omega (arith, signed, same.0, earlier))
least_today s start q k none (inr same) (inr before) =
    not_due-on s start.date q (start.time.second / 60 + 1) k before.0 none (λ at. (minute_after start.time q.time same.1 at.second at.fraction, minute_before q.time k before.1))

-- on its day, up to its end
rest_of_day : (s : FieldSets) (start q : Moment) → NotDueOn s start.date (start.time.second / 60 + 1) 1440 → start.date ≡ q.date → IsEarlier start.time q.time → IsTime q.time → is_due s q ≡ false
rest_of_day s start q none date later time =
    not_due-on s start.date q (start.time.second / 60 + 1) 1440 (sym date) none (λ at. (minute_after start.time q.time later at.second at.fraction, omega (arith, time.second)))

-- on a later day, up to a minute of that
pub least_later : (s : FieldSets) (start q : Moment) (n : ℤ) (k : ℕ) → start.date <ℤ n → NotDueOn s start.date (start.time.second / 60 + 1) 1440 → NoDays s (start.date +ℤ pos 1) n → NoMinutes s 0 k → IsTime q.time → IsBefore start q → IsBefore q (moment n (time_at 0 k 0 0)) → is_due s q ≡ false
least_later s start q n k ahead today days minutes time (inr same) (inl earlier) = rest_of_day s start q today same.0 same.1 time
least_later s start q n k ahead today days minutes time (inr same) (inr before) = absurd (omega (arith, signed, ahead, same.0, before.0))
least_later s start q n k ahead today days minutes time (inl later) (inl earlier) =
    not_due s q (λ at. both_ways (is_day s q.date) (days q.date (omega (arith, signed, later)) earlier) at.day)
least_later s start q n k ahead today days minutes time (inl later) (inr before) =
    not_due s q (λ at. both_ways (is_minute s (q.time.second / 60)) (minutes (q.time.second / 60) (omega arith) (minute_before q.time k before.1)) at.minute)

-- at no later moment
pub none_later : (s : FieldSets) (start q : Moment) → NotDueOn s start.date (start.time.second / 60 + 1) 1440 → ((d : ℤ) → start.date <ℤ d → IsDate d → is_day s d ≡ false) → IsMoment q → IsBefore start q → is_due s q ≡ false
none_later s start q today days is (inr same) = rest_of_day s start q today same.0 same.1 is.time
none_later s start q today days is (inl later) =
    not_due s q (λ at. both_ways (is_day s q.date) (days q.date later is.date) at.day)

-- on no day, where no minute is one of the schedule's
pub none_ever : (s : FieldSets) (q : Moment) → NoMinutes s 0 1440 → IsTime q.time → is_due s q ≡ false
none_ever s q minutes time =
    not_due s q (λ at. both_ways (is_minute s (q.time.second / 60)) (minutes (q.time.second / 60) (omega arith) (omega (arith, time.second))) at.minute)

-- ---- before a start

-- so many minutes of the day begin before a time
abbrev pub Begun : TimeOfDay → ℕ → Type 0
Begun t end = (k : ℕ) → IsEarlier (time_at 0 k 0 0) t → k < end

earlier_begins : (t a : TimeOfDay) → IsEarlier t a → t.second % 60 ≡ 0 → t.fraction ≡ 0 → IsEarlier (time_at 0 (t.second / 60) 0 0) a
earlier_begins t a (inl less) whole none = inl (omega (arith, less, whole))
earlier_begins t a (inr same) whole none = inr (omega (arith, same.0, whole), omega (arith, same.1, none))

minute_above : (t : TimeOfDay) (k : ℕ) → IsEarlier (time_at 0 k 0 0) t → t.second % 60 ≡ 0 → t.fraction ≡ 0 → k < t.second / 60
minute_above t k (inl less) whole none = omega (arith, less, whole)
minute_above t k (inr same) whole none = absurd (omega (arith, same.1, none))

-- on its day, down to a minute
pub greatest_today : (s : FieldSets) (start q : Moment) (k end : ℕ) → Begun start.time end → NotDueOn s start.date (k + 1) end → IsBefore (moment start.date (time_at 0 k 0 0)) q → IsBefore q start → is_due s q ≡ false
greatest_today s start q k end begun none (inl later) (inl earlier) = absurd (omega (arith, signed, later, earlier))
greatest_today s start q k end begun none (inl later) (inr same) = absurd (omega (arith, signed, later, same.0))
greatest_today s start q k end begun none (inr after) (inl earlier) = absurd (omega (arith, signed, after.0, earlier))
greatest_today s start q k end begun none (inr after) (inr same) =
    not_due-on s start.date q (k + 1) end same.0 none (λ at.
    (omega (arith, minute_above q.time k after.1 at.second at.fraction), begun (q.time.second / 60) (earlier_begins q.time start.time same.1 at.second at.fraction)))

beginning_of_day : (s : FieldSets) (start q : Moment) (end : ℕ) → Begun start.time end → NotDueOn s start.date 0 end → q.date ≡ start.date → IsEarlier q.time start.time → is_due s q ≡ false
beginning_of_day s start q end begun none date earlier =
    not_due-on s start.date q 0 end date none (λ at. (omega arith, begun (q.time.second / 60) (earlier_begins q.time start.time earlier at.second at.fraction)))

-- on an earlier day, down to a minute of that
pub greatest_earlier : (s : FieldSets) (start q : Moment) (n : ℤ) (k end : ℕ) → n <ℤ start.date → Begun start.time end → NotDueOn s start.date 0 end → NoDays s (n +ℤ pos 1) start.date → NoMinutes s (k + 1) 1440 → IsTime q.time → IsBefore (moment n (time_at 0 k 0 0)) q → IsBefore q start → is_due s q ≡ false
greatest_earlier s start q n k end behind begun today days minutes time (inl later) (inr same) = beginning_of_day s start q end begun today same.0 same.1
greatest_earlier s start q n k end behind begun today days minutes time (inr after) (inr same) = absurd (omega (arith, signed, behind, after.0, same.0))
greatest_earlier s start q n k end behind begun today days minutes time (inl later) (inl earlier) =
    not_due s q (λ at. both_ways (is_day s q.date) (days q.date (omega (arith, signed, later)) earlier) at.day)
greatest_earlier s start q n k end behind begun today days minutes time (inr after) (inl earlier) =
    not_due s q (λ at. both_ways (is_minute s (q.time.second / 60))
    (minutes (q.time.second / 60) (omega (arith, minute_above q.time k after.1 at.second at.fraction)) (omega (arith, time.second))) at.minute)

-- at no earlier moment
pub none_earlier : (s : FieldSets) (start q : Moment) (end : ℕ) → Begun start.time end → NotDueOn s start.date 0 end → ((d : ℤ) → d <ℤ start.date → IsDate d → is_day s d ≡ false) → IsMoment q → IsBefore q start → is_due s q ≡ false
none_earlier s start q end begun today days is (inr same) = beginning_of_day s start q end begun today same.0 same.1
none_earlier s start q end begun today days is (inl earlier) =
    not_due s q (λ at. both_ways (is_day s q.date) (days q.date earlier is.date) at.day)

-- ---- never

pub never-minutes : (s : FieldSets) → NoMinutes s 0 1440 → IsNeverDue s
never-minutes s none = λ m is. none_ever s m none is.time

pub never-days : (s : FieldSets) (from : ℤ) → from ≡ neg_ℤ (pos 95_746_129) → ((d : ℤ) → from ≤ℤ d → IsDate d → is_day s d ≡ false) → IsNeverDue s
never-days s from first none = λ m is.
    not_due s m (λ at. both_ways (is_day s m.date) (none m.date (omega (arith, signed, first, is.date)) is.date) at.day)

pub not_never : (s : FieldSets) (n : ℤ) (k : ℕ) → IsDate n → is_day s n ≡ true → k < 1440 → is_minute s k ≡ true → IsNeverDue s → ⊥
not_never s n k date day small minute never =
    both_ways (is_due s (moment n (time_at 0 k 0 0)))
    (never (moment n (time_at 0 k 0 0)) (record { date = date; time = record { second = omega (arith, small); fraction = omega arith } }))
    (is_due-beginning s n k day minute)
