-- Which numbers name a date-time, a time of day and a duration: from the tests of the definitions to facts and back.
use Rattle.std.proofs.Common.{sym, subst, ◌∙◌, ◌≡◌, ◌≢◌, ℕ, ◌%◌, ◌<◌, ◌≤◌, ◌&&◌, nat_le, nat_lt, not, Bool, true, false, cond, Option, Some, None, refl, ap, arith, ℤ, pos, unsigned_abs}
use Rattle.std.proofs.lemmas.Bool.{false≢true, false_from_ne_true, not-true, not_from_false}
use Rattle.std.proofs.lemmas.Bool.Decides.{Decides-int_eq, nat_tests}
use Rattle.std.specs.Option.{SomeIff, option_map}
use Rattle.std.specs.Ordering.{int_eq}
use Rattle.chrono_text.proofs.AnswerLemmas.{by_test}
use Rattle.chrono_clock.specs.Duration.{IsDuration, duration_named as duration_of_parts, floor_secs, longest, nanos_of, past_floor, two_step_quotient}
use Rattle.chrono_clock.specs.Time.{FractionFits, TimeOfDay}
use Rattle.chrono_calendar.specs.Days.{IsDate, date_of_day}
use Rattle.chrono_datetime.specs.Moment.{Moment, moment, moment_on}
use Rattle.chrono_calendar.proofs.NamedDates.{date_of_day-None, date_of_day-Some, date_of_day-number}
use Rattle.chrono_calendar.proofs.Signed.{signed}
use Rattle.numbers_c.specs.DateTimes.{day_of_seconds, duration_divided, duration_for_c, duration_from_c, duration_or_none, duration_within, is_time_named, moment_at, moment_from_c, numbers_for_c, numbers_or_none, second_of_seconds, time_for_c, time_from_c, time_or_none}
use Rattle.numbers_c.specs.declared.date_time_numbers.CalendarDateTime.{CalendarDateTime}
use Rattle.numbers_c.specs.declared.time_numbers.CalendarTimeOfDay.{CalendarTimeOfDay}

-- a second of the day and a fraction that the library has
abbrev pub IsTimeNamed : ℕ → ℕ → Type 0
IsTimeNamed second nanos = (second < 86_400) × FractionFits (second % 60) nanos

is_time_named-test : (second nanos : ℕ) → IsTimeNamed second nanos → is_time_named second nanos ≡ true
is_time_named-test second nanos h = grind (arith, nat_tests)

is_time_named-fact : (second nanos : ℕ) → is_time_named second nanos ≡ true → IsTimeNamed second nanos
is_time_named-fact second nanos t = grind (arith, nat_tests)

-- a time and a date that are there
pub moment_at-Some : (day n : ℤ) (second nanos : ℕ) → IsTimeNamed second nanos → Some n ≡ date_of_day day → Some (moment n (record { second = second; fraction = nanos })) ≡ moment_at day second nanos
unfolding moment_at
moment_at-Some day n second nanos h e = rw (is_time_named-test second nanos h, ← e) refl

none_unless : (b : Bool) (o : Option Moment) → (b ≡ true → None ≡ o) → None ≡ cond b o None
none_unless true o h = h refl
none_unless false o h = refl

-- no time, or no date
pub moment_at-no_time : (day : ℤ) (second nanos : ℕ) → (IsTimeNamed second nanos → ⊥) → None ≡ moment_at day second nanos
unfolding moment_at
moment_at-no_time day second nanos h =
    none_unless (is_time_named second nanos) (moment_on (date_of_day day) (record { second = second; fraction = nanos }))
    (λ t. absurd (h (is_time_named-fact second nanos t)))

pub moment_at-no_date : (day : ℤ) (second nanos : ℕ) → None ≡ date_of_day day → None ≡ moment_at day second nanos
unfolding moment_at
moment_at-no_date day second nanos e =
    none_unless (is_time_named second nanos) (moment_on (date_of_day day) (record { second = second; fraction = nanos }))
    (λ t. ap (λ (o : Option ℤ). moment_on o (record { second = second; fraction = nanos })) e)

-- the day and the second of so many seconds since 1970, as they are found
pub moment_from_c-parts : (a : CalendarDateTime) (day : ℤ) (second nanos : ℕ) → day ≡ day_of_seconds a.seconds → second ≡ second_of_seconds a.seconds → nanos ≡ a.nanos → moment_at day second nanos ≡ moment_from_c a
unfolding moment_from_c
moment_from_c-parts a day second nanos e f g = rw (e, f, g) refl

pub moment_from_c-no_date : (a : CalendarDateTime) → (IsDate (day_of_seconds a.seconds) → ⊥) → None ≡ moment_from_c a
unfolding moment_from_c
moment_from_c-no_date a h = moment_at-no_date (day_of_seconds a.seconds) (second_of_seconds a.seconds) a.nanos (date_of_day-None (day_of_seconds a.seconds) h)

-- a date and a time that are there, by their tests
pub found : (b : Bool) (o : Option ℤ) (t : TimeOfDay) (m : Moment) → Some m ≡ cond b (moment_on o t) None → (b ≡ true) × (Some m.date ≡ o) × (t ≡ m.time)
found true (Some n) t m e = (refl, cc, cc)
found true None t m e = absurd cc
found false o t m e = absurd cc

-- the numbers of what is found stand for it again
again : (day : ℤ) (second nanos : ℕ) (m : Moment) → Some m ≡ moment_at day second nanos → moment_from_c (numbers_for_c m) ≡ moment_at day second nanos
unfolding moment_from_c moment_at
again day second nanos m e =
    let is = found (is_time_named second nanos) (date_of_day day) (record { second = second; fraction = nanos }) m e in
    let date = date_of_day-number m.date day (sym is.1) in
    let time = is_time_named-fact second nanos is.0 in
    let seconds : second ≡ m.time.second = ap (λ (t : TimeOfDay). t.second) is.2 in
    let fraction : nanos ≡ m.time.fraction = ap (λ (t : TimeOfDay). t.fraction) is.2 in
    let of_day : day_of_seconds (numbers_for_c m).seconds ≡ day = omega (arith, signed, seconds, time.0, date.1) in
    let of_second : second_of_seconds (numbers_for_c m).seconds ≡ second = omega (arith, signed, seconds, time.0, date.1) in
    rw (of_day, of_second, ← fraction) refl

-- what numbers name is on a date, at a time that is named
pub moment_from_c-facts : (a : CalendarDateTime) (m : Moment) → Some m ≡ moment_from_c a → IsDate m.date × IsTimeNamed m.time.second m.time.fraction
unfolding moment_from_c moment_at
moment_from_c-facts a m e =
    let is = found (is_time_named (second_of_seconds a.seconds) a.nanos) (date_of_day (day_of_seconds a.seconds)) (record { second = second_of_seconds a.seconds; fraction = a.nanos }) m e in
    let time = is_time_named-fact (second_of_seconds a.seconds) a.nanos is.0 in
    ((date_of_day-number m.date (day_of_seconds a.seconds) (sym is.1)).0, subst (λ (t : TimeOfDay). IsTimeNamed t.second t.fraction) is.2 time)

-- and the numbers of any such date-time name it
pub numbers_for_c-again : (m : Moment) → IsDate m.date → IsTimeNamed m.time.second m.time.fraction → moment_from_c (numbers_for_c m) ≡ Some m
numbers_for_c-again m date time =
    let e = moment_at-Some m.date m.date m.time.second m.time.fraction time (sym (date_of_day-Some m.date date)) in
    again m.date m.time.second m.time.fraction m e ∙ sym e

pub moment_from_c-none : (o : Option Moment) → o ≡ None → moment_from_c (numbers_or_none o) ≡ o
unfolding moment_from_c moment_at
moment_from_c-none None e = refl
moment_from_c-none (Some m) e = absurd cc

pub moment_from_c-again : (o : Option Moment) (day : ℤ) (second nanos : ℕ) → o ≡ moment_at day second nanos → moment_from_c (numbers_or_none o) ≡ moment_at day second nanos
unfolding moment_from_c moment_at
moment_from_c-again (Some m) day second nanos e = again day second nanos m e
moment_from_c-again None day second nanos e = e

-- ---- times of day

pub time_from_c-SomeIff : (o : Option TimeOfDay) (a : CalendarTimeOfDay) → SomeIff o (IsTimeNamed a.second a.nanos) (record { second = a.second; fraction = a.nanos }) → o ≡ time_from_c a
unfolding time_from_c
time_from_c-SomeIff o a given =
    by_test (is_time_named a.second a.nanos) o (record { second = a.second; fraction = a.nanos }) (IsTimeNamed a.second a.nanos)
    (is_time_named-fact a.second a.nanos) (is_time_named-test a.second a.nanos) given

-- the numbers of a time that is named name it
pub time_for_c-again : (t : TimeOfDay) → IsTimeNamed t.second t.fraction → time_from_c (time_for_c t) ≡ Some t
unfolding time_from_c
time_for_c-again t h = rw (is_time_named-test t.second t.fraction h) refl

time_from_c-none : (o : Option TimeOfDay) → o ≡ None → time_from_c (time_or_none o) ≡ o
unfolding time_from_c
time_from_c-none None e = refl
time_from_c-none (Some t) e = absurd cc

-- and so do those of the time of a date-time
pub time_of_moment-again : (a : CalendarDateTime) (o : Option Moment) → o ≡ moment_from_c a → time_from_c (time_or_none (option_map (λ m. m.time) o)) ≡ option_map (λ m. m.time) o
time_of_moment-again a None e = time_from_c-none None refl
time_of_moment-again a (Some m) e = time_for_c-again m.time (moment_from_c-facts a m e).1

-- ---- durations

-- the numbers of a duration name it
pub duration_for_c-again : (x : ℤ) → IsDuration x → duration_from_c (duration_for_c x) ≡ Some x
unfolding duration_from_c duration_of_parts
duration_for_c-again x h =
    let is : nanos_of (floor_secs x) (past_floor x) ≡ x = omega (arith, signed) in
    let test : (nat_lt (past_floor x) 1_000_000_000 && nat_le (unsigned_abs x) longest) ≡ true = grind (arith, nat_tests) in
    rw (is, test) refl

pub duration_from_c-none : (o : Option ℤ) → o ≡ None → duration_from_c (duration_or_none o) ≡ o
unfolding duration_from_c duration_of_parts
duration_from_c-none None e = refl
duration_from_c-none (Some x) e = absurd cc

within-fact : (n : ℕ) → nat_le n longest ≡ true → n ≤ longest
within-fact n t = grind (arith, nat_tests)

within-test : (n : ℕ) → n ≤ longest → nat_le n longest ≡ true
within-test n h = grind (arith, nat_tests, h)

pub duration_within-SomeIff : (o : Option ℤ) (x : ℤ) → SomeIff o (IsDuration x) x → o ≡ duration_within x
duration_within-SomeIff o x given =
    by_test (nat_le (unsigned_abs x) longest) o x (IsDuration x) (within-fact (unsigned_abs x)) (within-test (unsigned_abs x)) given

not_zero-fact : (n : ℤ) → not (int_eq n (pos 0)) ≡ true → n ≢ pos 0
not_zero-fact n t = λ e. false≢true (sym (not-true (int_eq n (pos 0)) t) ∙ (Decides-int_eq n (pos 0)).1 e)

not_zero-test : (n : ℤ) → n ≢ pos 0 → not (int_eq n (pos 0)) ≡ true
not_zero-test n h = not_from_false (int_eq n (pos 0)) (false_from_ne_true (int_eq n (pos 0)) (λ t. h ((Decides-int_eq n (pos 0)).0 t)))

pub duration_divided-SomeIff : (o : Option ℤ) (x n : ℤ) → SomeIff o (n ≢ pos 0) (two_step_quotient x n) → o ≡ duration_divided x n
duration_divided-SomeIff o x n given =
    by_test (not (int_eq n (pos 0))) o (two_step_quotient x n) (n ≢ pos 0) (not_zero-fact n) (not_zero-test n) given
