-- Moments by their years, and years that are passed over.
use Rattle.std.proofs.Common.{◌≡◌, inl, inr, true, false, ◌&&◌, refl, sym, ap, ◌∙◌, arith, ℤ, pos, int_le, ◌+ℤ◌, ◌-ℤ◌, ◌≤ℤ◌, ◌<ℤ◌, unsigned_abs, Option, Some, None, IfSome, IfNone}
use Rattle.std.proofs.Math.Bool.{and-false, and-true}
use Rattle.std.proofs.lemmas.Bool.{and_from, and_parts, both_ways, false_from_ne_true}
use Rattle.std.proofs.lemmas.Int.{by_lt_z}
use Rattle.std.proofs.Math.Path.{subst}
use Rattle.chrono_datetime.specs.Days.{days_after_zero, days_before_year, ordinal_name_of, ordinal_of, year_of}
use Rattle.chrono_datetime.specs.Moment.{Moment, IsBefore, IsMoment, moment}
use Rattle.chrono_datetime.proofs.Signed.{signed}
use Rattle.chrono_datetime.proofs.Order.{earlier_year}
use Rattle.chrono_datetime.proofs.Rising.{year_of-rises}
use Rattle.chrono_datetime.proofs.Names.{ordinal_name_of-number}
use Rattle.chrono_datetime.proofs.NamedDates.{number-ordinal_name}
use Rattle.chrono_sets.specs.FiniteSets.{has}
use Rattle.timed_cron.specs.declared.timed_schedule.TimedSchedule.{TimedSchedule}
use Rattle.timed_cron.specs.declared.year_set.YearSet.{YearSet}
use Rattle.timed_cron.specs.DueSeconds.{is_due_at_second, is_timed_due}
use Rattle.timed_cron.specs.Private.{IsDueIn}
use Rattle.timed_cron.specs.Years.{NoYearIn, has_year, is_due_year}

-- ---- due or not

pub timed_parts : (s : TimedSchedule) (m : Moment) → is_timed_due s m ≡ true → (is_due_at_second s m ≡ true) × (is_due_year s.years (year_of m.date) ≡ true)
unfolding is_timed_due
timed_parts s m due = and_parts (is_due_at_second s m) (is_due_year s.years (year_of m.date)) due

pub any_year : (s : TimedSchedule) (m : Moment) → s.years ≡ None → is_timed_due s m ≡ is_due_at_second s m
unfolding is_timed_due is_due_year
any_year s m none = ap (λ years. is_due_at_second s m && is_due_year years (year_of m.date)) none ∙ and-true (is_due_at_second s m)

pub due_in : (s : TimedSchedule) (years : YearSet) (m : Moment) → s.years ≡ Some years → is_timed_due s m ≡ true → IsDueIn s years m
unfolding is_timed_due is_due_year
due_in s years m some due =
    let parts = and_parts (is_due_at_second s m) (is_due_year s.years (year_of m.date)) due in
    record { fields = parts.0; year = sym (ap (λ listed. is_due_year listed (year_of m.date)) some) ∙ parts.1 }

pub not_due_in : (s : TimedSchedule) (years : YearSet) (m : Moment) → s.years ≡ Some years → (IsDueIn s years m → ⊥) → is_timed_due s m ≡ false
not_due_in s years m some never = false_from_ne_true (is_timed_due s m) (λ due. never (due_in s years m some due))

pub due_by_years : (s : TimedSchedule) (years : YearSet) (m : Moment) → s.years ≡ Some years → IsDueIn s years m → is_timed_due s m ≡ true
unfolding is_timed_due is_due_year
due_by_years s years m some is =
    and_from (is_due_at_second s m) (is_due_year s.years (year_of m.date)) is.fields (ap (λ listed. is_due_year listed (year_of m.date)) some ∙ is.year)

-- ---- what is known of an answer

pub for_none : {A : Type 0} {P Q : Type 0} (o : Option A) → (P → Q) → IfNone o P → IfNone o Q
for_none None f h = f h
for_none (Some a) f h = h

-- ---- years of a set

pub early_year : (set : YearSet) (y : ℤ) → y <ℤ pos 1_970 → has_year set y ≡ false
unfolding has_year
early_year set y less = ap (λ b. (b && int_le y (pos 2_099)) && has set.places (unsigned_abs (y -ℤ pos 1_970))) (false_from_ne_true (int_le (pos 1_970) y) (λ t. absurd (omega (arith, signed, less, t))))

pub late_year : (set : YearSet) (y : ℤ) → pos 2_099 <ℤ y → has_year set y ≡ false
unfolding has_year
late_year set y more = ap (λ b. (int_le (pos 1_970) y && b) && has set.places (unsigned_abs (y -ℤ pos 1_970))) (false_from_ne_true (int_le y (pos 2_099)) (λ t. absurd (omega (arith, signed, more, t)))) ∙ ap (λ b. b && has set.places (unsigned_abs (y -ℤ pos 1_970))) (and-false (int_le (pos 1_970) y))

-- ---- days by their years

-- what is known of an option is known of what it has
known_of : {A : Type 0} (P : A → Type 0) (o : Option A) (a : A) → o ≡ Some a → IfSome o P → P a
known_of P o a e h = subst (λ o. IfSome o P) e h

pub year_is : (o : Option ℤ) (d y : ℤ) → o ≡ Some d → IfSome o (λ e. year_of e ≡ y) → year_of d ≡ y
year_is o d y = known_of (λ e. year_of e ≡ y) o d

pub ordinal_is : (o : Option ℤ) (d : ℤ) → o ≡ Some d → IfSome o (λ e. ordinal_of e ≡ 1) → ordinal_of d ≡ 1
ordinal_is o d = known_of (λ e. ordinal_of e ≡ 1) o d

pub from_first : (d n y : ℤ) → year_of d ≡ y → d ≤ℤ n → y ≤ℤ year_of n
from_first d n y e le = omega (arith, signed, e, year_of-rises d n le)

pub past_zero : (d y : ℤ) → year_of d ≡ y → pos 1_970 ≤ℤ y → pos 1 ≤ℤ d
unfolding ordinal_name_of days_after_zero
past_zero d y e late =
    by_lt_z (pos 0) d (λ lt. omega (arith, signed, lt))
    (λ ge.
    let year : year_of (pos 0) ≡ pos 0 = refl in
    absurd (omega (arith, signed, from_first d (pos 0) y e ge, late, year)))

pub first_in_year : (d n : ℤ) → ordinal_of d ≡ 1 → year_of d ≤ℤ year_of n → d ≤ℤ n
first_in_year d n first le =
    by_lt_z n d
    (λ lt.
    let back = year_of-rises n d (omega (arith, signed, lt)) in
    let same : year_of n ≡ year_of d = omega (arith, signed, back, le) in
    let some = (ordinal_name_of-number n).exists.0 in
    omega (arith, signed, number-ordinal_name n, number-ordinal_name d, ap (λ (y : ℤ). days_before_year y) same, first, some))
    (λ ge. ge)

-- ---- the ends of years

pub after_end : (d e : ℤ) (q : Moment) → e ≡ d -ℤ pos 1 → IsMoment q → IsBefore (moment e (record { second = 86_399; fraction = 1_999_999_999 })) q → d ≤ℤ q.date
after_end d e q before at (inl later) = omega (arith, signed, before, later)
after_end d e q before at (inr (date, inl later)) = absurd (omega (arith, at.time.second, later))
after_end d e q before at (inr (date, inr level)) = absurd (omega (arith, at.time.fraction, level.1))

pub all_after_end : (d e : ℤ) (q : Moment) → e ≡ d -ℤ pos 1 → d ≤ℤ q.date → IsBefore (moment e (record { second = 86_399; fraction = 1_999_999_999 })) q
all_after_end d e q before le = inl (omega (arith, signed, before, le))

pub before_beginning : (d year past : ℤ) (q : Moment) → past ≡ year +ℤ pos 1 → ((n : ℤ) → past ≤ℤ year_of n → d ≤ℤ n) → IsBefore q (moment d (record { second = 0; fraction = 0 })) → year_of q.date ≤ℤ year
before_beginning d year past q e all (inl earlier) =
    by_lt_z year (year_of q.date) (λ lt. absurd (omega (arith, signed, earlier, all q.date (omega (arith, signed, e, lt))))) (λ ge. ge)
before_beginning d year past q e all (inr (date, inl earlier)) = absurd (omega (arith, earlier))
before_beginning d year past q e all (inr (date, inr level)) = absurd (omega (arith, level.1))

pub all_before_beginning : (d year past : ℤ) (q : Moment) → past ≡ year +ℤ pos 1 → ((n : ℤ) → d ≤ℤ n → past ≤ℤ year_of n) → year_of q.date ≤ℤ year → IsBefore q (moment d (record { second = 0; fraction = 0 }))
all_before_beginning d year past q e from le =
    by_lt_z q.date d (λ lt. inl lt) (λ ge. absurd (omega (arith, signed, e, le, from q.date ge)))

-- ---- the search onwards

-- where a search goes on from: no moment that is due is passed over, and no year before `year` comes any more
pub record IsNextFrom (s : TimedSchedule) (years : YearSet) (start from : Moment) (year : ℤ) : Type 0 where
  pub kept : (q : Moment) → IsMoment q → IsBefore start q → IsDueIn s years q → IsBefore from q
  pub behind : (q : Moment) → IsMoment q → IsBefore from q → IsBefore start q
  pub in_order : (q : Moment) → IsMoment q → IsBefore from q → year ≤ℤ year_of q.date
  pub low : year_of start.date ≤ℤ year

later_year : (a b : Moment) → IsBefore a b → year_of a.date ≤ℤ year_of b.date
later_year a b (inl less) = year_of-rises a.date b.date (omega (arith, signed, less))
later_year a b (inr same) = year_of-rises a.date b.date (omega (arith, signed, same.0))

pub next_at_start : (s : TimedSchedule) (years : YearSet) (start : Moment) (year : ℤ) → year ≡ year_of start.date → IsNextFrom s years start start year
next_at_start s years start year e = record {
  kept = λ q at later due. later;
  behind = λ q at later. later;
  in_order = λ q at later. omega (arith, signed, e, later_year start q later);
  low = omega (arith, signed, e);
}

-- what was found by the fields alone
pub record IsFoundNext (s : TimedSchedule) (years : YearSet) (from next : Moment) : Type 0 where
  pub at : IsMoment next
  pub later : IsBefore from next
  pub least : (q : Moment) → IsMoment q → IsBefore from q → IsBefore q next → is_due_at_second s q ≡ false
  pub unlisted : has_year years (year_of next.date) ≡ false

-- a moment that is due lies in a later year
pub in_later_year : (s : TimedSchedule) (years : YearSet) (from next q : Moment) → IsFoundNext s years from next → IsMoment q → IsBefore from q → IsDueIn s years q → (year_of next.date +ℤ pos 1) ≤ℤ year_of q.date
in_later_year s years from next q found at later due =
    by_lt_z q.date next.date
    (λ lt. absurd (both_ways (is_due_at_second s q) (found.least q at later (inl lt)) due.fields))
    (λ ge. by_lt_z (year_of next.date) (year_of q.date) (λ lt. omega (arith, signed, lt))
    (λ le.
    let same : year_of q.date ≡ year_of next.date = omega (arith, signed, le, year_of-rises next.date q.date ge) in
    absurd (both_ways (has_year years (year_of q.date)) (ap (has_year years) same ∙ found.unlisted) due.year)))

pub next_goes_on : (s : TimedSchedule) (years : YearSet) (start from next on : Moment) (year past listed : ℤ) → IsNextFrom s years start from year → IsFoundNext s years from next
    → past ≡ year_of next.date +ℤ pos 1 → past ≤ℤ listed → NoYearIn years past listed
    → ((q : Moment) → IsMoment q → IsBefore on q → listed ≤ℤ year_of q.date) → ((q : Moment) → IsMoment q → listed ≤ℤ year_of q.date → IsBefore on q)
    → IsNextFrom s years start on listed
next_goes_on s years start from next on year past listed so_far found e more none after all =
    let order = so_far.in_order next found.at found.later in
    let low = so_far.low in
    record {
      kept = λ q at later due.
          let beyond = in_later_year s years from next q found at (so_far.kept q at later due) due in
          by_lt_z (year_of q.date) listed
          (λ lt. absurd (both_ways (has_year years (year_of q.date)) (none (year_of q.date) (omega (arith, signed, e, beyond)) lt) due.year))
          (λ ge. all q at ge);
      behind = λ q at later. inl (earlier_year start.date q.date (omega (arith, signed, after q at later, e, more, order, low)));
      in_order = after;
      low = omega (arith, signed, e, order, low, more);
    }

pub year_grows : (s : TimedSchedule) (years : YearSet) (start from next : Moment) (year listed : ℤ) → IsNextFrom s years start from year → IsFoundNext s years from next
    → year_of next.date <ℤ listed → year <ℤ listed
year_grows s years start from next year listed so_far found more = omega (arith, signed, so_far.in_order next found.at found.later, more)

-- ---- and backwards

pub record IsPrevFrom (s : TimedSchedule) (years : YearSet) (start from : Moment) (year : ℤ) : Type 0 where
  pub kept : (q : Moment) → IsMoment q → IsBefore q start → IsDueIn s years q → IsBefore q from
  pub before : (q : Moment) → IsMoment q → IsBefore q from → IsBefore q start
  pub in_order : (q : Moment) → IsMoment q → IsBefore q from → year_of q.date ≤ℤ year
  pub high : year ≤ℤ year_of start.date

pub prev_at_start : (s : TimedSchedule) (years : YearSet) (start : Moment) (year : ℤ) → year ≡ year_of start.date → IsPrevFrom s years start start year
prev_at_start s years start year e = record {
  kept = λ q at earlier due. earlier;
  before = λ q at earlier. earlier;
  in_order = λ q at earlier. omega (arith, signed, e, later_year q start earlier);
  high = omega (arith, signed, e);
}

pub record IsFoundPrev (s : TimedSchedule) (years : YearSet) (from previous : Moment) : Type 0 where
  pub at : IsMoment previous
  pub earlier : IsBefore previous from
  pub greatest : (q : Moment) → IsMoment q → IsBefore previous q → IsBefore q from → is_due_at_second s q ≡ false
  pub unlisted : has_year years (year_of previous.date) ≡ false

pub in_earlier_year : (s : TimedSchedule) (years : YearSet) (from previous q : Moment) → IsFoundPrev s years from previous → IsMoment q → IsBefore q from → IsDueIn s years q → year_of q.date ≤ℤ (year_of previous.date -ℤ pos 1)
in_earlier_year s years from previous q found at earlier due =
    by_lt_z previous.date q.date
    (λ lt. absurd (both_ways (is_due_at_second s q) (found.greatest q at (inl lt) earlier) due.fields))
    (λ ge. by_lt_z (year_of q.date) (year_of previous.date) (λ lt. omega (arith, signed, lt))
    (λ le.
    let same : year_of q.date ≡ year_of previous.date = omega (arith, signed, le, year_of-rises q.date previous.date ge) in
    absurd (both_ways (has_year years (year_of q.date)) (ap (has_year years) same ∙ found.unlisted) due.year)))

pub prev_goes_on : (s : TimedSchedule) (years : YearSet) (start from previous on : Moment) (year past listed : ℤ) → IsPrevFrom s years start from year → IsFoundPrev s years from previous
    → past ≡ year_of previous.date -ℤ pos 1 → listed ≤ℤ past → ((y : ℤ) → listed <ℤ y → y ≤ℤ past → has_year years y ≡ false)
    → ((q : Moment) → IsMoment q → IsBefore q on → year_of q.date ≤ℤ listed) → ((q : Moment) → IsMoment q → year_of q.date ≤ℤ listed → IsBefore q on)
    → IsPrevFrom s years start on listed
prev_goes_on s years start from previous on year past listed so_far found e less none before all =
    let order = so_far.in_order previous found.at found.earlier in
    let high = so_far.high in
    record {
      kept = λ q at earlier due.
          let beyond = in_earlier_year s years from previous q found at (so_far.kept q at earlier due) due in
          by_lt_z listed (year_of q.date)
          (λ lt. absurd (both_ways (has_year years (year_of q.date)) (none (year_of q.date) lt (omega (arith, signed, e, beyond))) due.year))
          (λ ge. all q at ge);
      before = λ q at earlier. inl (earlier_year q.date start.date (omega (arith, signed, before q at earlier, e, less, order, high)));
      in_order = before;
      high = omega (arith, signed, e, order, high, less);
    }

pub year_falls : (s : TimedSchedule) (years : YearSet) (start from previous : Moment) (year listed : ℤ) → IsPrevFrom s years start from year → IsFoundPrev s years from previous
    → listed <ℤ year_of previous.date → listed <ℤ year
year_falls s years start from previous year listed so_far found less = omega (arith, signed, so_far.in_order previous found.at found.earlier, less)
