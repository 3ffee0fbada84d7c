-- The instances in whole days of a clock that keeps its offset.
use Rattle.std.proofs.Common.{◌≡◌, ℕ, zero, suc, ◌+◌, ◌*◌, ◌<◌, ◌&&◌, Bool, true, cond, refl, sym, ap, ap₂, ◌∙◌, ℤ, pos, neg_ℤ, ◌+ℤ◌, ◌-ℤ◌, ◌≤ℤ◌, ◌<ℤ◌, arith, subst, unsigned_abs}
use Rattle.std.proofs.lemmas.Int.{ints}
use Rattle.chrono_datetime.specs.Days.{IsDate}
use Rattle.chrono_datetime.specs.Moment.{Moment, moment}
use Rattle.chrono_datetime.specs.PassedOver.{PassedBetween, PassedUpTo}
use Rattle.chrono_datetime.specs.Recurrence.{count_between}
use Rattle.chrono_datetime.proofs.CountBetween.{count_between-empty, count_between-next, count_between-none, count_between-sum}
use Rattle.chrono_datetime.proofs.Signed.{casts}
use Rattle.chrono_instant.specs.Instants.{epoch_second}
use Rattle.chrono_rules.specs.Instances.{is_instance}
use Rattle.chrono_zoned.specs.Zones.{HoldsUntil}
use Rattle.zoned_rules.specs.LocalInstants.{HasDates, IsInstantOf}
use Rattle.zoned_rules.specs.LocalTimes.{LocalParts, is_counted_time, is_planned_on}
use Rattle.zoned_rules.specs.Recurs.{Recurs}
use Rattle.zoned_rules.specs.Private.{AreBehind, AreWholeDays, IsListedSince, count_below, second_on}
use Rattle.zoned_rules.proofs.CountedSeconds.{are_sum, count-if, count-same, seconds_counted}
use Rattle.zoned_rules.proofs.HeldStretch.{held_local, held_stood}
use Rattle.zoned_rules.proofs.ListedTimes.{listed_at, listed_parts}
use Rattle.zoned_rules.proofs.Reached.{listed_of}
use Rattle.zoned_rules.proofs.SinceStart.{listed_alone, since_listed}
use Rattle.zoned_rules.proofs.Standing.{AreOffsets, stands_once}

-- ---- there the rule recurs at its local times

-- a stretch from s to t, by whose clock the whole days begin at the second b, no earlier than the start and two days behind s
pub record IsHeld (r : LocalParts) (ahead : ℤ → ℤ) (s t b before last : ℤ) : Type 0 where
  pub offsets : AreOffsets ahead
  pub holds : HoldsUntil ahead s t
  pub begin_date : IsDate before
  pub end_date : IsDate last
  pub begin : b ≡ (second_on before 86_399 -ℤ ahead s) +ℤ pos 1
  pub low : neg_ℤ (pos 8_334_601_228_800) ≤ℤ b
  pub two_days : (s +ℤ pos 172_800) ≤ℤ b
  pub since : epoch_second r.start ≤ℤ (b +ℤ ahead s)
  pub start : ℤ
  pub stands : IsInstantOf ahead (epoch_second r.start) start
  pub begun : start ≤ℤ b
  pub end : (second_on last 86_399 -ℤ ahead s) <ℤ t
  pub high : (second_on last 86_399 -ℤ ahead s) ≤ℤ pos 8_210_266_876_799

module _ (r : LocalParts) (ahead : ℤ → ℤ) (s t b before last : ℤ) (h : IsHeld r ahead s t b before last) (d : ℤ) (k : ℕ) (after : before <ℤ d) (up_to : d ≤ℤ last) (within : k < 86_400) where
  begins : b ≤ℤ (second_on d k -ℤ ahead s)
  begins = omega (arith, casts, h.begin, after, within)

  ends : (second_on d k -ℤ ahead s) ≤ℤ (second_on last 86_399 -ℤ ahead s)
  ends = omega (arith, casts, up_to, within)

  in_stretch : (second_on d k -ℤ ahead s) <ℤ t
  in_stretch = omega (arith, ints, ends, h.end)

  late : (s +ℤ pos 172_800) ≤ℤ (second_on d k -ℤ ahead s)
  late = omega (arith, ints, begins, h.two_days)

  same_place : (m : Moment) → m.time.second < 86_400 → epoch_second m ≡ second_on d k → (m.date ≡ d) × (m.time.second ≡ k)
  same_place m few is = (omega (arith, casts, is, few, within), omega (arith, casts, is, few, within))

  pub planned_there : Recurs r ahead (second_on d k -ℤ ahead s) → is_planned_on r d k ≡ true
  planned_there q =
      let m = q.planned in
      let f = q.recurs in
      let shown = held_local ahead s t (epoch_second m) (second_on d k -ℤ ahead s) h.offsets h.holds late in_stretch f.stands in
      let place = same_place m f.exists.time.second (omega (arith, ints, shown)) in
      sym (ap₂ (is_planned_on r) place.0 place.1) ∙ (listed_parts r m (listed_alone r m (listed_of r ahead m (second_on d k -ℤ ahead s) f))).0

  listed_there : is_planned_on r d k ≡ true → IsListedSince r (moment d (record { second = k; fraction = 0 }))
  listed_there on =
      let m : Moment = moment d (record { second = k; fraction = 0 }) in
      since_listed r m (listed_at r d k m refl (record { date = (omega (arith, ints, after, h.begin_date.0), omega (arith, ints, up_to, h.end_date.1)); time = record { second = within; fraction = omega arith } }) on)
      (omega (arith, ints, begins, h.since))

  dates_there : HasDates ahead (second_on d k -ℤ ahead s)
  dates_there =
      let same : ahead (second_on d k -ℤ ahead s) ≡ ahead s = h.holds (second_on d k -ℤ ahead s) (omega (arith, ints, late)) in_stretch in
      record {
        utc = (omega (arith, ints, begins, h.low), omega (arith, ints, ends, h.high));
        local = (omega (arith, casts, same, after, h.begin_date.0), omega (arith, casts, same, up_to, h.end_date.1, within));
      }

  pub recurs_there : is_planned_on r d k ≡ true → Recurs r ahead (second_on d k -ℤ ahead s)
  recurs_there on =
      let m : Moment = moment d (record { second = k; fraction = 0 }) in
      let stood = held_stood r ahead s t (second_on d k -ℤ ahead s) m h.offsets h.holds late in_stretch refl dates_there (listed_there on) in
      record {
        planned = stood.0;
        recurs = stood.1;
        begun = λ start stands. omega (arith, ints, stands_once ahead (epoch_second r.start) start h.start stands h.stands, h.begun, begins);
      }

pub whole_days_of : (r : LocalParts) (ahead : ℤ → ℤ) (s t b before last second next offset : ℤ) → offset ≡ ahead s → IsHeld r ahead s t b before last → before ≤ℤ last → second <ℤ b → b ≤ℤ next → AreWholeDays r ahead second next offset before last
whole_days_of r ahead s t b before last second next offset is h order behind up_to = record {
  begin_date = h.begin_date;
  end_date = h.end_date;
  order = order;
  behind = omega (arith, ints, is, h.begin, behind);
  in_front = omega (arith, ints, is, h.begin, up_to);
  end = omega (arith, ints, is, h.high);
  recurs = λ d k after low within. (
    λ q. planned_there r ahead s t b before last h d k after low within (subst (λ (x : ℤ). Recurs r ahead (second_on d k -ℤ x)) is q),
    λ on. subst (λ (x : ℤ). Recurs r ahead (second_on d k -ℤ x)) (sym is) (recurs_there r ahead s t b before last h d k after low within on),
  );
}

-- ---- the sums of the search for whole days

-- the day of m begins so many seconds before `next`
pub begin_at : (m : Moment) (next a before : ℤ) (k : ℕ) → epoch_second m ≡ (next +ℤ a) → m.time.second ≡ k → before ≡ (m.date -ℤ pos 1) → (next -ℤ pos k) ≡ (second_on before 86_399 -ℤ a) +ℤ pos 1
begin_at m next a before k at is_k is = omega (arith, casts, at, is_k, is)

-- the day before that of m ends before a second whose local time is no earlier than m
pub end_before_day : (m : Moment) (e a end last : ℤ) → epoch_second m ≡ e → last ≡ (m.date -ℤ pos 1) → e ≤ℤ (end +ℤ a) → (second_on last 86_399 -ℤ a) <ℤ end
end_before_day m e a end last at is le = omega (arith, casts, at, is, le)

-- ---- the days of a rule, counted one after another

-- none behind a day
pub days-none : (test : ℤ → Bool) (a b c : ℤ) (n : ℕ) → n ≡ count_between test (a +ℤ pos 1) (b +ℤ pos 1) → a ≤ℤ b → b ≤ℤ c → PassedUpTo test b c → n ≡ count_between test (a +ℤ pos 1) (c +ℤ pos 1)
days-none test a b c n is low high none =
    omega (arith, is, count_between-sum test (a +ℤ pos 1) (b +ℤ pos 1) (c +ℤ pos 1) (omega (arith, ints, low)) (omega (arith, ints, high)), count_between-none test (b +ℤ pos 1) (c +ℤ pos 1) (λ d from to. none d (omega (arith, ints, from)) (omega (arith, ints, to))))

-- what one count has more than another lies behind the day up to which that goes
days-more : (test : ℤ → Bool) (s a b : ℤ) (m n : ℕ) → m ≡ count_between test s (b +ℤ pos 1) → n ≡ count_between test s (a +ℤ pos 1) → s ≤ℤ (a +ℤ pos 1) → a ≤ℤ b → m ≡ n + count_between test (a +ℤ pos 1) (b +ℤ pos 1)
days-more test s a b m n all before low high =
    omega (arith, all, before, count_between-sum test s (a +ℤ pos 1) (b +ℤ pos 1) low (omega (arith, ints, high)))

-- the same of a rule, whose parts are seen in two ways
pub days-more-of : (r q : LocalParts) (s a b : ℤ) (m n : ℕ) → q ≡ r → s ≡ q.start.date → m ≡ count_between (is_instance q.days s) s (b +ℤ pos 1) → n ≡ count_between (is_instance q.days s) s (a +ℤ pos 1) → s ≤ℤ (a +ℤ pos 1) → a ≤ℤ b → m ≡ n + count_between (is_instance r.days r.start.date) (a +ℤ pos 1) (b +ℤ pos 1)
days-more-of r q s a b m n same start all before low high =
    subst (λ (p : LocalParts). m ≡ n + count_between (is_instance p.days p.start.date) (a +ℤ pos 1) (b +ℤ pos 1)) same
    (subst (λ (e : ℤ). m ≡ n + count_between (is_instance q.days e) (a +ℤ pos 1) (b +ℤ pos 1)) start
    (days-more (is_instance q.days s) s a b m n all before low high))

-- one more, the first behind a day
pub days-one : (test : ℤ → Bool) (a b c : ℤ) (n : ℕ) → n ≡ count_between test (a +ℤ pos 1) (b +ℤ pos 1) → a ≤ℤ b → b <ℤ c → PassedBetween test b c → test c ≡ true → n + 1 ≡ count_between test (a +ℤ pos 1) (c +ℤ pos 1)
days-one test a b c n is low high none on =
    let before = count_between-sum test (a +ℤ pos 1) (b +ℤ pos 1) c (omega (arith, ints, low)) (omega (arith, ints, high)) in
    let nothing = count_between-none test (b +ℤ pos 1) c (λ d from to. none d (omega (arith, ints, from)) to) in
    let next = count_between-next test (a +ℤ pos 1) c (c +ℤ pos 1) (omega (arith, ints, low, high)) refl in
    omega (arith, is, before, nothing, next ∙ ap (λ b. count_between test (a +ℤ pos 1) c + cond b 1 0) on)

-- ---- so many on each day

module _ (r : LocalParts) (ahead : ℤ → ℤ) (second next offset before last : ℤ) (t : ℕ) (h : AreWholeDays r ahead second next offset before last) (each : (d : ℤ) → count_below (is_counted_time r d) 86_400 ≡ t) where
  -- the last second of a day
  abbrev ends_at : ℤ → ℤ
  ends_at d = second_on d 86_399 -ℤ offset

  times_on : (d : ℤ) → count_below (is_planned_on r d) 86_400 ≡ t * cond (is_instance r.days r.start.date d) 1 0
  unfolding is_planned_on
  times_on d =
      count-same (is_planned_on r d) (λ k. is_instance r.days r.start.date d && is_counted_time r d k) 86_400 (λ k lt. refl)
      ∙ count-if (is_instance r.days r.start.date d) (is_counted_time r d) 86_400 t (each d)

  day_counted : (e d : ℤ) → d ≡ e +ℤ pos 1 → before ≤ℤ e → d ≤ℤ last → AreBehind (Recurs r ahead) (t * cond (is_instance r.days r.start.date d) 1 0) (ends_at e) (ends_at d)
  day_counted e d is low high =
      let P : ℤ → Type 0 = Recurs r ahead in
      let at : (k : ℕ) → (ends_at e +ℤ pos (suc k)) ≡ (second_on d k -ℤ offset) = λ k. omega (arith, casts, is) in
      let behind : before <ℤ d = omega (arith, ints, is, low) in
      let seconds = seconds_counted P (is_planned_on r d) 86_400 (ends_at e)
      (λ k lt q. (h.recurs d k behind high lt).0 (subst P (at k) q))
      (λ k lt on. subst P (sym (at k)) ((h.recurs d k behind high lt).1 on)) in
      let end : (ends_at e +ℤ pos 86_400) ≡ ends_at d = omega (arith, casts, is) in
      subst (λ (b : ℤ). AreBehind P (t * cond (is_instance r.days r.start.date d) 1 0) (ends_at e) b) end
      (subst (λ (n : ℕ). AreBehind P n (ends_at e) (ends_at e +ℤ pos 86_400)) (times_on d) seconds)

  days_counted : (j : ℕ) (d : ℤ) → d ≡ before +ℤ pos j → d ≤ℤ last → AreBehind (Recurs r ahead) (t * count_between (is_instance r.days r.start.date) (before +ℤ pos 1) (d +ℤ pos 1)) (ends_at before) (ends_at d)
  days_counted zero d is high =
      let none = count_between-empty (is_instance r.days r.start.date) (before +ℤ pos 1) (d +ℤ pos 1) (omega (arith, ints, is)) in
      let nothing : 0 ≡ t * count_between (is_instance r.days r.start.date) (before +ℤ pos 1) (d +ℤ pos 1) = omega (arith, ap (λ n. t * n) none) in
      subst (λ (n : ℕ). AreBehind (Recurs r ahead) n (ends_at before) (ends_at d)) nothing
      (omega (arith, casts, is), λ u low up_to q. absurd (omega (arith, casts, is, low, up_to)))
  days_counted (suc j) d is high =
      let inst : ℤ → Bool = is_instance r.days r.start.date in
      let e : ℤ = before +ℤ pos j in
      let next : d ≡ e +ℤ pos 1 = omega (arith, ints, is) in
      let more = count_between-next inst (before +ℤ pos 1) (e +ℤ pos 1) (d +ℤ pos 1) (omega (arith, ints)) (omega (arith, ints, next)) in
      let sum : t * count_between inst (before +ℤ pos 1) (d +ℤ pos 1) ≡ t * count_between inst (before +ℤ pos 1) (e +ℤ pos 1) + t * cond (inst d) 1 0
      = ap (λ n. t * n) (more ∙ ap (λ (x : ℤ). count_between inst (before +ℤ pos 1) (e +ℤ pos 1) + cond (inst x) 1 0) (sym next)) ∙ omega arith in
      are_sum (Recurs r ahead) (t * count_between inst (before +ℤ pos 1) (e +ℤ pos 1)) (t * cond (inst d) 1 0) _ (ends_at before) (ends_at e) (ends_at d) sum
      (days_counted j e refl (omega (arith, ints, next, high))) (day_counted e d next (omega (arith, ints)) high)

  -- behind the second, up to the end of a day
  pub whole_days_counted : ((u : ℤ) → second <ℤ u → Recurs r ahead u → next ≤ℤ u) → (d : ℤ) (n : ℕ) → before ≤ℤ d → d ≤ℤ last → n ≡ count_between (is_instance r.days r.start.date) (before +ℤ pos 1) (d +ℤ pos 1) → AreBehind (Recurs r ahead) (t * n) second (ends_at d)
  whole_days_counted least d n low high is =
      let none : AreBehind (Recurs r ahead) 0 second (ends_at before) = (h.behind, λ u later up_to q. absurd (omega (arith, ints, h.in_front, up_to, least u later q))) in
      are_sum (Recurs r ahead) 0 (t * n) (t * n) second (ends_at before) (ends_at d) (omega arith) none
      (subst (λ (i : ℕ). AreBehind (Recurs r ahead) (t * i) (ends_at before) (ends_at d)) (sym is) (days_counted (unsigned_abs (d -ℤ before)) d (omega (arith, ints, low)) high))
