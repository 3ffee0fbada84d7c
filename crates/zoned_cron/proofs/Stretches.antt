-- What fires in a stretch of one offset, and behind it.
use Rattle.std.proofs.Common.{◌≡◌, ◌⊎◌, inl, inr, true, ℤ, pos, ◌+ℤ◌, ◌-ℤ◌, ◌≤ℤ◌, ◌<ℤ◌, Option, Some, None, IfSome, arith, refl, subst, sym, ◌∙◌}
use Rattle.std.proofs.lemmas.Bool.{both_ways}
use Rattle.std.proofs.lemmas.Int.{by_lt_z, ints}
use Rattle.chrono_datetime.specs.Moment.{IsBefore, IsMoment, Moment}
use Rattle.chrono_instant.specs.Instants.{IsEpochSecond, epoch_second}
use Rattle.chrono_instant.specs.Offsets.{IsOffset}
use Rattle.chrono_instant.proofs.InstantLemmas.{IsEpochSecond-moment}
use Rattle.chrono_zoned.specs.Zones.{HoldsUntil, IsOnly, Shows}
use Rattle.chrono_zoned.proofs.SecondSums.{near}
use Rattle.chrono_zoned.proofs.HeldSecondLemmas.{earlier_second, later_second}
use Rattle.chrono_cron.specs.declared.field_sets.FieldSets.{FieldSets}
use Rattle.chrono_cron.specs.Due.{NotDueAfter, NotDueBetween, is_due}
use Rattle.zoned_cron.specs.declared.policy.Policy.{Policy}
use Rattle.zoned_cron.specs.Fires.{Fires, Takes}
use Rattle.zoned_cron.specs.Private.{IsAtLeast, IsInDates, IsPlanned, IsSettled}
use Rattle.zoned_cron.proofs.Instants.{behind, only_taken, shown}
use Rattle.zoned_cron.proofs.Windows.{due_fraction, reached}

-- ---- the planned local time after another, and before it

pub planned_at : (s : FieldSets) (m : Moment) → IsMoment m → is_due s m ≡ true → IsPlanned s (epoch_second m)
planned_at s m exists due = record { moment = m; exists = exists; due = due; second = refl }

pub planned_date : (s : FieldSets) (l : ℤ) → IsPlanned s l → IsEpochSecond l
planned_date s l h = subst (λ (x : ℤ). IsEpochSecond x) h.second (IsEpochSecond-moment h.moment h.exists)

pub planned_later : (s : FieldSets) (local next : Moment) {l n : ℤ} → IsMoment local → IsMoment next → IsBefore local next → is_due s next ≡ true → epoch_second local ≡ l → n ≡ epoch_second next → (l <ℤ n) × IsPlanned s n
planned_later s local next {l} {n} i j before due is_l is_n = (
  omega (arith, ints, is_l, is_n, later_second local next i before (due_fraction s next due)),
  subst (λ (x : ℤ). IsPlanned s x) (sym is_n) (planned_at s next j due),
)

pub planned_first : (s : FieldSets) (local next : Moment) {l n : ℤ} → IsMoment local → IsMoment next → NotDueBetween s local next → epoch_second local ≡ l → n ≡ epoch_second next → (k : ℤ) → l <ℤ k → IsPlanned s k → n ≤ℤ k
planned_first s local next {l} {n} i j none is_l is_n k later h =
    by_lt_z k n
    (λ lt. absurd (both_ways (is_due s h.moment) (none h.moment h.exists (earlier_second local h.moment i h.exists (omega (arith, ints, is_l, later, h.second))) (earlier_second h.moment next h.exists j (omega (arith, ints, is_n, lt, h.second)))) h.due))
    (λ ge. ge)

pub planned_none : (s : FieldSets) (local : Moment) {l : ℤ} → IsMoment local → NotDueAfter s local → epoch_second local ≡ l → (k : ℤ) → l <ℤ k → IsPlanned s k → ⊥
planned_none s local {l} i none is_l k later h =
    both_ways (is_due s h.moment) (none h.moment h.exists (earlier_second local h.moment i h.exists (omega (arith, ints, is_l, later, h.second)))) h.due

pub planned_past : (s : FieldSets) (l k : ℤ) → pos 8_210_266_876_799 <ℤ l → l <ℤ k → IsPlanned s k → ⊥
planned_past s l k past later h = let date = IsEpochSecond-moment h.moment h.exists in omega (arith, ints, date.1, past, later, h.second)

-- ---- what fires after a second

-- where the clock has shown l or more, what is planned for l fires at no instant at which it shows more than that
pub no_more : (p : Policy) (ahead : ℤ → ℤ) (l start u : ℤ) → l ≤ℤ (start +ℤ ahead start) → Takes p ahead l u → (u +ℤ ahead u) ≤ℤ (start +ℤ ahead start)
no_more p ahead l start u low (inl h) = omega (arith, ints, low, shown p.fold ahead l u h)
no_more p ahead l start u low (inr h) =
    by_lt_z (start +ℤ ahead start) (u +ℤ ahead u)
    (λ lt. absurd ((behind p.gap ahead l u h).skipped (start +ℤ ahead start) low lt start refl))
    (λ ge. ge)

pub at_least_more : (r : Option ℤ) (a b : ℤ) → IsAtLeast r a → a ≤ℤ b → IsAtLeast r b
at_least_more None a b h le = h
at_least_more (Some x) a b h le = omega (arith, ints, h, le)

-- so the clock shows the next planned time or more, where it shows more than at the start
pub reaches : (s : FieldSets) (ahead : ℤ → ℤ) (p : Policy) (start local u : ℤ) (planned : Option ℤ) → local ≡ (start +ℤ ahead start) → ((l : ℤ) → local <ℤ l → IsPlanned s l → IsAtLeast planned l) → Fires s ahead p u → (start +ℤ ahead start) <ℤ (u +ℤ ahead u) → IsAtLeast planned (u +ℤ ahead u)
reaches s ahead p start local u planned is least f more =
    by_lt_z local (epoch_second f.planned)
    (λ lt. at_least_more planned (epoch_second f.planned) (u +ℤ ahead u) (least (epoch_second f.planned) lt (planned_at s f.planned f.exists f.due)) (reached p ahead (epoch_second f.planned) u f.takes))
    (λ ge. absurd (omega (arith, ints, more, no_more p ahead (epoch_second f.planned) start u (omega (arith, ints, ge, is)) f.takes)))

-- it shows more at each later instant of the stretch, and from two days on
pub shows_more : (ahead : ℤ → ℤ) (start until u : ℤ) → HoldsUntil ahead start until → ((v : ℤ) → IsOffset (ahead v)) → start <ℤ u → (u <ℤ until) ⊎ ((start +ℤ pos 172_800) ≤ℤ u) → (start +ℤ ahead start) <ℤ (u +ℤ ahead u)
shows_more ahead start until u holds offsets later (inl within) = omega (arith, ints, later, holds u (omega (arith, ints, later)) within)
shows_more ahead start until u holds offsets later (inr far) = omega (arith, ints, far, near (ahead start) (offsets start), near (ahead u) (offsets u))

-- ---- an instant with no change near

pub settled_only : (ahead : ℤ → ℤ) (l u : ℤ) → IsSettled ahead u → Shows ahead l u → IsOnly (Shows ahead l) u
settled_only ahead l u h shows = λ v. (
  λ there.
      let here = near (ahead u) (h.near u) in
      let near_v = near (ahead v) (h.near v) in
      let same : ahead v ≡ ahead u = h.holds v (omega (arith, ints, shows, there, here, near_v)) (omega (arith, ints, shows, there, here, near_v)) in
      omega (arith, ints, shows, there, same),
  λ e. subst (λ (x : ℤ). Shows ahead l x) (sym e) shows,
)

-- where the clock shows a planned local time at one instant alone, the schedule fires there
pub only_fires : (s : FieldSets) (ahead : ℤ → ℤ) (p : Policy) (l u : ℤ) → IsEpochSecond u → IsOffset (ahead u) → IsOnly (Shows ahead l) u → IsPlanned s l → Fires s ahead p u
only_fires s ahead p l u date near only planned =
    let here : IsOnly (Shows ahead (epoch_second planned.moment)) u = subst (λ (x : ℤ). IsOnly (Shows ahead x) u) (sym planned.second) only in
    let local : (u +ℤ ahead u) ≡ epoch_second planned.moment = (here u).1 refl in
    record {
      instant = record { utc = date; local = subst (λ (x : ℤ). IsEpochSecond x) (sym local) (IsEpochSecond-moment planned.moment planned.exists); near = near };
      planned = planned.moment;
      exists = planned.exists;
      due = planned.due;
      takes = inl (only_taken p.fold ahead (epoch_second planned.moment) u here);
    }

pub settled_fires : (s : FieldSets) (ahead : ℤ → ℤ) (p : Policy) (l u : ℤ) → IsEpochSecond u → IsSettled ahead u → Shows ahead l u → IsPlanned s l → Fires s ahead p u
settled_fires s ahead p l u date settled shows planned = only_fires s ahead p l u date (settled.near u) (settled_only ahead l u settled shows) planned

-- and no earlier instant shows as much
pub settled_least : (ahead : ℤ → ℤ) (l c u : ℤ) → IsSettled ahead c → Shows ahead l c → l ≤ℤ (u +ℤ ahead u) → c ≤ℤ u
settled_least ahead l c u settled shows more =
    by_lt_z u c
    (λ lt.
    let here = near (ahead c) (settled.near c) in
    let there = near (ahead u) (settled.near u) in
    let same : ahead u ≡ ahead c = settled.holds u (omega (arith, ints, shows, more, here, there)) (omega (arith, ints, lt)) in
    omega (arith, ints, shows, more, same))
    (λ ge. ge)

-- and no later one shows as little
pub settled_most : (ahead : ℤ → ℤ) (l c u : ℤ) → IsSettled ahead c → Shows ahead l c → (u +ℤ ahead u) ≤ℤ l → u ≤ℤ c
settled_most ahead l c u settled shows less =
    by_lt_z c u
    (λ gt.
    let here = near (ahead c) (settled.near c) in
    let there = near (ahead u) (settled.near u) in
    let same : ahead u ≡ ahead c = settled.holds u (omega (arith, ints, gt)) (omega (arith, ints, shows, less, here, there)) in
    omega (arith, ints, shows, less, same))
    (λ le. le)

pub settled_within : (ahead : ℤ → ℤ) (from until u : ℤ) → HoldsUntil ahead from until → ((v : ℤ) → IsOffset (ahead v)) → (from +ℤ pos 172_800) ≤ℤ u → (u +ℤ pos 172_800) ≤ℤ until → IsSettled ahead u
settled_within ahead from until u holds offsets low high = record {
  holds = λ v after before. holds v (omega (arith, ints, low, after)) (omega (arith, ints, high, before)) ∙ sym (holds u (omega (arith, ints, low)) (omega (arith, ints, high)));
  near = offsets;
}

-- ---- the search ahead

pub all_reach : (s : FieldSets) (ahead : ℤ → ℤ) (p : Policy) (from until start local q : ℤ) → HoldsUntil ahead from until → ((v : ℤ) → IsOffset (ahead v)) → from ≤ℤ start → (start +ℤ pos 172_800) ≤ℤ until → local ≡ (start +ℤ ahead from) → ((l : ℤ) → local <ℤ l → IsPlanned s l → q ≤ℤ l) → (u : ℤ) → start <ℤ u → Fires s ahead p u → q ≤ℤ (u +ℤ ahead u)
all_reach s ahead p from until start local q holds offsets low long is least u later f =
    let here : ahead start ≡ ahead from = holds start low (omega (arith, ints, long)) in
    let from_start : HoldsUntil ahead start until = λ v after before. holds v (omega (arith, ints, low, after)) before ∙ sym here in
    let more : (start +ℤ ahead start) <ℤ (u +ℤ ahead u) = shows_more ahead start until u from_start offsets later (by_lt_z u until (λ lt. inl lt) (λ ge. inr (omega (arith, ints, ge, long)))) in
    reaches s ahead p start local u (Some q) (omega (arith, ints, is, here)) least f more

-- the only instant of the next planned time comes after the start
pub first_there : (s : FieldSets) (ahead : ℤ → ℤ) (p : Policy) (from until start local l c : ℤ) → HoldsUntil ahead from until → (from +ℤ pos 172_800) ≤ℤ start → (start +ℤ pos 172_800) ≤ℤ until → local ≡ (start +ℤ ahead from) → local <ℤ l → IsPlanned s l → Shows ahead l c → IsSettled ahead c → IsEpochSecond c → (start <ℤ c) × Fires s ahead p c
first_there s ahead p from until start local l c holds begun long is later planned shows settled date = (
  by_lt_z start c (λ lt. lt)
      (λ le.
      by_lt_z c from
      (λ early. absurd (omega (arith, ints, early, begun, is, later, shows, near (ahead c) (settled.near c), near (ahead from) (settled.near from))))
      (λ late. absurd (omega (arith, ints, le, is, later, shows, holds c late (omega (arith, ints, le, long)))))),
  settled_fires s ahead p l c date settled shows planned,
)

pub first_least : (s : FieldSets) (ahead : ℤ → ℤ) (p : Policy) (from until start local l c : ℤ) → HoldsUntil ahead from until → (from +ℤ pos 172_800) ≤ℤ start → (start +ℤ pos 172_800) ≤ℤ until → local ≡ (start +ℤ ahead from) → ((k : ℤ) → local <ℤ k → IsPlanned s k → l ≤ℤ k) → Shows ahead l c → IsSettled ahead c → (u : ℤ) → start <ℤ u → Fires s ahead p u → c ≤ℤ u
first_least s ahead p from until start local l c holds begun long is least shows settled u later f =
    settled_least ahead l c u settled shows (all_reach s ahead p from until start local l holds settled.near (omega (arith, ints, begun)) long is least u later f)

-- nothing fires in a stretch before the instant at which it shows the next planned time
pub least_in_stretch : (s : FieldSets) (ahead : ℤ → ℤ) (p : Policy) (until start local l c : ℤ) → HoldsUntil ahead start until → ((v : ℤ) → IsOffset (ahead v)) → local ≡ (start +ℤ ahead start) → ((k : ℤ) → local <ℤ k → IsPlanned s k → l ≤ℤ k) → c ≡ (l -ℤ ahead start) → c <ℤ until → (u : ℤ) → start <ℤ u → Fires s ahead p u → c ≤ℤ u
least_in_stretch s ahead p until start local l c holds offsets is least at within u later f =
    by_lt_z u c
    (λ lt.
    let before : u <ℤ until = omega (arith, ints, lt, within) in
    let more : l ≤ℤ (u +ℤ ahead u) = reaches s ahead p start local u (Some l) is least f (shows_more ahead start until u holds offsets later (inl before)) in
    omega (arith, ints, at, more, holds u (omega (arith, ints, later)) before))
    (λ ge. ge)

-- an instant at the offset of the stretch, in it and far from its ends
pub near_shows : (ahead : ℤ → ℤ) (from until l c : ℤ) → HoldsUntil ahead from until → c ≡ (l -ℤ ahead from) → from ≤ℤ c → c <ℤ until → Shows ahead l c
near_shows ahead from until l c holds is low high = omega (arith, ints, is, holds c low high)

pub if_three : {X : Type 0} {P Q R T : X → Type 0} (r : Option X) → IfSome r P → IfSome r Q → IfSome r R → ((x : X) → P x → Q x → R x → T x) → IfSome r T
if_three None a b d f = tt
if_three (Some x) a b d f = f x a b d

-- the same of a search that goes from stretch to stretch
pub possible_later : (second x : ℤ) (r : Option ℤ) → IsInDates x r → second <ℤ x → IsEpochSecond second → IfSome r (λ c. (second <ℤ c) × IsEpochSecond c)
possible_later second x None h later date = tt
possible_later second x (Some c) h later date = (omega (arith, ints, h.0, later), (omega (arith, ints, h.0, later, date.0), omega (arith, ints, h.0, h.1)))

pub possible_least : (x u : ℤ) (r : Option ℤ) → IsInDates x r → x ≤ℤ u → IsEpochSecond u → IsAtLeast r u
possible_least x u None h le date = omega (arith, ints, h, le, date.1)
possible_least x u (Some c) h le date = omega (arith, ints, h.0, le)

-- ---- the search back

pub all_within : (s : FieldSets) (ahead : ℤ → ℤ) (p : Policy) (from until end local : ℤ) (k q : Moment) → HoldsUntil ahead from until → ((v : ℤ) → IsOffset (ahead v)) → (from +ℤ pos 172_800) ≤ℤ end → end ≤ℤ until → local ≡ (end +ℤ ahead from) → epoch_second k ≡ local → IsMoment k → NotDueBetween s q k → IsMoment q → (u : ℤ) → u <ℤ end → (f : Fires s ahead p u) → epoch_second f.planned ≤ℤ epoch_second q
all_within s ahead p from until end local k q holds offsets low high is is_k i none j u before f =
    let less : (u +ℤ ahead u) <ℤ local =
    by_lt_z u from (λ lt. omega (arith, ints, lt, low, is, near (ahead u) (offsets u), near (ahead from) (offsets from)))
    (λ ge. omega (arith, ints, is, before, holds u ge (omega (arith, ints, before, high)))) in
    let reach = reached p ahead (epoch_second f.planned) u f.takes in
    by_lt_z (epoch_second q) (epoch_second f.planned)
    (λ gt. absurd (both_ways (is_due s f.planned) (none f.planned f.exists (earlier_second q f.planned j f.exists gt) (earlier_second f.planned k f.exists i (omega (arith, ints, reach, less, is_k)))) f.due))
    (λ le. le)

pub last_there : (s : FieldSets) (ahead : ℤ → ℤ) (p : Policy) (from until end local l c : ℤ) → HoldsUntil ahead from until → (from +ℤ pos 172_800) ≤ℤ end → end ≤ℤ until → local ≡ (end +ℤ ahead from) → l <ℤ local → IsPlanned s l → Shows ahead l c → IsSettled ahead c → IsEpochSecond c → (c <ℤ end) × Fires s ahead p c
last_there s ahead p from until end local l c holds begun high is before planned shows settled date = (
  by_lt_z c end (λ lt. lt)
      (λ ge.
      let here = near (ahead c) (settled.near c) in
      let there = near (ahead from) (settled.near from) in
      let one : ahead (end -ℤ pos 1) ≡ ahead from = holds (end -ℤ pos 1) (omega (arith, ints, begun)) (omega (arith, ints, high)) in
      let other : ahead (end -ℤ pos 1) ≡ ahead c = settled.holds (end -ℤ pos 1) (omega (arith, ints, is, before, shows, here, there)) (omega (arith, ints, ge)) in
      absurd (omega (arith, ints, ge, is, before, shows, one, other))),
  settled_fires s ahead p l c date settled shows planned,
)

pub settled_greatest : (s : FieldSets) (ahead : ℤ → ℤ) (p : Policy) (l c u : ℤ) → IsSettled ahead c → Shows ahead l c → (f : Fires s ahead p u) → epoch_second f.planned ≤ℤ l → u ≤ℤ c
settled_greatest s ahead p l c u settled shows f le =
    let less = no_more p ahead (epoch_second f.planned) c u (omega (arith, ints, le, shows)) f.takes in
    settled_most ahead l c u settled shows (omega (arith, ints, less, shows))

-- while the clock keeps its offset nothing follows that it has shown
pub none_follows : (p : Policy) (ahead : ℤ → ℤ) (best until end l u : ℤ) → HoldsUntil ahead best until → end ≤ℤ until → l ≤ℤ (best +ℤ ahead best) → Takes p ahead l u → u <ℤ end → u ≤ℤ best
none_follows p ahead best until end l u holds long low takes before =
    by_lt_z best u
    (λ lt.
    let same : ahead u ≡ ahead best = holds u (omega (arith, ints, lt)) (omega (arith, ints, before, long)) in
    omega (arith, ints, same, no_more p ahead l best u low takes))
    (λ ge. ge)
