-- A local time that the clock shows once in two stretches that follow each other.
use Rattle.std.proofs.Common.{◌≡◌, ◌⊎◌, inl, inr, ℤ, pos, ◌+ℤ◌, ◌-ℤ◌, ◌≤ℤ◌, ◌<ℤ◌, true, false, int_le, Some, arith, refl, subst, sym, ◌∙◌}
use Rattle.std.specs.Prelude.{int_lt}
use Rattle.std.proofs.lemmas.Int.{by_lt_z, ints}
use Rattle.chrono_datetime.specs.Moment.{Moment}
use Rattle.chrono_instant.specs.Instants.{LiesIn, epoch_second}
use Rattle.chrono_instant.specs.Offsets.{IsOffset}
use Rattle.chrono_instant.proofs.InstantLemmas.{IsEpochSecond-moment}
use Rattle.chrono_zoned.specs.Zoned.{Zoned}
use Rattle.chrono_zoned.specs.Zones.{IsOnly, Shows}
use Rattle.chrono_zoned.proofs.HeldSecondLemmas.{holds_there, later_second, later_there, none_between}
use Rattle.chrono_zoned.proofs.SecondSums.{near}
use Rattle.chrono_cron.specs.declared.field_sets.FieldSets.{FieldSets}
use Rattle.zoned_cron.specs.declared.policy.Policy.{Policy}
use Rattle.zoned_cron.specs.declared.schedule.ZonedSchedule.{ZonedSchedule}
use Rattle.zoned_cron.specs.declared.search.held.Held.{Held}
use Rattle.zoned_cron.specs.Fires.{Fires}
use Rattle.zoned_cron.specs.FiringLists.{IsNextFiring}
use Rattle.zoned_cron.specs.Private.{IsHeld, IsInTwo, IsNextAtOffset, IsOnceInTwo, IsPlanned, Precedes}
use Rattle.zoned_cron.proofs.Stretches.{only_fires, planned_at, planned_first, reaches}
use Rattle.zoned_cron.proofs.Windows.{due_fraction}

-- what two numbers are, as they were compared
pub less_of : (x y a b : ℤ) → x ≡ a → y ≡ b → int_lt x y ≡ true → a <ℤ b
less_of x y a b at_a at_b h = omega (arith, ints, at_a, at_b, h)

pub most_of : (x y a b : ℤ) → x ≡ a → y ≡ b → int_le x y ≡ true → a ≤ℤ b
most_of x y a b at_a at_b h = omega (arith, ints, at_a, at_b, h)

pub more_of : (x y a b : ℤ) → x ≡ a → y ≡ b → int_le x y ≡ false → b <ℤ a
more_of x y a b at_a at_b h = omega (arith, ints, at_a, at_b, h)

-- a clock has the offset o from `from` until t, and the offset p from t until `until`
record AreTwo (ahead : ℤ → ℤ) (from t until o p : ℤ) : Type 0 where
  one : (v : ℤ) → from ≤ℤ v → v <ℤ t → ahead v ≡ o
  other : (v : ℤ) → t ≤ℤ v → v <ℤ until → ahead v ≡ p
  each : (v : ℤ) → IsOffset (ahead v)
  here : IsOffset o
  there : IsOffset p

are_two : (ahead : ℤ → ℤ) (h k : Held) → IsHeld ahead h → IsHeld ahead k → k.from ≡ h.until → AreTwo ahead h.from k.from k.until h.offset k.offset
are_two ahead h k first next at = record {
  one = λ v low high. first.holds v low (omega (arith, ints, high, at)) ∙ sym first.offset;
  other = λ v low high. next.holds v low high ∙ sym next.offset;
  each = first.near;
  here = subst (λ (x : ℤ). IsOffset x) (sym first.offset) (first.near h.from);
  there = subst (λ (x : ℤ). IsOffset x) (sym next.offset) (next.near k.from);
}

-- the clock shows l at c by one of the offsets, and by the other it would show it in the same stretch
abbrev IsByOne : ℤ → ℤ → ℤ → ℤ → ℤ → Type 0
IsByOne t o p l c = ((c ≡ (l -ℤ o)) × (c <ℤ t) × ((l -ℤ p) <ℤ t)) ⊎ ((c ≡ (l -ℤ p)) × (t ≤ℤ c) × (t ≤ℤ (l -ℤ o)))

shows_by_one : (ahead : ℤ → ℤ) (from t until o p l c : ℤ) → AreTwo ahead from t until o p → (from +ℤ pos 86_400) ≤ℤ l → (l +ℤ pos 86_400) ≤ℤ until → IsByOne t o p l c → Shows ahead l c
shows_by_one ahead from t until o p l c two begun high (inl h) = let by = h.0 in let small = near o two.here in let is = two.one c (omega (arith, ints, begun, by, small)) h.1 in omega (arith, ints, by, is)
shows_by_one ahead from t until o p l c two begun high (inr h) = let by = h.0 in let small = near p two.there in let is = two.other c h.1 (omega (arith, ints, high, by, small)) in omega (arith, ints, by, is)

only_by_one : (ahead : ℤ → ℤ) (from t until o p l c v : ℤ) → AreTwo ahead from t until o p → (from +ℤ pos 86_400) ≤ℤ l → (l +ℤ pos 86_400) ≤ℤ until → IsByOne t o p l c → Shows ahead l v → v ≡ c
only_by_one ahead from t until o p l c v two begun high (inl h) shows =
    let by = h.0 in
    let close = near (ahead v) (two.each v) in
    by_lt_z v t
    (λ lt. let is = two.one v (omega (arith, ints, close, begun, shows)) lt in omega (arith, ints, shows, is, by))
    (λ ge. let is = two.other v ge (omega (arith, ints, close, high, shows)) in absurd (omega (arith, ints, shows, is, h.2, ge)))
only_by_one ahead from t until o p l c v two begun high (inr h) shows =
    let by = h.0 in
    let close = near (ahead v) (two.each v) in
    by_lt_z v t
    (λ lt. let is = two.one v (omega (arith, ints, close, begun, shows)) lt in absurd (omega (arith, ints, shows, is, h.2, lt)))
    (λ ge. let is = two.other v ge (omega (arith, ints, close, high, shows)) in omega (arith, ints, shows, is, by))

-- the instant comes before the end
end_by_one : (ahead : ℤ → ℤ) (from t until o p l c : ℤ) → AreTwo ahead from t until o p → (l +ℤ pos 86_400) ≤ℤ until → IsByOne t o p l c → c <ℤ until
end_by_one ahead from t until o p l c two high (inl h) = let by = h.0 in let small = near o two.here in omega (arith, ints, by, small, high)
end_by_one ahead from t until o p l c two high (inr h) = let by = h.0 in let small = near p two.there in omega (arith, ints, by, small, high)

-- an instant from `from` on at which the clock shows as much comes no earlier
least_by_one : (ahead : ℤ → ℤ) (from t until o p l c u : ℤ) → AreTwo ahead from t until o p → c <ℤ until → IsByOne t o p l c → from ≤ℤ u → l ≤ℤ (u +ℤ ahead u) → u <ℤ c → ⊥
least_by_one ahead from t until o p l c u two high (inl h) low more lt =
    let by = h.0 in
    let is = two.one u low (omega (arith, ints, lt, h.1)) in
    omega (arith, ints, more, is, by, lt)
least_by_one ahead from t until o p l c u two high (inr h) low more lt =
    let by = h.0 in
    by_lt_z u t
    (λ early. let is = two.one u low early in omega (arith, ints, more, is, h.2, early))
    (λ late. let is = two.other u late (omega (arith, ints, lt, high)) in omega (arith, ints, more, is, by, lt))

-- from the start on it shows more than there, up to c
more_by_one : (ahead : ℤ → ℤ) (from t until o p l c start u : ℤ) → AreTwo ahead from t until o p → c <ℤ until → IsByOne t o p l c → from ≤ℤ start → start <ℤ u → u <ℤ c → (t ≤ℤ start) ⊎ ((start +ℤ o) <ℤ (t +ℤ p)) → (start +ℤ ahead start) <ℤ (u +ℤ ahead u)
more_by_one ahead from t until o p l c start u two high which low later lt (inl past) =
    let here = two.other start past (omega (arith, ints, later, lt, high)) in
    let there = two.other u (omega (arith, ints, past, later)) (omega (arith, ints, lt, high)) in
    omega (arith, ints, here, there, later)
more_by_one ahead from t until o p l c start u two high which low later lt (inr turned) =
    by_lt_z start t
    (λ early.
    let here = two.one start low early in
    by_lt_z u t
    (λ sooner. let there = two.one u (omega (arith, ints, low, later)) sooner in omega (arith, ints, here, there, later))
    (λ behind. let there = two.other u behind (omega (arith, ints, lt, high)) in omega (arith, ints, here, there, behind, turned)))
    (λ past.
    let here = two.other start past (omega (arith, ints, later, lt, high)) in
    let there = two.other u (omega (arith, ints, past, later)) (omega (arith, ints, lt, high)) in
    omega (arith, ints, here, there, later))

-- ---- in the stretches that a search keeps

pub shows_in_two : (ahead : ℤ → ℤ) (h k : Held) (l c : ℤ) → IsHeld ahead h → IsHeld ahead k → k.from ≡ h.until → IsInTwo h k l c → Shows ahead l c
shows_in_two ahead h k l c first next at two = shows_by_one ahead h.from k.from k.until h.offset k.offset l c (are_two ahead h k first next at) two.begun two.high two.only

only_in_two : (ahead : ℤ → ℤ) (h k : Held) (l c : ℤ) → IsHeld ahead h → IsHeld ahead k → k.from ≡ h.until → IsInTwo h k l c → IsOnly (Shows ahead l) c
only_in_two ahead h k l c first next at two = λ v. (
  only_by_one ahead h.from k.from k.until h.offset k.offset l c v (are_two ahead h k first next at) two.begun two.high two.only,
  λ e. subst (λ (x : ℤ). Shows ahead l x) (sym e) (shows_in_two ahead h k l c first next at two),
)

least_in_two : (s : FieldSets) (ahead : ℤ → ℤ) (p : Policy) (h k : Held) (start local l c u : ℤ) → IsHeld ahead h → IsHeld ahead k → k.from ≡ h.until → IsInTwo h k l c → h.from ≤ℤ start → local ≡ (start +ℤ ahead start) → (k.from ≤ℤ start) ⊎ ((start +ℤ h.offset) <ℤ (k.from +ℤ k.offset)) → ((m : ℤ) → local <ℤ m → IsPlanned s m → l ≤ℤ m) → start <ℤ u → Fires s ahead p u → c ≤ℤ u
least_in_two s ahead p h k start local l c u first next at two low is turned least later f =
    let both = are_two ahead h k first next at in
    let end = end_by_one ahead h.from k.from k.until h.offset k.offset l c both two.high two.only in
    by_lt_z u c
    (λ lt.
    let more = more_by_one ahead h.from k.from k.until h.offset k.offset l c start u both end two.only low later lt turned in
    let much : l ≤ℤ (u +ℤ ahead u) = reaches s ahead p start local u (Some l) is least f more in
    absurd (least_by_one ahead h.from k.from k.until h.offset k.offset l c u both end two.only (omega (arith, ints, low, later)) much lt))
    (λ ge. ge)

-- the clock has the offset q at the start, before t or from t on; before t it does not show again behind t what it shows at the start
abbrev IsFrom : ℤ → ℤ → ℤ → ℤ → ℤ → Type 0
IsFrom t o p q start = ((start <ℤ t) × (q ≡ o) × ((start +ℤ o) <ℤ (t +ℤ p))) ⊎ ((t ≤ℤ start) × (q ≡ p))

pub not_again : (t o p start : ℤ) → (start +ℤ o -ℤ p) <ℤ t → (start +ℤ o) <ℤ (t +ℤ p)
not_again t o p start h = omega (arith, ints, h)

-- so the instant comes after the start
later_from : (t o p q l c start : ℤ) → IsByOne t o p l c → IsFrom t o p q start → (start +ℤ q) <ℤ l → start <ℤ c
later_from t o p q l c start (inl h) (inl s) more = let by = h.0 in let is = s.1 in omega (arith, ints, by, is, more)
later_from t o p q l c start (inl h) (inr s) more = let is = s.1 in absurd (omega (arith, ints, h.2, s.0, is, more))
later_from t o p q l c start (inr h) (inl s) more = omega (arith, ints, h.1, s.0)
later_from t o p q l c start (inr h) (inr s) more = let by = h.0 in let is = s.1 in omega (arith, ints, by, is, more)

offset_from : (ahead : ℤ → ℤ) (from t until o p q c start : ℤ) → AreTwo ahead from t until o p → c <ℤ until → IsFrom t o p q start → from ≤ℤ start → start <ℤ c → ahead start ≡ q
offset_from ahead from t until o p q c start two high (inl s) low later = two.one start low s.0 ∙ sym s.1
offset_from ahead from t until o p q c start two high (inr s) low later = two.other start s.0 (omega (arith, ints, later, high)) ∙ sym s.1

turned_from : (t o p q start : ℤ) → IsFrom t o p q start → (t ≤ℤ start) ⊎ ((start +ℤ o) <ℤ (t +ℤ p))
turned_from t o p q start (inl s) = inr s.2
turned_from t o p q start (inr s) = inl s.0

pub next_in_two : {Z : Type 0} (ahead : Z → ℤ → ℤ) (z : ZonedSchedule Z) (h k : Held) (q : ℤ) (start m : Moment) (d : Zoned Z) → IsHeld (ahead z.zone) h → IsHeld (ahead z.zone) k → k.from ≡ h.until → Precedes h (epoch_second start) → IsFrom k.from h.offset k.offset q (epoch_second start) → IsNextAtOffset z q start m → IsOnceInTwo ahead z.zone h k m d → IsNextFiring ahead z start (Some d)
next_in_two ahead z h k q start m d first next at begun from due once =
    let s = z.schedule.sets in
    let clock = ahead z.zone in
    let x = epoch_second start in
    let c = epoch_second d.utc in
    let l = epoch_second m in
    let local = epoch_second due.local in
    let low : h.from ≤ℤ x = omega (arith, ints, begun) in
    let more : local <ℤ l = later_second due.local m due.local_exists due.later (due_fraction s m due.due) in
    let much : (x +ℤ q) <ℤ l = omega (arith, ints, more, due.second) in
    let later : x <ℤ c = later_from k.from h.offset k.offset q l c x once.two.only from much in
    let here : clock x ≡ q = offset_from clock h.from k.from k.until h.offset k.offset q c x (are_two clock h k first next at) (end_by_one clock h.from k.from k.until h.offset k.offset l c (are_two clock h k first next at) once.two.high once.two.only) from low later in
    let is : local ≡ (x +ℤ clock x) = omega (arith, ints, due.second, here) in
    let only = only_in_two clock h k l c first next at once.two in
    let fires = only_fires s clock z.policy l c (IsEpochSecond-moment d.utc once.local.exists) (first.near c) only (planned_at s m due.exists due.due) in
    let least : (u : ℤ) → x <ℤ u → Fires s clock z.policy u → c ≤ℤ u = λ u after f.
    least_in_two s clock z.policy h k x local l c u first next at once.two low is (turned_from k.from h.offset k.offset q x from) (λ n past h. planned_first s due.local m due.local_exists due.exists due.least refl refl n past h) after f in
    let lies : LiesIn c 0 d.utc = record { second = refl; past = once.fraction ∙ due_fraction s m due.due; exists = once.local.exists } in (
      holds_there (Fires s clock z.policy) c d.utc lies refl fires,
      once.local.zone,
      later_there start d.utc c later refl lies refl due.begin,
      none_between (Fires s clock z.policy) start d.utc c least refl lies refl due.begin,
    )
