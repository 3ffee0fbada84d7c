-- From what a search finds among seconds to date-times of UTC.
use Rattle.std.proofs.Common.{◌≡◌, ⊎_elim, inl, inr, ℕ, ◌<◌, ℤ, pos, ◌+ℤ◌, ◌≤ℤ◌, ◌<ℤ◌, arith, subst, sym, ◌∙◌}
use Rattle.std.proofs.lemmas.Int.{by_lt_z, ints}
use Rattle.chrono_datetime.specs.Moment.{IsBefore, IsMoment, Moment}
use Rattle.chrono_datetime.proofs.Signed.{casts}
use Rattle.chrono_instant.specs.Instants.{LiesIn, epoch_second}
use Rattle.chrono_instant.proofs.InstantLemmas.{IsBefore-by_second}
use Rattle.chrono_zoned.specs.HeldSeconds.{HoldsAt, HoldsNotAfter, HoldsNotBefore, HoldsNotBetween}

-- ---- the order of date-times that begin a second

pub earlier_second : (a b : Moment) → IsMoment a → IsMoment b → epoch_second a <ℤ epoch_second b → IsBefore a b
earlier_second a b i j lt = (IsBefore-by_second a b i j).1 (inl lt)

-- one that is later and begins a second lies in a later second
pub later_second : (a b : Moment) → IsMoment a → IsBefore a b → b.time.fraction ≡ 0 → epoch_second a <ℤ epoch_second b
later_second a b i (inl later) whole = omega (arith, casts, i.time.second, later)
later_second a b i (inr (date, inl later)) whole = omega (arith, casts, date, later)
later_second a b i (inr (date, inr same)) whole = absurd (omega (arith, same.1, whole))

-- the first second that begins no earlier than a date-time
pub record IsFirstFrom (E : ℤ) (m : Moment) : Type 0 where
  pub whole : m.time.fraction ≡ 0 → E ≡ epoch_second m
  pub within : 0 < m.time.fraction → E ≡ (epoch_second m +ℤ pos 1)

by_fraction : {A : Type 0} (n : ℕ) → (n ≡ 0 → A) → (0 < n → A) → A
by_fraction n f h = by_lt_z (pos 0) (pos n) (λ lt. h (omega (arith, ints, lt))) (λ ge. f (omega (arith, ints, ge)))

begins_before : (E : ℤ) (m end : Moment) → IsFirstFrom E end → IsMoment m → IsMoment end → IsBefore m end → m.time.fraction ≡ 0 → epoch_second m <ℤ E
begins_before E m end h i j before whole =
    ⊎_elim (λ lt. by_fraction end.time.fraction (λ none. omega (arith, ints, lt, h.whole none)) (λ some. omega (arith, ints, lt, h.within some)))
    (λ same. omega (arith, ints, same.0, h.within (omega (arith, same.1)))) ((IsBefore-by_second m end i j).0 before)

comes_before : (E : ℤ) (m end : Moment) → IsFirstFrom E end → IsMoment m → IsMoment end → epoch_second m <ℤ E → m.time.fraction ≡ 0 → IsBefore m end
comes_before E m end h i j lt none =
    by_fraction end.time.fraction (λ whole. (IsBefore-by_second m end i j).1 (inl (omega (arith, ints, lt, h.whole whole))))
    (λ some.
    by_lt_z (epoch_second m) (epoch_second end) (λ less. (IsBefore-by_second m end i j).1 (inl less))
    (λ ge. (IsBefore-by_second m end i j).1 (inr (omega (arith, ints, lt, ge, h.within some), omega (arith, none, some)))))

-- ---- the date-time of a second that was found

pub later_there : (start d : Moment) {S X : ℤ} (x : ℤ) → S <ℤ x → S ≡ epoch_second start → LiesIn X 0 d → X ≡ x → IsMoment start → IsBefore start d
later_there start d {S} {X} x lt is_s h is i = earlier_second start d i h.exists (omega (arith, ints, lt, is_s, h.second, is))

pub earlier_there : (end d : Moment) {E X : ℤ} (x : ℤ) → x <ℤ E → LiesIn X 0 d → IsFirstFrom E end → X ≡ x → IsMoment end → IsBefore d end
earlier_there end d {E} {X} x lt h begun is i = comes_before E d end begun h.exists i (omega (arith, ints, lt, h.second, is)) h.past

module _ (P : ℤ → Type 0) where
  pub holds_there : {X : ℤ} (x : ℤ) (d : Moment) → LiesIn X 0 d → X ≡ x → P x → HoldsAt P d
  holds_there {X} x d h is f = (h.past, subst P (sym (h.second ∙ is)) f)

  pub none_between : (start d : Moment) {S X : ℤ} (x : ℤ) → ((u : ℤ) → S <ℤ u → P u → x ≤ℤ u) → S ≡ epoch_second start → LiesIn X 0 d → X ≡ x → IsMoment start → HoldsNotBetween P start d
  none_between start d {S} {X} x least is_s h is i = λ m j after before f.
      let from : S <ℤ epoch_second m = omega (arith, ints, is_s, later_second start m i after f.0) in
      let low : x ≤ℤ epoch_second m = least (epoch_second m) from f.1 in
      let high : epoch_second m <ℤ epoch_second d = later_second m d j before h.past in
      absurd (omega (arith, ints, low, high, h.second, is))

  pub none_after : (start : Moment) {S : ℤ} → ((u : ℤ) → S <ℤ u → P u → ⊥) → S ≡ epoch_second start → IsMoment start → HoldsNotAfter P start
  none_after start {S} least is_s i = λ m j after f. least (epoch_second m) (omega (arith, ints, is_s, later_second start m i after f.0)) f.1

  pub none_between_back : (end d : Moment) {E X : ℤ} (x : ℤ) → ((u : ℤ) → u <ℤ E → P u → u ≤ℤ x) → LiesIn X 0 d → IsFirstFrom E end → X ≡ x → IsMoment end → HoldsNotBetween P d end
  none_between_back end d {E} {X} x greatest h begun is i = λ m j after before f.
      let to : epoch_second m <ℤ E = begins_before E m end begun j i before f.0 in
      let high : epoch_second m ≤ℤ x = greatest (epoch_second m) to f.1 in
      let low : epoch_second d <ℤ epoch_second m = later_second d m h.exists after f.0 in
      absurd (omega (arith, ints, low, high, h.second, is))

  pub none_before : (end : Moment) {E : ℤ} → ((u : ℤ) → u <ℤ E → P u → ⊥) → IsFirstFrom E end → IsMoment end → HoldsNotBefore P end
  none_before end {E} greatest begun i = λ m j before f. greatest (epoch_second m) (begins_before E m end begun j i before f.0) f.1
