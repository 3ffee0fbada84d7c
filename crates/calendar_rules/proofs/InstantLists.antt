-- The instants of a list of times.
use Rattle.std.proofs.Common.{◌≡◌, ◌+◌, ◌≤◌, ◌<◌, ℕ, ℤ, List, [], ◌∷◌, ◌++◌, length, take, drop, append-nil, append_assoc, ap, arith, length-drop, subst, sym, ◌∙◌}
use Rattle.std.specs.Prelude.{slice_set}
use Rattle.std.proofs.lemmas.List.{drop-drop, take_more_set}
use Rattle.chrono_zoned.specs.Zoned.{Zoned}
use Rattle.calendar_text.specs.declared.calendar_time.CalendarTime.{CalendarTime}
use Rattle.calendar_rules.specs.Recurrences.{AreInstantsOf, IsInstantOfTime}

-- the instant of one more time is put behind the first k
pub one_put : {Z : Type 0} (ahead : Z → ℤ → ℤ) (zone : Z) (times left next : List CalendarTime) (t : CalendarTime) (out : List (Zoned Z)) (k : ℕ) (d : Zoned Z) → k < length out → left ≡ t ∷ next
    → IsInstantOfTime ahead zone t d → ((rest : List (Zoned Z)) → AreInstantsOf ahead zone left rest → AreInstantsOf ahead zone times (take k out ++ rest))
    → (rest : List (Zoned Z)) → AreInstantsOf ahead zone next rest → AreInstantsOf ahead zone times (take (k + 1) (slice_set out k d) ++ rest)
one_put {Z} ahead zone times left next t out k d inside is here same rest others =
    subst (λ (ds : List (Zoned Z)). AreInstantsOf ahead zone times ds)
    (sym (ap (λ front. front ++ rest) (take_more_set out k d inside) ∙ append_assoc (take k out) (d ∷ []) rest))
    (same (d ∷ rest) (subst (λ (ts : List CalendarTime). AreInstantsOf ahead zone ts (d ∷ rest)) (sym is) (here, others)))

-- once no time is left, those that were put are the instants of all
pub all_put : {Z : Type 0} (ahead : Z → ℤ → ℤ) (zone : Z) (times left : List CalendarTime) (out : List (Zoned Z)) → left ≡ []
    → ((rest : List (Zoned Z)) → AreInstantsOf ahead zone left rest → AreInstantsOf ahead zone times (out ++ rest)) → AreInstantsOf ahead zone times out
all_put {Z} ahead zone times left out none same =
    subst (λ (ds : List (Zoned Z)). AreInstantsOf ahead zone times ds) (append-nil out)
    (same [] (subst (λ (ts : List CalendarTime). AreInstantsOf ahead zone ts []) (sym none) tt))

-- what was not put yet are the instants of the times that are left; one fewer are left
pub one_fewer : {Z : Type 0} (ahead : Z → ℤ → ℤ) (zone : Z) (left next : List CalendarTime) (t : CalendarTime) (k : ℕ) (ds : List (Zoned Z)) → left ≡ t ∷ next
    → AreInstantsOf ahead zone left (drop k ds) → AreInstantsOf ahead zone next (drop (k + 1) ds)
one_fewer {Z} ahead zone left next t k ds is are =
    subst (λ (rest : List (Zoned Z)). AreInstantsOf ahead zone next rest) (drop-drop 1 k ds) (behind (drop k ds) (subst (λ (ts : List CalendarTime). AreInstantsOf ahead zone ts (drop k ds)) is are))
  where
    behind : (rest : List (Zoned Z)) → AreInstantsOf ahead zone (t ∷ next) rest → AreInstantsOf ahead zone next (drop 1 rest)
    behind [] none = absurd none
    behind (d ∷ rest) both = both.1

-- the first of them is that of the next time
pub first_left : {Z : Type 0} (ahead : Z → ℤ → ℤ) (zone : Z) (left next : List CalendarTime) (t : CalendarTime) (rest : List (Zoned Z)) → left ≡ t ∷ next
    → AreInstantsOf ahead zone left rest → (d : Zoned Z) × IsInstantOfTime ahead zone t d
first_left {Z} ahead zone left next t rest is are = first rest (subst (λ (ts : List CalendarTime). AreInstantsOf ahead zone ts rest) is are)
  where
    first : (rest : List (Zoned Z)) → AreInstantsOf ahead zone (t ∷ next) rest → (d : Zoned Z) × IsInstantOfTime ahead zone t d
    first [] none = absurd none
    first (d ∷ rest) both = (d, both.0)

-- if a time is left, there are more instants than were put
pub more_than : {Z : Type 0} (ahead : Z → ℤ → ℤ) (zone : Z) (left next : List CalendarTime) (t : CalendarTime) (k : ℕ) (ds : List (Zoned Z)) → left ≡ t ∷ next
    → AreInstantsOf ahead zone left (drop k ds) → k < length ds
more_than {Z} ahead zone left next t k ds is are =
    let some = many (drop k ds) (subst (λ (ts : List CalendarTime). AreInstantsOf ahead zone ts (drop k ds)) is are) in
    omega (arith, some, length-drop k ds)
  where
    many : (rest : List (Zoned Z)) → AreInstantsOf ahead zone (t ∷ next) rest → 1 ≤ length rest
    many [] none = absurd none
    many (d ∷ rest) both = omega arith
