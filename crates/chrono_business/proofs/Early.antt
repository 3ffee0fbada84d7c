-- How many days of a list that rises come before a day.
use Rattle.std.proofs.Common.{◌≡◌, ℕ, zero, suc, ◌+◌, ◌-◌, ◌<◌, ◌≤◌, Bool, true, false, ◌||◌, List, [], ◌∷◌, length, refl, sym, ap, ◌∙◌, arith, ℤ, pos, ◌+ℤ◌, ◌≤ℤ◌, ◌<ℤ◌}
use Rattle.std.specs.Prelude.{int_lt, slice_index_or}
use Rattle.std.specs.List.{All}
use Rattle.std.specs.List.Sorted.{IsPartitionedBy}
use Rattle.std.specs.Ordering.{int_eq}
use Rattle.std.proofs.lemmas.Bool.{false≢true}
use Rattle.std.proofs.lemmas.Bool.Decides.{Decides-int_eq}
use Rattle.std.proofs.lemmas.Int.{by_lt_z}
use Rattle.chrono_datetime.specs.WeekdaySet.{DaySet}
use Rattle.chrono_datetime.proofs.Signed.{signed}
use Rattle.chrono_datetime.proofs.CountWhere.{one_if}
use Rattle.chrono_datetime.specs.RisingDates.{AreRising}
use Rattle.chrono_business.specs.OpenDays.{is_holiday, is_workday}
use Rattle.chrono_datetime.proofs.RisingLists.{in_order, int_eq-other}

-- how many days of the list come before t
unfoldable pub early : List ℤ → ℤ → ℕ
early [] t = 0
early (x ∷ xs) t = one_if (int_lt x t) + early xs t

-- a test that holds counts for one, another for none
pub one_if-true : (b : Bool) → b ≡ true → one_if b ≡ 1
one_if-true b h = ap one_if h

pub one_if-false : (b : Bool) → b ≡ false → one_if b ≡ 0
one_if-false b h = ap one_if h

is_before : (x t : ℤ) → x <ℤ t → one_if (int_lt x t) ≡ 1
is_before x t h = let yes : int_lt x t ≡ true = grind (arith, signed) in one_if-true (int_lt x t) yes

is_not_before : (x t : ℤ) → t ≤ℤ x → one_if (int_lt x t) ≡ 0
is_not_before x t h = let no : int_lt x t ≡ false = grind (arith, signed) in one_if-false (int_lt x t) no

pub rising_behind : (x : ℤ) (xs : List ℤ) → AreRising (x ∷ xs) → AreRising xs
rising_behind x xs h = λ i j d order within. h (suc i) (suc j) d (omega arith) (omega arith)

-- none of a list comes before t, if t is not after any of it
pub early-none : (xs : List ℤ) (t d : ℤ) → ((i : ℕ) → i < length xs → t ≤ℤ slice_index_or xs i d) → early xs t ≡ 0
unfolding early
early-none [] t d h = refl
early-none (x ∷ xs) t d h =
    omega (arith, is_not_before x t (h 0 (omega arith)), early-none xs t d (λ i within. h (suc i) (omega arith)))

-- the first j of it do, if they come before t and t is not after the others
pub early-place : (xs : List ℤ) (t d : ℤ) (j : ℕ) → j ≤ length xs → ((i : ℕ) → i < j → slice_index_or xs i d <ℤ t) → ((i : ℕ) → j ≤ i → i < length xs → t ≤ℤ slice_index_or xs i d) → early xs t ≡ j
unfolding early
early-place xs t d zero bound behind ahead = early-none xs t d (λ i within. ahead i (omega arith) within)
early-place [] t d (suc j) bound behind ahead = absurd (omega arith)
early-place (x ∷ xs) t d (suc j) bound behind ahead =
    omega (arith, is_before x t (behind 0 (omega arith)), early-place xs t d j (omega arith) (λ i low. behind (suc i) (omega arith)) (λ i low within. ahead (suc i) (omega arith) (omega arith)))

-- as many come before a day of the list as stand in front of it
pub early-at : (xs : List ℤ) (d : ℤ) (j : ℕ) → AreRising xs → j < length xs → early xs (slice_index_or xs j d) ≡ j
early-at xs d j rising within =
    early-place xs (slice_index_or xs j d) d j (omega arith) (λ i low. rising i j d low within) (λ i low inside. in_order xs d i j rising (omega arith) inside)

-- a day later a day of the list itself comes before too
either : (b c : Bool) → b ≡ false → one_if (b || c) ≡ one_if c
either true c h = absurd (false≢true (sym h))
either false c h = refl

at_once : (b c : Bool) → b ≡ true → one_if (b || c) ≡ 1
at_once true c h = refl
at_once false c h = absurd (false≢true h)

pub early-next : (xs : List ℤ) (t u : ℤ) → AreRising xs → u ≡ t +ℤ pos 1 → early xs u ≡ early xs t + one_if (is_holiday xs t)
unfolding early
early-next [] t u rising e = refl
early-next (x ∷ xs) t u rising e =
    let rest = early-next xs t u (rising_behind x xs rising) e in
    by_lt_z x t
    (λ lt.
    let not_here = either (int_eq x t) (is_holiday xs t) (int_eq-other x t (λ same. omega (arith, signed, lt, same))) in
    omega (arith, is_before x t lt, is_before x u (omega (arith, signed, lt, e)), rest, not_here))
    (λ ge.
    by_lt_z t x
    (λ gt.
    let not_here = either (int_eq x t) (is_holiday xs t) (int_eq-other x t (λ same. omega (arith, signed, gt, same))) in
    omega (arith, is_not_before x t ge, is_not_before x u (omega (arith, signed, gt, e)), rest, not_here))
    (λ le.
    let same : x ≡ t = omega (arith, signed, le, ge) in
    let here = at_once (int_eq x t) (is_holiday xs t) ((Decides-int_eq x t).1 same) in
    let ahead : (i : ℕ) → i < length xs → u ≤ℤ slice_index_or xs i x = λ i within. omega (arith, signed, rising 0 (suc i) x (omega arith) (omega arith), same, e) in
    let ahead_too : (i : ℕ) → i < length xs → t ≤ℤ slice_index_or xs i x = λ i within. omega (arith, signed, ahead i within, e) in
    omega (arith, is_not_before x t ge, is_before x u (omega (arith, signed, same, e)), early-none xs u x ahead, early-none xs t x ahead_too, here)))

-- t is in the list exactly if it stands where those that come before t end
counted_once : (b : Bool) (n : ℕ) → n + 1 ≡ n + one_if b → b ≡ true
counted_once true n h = refl
counted_once false n h = absurd (omega arith)

not_counted : (b : Bool) (n : ℕ) → n ≡ n + one_if b → b ≡ false
not_counted true n h = absurd (omega arith)
not_counted false n h = refl

pub holiday_behind : (xs : List ℤ) (t d : ℤ) (j : ℕ) → AreRising xs → j < length xs → ((i : ℕ) → i < j → slice_index_or xs i d <ℤ t) → t <ℤ slice_index_or xs j d → is_holiday xs t ≡ false
holiday_behind xs t d j rising within behind lt =
    let next : ℤ = t +ℤ pos 1 in
    let from : (i : ℕ) → j ≤ i → i < length xs → next ≤ℤ slice_index_or xs i d = λ i low inside. omega (arith, signed, lt, in_order xs d i j rising (omega arith) inside) in
    let here = early-place xs t d j (omega arith) behind (λ i low inside. omega (arith, signed, from i low inside)) in
    let there = early-place xs next d j (omega arith) (λ i low. omega (arith, signed, behind i low)) from in
    not_counted (is_holiday xs t) j (omega (arith, here, there, early-next xs t next rising refl))

pub holiday_at : (xs : List ℤ) (t d : ℤ) (j : ℕ) → AreRising xs → j < length xs → ((i : ℕ) → i < j → slice_index_or xs i d <ℤ t) → slice_index_or xs j d ≡ t → is_holiday xs t ≡ true
holiday_at xs t d j rising within behind same =
    let next : ℤ = t +ℤ pos 1 in
    let here = early-place xs t d j (omega arith) behind (λ i low inside. omega (arith, signed, same, in_order xs d i j rising (omega arith) inside)) in
    let before : (i : ℕ) → i < suc j → slice_index_or xs i d <ℤ next = λ i low. omega (arith, signed, same, in_order xs d j i rising (omega arith) within) in
    let there = early-place xs next d (suc j) (omega arith) before (λ i low inside. omega (arith, signed, same, rising j i d (omega arith) inside)) in
    counted_once (is_holiday xs t) j (omega (arith, here, there, early-next xs t next rising refl))

pub past_place : (xs : List ℤ) (t d : ℤ) (j : ℕ) → AreRising xs → j ≡ length xs → ((i : ℕ) → i < j → slice_index_or xs i d <ℤ t) → is_holiday xs t ≡ false
past_place xs t d j rising end behind =
    let next : ℤ = t +ℤ pos 1 in
    let here = early-place xs t d j (omega arith) behind (λ i low inside. absurd (omega arith)) in
    let there = early-place xs next d j (omega arith) (λ i low. omega (arith, signed, behind i low)) (λ i low inside. absurd (omega arith)) in
    not_counted (is_holiday xs t) j (omega (arith, here, there, early-next xs t next rising refl))

-- a holiday is a workday
first_or_behind : (b : Bool) (weekend : DaySet) (x t : ℤ) (xs : List ℤ) → int_eq x t ≡ b → is_workday weekend x ≡ true → (is_holiday xs t ≡ true → is_workday weekend t ≡ true) → (b || is_holiday xs t) ≡ true → is_workday weekend t ≡ true
first_or_behind true weekend x t xs is here behind any = ap (is_workday weekend) (sym ((Decides-int_eq x t).0 is)) ∙ here
first_or_behind false weekend x t xs is here behind any = behind any

pub holiday_on_workday : (weekend : DaySet) (xs : List ℤ) (t : ℤ) → All (λ h. is_workday weekend h ≡ true) xs → is_holiday xs t ≡ true → is_workday weekend t ≡ true
holiday_on_workday weekend [] t h found = absurd (false≢true found)
holiday_on_workday weekend (x ∷ xs) t h found =
    first_or_behind (int_eq x t) weekend x t xs refl (h 0 x (omega arith)) (holiday_on_workday weekend xs t (λ i d within. h (suc i) d (omega arith))) found

-- ---- a search through days that rise

-- those that come before t stand in front
pub before-in_front : (xs : List ℤ) (t : ℤ) → AreRising xs → IsPartitionedBy (λ h. int_lt h t) xs
before-in_front xs t rising = λ i j d order within is.
    let low = in_order xs d j i rising (omega arith) within in
    let before : slice_index_or xs j d <ℤ t = grind (arith, signed, is) in
    let lower : slice_index_or xs i d <ℤ t = omega (arith, signed, low, before) in
    grind (arith, signed)
