-- Holidays with one day more, at its place among them.
use Rattle.std.proofs.Common.{◌≡◌, ℕ, zero, suc, ◌+◌, ◌-◌, ◌<◌, ◌≤◌, Bool, true, false, ◌||◌, Option, Some, None, IfSome, ◌⊎◌, inl, inr, List, [], ◌∷◌, ◌++◌, length, take, drop, refl, sym, ap, ◌∙◌, arith, ℤ, pos, ◌+ℤ◌, ◌-ℤ◌, ◌≤ℤ◌, ◌<ℤ◌, unsigned_abs}
use Rattle.std.specs.Prelude.{int_lt, slice_index_or, slice_set}
use Rattle.std.specs.Ordering.{int_cmp, int_eq, ordering_index}
use Rattle.std.specs.Cmp.{int_ranks}
use Rattle.std.specs.declared.cmp.Ordering.TheVariants.{Less, Greater}
use Rattle.std.proofs.lemmas.Bool.{false≢true}
use Rattle.std.proofs.lemmas.Bool.Decides.{Decides-int_eq}
use Rattle.std.proofs.lemmas.Int.{by_lt_z}
use Rattle.std.proofs.lemmas.List.{drop-append-le, drop-take, drop_at, get_or-append_right, get_or-drop, get_or-take, get_or_append_left, length-append, length-drop, length-set, length-take-le, take-append-drop, take-set-le, take_at, take_more_set}
use Rattle.std.proofs.lemmas.List.Folds.{list_any-append, list_any_at}
use Rattle.std.proofs.lemmas.Slice.{take-put_mid}
use borrow.Rule.Slice.PartMut.{mid_of, put_mid}
use Rattle.chrono_datetime.specs.Days.{IsDate}
use Rattle.chrono_datetime.specs.WeekdaySet.{DaySet}
use Rattle.chrono_datetime.proofs.Signed.{signed}
use Rattle.chrono_datetime.proofs.CountWhere.{one_if}
use Rattle.chrono_datetime.specs.RisingDates.{AreRising}
use Rattle.chrono_business.specs.OpenDays.{AreHolidays, is_holiday, is_workday}
use Rattle.chrono_datetime.proofs.RisingLists.{in_order}
use Rattle.chrono_business.proofs.Early.{early, early-at, early-next, holiday_behind, one_if-true, past_place}

-- ---- a day put behind so many of a list and turned to its place

last_to_front : (m rest ys : List ℤ) (x : ℤ) → m ≡ rest ++ x ∷ [] → ys ≡ drop (length m - 1) m ++ take (length m - 1) m → ys ≡ x ∷ rest
last_to_front m rest ys x at is =
    let n : ℕ = length m - 1 in
    let long : length rest ≡ n = omega (arith, ap length at, length-append rest (x ∷ [])) in
    let back : drop n m ≡ x ∷ [] = ap (drop n) at ∙ drop_at rest (x ∷ []) n long in
    let front : take n m ≡ rest = ap (take n) at ∙ take_at rest (x ∷ []) n long in
    is ∙ (ap (λ a. a ++ take n m) back ∙ ap (λ b. x ∷ b) front)

pub turned : (xs ys : List ℤ) (x : ℤ) (len place k : ℕ) → place ≤ len → len < length xs → place + k ≡ len + 1 → ys ≡ drop (length (mid_of place k (slice_set xs len x)) - 1) (mid_of place k (slice_set xs len x)) ++ take (length (mid_of place k (slice_set xs len x)) - 1) (mid_of place k (slice_set xs len x)) → take (len + 1) (put_mid place k (slice_set xs len x) ys) ≡ take place xs ++ x ∷ drop place (take len xs)
turned xs ys x len place k low within size is =
    let zs : List ℤ = slice_set xs len x in
    let rest : List ℤ = drop place (take len xs) in
    let front : List ℤ = take len xs in
    let longer : length front ≡ len = length-take-le len xs (omega arith) in
    let mid : mid_of place k zs ≡ rest ++ x ∷ [] =
    sym (drop-take place k zs)
    ∙ (ap (λ n. drop place (take n zs)) size
    ∙ (ap (drop place) (take_more_set xs len x within) ∙ drop-append-le place front (x ∷ []) (omega (arith, longer)))) in
    let turn : ys ≡ x ∷ rest = last_to_front (mid_of place k zs) rest ys x mid is in
    let rest_long : length rest + place ≡ len = omega (arith, longer, length-drop place front) in
    let fits : place ≤ length zs = omega (arith, length-set xs len x) in
    take-put_mid place k zs ys (len + 1) (omega (arith, ap length turn, rest_long)) fits
    ∙ (ap (λ a. a ++ ys) (take-set-le place xs len x low) ∙ ap (λ b. take place xs ++ b) turn)

-- ---- where the days stand then

-- ys is zs with the day x at a place
pub record IsWithDay (zs ys : List ℤ) (place : ℕ) (x : ℤ) : Type 0 where
  pub bound : place ≤ length zs
  pub is : ys ≡ take place zs ++ x ∷ drop place zs

pub with-length : (zs ys : List ℤ) (place : ℕ) (x : ℤ) → IsWithDay zs ys place x → length ys ≡ length zs + 1
with-length zs ys place x w =
    let rest : List ℤ = drop place zs in
    let front : List ℤ = take place zs in
    omega (arith, ap length w.is, length-append front (x ∷ rest), length-take-le place zs w.bound, length-drop place zs, w.bound)

with-front : (zs ys : List ℤ) (place k : ℕ) (x d : ℤ) → IsWithDay zs ys place x → k < place → slice_index_or ys k d ≡ slice_index_or zs k d
with-front zs ys place k x d w low =
    let front : List ℤ = take place zs in
    ap (λ (l : List ℤ). slice_index_or l k d) w.is
    ∙ (get_or_append_left front (x ∷ drop place zs) d k (omega (arith, length-take-le place zs w.bound, low)) ∙ get_or-take place zs k d low)

with-here : (zs ys : List ℤ) (place : ℕ) (x d : ℤ) → IsWithDay zs ys place x → slice_index_or ys place d ≡ x
with-here zs ys place x d w =
    let front : List ℤ = take place zs in
    let behind : List ℤ = x ∷ drop place zs in
    let none : place - place ≡ 0 = omega arith in
    ap (λ (l : List ℤ). slice_index_or l place d) w.is
    ∙ (get_or-append_right front behind place place d (length-take-le place zs w.bound) (omega arith) ∙ ap (λ n. slice_index_or behind n d) none)

with-back : (zs ys : List ℤ) (place k : ℕ) (x d : ℤ) → IsWithDay zs ys place x → place ≤ k → slice_index_or ys (k + 1) d ≡ slice_index_or zs k d
with-back zs ys place k x d w low =
    let front : List ℤ = take place zs in
    let behind : List ℤ = x ∷ drop place zs in
    let j : ℕ = k - place in
    let more : (k + 1) - place ≡ suc j = omega arith in
    let at : place + j ≡ k = omega arith in
    ap (λ (l : List ℤ). slice_index_or l (k + 1) d) w.is
    ∙ (get_or-append_right front behind place (k + 1) d (length-take-le place zs w.bound) (omega arith)
    ∙ (ap (λ n. slice_index_or behind n d) more ∙ (get_or-drop place zs j d ∙ ap (λ n. slice_index_or zs n d) at)))

-- a place is in front of the day, the day's, or behind it
by_place : (Q : ℕ → Type 0) (place k : ℕ) → (k < place → Q k) → (k ≡ place → Q k) → ((j : ℕ) → place ≤ j → k ≡ j + 1 → Q k) → Q k
by_place Q place k front here back =
    by_lt_z (pos k) (pos place) (λ lt. front (omega (arith, signed, lt))) (λ ge.
    by_lt_z (pos place) (pos k) (λ gt. back (k - 1) (omega (arith, signed, gt)) (omega (arith, signed, gt))) (λ le. here (omega (arith, signed, le, ge))))

-- what holds of each day and of the day put in holds of each day then
with-all : (P : ℤ → Type 0) (zs ys : List ℤ) (place : ℕ) (x : ℤ) → IsWithDay zs ys place x → P x → ((k : ℕ) (d : ℤ) → k < length zs → P (slice_index_or zs k d)) → (k : ℕ) (d : ℤ) → k < length ys → P (slice_index_or ys k d)
with-all P zs ys place x w here all = λ k d within.
    let long = with-length zs ys place x w in
    by_place (λ n. P (slice_index_or ys n d)) place k
    (λ low. let same = with-front zs ys place k x d w low in let was = all k d (omega (arith, low, w.bound)) in rw same was)
    (λ at. let same : slice_index_or ys k d ≡ x = ap (λ n. slice_index_or ys n d) at ∙ with-here zs ys place x d w in rw same here)
    (λ j high at.
    let same : slice_index_or ys k d ≡ slice_index_or zs j d = ap (λ n. slice_index_or ys n d) at ∙ with-back zs ys place j x d w high in
    let was = all j d (omega (arith, at, within, long)) in
    rw same was)

-- the days rise if that day stands behind all that come before it and in front of the others
pub with-rising : (zs ys : List ℤ) (place : ℕ) (x : ℤ) → IsWithDay zs ys place x → AreRising zs → ((k : ℕ) (d : ℤ) → k < place → slice_index_or zs k d <ℤ x) → ((k : ℕ) (d : ℤ) → place ≤ k → k < length zs → x <ℤ slice_index_or zs k d) → AreRising ys
with-rising zs ys place x w rising before after = λ i j d order within.
    let long = with-length zs ys place x w in
    by_place (λ n. slice_index_or ys i d <ℤ slice_index_or ys n d) place j
    (λ low. omega (arith, signed, with-front zs ys place j x d w low, with-front zs ys place i x d w (omega (arith, order, low)), rising i j d order (omega (arith, low, w.bound))))
    (λ at.
    let here : slice_index_or ys j d ≡ x = ap (λ n. slice_index_or ys n d) at ∙ with-here zs ys place x d w in
    omega (arith, signed, here, with-front zs ys place i x d w (omega (arith, order, at)), before i d (omega (arith, order, at))))
    (λ m high at.
    let inside : m < length zs = omega (arith, at, within, long) in
    let there : slice_index_or ys j d ≡ slice_index_or zs m d = ap (λ n. slice_index_or ys n d) at ∙ with-back zs ys place m x d w high in
    by_place (λ n. slice_index_or ys n d <ℤ slice_index_or ys j d) place i
    (λ low. omega (arith, signed, there, with-front zs ys place i x d w low, rising i m d (omega (arith, low, high)) inside))
    (λ same.
    let here : slice_index_or ys i d ≡ x = ap (λ n. slice_index_or ys n d) same ∙ with-here zs ys place x d w in
    omega (arith, signed, here, there, after m d high inside))
    (λ n low same.
    let here : slice_index_or ys i d ≡ slice_index_or zs n d = ap (λ k. slice_index_or ys k d) same ∙ with-back zs ys place n x d w low in
    omega (arith, signed, here, there, rising n m d (omega (arith, same, at, order)) inside)))

pub with-holidays : (weekend : DaySet) (zs ys : List ℤ) (place : ℕ) (x : ℤ) → IsWithDay zs ys place x → AreHolidays weekend zs → IsDate x → is_workday weekend x ≡ true → ((k : ℕ) (d : ℤ) → k < place → slice_index_or zs k d <ℤ x) → ((k : ℕ) (d : ℤ) → place ≤ k → k < length zs → x <ℤ slice_index_or zs k d) → AreHolidays weekend ys
with-holidays weekend zs ys place x w are date workday before after = record {
  dates = with-all IsDate zs ys place x w date are.dates;
  rising = with-rising zs ys place x w are.rising before after;
  workdays = with-all (λ h. is_workday weekend h ≡ true) zs ys place x w workday are.workdays;
}

-- ---- which days are among them then

parted : (zs : List ℤ) (place : ℕ) (d : ℤ) → is_holiday zs d ≡ (is_holiday (take place zs) d || is_holiday (drop place zs) d)
parted zs place d =
    ap (λ (l : List ℤ). is_holiday l d) (sym (take-append-drop place zs)) ∙ list_any-append (λ h. int_eq h d) (take place zs) (drop place zs)

parted-with : (zs ys : List ℤ) (place : ℕ) (x d : ℤ) → IsWithDay zs ys place x → is_holiday ys d ≡ (is_holiday (take place zs) d || (int_eq x d || is_holiday (drop place zs) d))
parted-with zs ys place x d w =
    ap (λ (l : List ℤ). is_holiday l d) w.is ∙ list_any-append (λ h. int_eq h d) (take place zs) (x ∷ drop place zs)

either : (a e b : Bool) → (a || (e || b)) ≡ true → ((a || b) ≡ true) ⊎ (e ≡ true)
either true e b h = inl refl
either false true b h = inr refl
either false false b h = inl h

still : (a e b : Bool) → (a || b) ≡ true → (a || (e || b)) ≡ true
still true e b h = refl
still false true b h = refl
still false false b h = h

middle : (a e b : Bool) → e ≡ true → (a || (e || b)) ≡ true
middle true e b h = refl
middle false true b h = refl
middle false false b h = absurd (false≢true h)

pub with-only : (zs ys : List ℤ) (place : ℕ) (x d : ℤ) → IsWithDay zs ys place x → is_holiday ys d ≡ true → (is_holiday zs d ≡ true) ⊎ (d ≡ x)
with-only zs ys place x d w h =
    elim (either (is_holiday (take place zs) d) (int_eq x d) (is_holiday (drop place zs) d) (sym (parted-with zs ys place x d w) ∙ h)) [
      | inl was ↦ inl (parted zs place d ∙ was)
      | inr same ↦ inr (sym ((Decides-int_eq x d).0 same))
    ]

pub with-kept : (zs ys : List ℤ) (place : ℕ) (x d : ℤ) → IsWithDay zs ys place x → is_holiday zs d ≡ true → is_holiday ys d ≡ true
with-kept zs ys place x d w h =
    parted-with zs ys place x d w ∙ still (is_holiday (take place zs) d) (int_eq x d) (is_holiday (drop place zs) d) (sym (parted zs place d) ∙ h)

pub with-day : (zs ys : List ℤ) (place : ℕ) (x : ℤ) → IsWithDay zs ys place x → is_holiday ys x ≡ true
with-day zs ys place x w =
    parted-with zs ys place x x w ∙ middle (is_holiday (take place zs) x) (int_eq x x) (is_holiday (drop place zs) x) ((Decides-int_eq x x).1 refl)

pub with-none : (zs : List ℤ) (place : ℕ) (x d : ℤ) → AreRising zs → place ≤ length zs → ((k : ℕ) (d : ℤ) → k < place → slice_index_or zs k d <ℤ x) → ((k : ℕ) (d : ℤ) → place ≤ k → k < length zs → x <ℤ slice_index_or zs k d) → is_holiday zs x ≡ false
with-none zs place x d rising bound before after =
    by_lt_z (pos place) (pos (length zs))
    (λ lt. let within : place < length zs = omega (arith, signed, lt) in holiday_behind zs x d place rising within (λ k low. before k d low) (after place d (omega arith) within))
    (λ ge. past_place zs x d place rising (omega (arith, signed, ge, bound)) (λ k low. before k d low))

-- ---- of two lists that rise, one that has the days of the other is no shorter

early-few : (xs : List ℤ) (t : ℤ) → early xs t ≤ length xs
unfolding early
early-few [] t = omega arith
early-few (x ∷ xs) t = omega (arith, early-few xs t, at_most_one (int_lt x t))
  where
    at_most_one : (b : Bool) → one_if b ≤ 1
    at_most_one true = omega arith
    at_most_one false = omega arith

no_more : (a b : Bool) → (a ≡ true → b ≡ true) → one_if a ≤ one_if b
no_more true b h = omega (arith, one_if-true b (h refl))
no_more false b h = omega arith

early-among : (ys xs : List ℤ) (first t : ℤ) (k : ℕ) → AreRising ys → AreRising xs → early ys first ≡ 0 → ((d : ℤ) → is_holiday ys d ≡ true → is_holiday xs d ≡ true) → t ≡ first +ℤ pos k → early ys t ≤ early xs t
early-among ys xs first t zero up rise none all e =
    let same : t ≡ first = omega (arith, signed, e) in
    omega (arith, none, ap (early ys) same)
early-among ys xs first t (suc k) up rise none all e =
    let d : ℤ = first +ℤ pos k in
    let at : t ≡ d +ℤ pos 1 = omega (arith, signed, e) in
    omega (arith, early-among ys xs first d k up rise none all refl, early-next ys d t up at, early-next xs d t rise at, no_more (is_holiday ys d) (is_holiday xs d) (all d))

pub no_longer : (ys xs : List ℤ) → AreRising ys → AreRising xs → ((d : ℤ) → is_holiday ys d ≡ true → is_holiday xs d ≡ true) → length ys ≤ length xs
no_longer [] xs up rise all = omega arith
no_longer (y ∷ ys) xs up rise all =
    let zs : List ℤ = y ∷ ys in
    let n : ℕ = length ys in
    let last : ℤ = slice_index_or zs n y in
    let end : ℤ = last +ℤ pos 1 in
    let within : n < length zs = omega arith in
    let k : ℕ = unsigned_abs (end -ℤ y) in
    let order : y ≤ℤ last = in_order zs y n 0 up (omega arith) within in
    let here : is_holiday zs last ≡ true = list_any_at (λ h. int_eq h last) zs n y within ((Decides-int_eq last last).1 refl) in
    let none : early zs y ≡ 0 = early-at zs y 0 up (omega arith) in
    omega (arith, early-at zs y n up within, early-next zs last end up refl, one_if-true (is_holiday zs last) here, early-few xs end, early-among zs xs y end k up rise none all (omega (arith, signed, order)))

pub too_many : (zs ys xs : List ℤ) (place room : ℕ) (x : ℤ) → IsWithDay zs ys place x → AreRising ys → room ≡ length zs → AreRising xs → ((d : ℤ) → is_holiday zs d ≡ true → is_holiday xs d ≡ true) → is_holiday xs x ≡ true → room < length xs
too_many zs ys xs place room x w up full rise all here =
    let among : (d : ℤ) → is_holiday ys d ≡ true → is_holiday xs d ≡ true = λ d h. elim (with-only zs ys place x d w h) [ inl was ↦ all d was | inr same ↦ ap (is_holiday xs) same ∙ here ] in
    omega (arith, with-length zs ys place x w, full, no_longer ys xs up rise among)

-- ---- where a search ends

pub ranks-rise : (zs : List ℤ) (x : ℤ) → AreRising zs → (i j : ℕ) (d : ℤ) → i ≤ j → j < length zs → ordering_index (int_cmp (slice_index_or zs i d) x) ≤ ordering_index (int_cmp (slice_index_or zs j d) x)
ranks-rise zs x rising = λ i j d order within.
    higher (slice_index_or zs i d) (slice_index_or zs j d) (in_order zs d j i rising (omega (arith, order)) within)
  where
    higher : (a b : ℤ) → a ≤ℤ b → ordering_index (int_cmp a x) ≤ ordering_index (int_cmp b x)
    higher a b le = grind (arith, signed)

pub less_by : (a x : ℤ) → int_cmp a x ≡ Less → a <ℤ x
less_by a x e = rw e at (int_ranks a x)

pub greater_by : (a x : ℤ) → int_cmp a x ≡ Greater → x <ℤ a
greater_by a x e = rw e at (int_ranks a x)

-- ---- of an option that a call answers

pub if-some : (o : Option ℕ) (P Q : ℕ → Type 0) → ((n : ℕ) → P n → Q n) → IfSome o P → IfSome o Q
if-some None P Q f h = tt
if-some (Some n) P Q f h = f n h
