-- Days that pass a test, counted one after another.
use Rattle.std.proofs.Common.{◌≡◌, ℕ, zero, suc, ◌+◌, ◌≤◌, Bool, true, false, cond, min, refl, sym, ap, ◌∙◌, inl, inr, nat_lt, ◌&&◌, arith, ℤ, pos, ◌+ℤ◌, ◌-ℤ◌, ◌≤ℤ◌, ◌<ℤ◌, int_le, unsigned_abs, Option, Some, None, IfSome}
use Rattle.std.proofs.lemmas.Int.{by_lt_z}
use Rattle.std.proofs.lemmas.Bool.{cases_lt}
use Rattle.std.proofs.lemmas.Bool.Decides.{nat_tests}
use Rattle.chrono_datetime.specs.Recurrence.{count_between}
use Rattle.chrono_datetime.proofs.CountBetween.{count_between-empty, count_between-next, count_between-none, count_between-same, count_between-sum}
use Rattle.chrono_datetime.proofs.Signed.{signed}
use Rattle.chrono_rules.specs.Instances.{is_counted, is_instance, is_member}
use Rattle.chrono_rules.specs.InstanceWalks.{may_follow, seen_before, seen_with}
use Rattle.chrono_rules.specs.declared.rule.End.{End}
use Rattle.chrono_rules.specs.declared.rule.End.TheVariants.{Count, Never, Until}
use Rattle.chrono_rules.specs.declared.rule.Rule.{Rule}
use Rattle.std.proofs.Math.Bool.{and-true}

pub counted-next : (p : ℤ → Bool) (a b c : ℤ) (n m : ℕ) → n ≡ count_between p a b → m ≡ n + cond (p b) 1 0 → a ≤ℤ b → c ≡ b +ℤ pos 1 → m ≡ count_between p a c
counted-next p a b c n m n-is m-is low e = omega (arith, n-is, m-is, count_between-next p a b c low e)

-- what COUNT ends stays ended
pub count-grows : (p : ℤ → Bool) (a e d : ℤ) → e ≤ℤ d → count_between p a e ≤ count_between p a d
count-grows p a e d low =
    by_lt_z e a
    (λ lt. omega (arith, count_between-empty p a e (omega (arith, signed, lt))))
    (λ ge. omega (arith, count_between-sum p a e d ge low))

pub ended-later : (f : End) (r : Rule) (start e d : ℤ) → e ≤ℤ d → is_counted f r start e ≡ false → is_counted f r start d ≡ false
unfolding is_counted
ended-later Never r start e d low is = is
ended-later (Until u) r start e d low is = is
ended-later (Count c) r start e d low is =
    grind (arith, nat_tests, is, count-grows (is_member r start) start e d low)

pub no_member : (r : Rule) (start d : ℤ) → is_member r start d ≡ false → is_instance r start d ≡ false
unfolding is_instance
no_member r start d is = rw is refl

pub not_counted : (r : Rule) (start d : ℤ) → is_counted r.end r start d ≡ false → is_instance r start d ≡ false
unfolding is_instance
not_counted r start d is = grind (arith, is)

-- no day before the start is a member
pub before_start : (r : Rule) (start d : ℤ) → d <ℤ start → is_member r start d ≡ false
unfolding is_member
before_start r start d less =
    let behind : int_le start d ≡ false = grind (arith, signed) in
    rw behind refl

from_start : (r : Rule) (start e : ℤ) → is_member r start e ≡ true → start ≤ℤ e
from_start r start e is =
    by_lt_z e start (λ lt. let no = before_start r start e lt in cc) (λ ge. ge)

counted_member : (r : Rule) (start e : ℤ) → is_member r start e ≡ true → is_counted r.end r start e ≡ true → is_instance r start e ≡ true
unfolding is_instance
counted_member r start e member counted = rw (member, counted) refl

-- the last member before the day up to which days are counted is an instance
pub last_instance : (o : Option ℤ) (r : Rule) (start end : ℤ) → IfSome o (λ e. is_member r start e ≡ true) → IfSome o (λ e. e <ℤ end) → ((d : ℤ) → start ≤ℤ d → d <ℤ end → is_counted r.end r start d ≡ true) → IfSome o (λ e. is_instance r start e ≡ true)
last_instance None r start end before member counted = tt
last_instance (Some e) r start end member before counted =
    counted_member r start e member (counted e (from_start r start e member) before)

-- ---- what a walk keeps of the past

pub count-kept : (p : ℤ → Bool) (s a e : ℤ) → a ≤ℤ e → ((d : ℤ) → a ≤ℤ d → d <ℤ e → p d ≡ false) → count_between p s e ≡ count_between p s a
count-kept p s a e le none =
    by_lt_z a s
    (λ lt. omega (arith, count_between-empty p s a (omega (arith, signed, lt)), count_between-none p s e (λ d low high. none d (omega (arith, signed, lt, low)) high)))
    (λ ge. omega (arith, count_between-sum p s a e ge le, count_between-none p a e none))

-- one member more, the first from the day on up to which they are counted
pub count-member : (r : Rule) (s a e n : ℤ) (seen : ℕ) → seen ≡ count_between (is_member r s) s a → s ≤ℤ a → a ≤ℤ e → n ≡ e +ℤ pos 1 → is_member r s e ≡ true → ((d : ℤ) → a ≤ℤ d → d <ℤ e → is_member r s d ≡ false) → seen + 1 ≡ count_between (is_member r s) s n
count-member r s a e n seen is start low at member none =
    counted-next (is_member r s) s e n seen (seen + 1)
    (is ∙ sym (count-kept (is_member r s) s a e low none)) (ap (λ b. seen + cond b 1 0) (sym member)) (omega (arith, signed, start, low)) at

pub seen-kept : (f : End) (r : Rule) (s a e : ℤ) → a ≤ℤ e → ((d : ℤ) → a ≤ℤ d → d <ℤ e → is_member r s d ≡ false) → seen_before f r s e ≡ seen_before f r s a
unfolding seen_before
seen-kept Never r s a e le none = refl
seen-kept (Until u) r s a e le none = refl
seen-kept (Count c) r s a e le none = count-kept (is_member r s) s a e le none

pub seen-next : (f : End) (r : Rule) (s e n : ℤ) → n ≡ e +ℤ pos 1 → is_member r s e ≡ true → seen_before f r s n ≡ seen_with f (seen_before f r s e)
unfolding seen_before seen_with
seen-next Never r s e n at is = refl
seen-next (Until u) r s e n at is = refl
seen-next (Count c) r s e n at is =
    count_between-next (is_member r s) s e n (from_start r s e is) at ∙ ap (λ b. count_between (is_member r s) s e + cond b 1 0) is

pub counted-by_seen : (f : End) (r : Rule) (s d : ℤ) → is_counted f r s d ≡ may_follow f (seen_before f r s d)
unfolding is_counted may_follow seen_before
counted-by_seen Never r s d = refl
counted-by_seen (Until u) r s d = refl
counted-by_seen (Count c) r s d = refl

-- once no member may follow, no day is an instance
pub none_follows : (r : Rule) (s a d : ℤ) (seen : ℕ) → seen ≡ seen_before r.end r s a → may_follow r.end seen ≡ false → a ≤ℤ d → is_instance r s d ≡ false
none_follows r s a d seen is full low =
    not_counted r s d (ended-later r.end r s a d low (counted-by_seen r.end r s a ∙ (ap (may_follow r.end) (sym is) ∙ full)))

-- the first member from a day on is an instance if one may follow
pub first_follows : (r : Rule) (s a e : ℤ) (seen : ℕ) → seen ≡ seen_before r.end r s a → may_follow r.end seen ≡ true → a ≤ℤ e → is_member r s e ≡ true → ((d : ℤ) → a ≤ℤ d → d <ℤ e → is_member r s d ≡ false) → is_instance r s e ≡ true
first_follows r s a e seen is may low member none =
    counted_member r s e member (counted-by_seen r.end r s e ∙ (ap (may_follow r.end) (seen-kept r.end r s a e low none ∙ sym is) ∙ may))

-- ---- instances counted

-- they are the members that COUNT lets be, of which a step adds one
counted-step : (b : Bool) (m i c : ℕ) → (m ≤ c → i ≡ m) → (c ≤ m → i ≡ c) → ((m + cond b 1 0) ≤ c → i + cond (b && nat_lt m c) 1 0 ≡ m + cond b 1 0) × (c ≤ (m + cond b 1 0) → i + cond (b && nat_lt m c) 1 0 ≡ c)
counted-step false m i c few full = (λ h. omega (arith, few (omega (arith, h))), λ h. omega (arith, full (omega (arith, h))))
counted-step true m i c few full =
    elim (cases_lt m c) [
      | inl lt ↦
          let yes : nat_lt m c ≡ true = grind (arith, nat_tests, lt) in
          let one : i + cond (nat_lt m c) 1 0 ≡ m + 1 = rw yes (omega (arith, few (omega (arith, lt)))) in
          (λ h. one, λ h. omega (arith, one, lt, h))
      | inr ge ↦
          let no : nat_lt m c ≡ false = grind (arith, nat_tests, ge) in
          let none : i + cond (nat_lt m c) 1 0 ≡ c = rw no (omega (arith, full ge)) in
          (λ h. absurd (omega (arith, ge, h)), λ h. none)
    ]

instance-counted : (r : Rule) (s d : ℤ) (c : ℕ) → r.end ≡ Count c → is_instance r s d ≡ (is_member r s d && nat_lt (count_between (is_member r s) s d) c)
unfolding is_instance is_counted
instance-counted r s d c end = ap (λ f. is_member r s d && is_counted f r s d) end

-- up to a day from the start on
abbrev AreCounted : Rule → ℤ → ℤ → ℕ → Type 0
AreCounted r s d c =
    (count_between (is_member r s) s d ≤ c → count_between (is_instance r s) s d ≡ count_between (is_member r s) s d)
    × (c ≤ count_between (is_member r s) s d → count_between (is_instance r s) s d ≡ c)

counted_on : (r : Rule) (s d : ℤ) (c k : ℕ) → r.end ≡ Count c → d ≡ s +ℤ pos k → AreCounted r s d c
counted_on r s d c zero end at =
    let members = count_between-empty (is_member r s) s d (omega (arith, signed, at)) in
    let instances = count_between-empty (is_instance r s) s d (omega (arith, signed, at)) in
    (λ h. omega (arith, members, instances), λ h. omega (arith, members, instances, h))
counted_on r s d c (suc k) end at =
    let e : ℤ = s +ℤ pos k in
    let up = counted_on r s e c k end refl in
    let low : s ≤ℤ e = omega (arith, signed) in
    let next : d ≡ e +ℤ pos 1 = omega (arith, signed, at) in
    let members = count_between-next (is_member r s) s e d low next in
    let instances = count_between-next (is_instance r s) s e d low next
    ∙ ap (λ b. count_between (is_instance r s) s e + cond b 1 0) (instance-counted r s e c end) in
    let step = counted-step (is_member r s e) (count_between (is_member r s) s e) (count_between (is_instance r s) s e) c up.0 up.1 in
    (λ h. instances ∙ (step.0 (omega (arith, h, members)) ∙ sym members), λ h. instances ∙ step.1 (omega (arith, h, members)))

pub are_counted : (r : Rule) (s d : ℤ) (c : ℕ) → r.end ≡ Count c → AreCounted r s d c
are_counted r s d c end =
    by_lt_z d s
    (λ lt.
    let members = count_between-empty (is_member r s) s d (omega (arith, signed, lt)) in
    let instances = count_between-empty (is_instance r s) s d (omega (arith, signed, lt)) in
    (λ h. omega (arith, members, instances), λ h. omega (arith, members, instances, h)))
    (λ ge. counted_on r s d c (unsigned_abs (d -ℤ s)) end (omega (arith, signed, ge)))

pub most_counted : (r : Rule) (s d : ℤ) (c : ℕ) → r.end ≡ Count c → count_between (is_instance r s) s d ≡ min c (count_between (is_member r s) s d)
most_counted r s d c end =
    let both = are_counted r s d c end in
    elim (cases_lt (count_between (is_member r s) s d) c) [
      | inl lt ↦ omega (arith, lt, both.0 (omega (arith, lt)))
      | inr ge ↦ omega (arith, ge, both.1 ge)
    ]

pub uncounted : (r : Rule) (s d : ℤ) → ((e : ℤ) → is_counted r.end r s e ≡ true) → count_between (is_instance r s) s d ≡ count_between (is_member r s) s d
unfolding is_instance
uncounted r s d all =
    count_between-same (is_instance r s) (is_member r s) s d (λ e low high. ap (λ b. is_member r s e && b) (all e) ∙ and-true (is_member r s e))

pub never_counts : (f : End) (r : Rule) (s e : ℤ) → f ≡ Never → is_counted f r s e ≡ true
unfolding is_counted
never_counts f r s e is = ap (λ f. is_counted f r s e) is

pub until_counts : (f : End) (r : Rule) (s e u : ℤ) → f ≡ Until u → is_counted f r s e ≡ true
unfolding is_counted
until_counts f r s e u is = ap (λ f. is_counted f r s e) is

-- one day more, which may lie before the start
pub members_to : (r : Rule) (s d : ℤ) (n m : ℕ) → n ≡ count_between (is_member r s) s d → m ≡ n + cond (is_member r s d) 1 0 → m ≡ count_between (is_member r s) s (d +ℤ pos 1)
members_to r s d n m n-is m-is =
    by_lt_z d s
    (λ lt.
    let none = ap (λ b. n + cond b 1 0) (before_start r s d lt) in
    omega (arith, none, m-is, n-is, count_between-empty (is_member r s) s d (omega (arith, signed, lt)), count_between-empty (is_member r s) s (d +ℤ pos 1) (omega (arith, signed, lt))))
    (λ ge. counted-next (is_member r s) s d (d +ℤ pos 1) n m n-is m-is ge refl)
