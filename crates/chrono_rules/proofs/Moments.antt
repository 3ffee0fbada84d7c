-- Instances at a time of day, by those of days.
use Rattle.std.proofs.Common.{◌≡◌, ◌==◌, ℕ, nat_lt, Bool, true, false, cond, ◌&&◌, ◌||◌, Less, Equal, Greater, inl, inr, refl, sym, ap, ◌∙◌, arith, ℤ, ◌<ℤ◌}
use Rattle.std.specs.Ordering.{is_lt, ordering_then}
use Rattle.std.proofs.lemmas.Bool.{and_parts}
use Rattle.std.proofs.lemmas.Bool.Decides.{nat_tests}
use Rattle.chrono_datetime.specs.Moment.{IsBefore, Moment, moment}
use Rattle.chrono_datetime.specs.Time.{IsEarlier, TimeOfDay, time_cmp}
use Rattle.chrono_datetime.proofs.Signed.{signed}
use Rattle.chrono_rules.specs.Instances.{is_instance}
use Rattle.chrono_rules.specs.InstanceMoments.{is_instance_at, same_time}
use Rattle.chrono_rules.specs.declared.rule.Rule.{Rule}

and-by : (a b : Bool) → (b ≡ true → a ≡ false) → (a && b) ≡ false
and-by true true h = h refl
and-by true false h = refl
and-by false b h = refl

same-numbers : (x y u v : ℕ) → ((x == y) && (u == v)) ≡ true → (x ≡ y) × (u ≡ v)
same-numbers x y u v h = let both = and_parts (x == y) (u == v) h in (grind (arith, nat_tests, both.0), grind (arith, nat_tests, both.1))

same_time-self : (t : TimeOfDay) → same_time t t ≡ true
same_time-self t = grind (arith, nat_tests)

-- no instance but at the start's time, of a day that is one
not_at : (r : Rule) (start q : Moment) → (start.time.second ≡ q.time.second → start.time.fraction ≡ q.time.fraction → is_instance r start.date q.date ≡ false) → is_instance_at r start q ≡ false
unfolding is_instance_at
not_at r start q none =
    and-by (is_instance r start.date q.date) (same_time start.time q.time)
    (λ same. let e = same-numbers start.time.second q.time.second start.time.fraction q.time.fraction same in none e.0 e.1)

pub instance_at : (r : Rule) (start : Moment) (d : ℤ) → is_instance r start.date d ≡ true → is_instance_at r start (moment d start.time) ≡ true
unfolding is_instance_at
instance_at r start d is = rw (is, same_time-self start.time) refl

less-by : (p q r s : Bool) → is_lt (ordering_then (cond p Less (cond q Equal Greater)) (cond r Less (cond s Equal Greater))) ≡ (p || (q && r))
less-by true q r s = refl
less-by false false r s = refl
less-by false true true s = refl
less-by false true false true = refl
less-by false true false false = refl

earlier-tests : (a b : TimeOfDay) → IsEarlier a b → (nat_lt a.second b.second || ((a.second == b.second) && nat_lt a.fraction b.fraction)) ≡ true
earlier-tests a b (inl less) = grind (arith, nat_tests, less)
earlier-tests a b (inr (same, less)) = grind (arith, nat_tests, same, less)

earlier-is : (a b : TimeOfDay) → IsEarlier a b → is_lt (time_cmp a b) ≡ true
earlier-is a b earlier =
    less-by (nat_lt a.second b.second) (a.second == b.second) (nat_lt a.fraction b.fraction) (a.fraction == b.fraction) ∙ earlier-tests a b earlier

-- between a moment and the instance of its own day
pub none_on_day : (r : Rule) (start m q : Moment) → IsBefore m q → IsBefore q (moment m.date start.time) → is_instance_at r start q ≡ false
none_on_day r start m q (inl later) (inl earlier) = absurd (omega (arith, signed, later, earlier))
none_on_day r start m q (inr (date, time)) (inl earlier) = absurd (omega (arith, signed, date, earlier))
none_on_day r start m q behind (inr (date, inl less)) = not_at r start q (λ second fraction. absurd (omega (arith, less, second)))
none_on_day r start m q behind (inr (date, inr (same, less))) = not_at r start q (λ second fraction. absurd (omega (arith, less, fraction)))

and-rest : (a b : Bool) → a ≡ true → (a && b) ≡ false → b ≡ false
and-rest true b is none = none
and-rest false true is none = sym is
and-rest false false is none = refl

at_time : (a b t : TimeOfDay) → IsEarlier a b → t.second ≡ b.second → t.fraction ≡ b.fraction → IsEarlier a t
at_time a b t (inl less) second fraction = inl (omega (arith, less, second))
at_time a b t (inr (same, less)) second fraction = inr (omega (arith, same, second), omega (arith, less, fraction))

-- behind a moment whose own day has no instance left
pub none_later : (r : Rule) (start m q : Moment) → (is_lt (time_cmp m.time start.time) && is_instance r start.date m.date) ≡ false → (m.date <ℤ q.date → is_instance r start.date q.date ≡ false) → IsBefore m q → is_instance_at r start q ≡ false
none_later r start m q today days (inl later) = not_at r start q (λ second fraction. days later)
none_later r start m q today days (inr (date, time)) =
    not_at r start q
    (λ second fraction.
    ap (is_instance r start.date) (sym date)
    ∙ and-rest (is_lt (time_cmp m.time start.time)) (is_instance r start.date m.date) (earlier-is m.time start.time (at_time m.time q.time start.time time second fraction)) today)

pub least_later : (r : Rule) (start m q : Moment) (e : ℤ) → (is_lt (time_cmp m.time start.time) && is_instance r start.date m.date) ≡ false → ((d : ℤ) → m.date <ℤ d → d <ℤ e → is_instance r start.date d ≡ false) → IsBefore m q → IsBefore q (moment e start.time) → is_instance_at r start q ≡ false
least_later r start m q e today days after (inl less) = none_later r start m q today (λ later. days q.date later less) after
least_later r start m q e today days after (inr (date, inl less)) = not_at r start q (λ second fraction. absurd (omega (arith, less, second)))
least_later r start m q e today days after (inr (date, inr (same, less))) = not_at r start q (λ second fraction. absurd (omega (arith, less, fraction)))

-- ---- the same before a moment

pub none_before_on_day : (r : Rule) (start m q : Moment) → IsBefore (moment m.date start.time) q → IsBefore q m → is_instance_at r start q ≡ false
none_before_on_day r start m q (inl later) (inl earlier) = absurd (omega (arith, signed, later, earlier))
none_before_on_day r start m q (inl later) (inr (date, time)) = absurd (omega (arith, signed, later, date))
none_before_on_day r start m q (inr (date, inl less)) before = not_at r start q (λ second fraction. absurd (omega (arith, less, second)))
none_before_on_day r start m q (inr (date, inr (same, less))) before = not_at r start q (λ second fraction. absurd (omega (arith, less, fraction)))

from_time : (a b t : TimeOfDay) → IsEarlier a b → t.second ≡ a.second → t.fraction ≡ a.fraction → IsEarlier t b
from_time a b t (inl less) second fraction = inl (omega (arith, less, second))
from_time a b t (inr (same, less)) second fraction = inr (omega (arith, same, second), omega (arith, less, fraction))

pub none_earlier : (r : Rule) (start m q : Moment) → (is_lt (time_cmp start.time m.time) && is_instance r start.date m.date) ≡ false → (q.date <ℤ m.date → is_instance r start.date q.date ≡ false) → IsBefore q m → is_instance_at r start q ≡ false
none_earlier r start m q today days (inl earlier) = not_at r start q (λ second fraction. days earlier)
none_earlier r start m q today days (inr (date, time)) =
    not_at r start q
    (λ second fraction.
    ap (is_instance r start.date) date
    ∙ and-rest (is_lt (time_cmp start.time m.time)) (is_instance r start.date m.date) (earlier-is start.time m.time (from_time q.time m.time start.time time second fraction)) today)

pub greatest_earlier : (r : Rule) (start m q : Moment) (e : ℤ) → (is_lt (time_cmp start.time m.time) && is_instance r start.date m.date) ≡ false → ((d : ℤ) → e <ℤ d → d <ℤ m.date → is_instance r start.date d ≡ false) → IsBefore (moment e start.time) q → IsBefore q m → is_instance_at r start q ≡ false
greatest_earlier r start m q e today days (inl more) before = none_earlier r start m q today (λ earlier. days q.date more earlier) before
greatest_earlier r start m q e today days (inr (date, inl less)) before = not_at r start q (λ second fraction. absurd (omega (arith, less, second)))
greatest_earlier r start m q e today days (inr (date, inr (same, less))) before = not_at r start q (λ second fraction. absurd (omega (arith, less, fraction)))
