-- What a walk keeps of the members that came before its day.
use Rattle.std.proofs.Common.{◌≡◌, ℕ, ◌+◌, ◌≤◌, ◌<◌, true, false, min, nat_lt, refl, sym, ap, ◌∙◌, arith, ℤ, pos, ◌+ℤ◌, ◌≤ℤ◌, ◌<ℤ◌}
use Rattle.std.proofs.lemmas.Bool.{false≢true}
use Rattle.std.proofs.lemmas.Bool.Decides.{nat_tests}
use Rattle.chrono_datetime.specs.Recurrence.{count_between}
use Rattle.chrono_datetime.proofs.Signed.{signed}
use Rattle.chrono_rules.specs.Instances.{is_counted, is_instance, is_member}
use Rattle.chrono_rules.specs.InstanceWalks.{IsKept, may_follow, seen_before, seen_with}
use Rattle.chrono_rules.specs.declared.rule.End.{End}
use Rattle.chrono_rules.specs.declared.rule.End.TheVariants.{Count, Never, Until}
use Rattle.chrono_rules.specs.declared.rule.Rule.{Rule}
use Rattle.chrono_rules.proofs.Counts.{ended-later, first_follows, none_follows, not_counted, seen-kept, seen-next}

pub kept-counted : (r : Rule) (s a : ℤ) (seen : ℕ) → seen ≡ seen_before r.end r s a → IsKept r s a seen
kept-counted r s a seen is = record { counted = λ may. is; ended = λ full d low. none_follows r s a d seen is full low }

-- where a rule begins to keep: without COUNT nothing, and with one as many members as came before, but no more than that
pub kept-never : (r : Rule) (s a : ℤ) → r.end ≡ Never → IsKept r s a 0
unfolding seen_before
kept-never r s a is = kept-counted r s a 0 (ap (λ f. seen_before f r s a) (sym is))

pub kept-until : (r : Rule) (s a u : ℤ) → r.end ≡ Until u → IsKept r s a 0
unfolding seen_before
kept-until r s a u is = kept-counted r s a 0 (ap (λ f. seen_before f r s a) (sym is))

few-follow : (f : End) (c n : ℕ) → f ≡ Count c → may_follow f n ≡ true → n < c
unfolding may_follow
few-follow f c n is may =
    let less : nat_lt n c ≡ true = ap (λ f. may_follow f n) (sym is) ∙ may in
    grind (arith, nat_tests, less)

full-follow : (f : End) (c n : ℕ) → f ≡ Count c → may_follow f n ≡ false → c ≤ n
unfolding may_follow
full-follow f c n is full =
    let more : nat_lt n c ≡ false = ap (λ f. may_follow f n) (sym is) ∙ full in
    grind (arith, nat_tests, more)

full-counted : (f : End) (r : Rule) (s a : ℤ) (c : ℕ) → f ≡ Count c → c ≤ count_between (is_member r s) s a → is_counted f r s a ≡ false
unfolding is_counted
full-counted f r s a c is full =
    let more : nat_lt (count_between (is_member r s) s a) c ≡ false = grind (arith, nat_tests, full) in
    ap (λ f. is_counted f r s a) is ∙ more

count-seen : (f : End) (r : Rule) (s a : ℤ) (c : ℕ) → f ≡ Count c → seen_before f r s a ≡ count_between (is_member r s) s a
unfolding seen_before
count-seen f r s a c is = ap (λ f. seen_before f r s a) is

pub kept-most : (r : Rule) (s a : ℤ) (c seen : ℕ) → r.end ≡ Count c → seen ≡ min c (count_between (is_member r s) s a) → IsKept r s a seen
kept-most r s a c seen end is = record {
  counted = λ may. let less = few-follow r.end c seen end may in omega (arith, less, is, count-seen r.end r s a c end);
  ended = λ full d low.
      let all = full-follow r.end c seen end full in
      not_counted r s d (ended-later r.end r s a d low (full-counted r.end r s a c end (omega (arith, all, is))));
}

-- once no member may follow, nothing is to be kept
pub kept-full : (r : Rule) (s a e : ℤ) (seen : ℕ) → IsKept r s a seen → may_follow r.end seen ≡ false → a ≤ℤ e → IsKept r s e seen
kept-full r s a e seen kept full le = record {
  counted = λ may. absurd (false≢true (sym full ∙ may));
  ended = λ full d low. kept.ended full d (omega (arith, signed, le, low));
}

-- members that are none change nothing
pub kept-later : (r : Rule) (s a e : ℤ) (seen : ℕ) → IsKept r s a seen → a ≤ℤ e → ((d : ℤ) → a ≤ℤ d → d <ℤ e → is_member r s d ≡ false) → IsKept r s e seen
kept-later r s a e seen kept le none = record {
  counted = λ may. kept.counted may ∙ sym (seen-kept r.end r s a e le none);
  ended = λ full d low. kept.ended full d (omega (arith, signed, le, low));
}

walk-seen : (r : Rule) (s a e m : ℤ) (seen after : ℕ) → seen ≡ seen_before r.end r s a → after ≡ seen_with r.end seen → a ≤ℤ e → m ≡ e +ℤ pos 1 → is_member r s e ≡ true → ((d : ℤ) → a ≤ℤ d → d <ℤ e → is_member r s d ≡ false) → after ≡ seen_before r.end r s m
walk-seen r s a e m seen after kept is low next member least =
    is
    ∙ (ap (seen_with r.end) (kept ∙ sym (seen-kept r.end r s a e low least))
    ∙ sym (seen-next r.end r s e m next member))

pub kept-behind : (r : Rule) (s a e : ℤ) (seen : ℕ) → IsKept r s a seen → may_follow r.end seen ≡ true → a ≤ℤ e → is_member r s e ≡ true → ((d : ℤ) → a ≤ℤ d → d <ℤ e → is_member r s d ≡ false) → IsKept r s (e +ℤ pos 1) (seen_with r.end seen)
kept-behind r s a e seen kept may le member least =
    kept-counted r s (e +ℤ pos 1) (seen_with r.end seen)
    (walk-seen r s a e (e +ℤ pos 1) seen (seen_with r.end seen) (kept.counted may) refl le refl member least)

-- the first member from the day on is an instance if one may follow
pub kept-instance : (r : Rule) (s a e : ℤ) (seen : ℕ) → IsKept r s a seen → may_follow r.end seen ≡ true → a ≤ℤ e → is_member r s e ≡ true → ((d : ℤ) → a ≤ℤ d → d <ℤ e → is_member r s d ≡ false) → is_instance r s e ≡ true
kept-instance r s a e seen kept may le member least = first_follows r s a e seen (kept.counted may) may le member least

pub seen_with-few : (f : End) (n : ℕ) → seen_with f n ≤ n + 1
unfolding seen_with
seen_with-few Never n = omega arith
seen_with-few (Until u) n = omega arith
seen_with-few (Count c) n = omega arith
