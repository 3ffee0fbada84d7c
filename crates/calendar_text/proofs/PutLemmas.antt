-- Texts that are put one behind another.
use Rattle.std.proofs.Common.{◌≡◌, ℕ, List, ◌++◌, length, take, Some, None, IfSome, IfNone, ap, ◌∙◌, arith, append_assoc, length-append}
use Rattle.std.specs.Prelude.{Option}
use Rattle.calendar_text.specs.Puts.{IsPut, IsTooLong}

pub put_both : (a b c : List ℕ) (n k m : ℕ) (xs ys : List ℕ) → IsPut a b n xs k → IsPut b c k ys m → IsPut a c n (xs ++ ys) m
put_both a b c n k m xs ys first second = record {
  text = second.text ∙ ap (λ front. front ++ ys) first.text ∙ append_assoc (take n a) xs ys;
  end = omega (arith, first.end, second.end, length-append xs ys);
  within = second.within;
}

pub some_both : (r : Option ℕ) (a b c : List ℕ) (n k : ℕ) (xs ys : List ℕ) → IsPut a b n xs k → IfSome r (λ m. IsPut b c k ys m) → IfSome r (λ m. IsPut a c n (xs ++ ys) m)
some_both None a b c n k xs ys first second = tt
some_both (Some m) a b c n k xs ys first second = put_both a b c n k m xs ys first second

pub none_both : (r : Option ℕ) (a b : List ℕ) (n k : ℕ) (xs ys : List ℕ) → IsPut a b n xs k → length b ≡ length a → IfNone r (IsTooLong b k ys) → IfNone r (IsTooLong a n (xs ++ ys))
none_both None a b n k xs ys first same second = omega (arith, first.end, same, second, length-append xs ys)
none_both (Some m) a b n k xs ys first same second = tt

pub none_first : (a : List ℕ) (n : ℕ) (xs ys : List ℕ) → IsTooLong a n xs → IsTooLong a n (xs ++ ys)
none_first a n xs ys long = omega (arith, long, length-append xs ys)
