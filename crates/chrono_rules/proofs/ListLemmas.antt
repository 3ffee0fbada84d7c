-- Items of lists one after another, and texts behind separators.
use Rattle.std.proofs.Common.{◌≡◌, ℕ, zero, suc, ◌+◌, ◌-◌, ◌<◌, ◌≤◌, Bool, true, false, ◌||◌, if◌then◌else◌, List, [], ◌∷◌, ◌++◌, refl, sym, ap, ◌∙◌, arith, append_assoc, append-nil, drop, get_or, length}
use Rattle.chrono_sets.specs.FiniteSets.{FiniteSet, no_numbers}
use Rattle.chrono_text.specs.Lists.{each_behind}
use Rattle.chrono_text.proofs.ListLemmas.{each_behind-append, join-behind}
use Rattle.chrono_rules.specs.declared.text.list_writer.ListedSet.{ListedSet}
use Rattle.chrono_rules.specs.declared.text.list_writer.ListedSet.TheVariants.{Large, Small}
use Rattle.chrono_rules.specs.declared.text.list_writer.Naming.{Naming}
use Rattle.chrono_rules.specs.declared.text.list_writer.Naming.TheVariants.{Numbered}
use Rattle.chrono_rules.specs.WrittenRules.{item_at, items, limit, listed_on, numbered_items, part_unless, some_in, text_unless}
use Rattle.std.proofs.Math.Bool.{or-false}

-- items behind items
pub on_append : (begun : Bool) (xs ys : List (List ℕ)) → listed_on begun (xs ++ ys) ≡ listed_on begun xs ++ listed_on (begun || some_in xs) ys
on_append true xs ys = each_behind-append 44 xs ys
on_append false [] ys = refl
on_append false (x ∷ xs) ys =
    join-behind 44 x (xs ++ ys) ∙ ap (λ rest. x ++ rest) (each_behind-append 44 xs ys)
    ∙ sym (append_assoc x (each_behind 44 xs) (each_behind 44 ys)) ∙ ap (λ front. front ++ each_behind 44 ys) (sym (join-behind 44 x xs))

pub some_append : (begun : Bool) (xs ys : List (List ℕ)) → (begun || some_in (xs ++ ys)) ≡ ((begun || some_in xs) || some_in ys)
some_append true xs ys = refl
some_append false [] ys = refl
some_append false (x ∷ xs) ys = refl

-- what is put for a part, with its separator
pub part_behind : (lacks : Bool) (name value : List ℕ) → each_behind 59 (part_unless lacks name value) ≡ text_unless lacks ((59 ∷ name) ++ value)
part_behind true name value = refl
part_behind false name value = append-nil ((59 ∷ name) ++ value)

-- one item of the rest of a list
pub items_next : (listed : FiniteSet) (naming : Naming) (from_end : Bool) (end n : ℕ) → n < end
    → items listed naming from_end (end - n) n ≡ item_at listed naming from_end n ++ items listed naming from_end (end - (n + 1)) (n + 1)
unfolding items
items_next listed naming from_end end n less =
    let one : end - n ≡ suc (end - (n + 1)) = omega (arith, less) in
    ap (λ count. items listed naming from_end count n) one

pub items_end : (listed : FiniteSet) (naming : Naming) (from_end : Bool) (end n : ℕ) → end ≤ n → items listed naming from_end (end - n) n ≡ []
unfolding items
items_end listed naming from_end end n past =
    let none : end - n ≡ 0 = omega (arith, past) in
    ap (λ count. items listed naming from_end count n) none

-- what one more item, or one more list, puts
pub put_next : (old new : List ℕ) (begun result : Bool) (xs ys : List (List ℕ)) → new ≡ old ++ listed_on begun xs → result ≡ (begun || some_in xs)
    → new ++ listed_on result ys ≡ old ++ listed_on begun (xs ++ ys)
put_next old new begun result xs ys put is =
    ap (λ text. text ++ listed_on result ys) put ∙ ap (λ b. (old ++ listed_on begun xs) ++ listed_on b ys) is
    ∙ append_assoc old (listed_on begun xs) (listed_on (begun || some_in xs) ys) ∙ ap (λ text. old ++ text) (sym (on_append begun xs ys))

pub begun_next : (begun result : Bool) (xs ys : List (List ℕ)) → result ≡ (begun || some_in xs) → (result || some_in ys) ≡ (begun || some_in (xs ++ ys))
begun_next begun result xs ys is = ap (λ b. b || some_in ys) is ∙ sym (some_append begun xs ys)

-- and what none puts
on_nil : (begun : Bool) → listed_on begun [] ≡ []
on_nil true = refl
on_nil false = refl

pub put_none : (old : List ℕ) (begun : Bool) (xs : List (List ℕ)) → xs ≡ [] → old ≡ old ++ listed_on begun xs
put_none old begun xs none = sym (append-nil old) ∙ ap (λ text. old ++ text) (sym (on_nil begun) ∙ ap (listed_on begun) (sym none))

pub begun_none : (begun : Bool) (xs : List (List ℕ)) → xs ≡ [] → begun ≡ (begun || some_in xs)
begun_none begun xs none = sym (or-false begun) ∙ ap (λ is. begun || some_in is) (sym none)

-- a byte that may be put
pub sign_short : (wanted : Bool) (byte : ℕ) → length (if wanted then byte ∷ [] else []) ≤ 1
sign_short true byte = omega arith
sign_short false byte = omega arith

pub limit_within : (listed : ListedSet) → limit listed ≤ 384
unfolding limit
limit_within (Small set) = omega arith
limit_within (Large set) = omega arith

-- the weekdays that are left
pub numbered_next : (from_end : Bool) (sets : List FiniteSet) (w v : ℕ) → w < length sets
    → numbered_items from_end (drop w sets) v ≡ items (get_or sets w no_numbers) (Numbered v) from_end 53 1 ++ numbered_items from_end (drop (suc w) sets) (v + 1)
unfolding numbered_items
numbered_next from_end [] w v less = absurd (omega (arith, less))
numbered_next from_end (set ∷ sets) zero v less = refl
numbered_next from_end (set ∷ sets) (suc w) v less = numbered_next from_end sets w v (omega (arith, less))

pub numbered_end : (from_end : Bool) (sets : List FiniteSet) (w v : ℕ) → length sets ≤ w → numbered_items from_end (drop w sets) v ≡ []
unfolding numbered_items
numbered_end from_end [] zero v past = refl
numbered_end from_end [] (suc w) v past = refl
numbered_end from_end (set ∷ sets) zero v past = absurd (omega (arith, past))
numbered_end from_end (set ∷ sets) (suc w) v past = numbered_end from_end sets w v (omega (arith, past))

-- a list's part that the rule has, and what is put for parts one after another
pub part_put : (old mid new name value : List ℕ) (lacks : Bool) → lacks ≡ false → mid ≡ old ++ name → new ≡ mid ++ value → new ≡ old ++ text_unless lacks (name ++ value)
part_put old mid new name value lacks has first second =
    second ∙ ap (λ text. text ++ value) first ∙ append_assoc old name value ∙ ap (λ text. old ++ text) (ap (λ b. text_unless b (name ++ value)) (sym has))

pub texts_on : (old new end : List ℕ) (xs ys : List (List ℕ)) → new ≡ old ++ each_behind 59 xs → end ≡ new ++ each_behind 59 ys → end ≡ old ++ each_behind 59 (xs ++ ys)
texts_on old new end xs ys first second =
    second ∙ ap (λ text. text ++ each_behind 59 ys) first ∙ append_assoc old (each_behind 59 xs) (each_behind 59 ys) ∙ ap (λ text. old ++ text) (sym (each_behind-append 59 xs ys))

pub part_on : (old new : List ℕ) (lacks : Bool) (name value : List ℕ) → new ≡ old ++ text_unless lacks ((59 ∷ name) ++ value) → new ≡ old ++ each_behind 59 (part_unless lacks name value)
part_on old new lacks name value put = put ∙ ap (λ text. old ++ text) (sym (part_behind lacks name value))

pub two_put : (old a b one two : List ℕ) → one ≡ old ++ a → two ≡ one ++ b → two ≡ old ++ (a ++ b)
two_put old a b one two first second = second ∙ ap (λ text. text ++ b) first ∙ append_assoc old a b
