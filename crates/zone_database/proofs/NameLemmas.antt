-- The bytes of a name.
use Rattle.std.proofs.Common.{◌≡◌, ◌==◌, ◌||◌, ℕ, Bool, true, List, [], ◌∷◌, length, nat_lt, refl, subst, slice_index}
use Rattle.std.specs.List.{join_with_byte, list_all}
use Rattle.std.proofs.lemmas.Bool.{and_parts, false≢true, or_left}
use Rattle.std.proofs.lemmas.List.Splits.{join_with_byte-slice_split}
use Rattle.chrono_text.specs.Lists.{pieces}
use Rattle.chrono_text.proofs.ListLemmas.{all_of, weaker}
use Rattle.zone_database.specs.Names.{are_name_parts, is_name_part, is_of_zone_name}

abbrev is_inside : ℕ → Bool
is_inside c = is_of_zone_name c || (c == 47)

part_inside : (part : List ℕ) → is_name_part part ≡ true → list_all is_inside part ≡ true
part_inside part h =
    let bytes = (and_parts (nat_lt 0 (length part)) (list_all is_of_zone_name part) h).1 in
    weaker is_of_zone_name is_inside part (λ c is. or_left (is_of_zone_name c) (c == 47) is) bytes

joined_inside : (parts : List (List ℕ)) → list_all is_name_part parts ≡ true → list_all is_inside (join_with_byte 47 parts) ≡ true
joined_inside [] h = refl
joined_inside (x ∷ []) h = part_inside x (and_parts (is_name_part x) true h).0
joined_inside (x ∷ y ∷ more) h =
    let p = and_parts (is_name_part x) (list_all is_name_part (y ∷ more)) h in
    all_of is_inside x (47 ∷ join_with_byte 47 (y ∷ more)) (part_inside x p.0) (joined_inside (y ∷ more) p.1)

pub name_inside : (name : List ℕ) → are_name_parts name ≡ true → list_all (λ c. is_of_zone_name c || (c == 47)) name ≡ true
name_inside name h =
    subst (λ (it : List ℕ). list_all is_inside it ≡ true) (join_with_byte-slice_split 47 name) (joined_inside (pieces 47 name) h)

pub no_slash_in_front : (name : List ℕ) → are_name_parts name ≡ true → slice_index name 0 ≡ 47 → ⊥
no_slash_in_front [] h e = cc
no_slash_in_front (c ∷ cs) h e = false≢true (subst (λ (it : ℕ). are_name_parts (it ∷ cs) ≡ true) e h)
