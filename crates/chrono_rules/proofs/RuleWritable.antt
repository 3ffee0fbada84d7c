-- Rules that are read are rules that a text can write.
use Rattle.std.proofs.Common.{◌≡◌, ℕ, ◌^◌, ◌<◌, ◌≤◌, ◌==◌, nat_le, true, List, [], ◌∷◌, length, drop, take, Some, ℤ, ◌≤ℤ◌, refl, subst, arith, sym}
use Rattle.std.specs.Prelude.{pos}
use Rattle.std.specs.Option.{option_and_then, option_map}
use Rattle.std.proofs.Math.Nat.{pow-le-pow_right}
use Rattle.std.proofs.lemmas.Bool.{leb-true}
use Rattle.std.proofs.lemmas.Option.{cond_some, none-some, option_and_then_some, same_Some}
use Rattle.chrono_datetime.specs.Days.{date_of_ymd, year_of}
use Rattle.chrono_datetime.proofs.NamedDates.{date_of_ymd-name}
use Rattle.chrono_datetime.proofs.Signed.{signed}
use Rattle.chrono_sets.specs.FiniteSets.{FiniteSet, no_numbers}
use Rattle.chrono_rules.specs.declared.rule.End.{End}
use Rattle.chrono_rules.specs.declared.rule.End.TheVariants.{Count, Never, Until}
use Rattle.chrono_rules.specs.declared.rule.Rule.{Rule}
use Rattle.chrono_rules.specs.RuleParts.{no_weekdays}
use Rattle.chrono_text.specs.Numbers.{above_zero, count_of, digits_of, natural_of, up_to}
use Rattle.chrono_text.proofs.NaturalLemmas.{natural_small}
use Rattle.chrono_rules.specs.NumberLists.{signed_list_of, month_list_of, no_signed, no_year_ends, weekdays_of, signed_year_list_of}
use Rattle.chrono_rules.specs.RuleTexts.{IsRuleText, date_of, end_of, interval_of}
use Rattle.chrono_rules.specs.WritableRules.{IsWritableRule, IsWritableEnd, is_from_one_to}
use Rattle.chrono_text.proofs.NumberLemmas.{mapped}
use Rattle.chrono_rules.proofs.ListsWithin.{AreDays, AreEnds, AreYearEnds, ends_within, guarded, months_within, none_days, said_has, weekdays_within, year_ends_within}

-- ---- INTERVAL, COUNT and UNTIL

up_to-small : (x n : ℕ) → up_to 4_294_967_295 x ≡ Some n → n < 2 ^ 32
up_to-small x n is =
    let found = cond_some (nat_le x 4_294_967_295) x n is in
    let most = leb-true x 4_294_967_295 found.0 in
    omega (arith, most, found.1)

count_small : (text : List ℕ) (n : ℕ) → count_of text ≡ Some n → n < 2 ^ 32
unfolding count_of natural_of
count_small text n is = option_and_then_some (up_to 4_294_967_295) (natural_of text) n is (λ x made given. up_to-small x n given)

interval_writable : (text : List ℕ) (n : ℕ) → interval_of text ≡ Some n → (1 ≤ n) × (n < 2 ^ 32)
unfolding interval_of
interval_writable text n is =
    option_and_then_some above_zero (count_of text) n is
    (λ x made given.
    let found = cond_some (nat_le 1 x) x n given in
    let some = leb-true 1 x found.0 in
    let small = count_small text x made in
    (omega (arith, some, found.1), omega (arith, small, found.1)))

one_writable : (n : ℕ) → Some 1 ≡ Some n → (1 ≤ n) × (n < 2 ^ 32)
one_writable n is = let same = same_Some 1 n is in (omega (arith, same), omega (arith, same))

-- four digits write a number below 10,000
four_small : (text : List ℕ) (y : ℕ) → digits_of 4 text ≡ Some y → y ≤ 9_999
unfolding digits_of
four_small text y is =
    guarded (nat_le (length text) 4) (natural_of text) y (y ≤ 9_999)
    (λ short given.
    let most = leb-true (length text) 4 short in
    let room : 10 ^ length text ≤ 10 ^ 4 = pow-le-pow_right {n = 10} (omega arith) {i = length text} {j = 4} most in
    omega (arith, natural_small text y given, room)) is

abbrev HasFourDigits : ℤ → Type 0
HasFourDigits y = (pos 0 ≤ℤ y) × (y ≤ℤ pos 9_999)

year_writable : (n : ℤ) (y m d : ℕ) → y ≤ 9_999 → date_of_ymd (pos y) m d ≡ Some n → HasFourDigits (year_of n)
year_writable n y m d small is = subst HasFourDigits (date_of_ymd-name n (pos y) m d is).0 (omega (arith, signed), omega (arith, signed, small))

date_writable : (text : List ℕ) (n : ℤ) → date_of text ≡ Some n → HasFourDigits (year_of n)
unfolding date_of
date_writable text n is =
    let years = digits_of 4 (take 4 text) in
    let months = digits_of 2 (take 2 (drop 4 text)) in
    let days = digits_of 2 (drop 6 text) in
    guarded (length text == 8) (option_and_then (λ y. option_and_then (λ m. option_and_then (date_of_ymd (pos y) m) days) months) years) n (HasFourDigits (year_of n))
    (λ eight whole. option_and_then_some (λ y. option_and_then (λ m. option_and_then (date_of_ymd (pos y) m) days) months) years n whole
    (λ y year behind. option_and_then_some (λ m. option_and_then (date_of_ymd (pos y) m) days) months n behind
    (λ m month last. option_and_then_some (date_of_ymd (pos y) m) days n last
    (λ d day name. year_writable n y m d (four_small (take 4 text) y year) name)))) is

never_writable : (e : End) → Some Never ≡ Some e → IsWritableEnd e
never_writable e is = subst IsWritableEnd (same_Some Never e is) tt

count_writable : (text : List ℕ) (e : End) → option_map Count (count_of text) ≡ Some e → IsWritableEnd e
count_writable text e is = let found = mapped Count (count_of text) e is in subst IsWritableEnd (sym found.2) (count_small text found.0 found.1)

until_writable : (text : List ℕ) (e : End) → option_map Until (date_of text) ≡ Some e → IsWritableEnd e
until_writable text e is = let found = mapped Until (date_of text) e is in subst IsWritableEnd (sym found.2) (date_writable text found.0 found.1)

end_writable : (counts untils : List (List ℕ)) (e : End) → end_of counts untils ≡ Some e → IsWritableEnd e
unfolding end_of
end_writable counts [] e is = said_has (λ text. option_map Count (count_of text)) (Some Never) IsWritableEnd never_writable count_writable counts e is
end_writable [] (u ∷ untils) e is = said_has (λ text. option_map Until (date_of text)) (Some Never) IsWritableEnd never_writable until_writable (u ∷ untils) e is
end_writable (c ∷ counts) (u ∷ untils) e is = absurd (none-some e is)

-- ---- the whole

-- what holds of a value that says what the part's absence says
absent_has : {A : Type 0} (P : A → Type 0) (x : A) → P x → (y : A) → Some x ≡ Some y → P y
absent_has P x at y is = subst P (same_Some x y is) at

pub rule_writable : (text : List ℕ) (r : Rule) → IsRuleText text r → IsWritableRule r
rule_writable text r is =
    let says = is.says in
    let IsMonths = λ (s : FiniteSet). is_from_one_to 12 s ≡ true in
    let month_days = said_has (signed_list_of 2 31) (Some no_signed) (AreEnds 31) (absent_has (AreEnds 31) no_signed (refl, refl)) (ends_within 31 (refl, refl)) _ _ says.month_days in
    let weeks = said_has (signed_list_of 2 53) (Some no_signed) (AreEnds 53) (absent_has (AreEnds 53) no_signed (refl, refl)) (ends_within 53 (refl, refl)) _ _ says.weeks in
    let days = said_has weekdays_of (Some no_weekdays) AreDays (absent_has AreDays no_weekdays none_days) weekdays_within _ _ says.weekdays in
    let year_days = said_has signed_year_list_of (Some no_year_ends) AreYearEnds (absent_has AreYearEnds no_year_ends (refl, refl)) year_ends_within _ _ says.year_days in
    let positions = said_has signed_year_list_of (Some no_year_ends) AreYearEnds (absent_has AreYearEnds no_year_ends (refl, refl)) year_ends_within _ _ says.positions in
    record {
      interval = said_has interval_of (Some 1) (λ n. (1 ≤ n) × (n < 2 ^ 32)) one_writable interval_writable _ _ says.interval;
      end = end_writable _ _ r.end says.end;
      months = said_has month_list_of (Some no_numbers) IsMonths (absent_has IsMonths no_numbers refl) months_within _ _ says.months;
      month_days = month_days.0;
      month_days_from_end = month_days.1;
      weekdays = days.every;
      numbered_weekdays = days.front;
      numbered_weekdays_from_end = days.back;
      year_days = year_days.0;
      year_days_from_end = year_days.1;
      weeks = weeks.0;
      weeks_from_end = weeks.1;
      positions = positions.0;
      positions_from_end = positions.1;
      fitting = is.fitting;
    }
