-- Days and times that are written are read back.
use Rattle.std.proofs.Common.{◌≡◌, ◌==◌, ◌<◌, ◌≤◌, ℕ, true, false, not, List, [], ◌∷◌, ◌++◌, length, Some, ℤ, pos, unsigned_abs, refl, sym, ap, ◌∙◌, subst, append_assoc, append-nil, arith}
use Rattle.std.specs.Char.{is_ascii_digit}
use Rattle.std.specs.Fmt.{decimal}
use Rattle.std.specs.List.{after_first, list_all}
use Rattle.std.specs.Option.{option_and_then, option_map}
use Rattle.std.specs.Ordering.{int_eq}
use Rattle.std.proofs.lemmas.Bool.{and_parts, cond_both}
use Rattle.std.proofs.lemmas.Int.{ints}
use Rattle.chrono_text.proofs.ListLemmas.{all_of, lacks}
use Rattle.chrono_units.specs.Weekday.{days_from_sunday, weekday_from_sunday}
use Rattle.chrono_units.specs.declared.weekday.Weekday.{Weekday}
use Rattle.chrono_units.specs.declared.weekday.Weekday.TheVariants.{Mon, Tue, Wed, Thu, Fri, Sat, Sun}
use Rattle.zone_rule.specs.Changes.{IsChange, IsRuleDay, YearlyChange}
use Rattle.zone_rule.specs.declared.rule_day.RuleDay.{RuleDay}
use Rattle.zone_rule.specs.declared.rule_day.RuleDay.TheVariants.{Week, Julian, FromZero}
use Rattle.zone_text.specs.ChangeTexts.{AreChangesText, IsChangeText, day_part, monthly_day_of, second_part, weekly_day_of, written_day}
use Rattle.zone_text.specs.HourTexts.{count_up_to, signed_seconds}
use Rattle.zone_text.specs.NameTexts.{is_of_offset}
use Rattle.zone_text.specs.WrittenTexts.{change_text, change_time_text, hour_text, rule_day_text}
use Rattle.chrono_text.proofs.PieceLemmas.{after_sep, before_sep, sep_stands}
use Rattle.zone_text.proofs.CutTexts.{is_other, others_lack, sep_lacks}
use Rattle.zone_text.proofs.HoursBack.{hour_of_offset, hours_back}
use Rattle.zone_text.proofs.NumbersBack.{count_up_to_back, decimal_digits, decimal_some}

-- ---- days

abbrev pub week_text : ℕ → ℕ → ℕ → List ℕ
week_text m n k = 77 ∷ (decimal m ++ 46 ∷ (decimal n ++ 46 ∷ decimal k))

week_is : (m n : ℕ) (d : Weekday) → rule_day_text (Week m n d) ≡ week_text m n (days_from_sunday d)
week_is m n d = simp append_assoc refl

sunday_back : (d : Weekday) → weekday_from_sunday (days_from_sunday d) ≡ d
sunday_back Mon = refl
sunday_back Tue = refl
sunday_back Wed = refl
sunday_back Thu = refl
sunday_back Fri = refl
sunday_back Sat = refl
sunday_back Sun = refl

few_days : (d : Weekday) → days_from_sunday d ≤ 6
few_days Mon = omega arith
few_days Tue = omega arith
few_days Wed = omega arith
few_days Thu = omega arith
few_days Fri = omega arith
few_days Sat = omega arith
few_days Sun = omega arith

no_sep : (sep n : ℕ) → is_ascii_digit sep ≡ false → n < 1_000 → lacks sep (decimal n) ≡ true
no_sep sep n fails small = others_lack is_ascii_digit sep (decimal n) fails (decimal_digits n small)

weekly_back : (m n k : ℕ) → n ≤ 5 → k ≤ 6 → weekly_day_of m (decimal n ++ 46 ∷ decimal k) ≡ Some (Week m n (weekday_from_sunday k))
weekly_back m n k week day =
    let none = no_sep 46 n refl (omega (arith, week)) in
    let text = decimal n ++ 46 ∷ decimal k in
    rw (sep_stands 46 (decimal n) (decimal k) none)
    (ap (option_and_then (λ w. option_map (λ d. Week m w (weekday_from_sunday d)) (count_up_to 6 (after_first (λ x. x == 46) text))))
    (ap (count_up_to 5) (before_sep 46 (decimal n) (decimal k) none) ∙ count_up_to_back 5 n week (omega (arith, week)))
    ∙ ap (option_map (λ d. Week m n (weekday_from_sunday d)))
    (ap (count_up_to 6) (after_sep 46 (decimal n) (decimal k) none) ∙ count_up_to_back 6 k day (omega (arith, day))))

monthly_back : (m n k : ℕ) → m ≤ 12 → n ≤ 5 → k ≤ 6 → monthly_day_of (decimal m ++ 46 ∷ (decimal n ++ 46 ∷ decimal k)) ≡ Some (Week m n (weekday_from_sunday k))
monthly_back m n k month week day =
    let none = no_sep 46 m refl (omega (arith, month)) in
    let rest = decimal n ++ 46 ∷ decimal k in
    let text = decimal m ++ 46 ∷ rest in
    rw (sep_stands 46 (decimal m) rest none)
    (ap (option_and_then (λ month. weekly_day_of month (after_first (λ x. x == 46) text)))
    (ap (count_up_to 12) (before_sep 46 (decimal m) rest none) ∙ count_up_to_back 12 m month (omega (arith, month)))
    ∙ ap (weekly_day_of m) (after_sep 46 (decimal m) rest none)
    ∙ weekly_back m n k week day)

-- digits alone count from zero
plain_day : (text : List ℕ) → 0 < length text → list_all is_ascii_digit text ≡ true → written_day text ≡ option_map FromZero (count_up_to 365 text)
unfolding written_day
plain_day [] some all = absurd (omega (arith, some))
plain_day (b ∷ bs) some all =
    let digit = (and_parts (is_ascii_digit b) (list_all is_ascii_digit bs) all).0 in
    rw (is_other is_ascii_digit 77 b refl digit, is_other is_ascii_digit 74 b refl digit) refl

pub day_back : (day : RuleDay) → IsRuleDay day → written_day (rule_day_text day) ≡ Some day
unfolding written_day
day_back (Week m n d) is =
    ap written_day (week_is m n d)
    ∙ monthly_back m n (days_from_sunday d) (omega (arith, is.0.1)) (omega (arith, is.1.1)) (few_days d)
    ∙ ap (λ w. Some (Week m n w)) (sunday_back d)
day_back (Julian n) is = ap (option_map Julian) (count_up_to_back 365 n (omega (arith, is.1)) (omega (arith, is.1)))
day_back (FromZero n) is =
    plain_day (decimal n) (decimal_some n (omega (arith, is))) (decimal_digits n (omega (arith, is)))
    ∙ ap (option_map FromZero) (count_up_to_back 365 n is (omega (arith, is)))

-- a byte that no day has
pub day_lacks : (sep : ℕ) → list_all (λ b. not (b == sep)) (46 ∷ 74 ∷ 77 ∷ []) ≡ true → is_ascii_digit sep ≡ false → (day : RuleDay) → IsRuleDay day → lacks sep (rule_day_text day) ≡ true
day_lacks sep signs fails (Week m n d) is =
    let point = and_parts (not (46 == sep)) _ signs in
    let letters = and_parts (not (74 == sep)) _ point.1 in
    let letter = and_parts (not (77 == sep)) true letters.1 in
    let k = days_from_sunday d in
    let few = few_days d in
    ap (lacks sep) (week_is m n d)
    ∙ all_of (λ b. not (b == sep)) (77 ∷ []) (decimal m ++ 46 ∷ (decimal n ++ 46 ∷ decimal k)) letters.1
    (all_of (λ b. not (b == sep)) (decimal m) (46 ∷ (decimal n ++ 46 ∷ decimal k)) (no_sep sep m fails (omega (arith, is.0.1)))
    (all_of (λ b. not (b == sep)) (46 ∷ []) (decimal n ++ 46 ∷ decimal k) (rw point.0 refl)
    (all_of (λ b. not (b == sep)) (decimal n) (46 ∷ decimal k) (no_sep sep n fails (omega (arith, is.1.1)))
    (all_of (λ b. not (b == sep)) (46 ∷ []) (decimal k) (rw point.0 refl) (no_sep sep k fails (omega (arith, few)))))))
day_lacks sep signs fails (Julian n) is =
    let point = and_parts (not (46 == sep)) _ signs in
    let letters = and_parts (not (74 == sep)) _ point.1 in
    all_of (λ b. not (b == sep)) (74 ∷ []) (decimal n) (rw letters.0 refl) (no_sep sep n fails (omega (arith, is.1)))
day_lacks sep signs fails (FromZero n) is = no_sep sep n fails (omega (arith, is))

-- ---- times

same_second : (x : ℤ) → int_eq x (pos 7_200) ≡ true → x ≡ pos 7_200
same_second x e = grind (arith, ints)

-- a change is its day alone, or its day, a slash and its time
timed : (P : List ℕ → Type 0) (day : List ℕ) (x : ℤ) → (x ≡ pos 7_200 → P (day ++ [])) → P (day ++ 47 ∷ hour_text x) → P (day ++ change_time_text x)
timed P day x f g =
    cond_both (int_eq x (pos 7_200)) [] (47 ∷ hour_text x) (λ (l : List ℕ). P (day ++ l)) (λ is. f (same_second x is)) (λ is_not. g)

left_out : (text : List ℕ) → lacks 47 text ≡ true → (day_part (text ++ []) ≡ text) × (second_part (text ++ []) ≡ Some (pos 7_200))
left_out text none = (
  ap day_part (append-nil text) ∙ rw (sep_lacks 47 text none) refl,
  ap second_part (append-nil text) ∙ rw (sep_lacks 47 text none) refl,
)

behind_slash : (text : List ℕ) (x : ℤ) → lacks 47 text ≡ true → unsigned_abs x < 604_800 → (day_part (text ++ 47 ∷ hour_text x) ≡ text) × (second_part (text ++ 47 ∷ hour_text x) ≡ Some x)
behind_slash text x none small = (
  rw (sep_stands 47 text (hour_text x) none) (before_sep 47 text (hour_text x) none),
  rw (sep_stands 47 text (hour_text x) none) (ap signed_seconds (after_sep 47 text (hour_text x) none) ∙ hours_back x small),
)

pub change_back : (c : YearlyChange) → IsChange c → IsChangeText (change_text c) c
change_back c is =
    let none = day_lacks 47 refl refl c.day is.day in
    let parts = timed (λ l. (day_part l ≡ rule_day_text c.day) × (second_part l ≡ Some c.second)) (rule_day_text c.day) c.second
    (λ same. let both = left_out (rule_day_text c.day) none in (both.0, both.1 ∙ ap Some (sym same)))
    (behind_slash (rule_day_text c.day) c.second none is.second) in
    record { day_is = ap written_day parts.0 ∙ day_back c.day is.day; second_is = parts.1; in_range = is }

pub change_lacks : (c : YearlyChange) → IsChange c → lacks 44 (change_text c) ≡ true
change_lacks c is =
    let none = day_lacks 44 refl refl c.day is.day in
    timed (λ l. lacks 44 l ≡ true) (rule_day_text c.day) c.second
    (λ same. ap (lacks 44) (append-nil (rule_day_text c.day)) ∙ none)
    (all_of (λ b. not (b == 44)) (rule_day_text c.day) (47 ∷ hour_text c.second) none
    (others_lack is_of_offset 44 (hour_text c.second) refl (hour_of_offset c.second is.second)))

-- ---- both changes

pub changes_back : (begins ends : YearlyChange) → IsChange begins → IsChange ends → AreChangesText (change_text begins ++ 44 ∷ change_text ends) begins ends
changes_back begins ends h k =
    let none = change_lacks begins h in
    record {
      two = sep_stands 44 (change_text begins) (change_text ends) none;
      begins_is = subst (λ l. IsChangeText l begins) (sym (before_sep 44 (change_text begins) (change_text ends) none)) (change_back begins h);
      ends_is = subst (λ l. IsChangeText l ends) (sym (after_sep 44 (change_text begins) (change_text ends) none)) (change_back ends k);
    }
