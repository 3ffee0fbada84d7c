-- Hours, minutes and seconds that are written are read back.
use Rattle.std.proofs.Common.{◌≡◌, ◌<◌, ◌+◌, ◌*◌, ◌/◌, ◌%◌, ℕ, suc, true, false, List, [], ◌∷◌, ◌++◌, length, Option, Some, ℤ, pos, negsuc, unsigned_abs, inl, inr, refl, ap, ◌∙◌, append-nil, arith}
use Rattle.std.specs.Char.{is_ascii_digit}
use Rattle.std.specs.Fmt.{decimal, sign_text}
use Rattle.std.specs.List.{list_all}
use Rattle.std.specs.Option.{option_map}
use Rattle.std.proofs.lemmas.Bool.{and_parts, cases_eq, ne_eqb, or_left}
use Rattle.chrono_text.specs.Numbers.{signed}
use Rattle.chrono_text.specs.Text.{colon_seconds_text, two_digits}
use Rattle.zone_text.specs.HourTexts.{count_up_to, seconds_of_hours, seconds_of_minutes, seconds_together, signed_seconds}
use Rattle.zone_text.specs.NameTexts.{is_of_offset}
use Rattle.zone_text.specs.WrittenTexts.{hour_text, minute_text, size_text}
use Rattle.chrono_text.proofs.ListLemmas.{all_of, weaker}
use Rattle.chrono_text.proofs.TextLemmas.{is_negative-pos}
use Rattle.chrono_text.proofs.PieceLemmas.{after_sep, before_sep, sep_stands}
use Rattle.zone_text.proofs.CutTexts.{is_other, others_lack, sep_lacks}
use Rattle.zone_text.proofs.NumbersBack.{count_up_to_back, decimal_digits, decimal_some, two_are_digits, two_back}

-- ---- minutes

minutes_alone : (m : ℕ) → m < 60 → seconds_of_minutes (two_digits m) ≡ Some (m * 60)
unfolding seconds_of_minutes
minutes_alone m small =
    rw (sep_lacks 58 (two_digits m) (others_lack is_ascii_digit 58 (two_digits m) refl (two_are_digits m (omega (arith, small)))))
    (ap (option_map (λ n. n * 60)) (two_back 59 m (omega (arith, small)) (omega (arith, small))))

both : (unit a b : ℕ) (first second : Option ℕ) → first ≡ Some a → second ≡ Some b → seconds_together unit first second ≡ Some (a * unit + b)
both unit a b first second f s = rw (f, s) refl

minutes_and_seconds : (m s : ℕ) → m < 60 → s < 60 → seconds_of_minutes (two_digits m ++ 58 ∷ two_digits s) ≡ Some (m * 60 + s)
unfolding seconds_of_minutes
minutes_and_seconds m s small less =
    let none = others_lack is_ascii_digit 58 (two_digits m) refl (two_are_digits m (omega (arith, small))) in
    rw (sep_stands 58 (two_digits m) (two_digits s) none)
    (both 60 m s _ _
    (ap (count_up_to 59) (before_sep 58 (two_digits m) (two_digits s) none) ∙ two_back 59 m (omega (arith, small)) (omega (arith, small)))
    (ap (count_up_to 59) (after_sep 58 (two_digits m) (two_digits s) none) ∙ two_back 59 s (omega (arith, less)) (omega (arith, less))))

minutes_back : (n : ℕ) → n < 3_600 → seconds_of_minutes (two_digits (n / 60) ++ colon_seconds_text (n % 60)) ≡ Some n
minutes_back n small = elim (cases_eq (n % 60) 0) as (λ _. seconds_of_minutes (two_digits (n / 60) ++ colon_seconds_text (n % 60)) ≡ Some n) [
  | inl none ↦
      let whole : n / 60 * 60 ≡ n = omega (arith, none) in
      rw none (ap seconds_of_minutes (append-nil (two_digits (n / 60))) ∙ minutes_alone (n / 60) (omega (arith, small)) ∙ ap Some whole)
  | inr some ↦
      let whole : n / 60 * 60 + n % 60 ≡ n = omega arith in
      rw (ne_eqb (n % 60) 0 some) (minutes_and_seconds (n / 60) (n % 60) (omega (arith, small)) (omega arith) ∙ ap Some whole)
]

-- ---- hours

hours_alone : (h : ℕ) → h < 168 → seconds_of_hours (decimal h) ≡ Some (h * 3_600)
unfolding seconds_of_hours
hours_alone h small =
    rw (sep_lacks 58 (decimal h) (others_lack is_ascii_digit 58 (decimal h) refl (decimal_digits h (omega (arith, small)))))
    (ap (option_map (λ n. n * 3_600)) (count_up_to_back 167 h (omega (arith, small)) (omega (arith, small))))

hours_and_minutes : (h s : ℕ) (text : List ℕ) → h < 168 → seconds_of_minutes text ≡ Some s → seconds_of_hours (decimal h ++ 58 ∷ text) ≡ Some (h * 3_600 + s)
unfolding seconds_of_hours
hours_and_minutes h s text small read =
    let none = others_lack is_ascii_digit 58 (decimal h) refl (decimal_digits h (omega (arith, small))) in
    rw (sep_stands 58 (decimal h) text none)
    (both 3_600 h s _ _
    (ap (count_up_to 167) (before_sep 58 (decimal h) text none) ∙ count_up_to_back 167 h (omega (arith, small)) (omega (arith, small)))
    (ap seconds_of_minutes (after_sep 58 (decimal h) text none) ∙ read))

size_back : (n : ℕ) → n < 604_800 → seconds_of_hours (size_text n) ≡ Some n
size_back n small = elim (cases_eq (n % 3_600) 0) as (λ _. seconds_of_hours (decimal (n / 3_600) ++ minute_text (n % 3_600)) ≡ Some n) [
  | inl none ↦
      let whole : n / 3_600 * 3_600 ≡ n = omega (arith, none) in
      rw none (ap seconds_of_hours (append-nil (decimal (n / 3_600))) ∙ hours_alone (n / 3_600) (omega (arith, small)) ∙ ap Some whole)
  | inr some ↦
      let whole : n / 3_600 * 3_600 + n % 3_600 ≡ n = omega arith in
      rw (ne_eqb (n % 3_600) 0 some)
      (hours_and_minutes (n / 3_600) (n % 3_600) (two_digits (n % 3_600 / 60) ++ colon_seconds_text (n % 3_600 % 60)) (omega (arith, small)) (minutes_back (n % 3_600) (omega arith)) ∙ ap Some whole)
]

-- ---- the sign

-- a text that a digit begins has no sign
plain_seconds : (digits rest : List ℕ) → 0 < length digits → list_all is_ascii_digit digits ≡ true
    → signed_seconds (digits ++ rest) ≡ option_map (signed false) (seconds_of_hours (digits ++ rest))
unfolding signed_seconds
plain_seconds [] rest some all = absurd (omega (arith, some))
plain_seconds (b ∷ bs) rest some all =
    let digit = (and_parts (is_ascii_digit b) (list_all is_ascii_digit bs) all).0 in
    rw (is_other is_ascii_digit 45 b refl digit, is_other is_ascii_digit 43 b refl digit) refl

minus_seconds : (text : List ℕ) → signed_seconds (45 ∷ text) ≡ option_map (signed true) (seconds_of_hours text)
unfolding signed_seconds
minus_seconds text = refl

pub no_sign : (n : ℕ) → hour_text (pos n) ≡ size_text n
no_sign n = ap (λ negative. sign_text negative ++ size_text n) (is_negative-pos n)

pub hours_back : (x : ℤ) → unsigned_abs x < 604_800 → signed_seconds (hour_text x) ≡ Some x
hours_back (pos n) small =
    ap signed_seconds (no_sign n)
    ∙ plain_seconds (decimal (n / 3_600)) (minute_text (n % 3_600)) (decimal_some (n / 3_600) (omega (arith, small))) (decimal_digits (n / 3_600) (omega (arith, small)))
    ∙ ap (option_map (signed false)) (size_back n (omega (arith, small)))
hours_back (negsuc n) small = minus_seconds (size_text (suc n)) ∙ ap (option_map (signed true)) (size_back (suc n) (omega (arith, small)))

-- ---- which bytes stand there

of_digits : (b : ℕ) → is_ascii_digit b ≡ true → is_of_offset b ≡ true
of_digits b digit = or_left (is_ascii_digit b) _ digit

two_of_offset : (n : ℕ) → n < 100 → list_all is_of_offset (two_digits n) ≡ true
two_of_offset n small = weaker is_ascii_digit is_of_offset (two_digits n) of_digits (two_are_digits n small)

second_of_offset : (n : ℕ) → n < 60 → list_all is_of_offset (colon_seconds_text n) ≡ true
second_of_offset n small = elim (cases_eq n 0) as (λ _. list_all is_of_offset (colon_seconds_text n) ≡ true) [
  | inl none ↦ rw none refl
  | inr some ↦ rw (ne_eqb n 0 some) (two_of_offset n (omega (arith, small)))
]

minute_of_offset : (n : ℕ) → n < 3_600 → list_all is_of_offset (minute_text n) ≡ true
minute_of_offset n small = elim (cases_eq n 0) as (λ _. list_all is_of_offset (minute_text n) ≡ true) [
  | inl none ↦ rw none refl
  | inr some ↦ rw (ne_eqb n 0 some) (all_of is_of_offset (two_digits (n / 60)) (colon_seconds_text (n % 60)) (two_of_offset (n / 60) (omega (arith, small))) (second_of_offset (n % 60) (omega arith)))
]

size_of_offset : (n : ℕ) → n < 604_800 → list_all is_of_offset (size_text n) ≡ true
size_of_offset n small =
    all_of is_of_offset (decimal (n / 3_600)) (minute_text (n % 3_600))
    (weaker is_ascii_digit is_of_offset (decimal (n / 3_600)) of_digits (decimal_digits (n / 3_600) (omega (arith, small))))
    (minute_of_offset (n % 3_600) (omega arith))

pub hour_of_offset : (x : ℤ) → unsigned_abs x < 604_800 → list_all is_of_offset (hour_text x) ≡ true
hour_of_offset (pos n) small = ap (list_all is_of_offset) (no_sign n) ∙ size_of_offset n (omega (arith, small))
hour_of_offset (negsuc n) small = size_of_offset (suc n) (omega (arith, small))
