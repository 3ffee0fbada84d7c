-- Every byte of the texts is ASCII, so that they may be handed on as strings.
use Rattle.std.proofs.Common.{◌≡◌, ℕ, zero, suc, ◌+◌, ◌-◌, ◌*◌, ◌/◌, ◌%◌, ◌==◌, ◌^◌, ◌<◌, ℤ, pos, negsuc, Bool, true, false, List, [], ◌∷◌, ◌++◌, nat_le, nat_lt, unsigned_abs, if◌then◌else◌, arith, refl, sym, ap, subst, ◌∙◌}
use Rattle.std.specs.Prelude.{codes}
use Rattle.std.specs.Str.{IsAscii}
use Rattle.std.specs.Fmt.{decimal, sign_text}
use Rattle.std.specs.Int.{is_negative}
use Rattle.std.specs.Ordering.{int_eq}
use Rattle.std.proofs.Math.Nat.{mod-lt, one-le-pow, pow-succ'}
use Rattle.std.proofs.lemmas.Bool.{ltb-true}
use Rattle.std.proofs.lemmas.Fmt.{IsAscii-decimal}
use Rattle.std.proofs.lemmas.Nat.{div_below}
use Rattle.std.proofs.lemmas.Str.{IsAscii-append}
use Rattle.std.proofs.lemmas.Str.Ascii.{IsAscii-nil, IsAscii-cons}
use Rattle.chrono_text.proofs.DigitLemmas.{by_size}
use Rattle.chrono_text.proofs.TextLemmas.{year_text-four, year_text-more}
use Rattle.chrono_text.specs.Text.{nanos_per_second, number_text, two_digits, all_digits, fraction_digits, fraction_text, subsecond_text, year_digits, year_text, calendar_text, ordinal_text, week_text, week_date_text, clock_text, seconds_text, duration_text}
use Rattle.std.specs.List.{AllByRecursion, join_with_byte}

-- a text put behind nothing
pub IsAscii-put : (old new text : List ℕ) → new ≡ old ++ text → old ≡ [] → IsAscii text → IsAscii new
IsAscii-put old new text put none h = subst IsAscii (sym (put ∙ ap (λ front. front ++ text) none)) h

-- a text of one character, and of three
pub IsAscii-one : (a : ℕ) → a < 128 → IsAscii (a ∷ [])
IsAscii-one a h = IsAscii-cons a [] h IsAscii-nil

pub IsAscii-three : (a b c : ℕ) → a < 128 → b < 128 → c < 128 → IsAscii (a ∷ b ∷ c ∷ [])
IsAscii-three a b c h k l = IsAscii-cons a (b ∷ c ∷ []) h (IsAscii-cons b (c ∷ []) k (IsAscii-one c l))

-- one of two texts
pub IsAscii-if : (b : Bool) (xs ys : List ℕ) → (b ≡ true → IsAscii xs) → (b ≡ false → IsAscii ys) → IsAscii (if b then xs else ys)
IsAscii-if true xs ys f g = f refl
IsAscii-if false xs ys f g = g refl

-- every text of a list
abbrev pub AreAscii : List (List ℕ) → Type 0
AreAscii texts = AllByRecursion IsAscii texts

pub AreAscii-if : (b : Bool) (texts others : List (List ℕ)) → AreAscii texts → AreAscii others → AreAscii (if b then texts else others)
AreAscii-if true texts others h k = h
AreAscii-if false texts others h k = k

pub AreAscii-append : (texts others : List (List ℕ)) → AreAscii texts → AreAscii others → AreAscii (texts ++ others)
AreAscii-append [] others h k = k
AreAscii-append (text ∷ texts) others (first, rest) k = (first, AreAscii-append texts others rest k)

-- texts with a separator between each two
pub IsAscii-joined : (separator : ℕ) (texts : List (List ℕ)) → separator < 128 → AreAscii texts → IsAscii (join_with_byte separator texts)
IsAscii-joined separator [] small are = IsAscii-nil
IsAscii-joined separator (text ∷ []) small are = are.0
IsAscii-joined separator (text ∷ next ∷ texts) small are =
    IsAscii-append text (separator ∷ join_with_byte separator (next ∷ texts)) are.0
    (IsAscii-cons separator (join_with_byte separator (next ∷ texts)) small (IsAscii-joined separator (next ∷ texts) small are.1))

-- a text and one character behind it
behind_with : (xs : List ℕ) (x : ℕ) → x < 128 → IsAscii xs → IsAscii (xs ++ x ∷ [])
behind_with xs x small h = IsAscii-append xs (x ∷ []) h (IsAscii-one x small)

-- ---- digits

first_digit : (places n : ℕ) → n < 10 ^ suc places → n / 10 ^ places < 10
first_digit places n h = div_below n (10 ^ places) 10 (one-le-pow places 10 (omega arith)) (omega (arith, h, pow-succ' 10 places))

pub IsAscii-all_digits : (places n : ℕ) → n < 10 ^ places → IsAscii (all_digits places n)
IsAscii-all_digits zero n h = IsAscii-nil
IsAscii-all_digits (suc places) n h =
    IsAscii-cons (48 + n / 10 ^ places) (all_digits places (n % 10 ^ places)) (omega (arith, first_digit places n h))
    (IsAscii-all_digits places (n % 10 ^ places) (mod-lt n (one-le-pow places 10 (omega arith))))

IsAscii-fraction_digits : (places n : ℕ) → n < 10 ^ places → IsAscii (fraction_digits places n)
IsAscii-fraction_digits zero n h = IsAscii-nil
IsAscii-fraction_digits (suc places) n h =
    IsAscii-if (n == 0) [] ((48 + n / 10 ^ places) ∷ fraction_digits places (n % 10 ^ places)) (λ _. IsAscii-nil)
    (λ _. IsAscii-cons (48 + n / 10 ^ places) (fraction_digits places (n % 10 ^ places)) (omega (arith, first_digit places n h))
    (IsAscii-fraction_digits places (n % 10 ^ places) (mod-lt n (one-le-pow places 10 (omega arith)))))

pub IsAscii-two_digits : (n : ℕ) → n < 100 → IsAscii (two_digits n)
IsAscii-two_digits n h = IsAscii-cons (48 + n / 10) ((48 + n % 10) ∷ []) (omega arith) (IsAscii-cons (48 + n % 10) [] (omega arith) IsAscii-nil)

pub IsAscii-number_text : (n : ℕ) → n < 100 → IsAscii (number_text n)
IsAscii-number_text n h =
    IsAscii-if (nat_lt n 10) ((48 + n) ∷ []) (two_digits n) (λ few. IsAscii-one (48 + n) (omega (arith, ltb-true n 10 few))) (λ _. IsAscii-two_digits n h)

-- ---- dates

IsAscii-year_digits : (n : ℕ) → n < 2 ^ 64 → IsAscii (year_digits n)
IsAscii-year_digits n h =
    IsAscii-if (nat_lt n 10_000) (all_digits 4 n) (decimal n)
    (λ few. IsAscii-all_digits 4 n (grind (arith, few)))
    (λ _. IsAscii-decimal n h)

IsAscii-year_text : (y : ℤ) → unsigned_abs y < 2 ^ 64 → IsAscii (year_text y)
IsAscii-year_text (negsuc n) h = IsAscii-cons 45 (year_digits (suc n)) (omega arith) (IsAscii-year_digits (suc n) h)
IsAscii-year_text (pos n) h =
    by_size 10_000 n
    (λ low. rw (year_text-four n low) (IsAscii-all_digits 4 n low))
    (λ high. rw (year_text-more n high) (IsAscii-cons 43 (year_digits n) (omega arith) (IsAscii-year_digits n h)))

pub IsAscii-calendar_text : (y : ℤ) (m d : ℕ) → unsigned_abs y < 2 ^ 64 → m < 100 → d < 100 → IsAscii (calendar_text y m d)
IsAscii-calendar_text y m d h k l =
    let year = behind_with (year_text y) 45 (omega arith) (IsAscii-year_text y h) in
    let month = IsAscii-append (year_text y ++ codes "-") (two_digits m) year (IsAscii-two_digits m k) in
    let dash = behind_with (year_text y ++ codes "-" ++ two_digits m) 45 (omega arith) month in
    IsAscii-append (year_text y ++ codes "-" ++ two_digits m ++ codes "-") (two_digits d) dash (IsAscii-two_digits d l)

pub IsAscii-week_text : (y : ℤ) (w : ℕ) → unsigned_abs y < 2 ^ 64 → w < 100 → IsAscii (week_text y w)
IsAscii-week_text y w h k =
    let letter = IsAscii-cons 45 (87 ∷ []) (omega arith) (IsAscii-cons 87 [] (omega arith) IsAscii-nil) in
    let year = IsAscii-append (year_text y) (codes "-W") (IsAscii-year_text y h) letter in
    IsAscii-append (year_text y ++ codes "-W") (two_digits w) year (IsAscii-two_digits w k)

pub IsAscii-ordinal_text : (y : ℤ) (o : ℕ) → unsigned_abs y < 2 ^ 64 → o < 1_000 → IsAscii (ordinal_text y o)
IsAscii-ordinal_text y o h k =
    IsAscii-append (year_text y ++ codes "-") (all_digits 3 o) (behind_with (year_text y) 45 (omega arith) (IsAscii-year_text y h)) (IsAscii-all_digits 3 o k)

pub IsAscii-week_date_text : (y : ℤ) (w d : ℕ) → unsigned_abs y < 2 ^ 64 → w < 100 → d < 10 → IsAscii (week_date_text y w d)
IsAscii-week_date_text y w d h k l =
    behind_with (week_text y w ++ codes "-") (48 + d) (omega (arith, l)) (behind_with (week_text y w) 45 (omega arith) (IsAscii-week_text y w h k))

-- ---- times of day

IsAscii-subsecond_text : (n : ℕ) → n < 1_000_000_000 → IsAscii (subsecond_text n)
IsAscii-subsecond_text n h =
    let three = IsAscii-cons 46 (all_digits 3 (n / 1_000_000)) (omega arith) (IsAscii-all_digits 3 (n / 1_000_000) (omega arith)) in
    let six = IsAscii-cons 46 (all_digits 6 (n / 1_000)) (omega arith) (IsAscii-all_digits 6 (n / 1_000) (omega arith)) in
    let nine = IsAscii-cons 46 (all_digits 9 n) (omega arith) (IsAscii-all_digits 9 n h) in
    IsAscii-if (n == 0) _ _ (λ _. IsAscii-nil) (λ _.
    IsAscii-if (n % 1_000_000 == 0) _ _ (λ _. three) (λ _.
    IsAscii-if (n % 1_000 == 0) _ _ (λ _. six) (λ _. nine)))

pub IsAscii-clock_text : (hour minute second fraction : ℕ) → hour < 24 → minute < 60 → second < 60 → fraction < 2_000_000_000 → IsAscii (clock_text hour minute second fraction)
IsAscii-clock_text hour minute second fraction h k l f =
    let plain = two_digits second ++ subsecond_text fraction in
    let later = two_digits (second + 1) ++ subsecond_text (fraction - nanos_per_second) in
    let rest = IsAscii-if (nat_le nanos_per_second fraction) later plain
    (λ _. IsAscii-append (two_digits (second + 1)) _ (IsAscii-two_digits (second + 1) (omega (arith, l))) (IsAscii-subsecond_text (fraction - nanos_per_second) (omega (arith, f))))
    (λ few. IsAscii-append (two_digits second) _ (IsAscii-two_digits second (omega (arith, l))) (IsAscii-subsecond_text fraction (grind (arith, few)))) in
    let hours = behind_with (two_digits hour) 58 (omega arith) (IsAscii-two_digits hour (omega (arith, h))) in
    let both = IsAscii-append (two_digits hour ++ codes ":") (two_digits minute) hours (IsAscii-two_digits minute (omega (arith, k))) in
    IsAscii-append (two_digits hour ++ codes ":" ++ two_digits minute ++ codes ":") (if nat_le nanos_per_second fraction then later else plain)
    (behind_with (two_digits hour ++ codes ":" ++ two_digits minute) 58 (omega arith) both) rest

-- ---- durations

IsAscii-sign_text : (b : Bool) → IsAscii (sign_text b)
IsAscii-sign_text true = IsAscii-cons 45 [] (omega arith) IsAscii-nil
IsAscii-sign_text false = IsAscii-nil

IsAscii-fraction_text : (n : ℕ) → n < 1_000_000_000 → IsAscii (fraction_text n)
IsAscii-fraction_text n h =
    IsAscii-if (n == 0) [] (46 ∷ fraction_digits 9 n) (λ _. IsAscii-nil)
    (λ _. IsAscii-cons 46 (fraction_digits 9 n) (omega arith) (IsAscii-fraction_digits 9 n h))

pub IsAscii-seconds_text : (negative : Bool) (seconds nanos : ℕ) → seconds < 2 ^ 64 → nanos < 1_000_000_000 → IsAscii (seconds_text negative seconds nanos)
IsAscii-seconds_text negative seconds nanos h k =
    let name = IsAscii-cons 80 (84 ∷ []) (omega arith) (IsAscii-cons 84 [] (omega arith) IsAscii-nil) in
    let front = IsAscii-append (sign_text negative) (codes "PT") (IsAscii-sign_text negative) name in
    let whole = IsAscii-append (sign_text negative ++ codes "PT") (decimal seconds) front (IsAscii-decimal seconds h) in
    let digits = IsAscii-append (sign_text negative ++ codes "PT" ++ decimal seconds) (fraction_text nanos) whole (IsAscii-fraction_text nanos k) in
    IsAscii-append (sign_text negative ++ codes "PT" ++ decimal seconds ++ fraction_text nanos) (codes "S") digits (IsAscii-cons 83 [] (omega arith) IsAscii-nil)

pub IsAscii-duration_text : (x : ℤ) → unsigned_abs x < 2 ^ 64 * 1_000_000_000 → IsAscii (duration_text x)
IsAscii-duration_text x h =
    IsAscii-if (int_eq x (pos 0)) (codes "P0D") (seconds_text (is_negative x) (unsigned_abs x / 1_000_000_000) (unsigned_abs x % 1_000_000_000))
    (λ _. IsAscii-cons 80 (48 ∷ 68 ∷ []) (omega arith) (IsAscii-cons 48 (68 ∷ []) (omega arith) (IsAscii-cons 68 [] (omega arith) IsAscii-nil)))
    (λ _. IsAscii-seconds_text (is_negative x) (unsigned_abs x / 1_000_000_000) (unsigned_abs x % 1_000_000_000) (omega (arith, h)) (omega arith))
