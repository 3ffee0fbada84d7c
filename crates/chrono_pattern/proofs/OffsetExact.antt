-- What `%z` reads is an offset as it is written, and nothing else.
use Rattle.std.proofs.Common.{◌≡◌, ℕ, zero, suc, ◌+◌, ◌*◌, ◌/◌, ◌%◌, ◌<◌, ◌≤◌, ◌==◌, ◌&&◌, nat_lt, Bool, true, false, if◌then◌else◌, List, [], ◌∷◌, ◌++◌, append-nil, append_assoc, codes, drop, take, take-append-drop, length, is_ok, ℤ, pos, neg_ℤ, Option, Some, None, Result, Ok, Err, refl, ap, sym, ◌∙◌, arith}
use Rattle.std.proofs.lemmas.Bool.{false≢true}
use Rattle.std.proofs.lemmas.Bool.Decides.{nat_tests}
use Rattle.std.proofs.lemmas.Int.{ints}
use Rattle.std.specs.Int.RustNames.{int_lt}
use Rattle.std.specs.List.{list_all, prefix_len}
use Rattle.chrono_text.proofs.AnswerLemmas.{same_Ok}
use Rattle.chrono_text.proofs.NumberLemmas.{natural_read}
use Rattle.chrono_text.specs.Numbers.{digits_of, signed}
use Rattle.chrono_text.specs.Text.{two_digits}
use Rattle.chrono_pattern.specs.OffsetReads.{Taken, at_rest, behind_colons, minutes_taken, offset_read, signed_offset_read, size_put, size_taken, two_taken, with_hours, with_minutes, with_seconds, within_two}
use Rattle.chrono_pattern.specs.OffsetTexts.{GivesOffset, offset_written}
use Rattle.chrono_pattern.specs.Parts.{no_parts, put}
use Rattle.chrono_pattern.specs.Progress.{Progress, behind_blanks, class_len, is_of, progress, stopped}
use Rattle.chrono_pattern.specs.Reads.{end_read, text_read}
use Rattle.chrono_pattern.specs.declared.class.Class.{Class}
use Rattle.chrono_pattern.specs.declared.class.Class.TheVariants.{Blank, Gap}
use Rattle.chrono_pattern.specs.declared.error.ReadFault.{ReadFault}
use Rattle.chrono_pattern.specs.declared.error.ReadFault.TheVariants.{Invalid, OutOfRange, TooLong, TooShort}
use Rattle.chrono_pattern.specs.declared.item.OffsetForm.TheVariants.{Plain}
use Rattle.chrono_pattern.specs.declared.parsed.Parsed.{Parsed}
use Rattle.chrono_pattern.specs.declared.parsed.Part.TheVariants.{OffsetFromUtc}
use Rattle.chrono_pattern.specs.declared.stop.Stop.{Stop}
use Rattle.chrono_pattern.proofs.BackOffsets.{no_seconds}
use Rattle.chrono_pattern.proofs.OffsetTexts.{blanks_before, read_by_z, written_read}

pub no_answer : {T E P : Type 0} (e : E) (t : T) → ◌≡◌ {A = Result T E} (Err e) (Ok t) → P
no_answer {T} {E} e t h = absurd (false≢true (ap (λ (r : Result T E). is_ok r) h))

-- ---- the bytes of a class in front of a text

front_step : (class : Class) (c : ℕ) (text : List ℕ) → list_all (is_of class) (take (class_len class text) text) ≡ true → (b : Bool) → is_of class c ≡ b
    → list_all (is_of class) (take (if b then 1 + prefix_len (is_of class) text else 0) (c ∷ text)) ≡ true
unfolding class_len
front_step class c text all true e =
    let more : 1 + prefix_len (is_of class) text ≡ suc (prefix_len (is_of class) text) = omega arith in
    ap (λ (k : ℕ). list_all (is_of class) (take k (c ∷ text))) more ∙ ap (λ (b : Bool). b && list_all (is_of class) (take (class_len class text) text)) e ∙ all
front_step class c text all false e = refl

pub front_all : (class : Class) (text : List ℕ) → list_all (is_of class) (take (class_len class text) text) ≡ true
unfolding class_len
front_all class [] = refl
front_all class (c ∷ text) = front_step class c text (front_all class text) (is_of class c) refl

-- ---- two digits

two_are : (text : List ℕ) (n : ℕ) → nat_lt (length text) 2 ≡ false → digits_of 2 (take 2 text) ≡ Some n → (text ≡ two_digits n ++ drop 2 text) × (n < 100)
unfolding digits_of
two_are [] n long is = absurd (false≢true (sym long))
two_are (a ∷ []) n long is = absurd (false≢true (sym long))
two_are (a ∷ b ∷ rest) n long is =
    let read = natural_read (a ∷ b ∷ []) n is in
    let first = read.0.digits.0 in
    let second = read.0.digits.1.0 in
    let tens : a ≡ 48 + n / 10 = omega (arith, read.1, first, second) in
    let ones : b ≡ 48 + n % 10 = omega (arith, read.1, first, second) in (
      ap (λ (k : ℕ). k ∷ b ∷ rest) tens ∙ ap (λ (k : ℕ). (48 + n / 10) ∷ k ∷ rest) ones,
      omega (arith, read.1, first, second),
    )

pub record AreTwo (most : ℕ) (text : List ℕ) (p : Parsed) (t : ℕ × Progress) : Type 0 where
  pub is : text ≡ two_digits t.0 ++ t.1.rest
  pub parts : t.1.parsed ≡ p
  pub few : t.0 ≤ most
  pub small : t.0 < 100

not_above : (most n : ℕ) → nat_lt most n ≡ false → n ≤ most
not_above most n e = grind (arith, nat_tests, e)

two_by_most : (most : ℕ) (text : List ℕ) (p : Parsed) (t : ℕ × Progress) → nat_lt (length text) 2 ≡ false → (n : ℕ) → digits_of 2 (take 2 text) ≡ Some n
    → (b : Bool) → nat_lt most n ≡ b → (if b then Err (stopped OutOfRange text) else Ok (n, at_rest (drop 2 text) p)) ≡ Ok t → AreTwo most text p t
two_by_most most text p t long n is true e h = no_answer _ _ h
two_by_most most text p t long n is false e h =
    let same = same_Ok _ _ h in
    let are = two_are text n long is in
    let value : n ≡ t.0 = ap (λ (u : ℕ × Progress). u.0) same in
    record {
      is = are.0 ∙ ap (λ (u : ℕ × Progress). two_digits u.0 ++ u.1.rest) same;
      parts = sym (ap (λ (u : ℕ × Progress). u.1.parsed) same);
      few = omega (arith, not_above most n e, value);
      small = omega (arith, are.1, value);
    }

two_by_value : (most : ℕ) (text : List ℕ) (p : Parsed) (t : ℕ × Progress) → nat_lt (length text) 2 ≡ false → (o : Option ℕ) → digits_of 2 (take 2 text) ≡ o
    → within_two o most (at_rest text p) ≡ Ok t → AreTwo most text p t
two_by_value most text p t long None is h = no_answer _ _ h
two_by_value most text p t long (Some n) is h = two_by_most most text p t long n is (nat_lt most n) refl h

two_by_length : (most : ℕ) (text : List ℕ) (p : Parsed) (t : ℕ × Progress) → (b : Bool) → nat_lt (length text) 2 ≡ b
    → (if b then Err (stopped TooShort text) else within_two (digits_of 2 (take 2 text)) most (at_rest text p)) ≡ Ok t → AreTwo most text p t
two_by_length most text p t true e h = no_answer _ _ h
two_by_length most text p t false e h = two_by_value most text p t e (digits_of 2 (take 2 text)) refl h

pub two_taken_are : (most : ℕ) (text : List ℕ) (p : Parsed) (t : ℕ × Progress) → two_taken most (at_rest text p) ≡ Ok t → AreTwo most text p t
unfolding two_taken
two_taken_are most text p t h = two_by_length most text p t (nat_lt (length text) 2) refl h

minutes_are : (text : List ℕ) (p : Parsed) (t : ℕ × Progress) → minutes_taken false (at_rest text p) ≡ Ok t → AreTwo 59 (behind_colons text) p t
unfolding minutes_taken
minutes_are text p t h = two_taken_are 59 (behind_colons text) p t h

-- ---- the size

record IsSize (text : List ℕ) (p : Parsed) (t : ℕ × Progress) : Type 0 where
  hours : ℕ
  minutes : ℕ
  between : List ℕ
  is : text ≡ two_digits hours ++ (between ++ (two_digits minutes ++ t.1.rest))
  gap : list_all (is_of Gap) between ≡ true
  hour : minutes < 60
  pub parts : t.1.parsed ≡ p
  size : t.0 ≡ hours * 3_600 + minutes * 60

size_by_minutes : (text : List ℕ) (p : Parsed) (t u : ℕ × Progress) → AreTwo 99 text p u → (o : Taken) → minutes_taken false u.1 ≡ o
    → with_minutes o Plain u.0 ≡ Ok t → IsSize text p t
size_by_minutes text p t u first (Err e) is h = no_answer _ _ h
size_by_minutes text p t u first (Ok v) is h =
    let second = minutes_are u.1.rest u.1.parsed v is in
    let minutes = u.0 * 60 + v.0 in
    let same = same_Ok _ _ (sym (ap (λ (s : Taken). with_seconds s minutes) (no_seconds v.1.rest v.1.parsed)) ∙ h) in
    let count = class_len Gap u.1.rest in
    let gap = take count u.1.rest in
    let value : minutes * 60 + 0 ≡ t.0 = ap (λ (w : ℕ × Progress). w.0) same in
    record {
      hours = u.0;
      minutes = v.0;
      between = gap;
      is = first.is
          ∙ ap (λ (l : List ℕ). two_digits u.0 ++ l)
          (sym (take-append-drop count u.1.rest) ∙ ap (λ (l : List ℕ). gap ++ l) (second.is ∙ ap (λ (w : ℕ × Progress). two_digits v.0 ++ w.1.rest) same));
      gap = front_all Gap u.1.rest;
      hour = omega (arith, second.few);
      parts = sym (ap (λ (w : ℕ × Progress). w.1.parsed) same) ∙ second.parts ∙ first.parts;
      size = omega (arith, value);
    }

size_by_hours : (text : List ℕ) (p : Parsed) (t : ℕ × Progress) → (o : Taken) → two_taken 99 (at_rest text p) ≡ o → with_hours o Plain ≡ Ok t → IsSize text p t
size_by_hours text p t (Err e) is h = no_answer _ _ h
size_by_hours text p t (Ok u) is h = size_by_minutes text p t u (two_taken_are 99 text p u is) (minutes_taken false u.1) refl h

size_is : (text : List ℕ) (p : Parsed) (t : ℕ × Progress) → size_taken Plain (at_rest text p) ≡ Ok t → IsSize text p t
unfolding size_taken
size_is text p t h = size_by_hours text p t (two_taken 99 (at_rest text p)) refl h

-- ---- the part

record IsPut (v : ℤ) (q : Parsed) : Type 0 where
  is : q ≡ record no_parts { offset = Some v }
  least : int_lt v (neg_ℤ (pos 86_399)) ≡ false
  most : int_lt (pos 86_399) v ≡ false

put_by_most : (v : ℤ) (q : Parsed) → int_lt v (neg_ℤ (pos 86_399)) ≡ false → (b : Bool) → int_lt (pos 86_399) v ≡ b
    → (if b then Err OutOfRange else Ok (record no_parts { offset = Some v })) ≡ Ok q → IsPut v q
put_by_most v q least true e h = no_answer _ _ h
put_by_most v q least false e h = record { is = sym (same_Ok _ _ h); least = least; most = e }

put_by_least : (v : ℤ) (q : Parsed) → (b : Bool) → int_lt v (neg_ℤ (pos 86_399)) ≡ b
    → (if b then Err OutOfRange else if int_lt (pos 86_399) v then Err OutOfRange else Ok (record no_parts { offset = Some v })) ≡ Ok q → IsPut v q
put_by_least v q true e h = no_answer _ _ h
put_by_least v q false e h = put_by_most v q e (int_lt (pos 86_399) v) refl h

put_is : (v : ℤ) (q : Parsed) → put OffsetFromUtc v no_parts ≡ Ok q → IsPut v q
unfolding put
put_is v q h = put_by_least v q (int_lt v (neg_ℤ (pos 86_399))) refl h

day_ahead : (n : ℕ) → int_lt (pos 86_399) (pos n) ≡ false → n < 86_400
day_ahead n e = let few : n ≤ 86_399 = grind (arith, ints, e) in omega (arith, few)

day_behind : (n : ℕ) → int_lt (signed true n) (neg_ℤ (pos 86_399)) ≡ false → n < 86_400
day_behind zero e = omega arith
day_behind (suc n) e = let few : suc n ≤ 86_399 = grind (arith, nat_tests, e) in omega (arith, few)

in_a_day : (negative : Bool) (n : ℕ) (q : Parsed) → IsPut (signed negative n) q → n < 86_400
in_a_day true n q put = day_behind n put.least
in_a_day false n q put = day_ahead n put.most

-- ---- the sign

record IsSigned (text : List ℕ) (q : Progress) : Type 0 where
  negative : Bool
  hours : ℕ
  minutes : ℕ
  between : List ℕ
  is : text ≡ offset_written negative hours between minutes ++ q.rest
  gap : list_all (is_of Gap) between ≡ true
  day : hours < 24
  hour : minutes < 60
  given : q.parsed ≡ record no_parts { offset = Some (signed negative (hours * 3_600 + minutes * 60)) }

signed_by_put : (negative : Bool) (c : ℕ) (text digits : List ℕ) (q : Progress) (t : ℕ × Progress) → c ≡ (if negative then 45 else 43) → IsSize digits no_parts t
    → (o : Result Parsed ReadFault) → put OffsetFromUtc (signed negative t.0) t.1.parsed ≡ o → progress o t.1.rest text ≡ Ok q → IsSigned (c ∷ digits) q
signed_by_put negative c text digits q t sign size (Err e) is h = no_answer _ _ h
signed_by_put negative c text digits q t sign size (Ok p) is h =
    let same = same_Ok _ _ h in
    let v = signed negative t.0 in
    let put = put_is v p (ap (λ (r : Parsed). put OffsetFromUtc v r) (sym size.parts) ∙ is) in
    let near = in_a_day negative t.0 p put in
    let rest = ap (λ (r : Progress). r.rest) same in
    record {
      negative = negative;
      hours = size.hours;
      minutes = size.minutes;
      between = size.between;
      is = ap (λ (k : ℕ). k ∷ digits) sign
          ∙ ap (λ (l : List ℕ). (if negative then 45 else 43) ∷ l)
          (size.is
          ∙ ap (λ (l : List ℕ). two_digits size.hours ++ (size.between ++ (two_digits size.minutes ++ l))) rest
          ∙ ap (λ (l : List ℕ). two_digits size.hours ++ l) (sym (append_assoc size.between (two_digits size.minutes) q.rest)));
      gap = size.gap;
      day = omega (arith, near, size.size);
      hour = size.hour;
      given = sym (ap (λ (r : Progress). r.parsed) same) ∙ put.is ∙ ap (λ (n : ℕ). record no_parts { offset = Some (signed negative n) }) size.size;
    }

signed_by_size : (negative : Bool) (c : ℕ) (text digits : List ℕ) (q : Progress) → c ≡ (if negative then 45 else 43)
    → (o : Taken) → size_taken Plain (at_rest digits no_parts) ≡ o → size_put o negative text ≡ Ok q → IsSigned (c ∷ digits) q
signed_by_size negative c text digits q sign (Err e) is h = no_answer _ _ h
signed_by_size negative c text digits q sign (Ok t) is h =
    signed_by_put negative c text digits q t sign (size_is digits no_parts t is) (put OffsetFromUtc (signed negative t.0) t.1.parsed) refl h

pub same_byte : (c k : ℕ) → (c == k) ≡ true → c ≡ k
same_byte c k e = grind (arith, nat_tests, e)

signed_by_plus : (c : ℕ) (digits : List ℕ) (q : Progress) → (b : Bool) → (c == 43) ≡ b
    → (if b then size_put (size_taken Plain (at_rest digits no_parts)) false (c ∷ digits) else Err (stopped Invalid (c ∷ digits))) ≡ Ok q → IsSigned (c ∷ digits) q
signed_by_plus c digits q true e h = signed_by_size false c (c ∷ digits) digits q (same_byte c 43 e) (size_taken Plain (at_rest digits no_parts)) refl h
signed_by_plus c digits q false e h = no_answer _ _ h

signed_by_minus : (c : ℕ) (digits : List ℕ) (q : Progress) → (b : Bool) → (c == 45) ≡ b
    → (if b then size_put (size_taken Plain (at_rest digits no_parts)) true (c ∷ digits)
    else if c == 43 then size_put (size_taken Plain (at_rest digits no_parts)) false (c ∷ digits) else Err (stopped Invalid (c ∷ digits))) ≡ Ok q
    → IsSigned (c ∷ digits) q
signed_by_minus c digits q true e h = signed_by_size true c (c ∷ digits) digits q (same_byte c 45 e) (size_taken Plain (at_rest digits no_parts)) refl h
signed_by_minus c digits q false e h = signed_by_plus c digits q (c == 43) refl h

signed_is : (text : List ℕ) (q : Progress) → signed_offset_read Plain text no_parts ≡ Ok q → IsSigned text q
unfolding signed_offset_read
signed_is [] q h = no_answer _ _ h
signed_is (c ∷ digits) q h = signed_by_minus c digits q (c == 45) refl h

plain_is : (text : List ℕ) (q : Progress) → offset_read Plain (at_rest text no_parts) ≡ Ok q → IsSigned (behind_blanks text) q
unfolding offset_read
plain_is text q h = signed_is (behind_blanks text) q h

-- ---- the whole text

pub no_bytes : (text : List ℕ) → (length text == 0) ≡ true → text ≡ []
no_bytes [] e = refl
no_bytes (c ∷ text) e = absurd (omega (arith, same_byte (length (c ∷ text)) 0 e))

whole_by_end : (text : List ℕ) (parts : Parsed) (q : Progress) → IsSigned (behind_blanks text) q → (b : Bool) → (length q.rest == 0) ≡ b
    → (if b then Ok q.parsed else Err (stopped TooLong q.rest)) ≡ Ok parts → GivesOffset text parts
whole_by_end text parts q is false e h = no_answer _ _ h
whole_by_end text parts q is true e h =
    let count = class_len Blank text in
    let blanks = take count text in
    let written = offset_written is.negative is.hours is.between is.minutes in
    record {
      negative = is.negative;
      hours = is.hours;
      minutes = is.minutes;
      blanks = blanks;
      between = is.between;
      space = front_all Blank text;
      gap = is.gap;
      day = is.day;
      hour = is.hour;
      written = sym (take-append-drop count text)
          ∙ ap (λ (l : List ℕ). blanks ++ l) (is.is ∙ ap (λ (l : List ℕ). written ++ l) (no_bytes q.rest e) ∙ append-nil written);
      given = sym (same_Ok _ _ h) ∙ is.given;
    }

whole_by_read : (text : List ℕ) (parts : Parsed) → (o : Result Progress Stop) → offset_read Plain (at_rest text no_parts) ≡ o → end_read o ≡ Ok parts → GivesOffset text parts
whole_by_read text parts (Err e) is h = no_answer _ _ h
whole_by_read text parts (Ok q) is h = whole_by_end text parts q (plain_is text q is) (length q.rest == 0) refl h

pub offset_is : (text : List ℕ) (parts : Parsed) → text_read (codes "%z") text ≡ Ok parts → GivesOffset text parts
offset_is text parts h = whole_by_read text parts (offset_read Plain (at_rest text no_parts)) refl (sym (read_by_z text) ∙ h)

pub offset_is_read : (text : List ℕ) (parts : Parsed) → GivesOffset text parts → text_read (codes "%z") text ≡ Ok parts
offset_is_read text parts is =
    ap (λ (l : List ℕ). text_read (codes "%z") l) is.written
    ∙ blanks_before is.blanks (offset_written is.negative is.hours is.between is.minutes) is.space
    ∙ written_read is.negative is.hours is.minutes is.between is.day is.hour is.gap
    ∙ ap (λ (p : Parsed). Ok p) (sym is.given)
