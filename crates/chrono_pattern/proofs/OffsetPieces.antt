-- Offsets from UTC and the seconds from 1970 are read exactly where their pieces stand.
use Rattle.std.proofs.Common.{◌≡◌, ℕ, ◌+◌, ◌*◌, ◌<◌, ◌≤◌, ◌==◌, ◌&&◌, ◌||◌, ◌⊎◌, inl, inr, nat_lt, Bool, true, false, if◌then◌else◌, List, [], ◌∷◌, ◌++◌, drop, take, take-append-drop, length, pos, Option, Some, None, Ok, Err, refl, ap, sym, subst, ◌∙◌, arith}
use Rattle.std.proofs.lemmas.Bool.{and_parts, false≢true}
use Rattle.std.proofs.lemmas.Bool.Decides.{nat_tests}
use Rattle.std.specs.Str.{str_eq_ignore_ascii_case}
use Rattle.chrono_text.proofs.AnswerLemmas.{same_Ok}
use Rattle.chrono_text.proofs.TextLemmas.{front_is}
use Rattle.chrono_text.specs.Numbers.{digits_of, signed}
use Rattle.chrono_text.specs.Text.{two_digits}
use Rattle.chrono_pattern.specs.ItemReads.{iso_offset_read}
use Rattle.chrono_pattern.specs.OffsetReads.{Taken, at_rest, behind_colons, has_seconds, may_miss_minutes, minutes_taken, name_read, offset_read, seconds_behind, signed_offset_read, signed_stamp, size_put, size_taken, stamp_digits, stamp_read, stamp_value, two_taken, utc_len, utc_or_offset, with_hours, with_minutes, with_seconds}
use Rattle.chrono_pattern.specs.Parts.{put, put_stamp}
use Rattle.chrono_pattern.specs.Progress.{Progress, behind_blanks, class_len, put_behind, stopped}
use Rattle.chrono_pattern.specs.TextPieces.{AreMinutes, MinutesAre, NoneOf, ReadsOffset, ReadsSigned, ReadsStamp, ReadsUtc, SecondsAre, SkipsAll, is_below, sign_text}
use Rattle.chrono_pattern.specs.declared.class.Class.TheVariants.{Blank, Digit, Gap, Shown}
use Rattle.chrono_pattern.specs.declared.error.ReadFault.TheVariants.{Invalid}
use Rattle.chrono_pattern.specs.declared.item.OffsetForm.{OffsetForm}
use Rattle.chrono_pattern.specs.declared.item.OffsetForm.TheVariants.{Plain, Colon, Seconds, Hours, Loose}
use Rattle.chrono_pattern.specs.declared.parsed.Parsed.{Parsed}
use Rattle.chrono_pattern.specs.declared.parsed.Part.TheVariants.{OffsetFromUtc}
use Rattle.chrono_pattern.proofs.BackDigits.{blanks_go}
use Rattle.chrono_pattern.proofs.BackNumbers.{front_stays}
use Rattle.chrono_pattern.proofs.BackOffsets.{digits_stay, minutes_back, no_minutes, stamp_counted, two_back, unsigned_stamp}
use Rattle.chrono_pattern.proofs.OffsetExact.{AreTwo, front_all, no_answer, same_byte, two_taken_are}
use Rattle.chrono_pattern.proofs.OffsetTexts.{gaps_go}
use Rattle.chrono_pattern.proofs.PieceExact.{Exact, behind_signed, first_of, front_ends, front_long, no_first, numeral, other_byte, put_done, put_gives, skipped, skips}

-- ---- minutes

record TakesMinutes (missing : Bool) (text : List ℕ) (p : Parsed) (t : ℕ × Progress) : Type 0 where
  are : MinutesAre missing text t.1.rest t.0
  parts : t.1.parsed ≡ p

digits_of_minutes : (text : List ℕ) (p : Parsed) (t : ℕ × Progress) → two_taken 59 (at_rest (behind_colons text) p) ≡ Ok t → AreMinutes text t.1.rest t.0
digits_of_minutes text p t h =
    let two = two_taken_are 59 (behind_colons text) p t h in
    let count = class_len Gap text in
    record {
      between = take count text;
      gap = front_all Gap text;
      hour = omega (arith, two.few);
      written = sym (take-append-drop count text) ∙ ap (λ (l : List ℕ). take count text ++ l) two.is;
    }

minutes_by : (missing : Bool) (text : List ℕ) (p : Parsed) (t : ℕ × Progress) → (b : Bool) → (missing && class_len Digit (behind_colons text) == 0) ≡ b
    → (if b then Ok (0, at_rest text p) else two_taken 59 (at_rest (behind_colons text) p)) ≡ Ok t → TakesMinutes missing text p t
minutes_by missing text p t true e h =
    let same = same_Ok _ _ h in
    let both = and_parts missing (class_len Digit (behind_colons text) == 0) e in
    record {
      are = inr (
        both.0,
        record {
          zero = sym (ap (λ (u : ℕ × Progress). u.0) same);
          ends = same_byte _ 0 both.1;
          same = sym (ap (λ (u : ℕ × Progress). u.1.rest) same);
        },
      );
      parts = sym (ap (λ (u : ℕ × Progress). u.1.parsed) same);
    }
minutes_by missing text p t false e h = record { are = inl (digits_of_minutes text p t h); parts = (two_taken_are 59 (behind_colons text) p t h).parts }

minutes_are_taken : (missing : Bool) (text : List ℕ) (p : Parsed) (t : ℕ × Progress) → minutes_taken missing (at_rest text p) ≡ Ok t → TakesMinutes missing text p t
unfolding minutes_taken
minutes_are_taken missing text p t h = minutes_by missing text p t (missing && class_len Digit (behind_colons text) == 0) refl h

minutes_taken_back : (missing : Bool) (text rest : List ℕ) (n : ℕ) (p : Parsed) → MinutesAre missing text rest n → minutes_taken missing (at_rest text p) ≡ Ok (n, at_rest rest p)
minutes_taken_back missing text rest n p (inl is) =
    minutes_back missing n text rest p (omega (arith, is.hour))
    (ap (λ (l : List ℕ). behind_colons l) is.written ∙ gaps_go is.between (two_digits n ++ rest) is.gap ∙ digits_stay n rest (omega (arith, is.hour)))
minutes_taken_back missing text rest n p (inr is) =
    ap (λ (b : Bool). minutes_taken b (at_rest text p)) is.0
    ∙ no_minutes text p is.1.ends
    ∙ ap (λ (k : ℕ). Ok (k, at_rest text p)) (sym is.1.zero)
    ∙ ap (λ (l : List ℕ). Ok (n, at_rest l p)) (sym is.1.same)

-- ---- seconds

record TakesSeconds (asked : Bool) (text : List ℕ) (p : Parsed) (t : ℕ × Progress) : Type 0 where
  are : SecondsAre asked text t.1.rest t.0
  parts : t.1.parsed ≡ p

seconds_left : (asked : Bool) (text : List ℕ) (p : Parsed) (t : ℕ × Progress) → (asked ≡ true → (behind : List ℕ) → text ≡ 58 ∷ behind → ⊥)
    → ◌≡◌ {A = Taken} (Ok (0, at_rest text p)) (Ok t) → TakesSeconds asked text p t
seconds_left asked text p t none h =
    let same = same_Ok _ _ h in
    record {
      are = inr (record { zero = sym (ap (λ (u : ℕ × Progress). u.0) same); none = none; same = sym (ap (λ (u : ℕ × Progress). u.1.rest) same) });
      parts = sym (ap (λ (u : ℕ × Progress). u.1.parsed) same);
    }

seconds_by : (asked : Bool) (c : ℕ) (text : List ℕ) (p : Parsed) (t : ℕ × Progress) → (a b : Bool) → asked ≡ a → (c == 58) ≡ b
    → (if a && b then two_taken 59 (at_rest text p) else Ok (0, at_rest (c ∷ text) p)) ≡ Ok t → TakesSeconds asked (c ∷ text) p t
seconds_by asked c text p t true true a b h =
    let two = two_taken_are 59 text p t h in
    record {
      are = inl (a, record { minute = omega (arith, two.few); written = ap (λ (k : ℕ). k ∷ text) (same_byte c 58 b) ∙ ap (λ (l : List ℕ). 58 ∷ l) two.is });
      parts = two.parts;
    }
seconds_by asked c text p t true false a b h = seconds_left asked (c ∷ text) p t (λ is behind e. other_byte c 58 b (first_of c 58 text behind e)) h
seconds_by asked c text p t false b a e h = seconds_left asked (c ∷ text) p t (λ is behind k. false≢true (sym a ∙ is)) h

seconds_are_taken : (asked : Bool) (text : List ℕ) (p : Parsed) (t : ℕ × Progress) → seconds_behind asked text p ≡ Ok t → TakesSeconds asked text p t
seconds_are_taken asked [] p t h = seconds_left asked [] p t (λ is behind e. no_first 58 behind e) h
seconds_are_taken asked (c ∷ text) p t h = seconds_by asked c text p t asked (c == 58) refl refl h

no_seconds_back : (asked : Bool) (text : List ℕ) (p : Parsed) → (asked ≡ true → (behind : List ℕ) → text ≡ 58 ∷ behind → ⊥) → seconds_behind asked text p ≡ Ok (0, at_rest text p)
no_seconds_back asked [] p none = refl
no_seconds_back asked (c ∷ text) p none = by_tests asked (c == 58) refl refl
  where
    by_tests : (a b : Bool) → asked ≡ a → (c == 58) ≡ b → (if a && b then two_taken 59 (at_rest text p) else Ok (0, at_rest (c ∷ text) p)) ≡ Ok (0, at_rest (c ∷ text) p)
    by_tests true true a b = absurd (none a text (ap (λ (k : ℕ). k ∷ text) (same_byte c 58 b)))
    by_tests true false a b = refl
    by_tests false b a e = refl

seconds_taken_back : (asked : Bool) (text rest : List ℕ) (n : ℕ) (p : Parsed) → SecondsAre asked text rest n → seconds_behind asked text p ≡ Ok (n, at_rest rest p)
seconds_taken_back asked text rest n p (inl is) =
    ap (λ (b : Bool). seconds_behind b text p) is.0
    ∙ ap (λ (l : List ℕ). seconds_behind true l p) is.1.written
    ∙ two_back 59 n rest p (omega (arith, is.1.minute)) (omega (arith, is.1.minute))
seconds_taken_back asked text rest n p (inr is) =
    no_seconds_back asked text p is.none
    ∙ ap (λ (k : ℕ). Ok (k, at_rest text p)) (sym is.zero)
    ∙ ap (λ (l : List ℕ). Ok (n, at_rest l p)) (sym is.same)

-- ---- hours, minutes and seconds

record TakesSize (form : OffsetForm) (text : List ℕ) (p : Parsed) (t : ℕ × Progress) : Type 0 where
  hours : ℕ
  minutes : ℕ
  seconds : ℕ
  behind_hours : List ℕ
  behind_minutes : List ℕ
  written : text ≡ two_digits hours ++ behind_hours
  day : hours < 100
  minute : MinutesAre (may_miss_minutes form) behind_hours behind_minutes minutes
  second : SecondsAre (has_seconds form) behind_minutes t.1.rest seconds
  size : (hours * 60 + minutes) * 60 + seconds ≡ t.0
  parts : t.1.parsed ≡ p

size_by_seconds : (form : OffsetForm) (text : List ℕ) (p : Parsed) (t u v : ℕ × Progress) → AreTwo 99 text p u → TakesMinutes (may_miss_minutes form) u.1.rest u.1.parsed v
    → (o : Taken) → seconds_behind (has_seconds form) v.1.rest v.1.parsed ≡ o → with_seconds o (u.0 * 60 + v.0) ≡ Ok t → TakesSize form text p t
size_by_seconds form text p t u v first second (Err e) is h = no_answer _ _ h
size_by_seconds form text p t u v first second (Ok w) is h =
    let third = seconds_are_taken (has_seconds form) v.1.rest v.1.parsed w is in
    let same = same_Ok _ _ h in
    record {
      hours = u.0;
      minutes = v.0;
      seconds = w.0;
      behind_hours = u.1.rest;
      behind_minutes = v.1.rest;
      written = first.is;
      day = first.small;
      minute = second.are;
      second = subst (λ (l : List ℕ). SecondsAre (has_seconds form) v.1.rest l w.0) (ap (λ (s : ℕ × Progress). s.1.rest) same) third.are;
      size = ap (λ (s : ℕ × Progress). s.0) same;
      parts = sym (ap (λ (s : ℕ × Progress). s.1.parsed) same) ∙ third.parts ∙ second.parts ∙ first.parts;
    }

size_by_minutes : (form : OffsetForm) (text : List ℕ) (p : Parsed) (t u : ℕ × Progress) → AreTwo 99 text p u
    → (o : Taken) → minutes_taken (may_miss_minutes form) u.1 ≡ o → with_minutes o form u.0 ≡ Ok t → TakesSize form text p t
size_by_minutes form text p t u first (Err e) is h = no_answer _ _ h
size_by_minutes form text p t u first (Ok v) is h =
    size_by_seconds form text p t u v first (minutes_are_taken (may_miss_minutes form) u.1.rest u.1.parsed v is)
    (seconds_behind (has_seconds form) v.1.rest v.1.parsed) refl h

size_by_hours : (form : OffsetForm) (text : List ℕ) (p : Parsed) (t : ℕ × Progress) → (o : Taken) → two_taken 99 (at_rest text p) ≡ o → with_hours o form ≡ Ok t → TakesSize form text p t
size_by_hours form text p t (Err e) is h = no_answer _ _ h
size_by_hours form text p t (Ok u) is h = size_by_minutes form text p t u (two_taken_are 99 text p u is) (minutes_taken (may_miss_minutes form) u.1) refl h

size_is_taken : (form : OffsetForm) (text : List ℕ) (p : Parsed) (t : ℕ × Progress) → size_taken form (at_rest text p) ≡ Ok t → TakesSize form text p t
unfolding size_taken
size_is_taken form text p t h = size_by_hours form text p t (two_taken 99 (at_rest text p)) refl h

size_taken_back : (form : OffsetForm) (hours minutes seconds : ℕ) (behind_hours behind_minutes rest : List ℕ) (p : Parsed) → hours < 100
    → MinutesAre (may_miss_minutes form) behind_hours behind_minutes minutes → SecondsAre (has_seconds form) behind_minutes rest seconds
    → size_taken form (at_rest (two_digits hours ++ behind_hours) p) ≡ Ok ((hours * 60 + minutes) * 60 + seconds, at_rest rest p)
unfolding size_taken
size_taken_back form hours minutes seconds behind_hours behind_minutes rest p day minute second =
    ap (λ (t : Taken). with_hours t form) (two_back 99 hours behind_hours p day (omega (arith, day)))
    ∙ ap (λ (t : Taken). with_minutes t form hours) (minutes_taken_back (may_miss_minutes form) behind_hours behind_minutes minutes p minute)
    ∙ ap (λ (t : Taken). with_seconds t (hours * 60 + minutes)) (seconds_taken_back (has_seconds form) behind_minutes rest seconds p second)

-- ---- a sign

-- an offset in front of a text, with no blanks
record GivesOffset (form : OffsetForm) (text : List ℕ) (p : Parsed) (q : Progress) : Type 0 where
  negative : Bool
  hours : ℕ
  minutes : ℕ
  seconds : ℕ
  behind_hours : List ℕ
  behind_minutes : List ℕ
  written : text ≡ (if negative then 45 else 43) ∷ (two_digits hours ++ behind_hours)
  day : hours < 100
  minute : MinutesAre (may_miss_minutes form) behind_hours behind_minutes minutes
  second : SecondsAre (has_seconds form) behind_minutes q.rest seconds
  given : put OffsetFromUtc (signed negative ((hours * 60 + minutes) * 60 + seconds)) p ≡ Ok q.parsed

signed_by_size : (form : OffsetForm) (negative : Bool) (c : ℕ) (text digits : List ℕ) (p : Parsed) (q : Progress) → c ≡ (if negative then 45 else 43)
    → (o : Taken) → size_taken form (at_rest digits p) ≡ o → size_put o negative text ≡ Ok q → GivesOffset form (c ∷ digits) p q
signed_by_size form negative c text digits p q sign (Err e) is h = no_answer _ _ h
signed_by_size form negative c text digits p q sign (Ok t) is h =
    let size = size_is_taken form digits p t is in
    let gives = put_gives (put OffsetFromUtc (signed negative t.0) t.1.parsed) t.1.rest text q h in
    record {
      negative = negative;
      hours = size.hours;
      minutes = size.minutes;
      seconds = size.seconds;
      behind_hours = size.behind_hours;
      behind_minutes = size.behind_minutes;
      written = ap (λ (k : ℕ). k ∷ digits) sign ∙ ap (λ (l : List ℕ). (if negative then 45 else 43) ∷ l) size.written;
      day = size.day;
      minute = size.minute;
      second = subst (λ (l : List ℕ). SecondsAre (has_seconds form) size.behind_minutes l size.seconds) gives.1 size.second;
      given = ap (λ (n : ℕ). put OffsetFromUtc (signed negative n) p) size.size ∙ ap (λ (s : Parsed). put OffsetFromUtc (signed negative t.0) s) (sym size.parts) ∙ gives.0;
    }

signed_by_plus : (form : OffsetForm) (c : ℕ) (digits : List ℕ) (p : Parsed) (q : Progress) → (b : Bool) → (c == 43) ≡ b
    → (if b then size_put (size_taken form (at_rest digits p)) false (c ∷ digits) else Err (stopped Invalid (c ∷ digits))) ≡ Ok q → GivesOffset form (c ∷ digits) p q
signed_by_plus form c digits p q true e h = signed_by_size form false c (c ∷ digits) digits p q (same_byte c 43 e) (size_taken form (at_rest digits p)) refl h
signed_by_plus form c digits p q false e h = no_answer _ _ h

signed_by_minus : (form : OffsetForm) (c : ℕ) (digits : List ℕ) (p : Parsed) (q : Progress) → (b : Bool) → (c == 45) ≡ b
    → (if b then size_put (size_taken form (at_rest digits p)) true (c ∷ digits)
    else if c == 43 then size_put (size_taken form (at_rest digits p)) false (c ∷ digits) else Err (stopped Invalid (c ∷ digits))) ≡ Ok q → GivesOffset form (c ∷ digits) p q
signed_by_minus form c digits p q true e h = signed_by_size form true c (c ∷ digits) digits p q (same_byte c 45 e) (size_taken form (at_rest digits p)) refl h
signed_by_minus form c digits p q false e h = signed_by_plus form c digits p q (c == 43) refl h

signed_is_read : (form : OffsetForm) (text : List ℕ) (p : Parsed) (q : Progress) → signed_offset_read form text p ≡ Ok q → GivesOffset form text p q
unfolding signed_offset_read
signed_is_read form [] p q h = no_answer _ _ h
signed_is_read form (c ∷ digits) p q h = signed_by_minus form c digits p q (c == 45) refl h

signed_front : (form : OffsetForm) (negative : Bool) (digits : List ℕ) (p : Parsed) → signed_offset_read form ((if negative then 45 else 43) ∷ digits) p
    ≡ size_put (size_taken form (at_rest digits p)) negative ((if negative then 45 else 43) ∷ digits)
unfolding signed_offset_read
signed_front form true digits p = refl
signed_front form false digits p = refl

sign_stays : (negative : Bool) (digits : List ℕ) → behind_blanks ((if negative then 45 else 43) ∷ digits) ≡ (if negative then 45 else 43) ∷ digits
sign_stays true digits = front_stays 45 digits refl
sign_stays false digits = front_stays 43 digits refl

with_blanks : (form : OffsetForm) (r q : Progress) → GivesOffset form (behind_blanks r.rest) r.parsed q → ReadsSigned form r q
with_blanks form r q is =
    let count = class_len Blank r.rest in
    record {
      blanks = take count r.rest;
      negative = is.negative;
      hours = is.hours;
      minutes = is.minutes;
      seconds = is.seconds;
      behind_hours = is.behind_hours;
      behind_minutes = is.behind_minutes;
      space = front_all Blank r.rest;
      written = sym (take-append-drop count r.rest) ∙ ap (λ (l : List ℕ). take count r.rest ++ l) is.written;
      day = is.day;
      minute = is.minute;
      second = is.second;
      given = is.given;
    }

-- the sign of an offset behind its blanks
behind_is : (form : OffsetForm) (r q : Progress) → (is : ReadsSigned form r q) → behind_blanks r.rest ≡ (if is.negative then 45 else 43) ∷ (two_digits is.hours ++ is.behind_hours)
behind_is form r q is =
    let text = (if is.negative then 45 else 43) ∷ (two_digits is.hours ++ is.behind_hours) in
    ap (λ (l : List ℕ). behind_blanks l) is.written ∙ blanks_go is.blanks text is.space ∙ sign_stays is.negative (two_digits is.hours ++ is.behind_hours)

signed_back : (form : OffsetForm) (r q : Progress) → (is : ReadsSigned form r q) → signed_offset_read form (behind_blanks r.rest) r.parsed ≡ Ok q
signed_back form r q is =
    let digits = two_digits is.hours ++ is.behind_hours in
    let text = (if is.negative then 45 else 43) ∷ digits in
    let n = (is.hours * 60 + is.minutes) * 60 + is.seconds in
    ap (λ (l : List ℕ). signed_offset_read form l r.parsed) (behind_is form r q is)
    ∙ signed_front form is.negative digits r.parsed
    ∙ ap (λ (t : Taken). size_put t is.negative text)
    (size_taken_back form is.hours is.minutes is.seconds is.behind_hours is.behind_minutes q.rest r.parsed is.day is.minute is.second)
    ∙ put_done (put OffsetFromUtc (signed is.negative n) r.parsed) q.rest text q is.given refl

-- ---- UTC

above : (n : ℕ) → nat_lt 0 n ≡ true → 0 < n
above n e = grind (arith, nat_tests, e)

above_zero : (n : ℕ) → 0 < n → nat_lt 0 n ≡ true
above_zero n some = grind (arith, nat_tests, some)

three_within : (text : List ℕ) → str_eq_ignore_ascii_case (take 3 text) (117 ∷ 116 ∷ 99 ∷ []) ≡ true → 3 ≤ length text
three_within [] h = absurd (false≢true h)
three_within (a ∷ []) h = let wrong : ⊥ = grind (arith, nat_tests, h) in absurd wrong
three_within (a ∷ b ∷ []) h = let wrong : ⊥ = grind (arith, nat_tests, h) in absurd wrong
three_within (a ∷ b ∷ c ∷ text) h = omega arith

utc_within : (named : Bool) (text : List ℕ) → utc_len named text ≤ length text
utc_within named [] = omega arith
utc_within named (c ∷ text) = by_tests ((c == 90) || (c == 122)) named (str_eq_ignore_ascii_case (take 3 (c ∷ text)) (117 ∷ 116 ∷ 99 ∷ [])) refl
  where
    by_tests : (a b d : Bool) → str_eq_ignore_ascii_case (take 3 (c ∷ text)) (117 ∷ 116 ∷ 99 ∷ []) ≡ d → (if a then 1 else if b && d then 3 else 0) ≤ length (c ∷ text)
    by_tests true b d e = omega arith
    by_tests false true true e = three_within (c ∷ text) e
    by_tests false true false e = omega arith
    by_tests false false d e = omega arith

utc_is : (named : Bool) (form : OffsetForm) (r q : Progress) → (b : Bool) → nat_lt 0 (utc_len named (behind_blanks r.rest)) ≡ b
    → (if b then put_behind (utc_len named (behind_blanks r.rest)) (behind_blanks r.rest) OffsetFromUtc (pos 0) r.parsed
    else signed_offset_read form (behind_blanks r.rest) r.parsed) ≡ Ok q → ReadsUtc named r q ⊎ ReadsSigned form r q
utc_is named form r q false e h = inr (with_blanks form r q (signed_is_read form (behind_blanks r.rest) r.parsed q h))
utc_is named form r q true e h =
    let text = behind_blanks r.rest in
    let blanks = class_len Blank r.rest in
    let count = utc_len named text in
    let gives = put_gives (put OffsetFromUtc (pos 0) r.parsed) (drop count text) text q h in
    let whole = sym (take-append-drop count text) ∙ ap (λ (l : List ℕ). take count text ++ l) gives.1 in
    let long = front_long text count (utc_within named text) in
    inl (record {
      blanks = take blanks r.rest;
      name = take count text;
      space = front_all Blank r.rest;
      some = omega (arith, above count e, long);
      apart = ap (λ (l : List ℕ). class_len Blank l) (sym whole) ∙ front_ends Blank r.rest;
      long = long ∙ ap (λ (l : List ℕ). utc_len named l) whole;
      written = sym (take-append-drop blanks r.rest) ∙ ap (λ (l : List ℕ). take blanks r.rest ++ l) whole;
      given = gives.0;
    })

nothing_dropped : (text : List ℕ) → NoneOf Blank text → behind_blanks text ≡ text
nothing_dropped text none = ap (λ (k : ℕ). drop k text) none

sign_no_utc : (named : Bool) (negative : Bool) (digits : List ℕ) → nat_lt 0 (utc_len named ((if negative then 45 else 43) ∷ digits)) ≡ false
sign_no_utc true true digits = refl
sign_no_utc true false digits = refl
sign_no_utc false true digits = refl
sign_no_utc false false digits = refl

utc_back : (named : Bool) (form : OffsetForm) (r q : Progress) → ReadsUtc named r q ⊎ ReadsSigned form r q
    → (if nat_lt 0 (utc_len named (behind_blanks r.rest)) then put_behind (utc_len named (behind_blanks r.rest)) (behind_blanks r.rest) OffsetFromUtc (pos 0) r.parsed
    else signed_offset_read form (behind_blanks r.rest) r.parsed) ≡ Ok q
utc_back named form r q (inl is) =
    let text = is.name ++ q.rest in
    let behind = ap (λ (l : List ℕ). behind_blanks l) is.written ∙ blanks_go is.blanks text is.space ∙ nothing_dropped text is.apart in
    let count = utc_len named text in
    ap (λ (l : List ℕ). if nat_lt 0 (utc_len named l) then put_behind (utc_len named l) l OffsetFromUtc (pos 0) r.parsed else signed_offset_read form l r.parsed) behind
    ∙ ap (λ (b : Bool). if b then put_behind count text OffsetFromUtc (pos 0) r.parsed else signed_offset_read form text r.parsed)
    (above_zero count (omega (arith, is.some, is.long)))
    ∙ put_done (put OffsetFromUtc (pos 0) r.parsed) (drop count text) text q is.given (front_is text is.name q.rest count is.long refl).1
utc_back named form r q (inr is) =
    let digits = two_digits is.hours ++ is.behind_hours in
    let text = behind_blanks r.rest in
    let signed : nat_lt 0 (utc_len named text) ≡ false = ap (λ (l : List ℕ). nat_lt 0 (utc_len named l)) (behind_is form r q is) ∙ sign_no_utc named is.negative digits in
    ap (λ (b : Bool). if b then put_behind (utc_len named text) text OffsetFromUtc (pos 0) r.parsed else signed_offset_read form text r.parsed) signed
    ∙ signed_back form r q is

pub iso_offset_exact : (r q : Progress) → (iso_offset_read r ≡ Ok q → ReadsUtc true r q ⊎ ReadsSigned Colon r q) × (ReadsUtc true r q ⊎ ReadsSigned Colon r q → iso_offset_read r ≡ Ok q)
unfolding utc_or_offset
iso_offset_exact r q = (utc_is true Colon r q (nat_lt 0 (utc_len true (behind_blanks r.rest))) refl, utc_back true Colon r q)

signed_exact : (form : OffsetForm) (r q : Progress) → (signed_offset_read form (behind_blanks r.rest) r.parsed ≡ Ok q → ReadsSigned form r q)
    × (ReadsSigned form r q → signed_offset_read form (behind_blanks r.rest) r.parsed ≡ Ok q)
signed_exact form r q = (λ h. with_blanks form r q (signed_is_read form (behind_blanks r.rest) r.parsed q h), signed_back form r q)

pub offset_exact : (form : OffsetForm) → Exact (offset_read form) (ReadsOffset form)
unfolding offset_read utc_or_offset
offset_exact Plain r q = signed_exact Plain r q
offset_exact Colon r q = signed_exact Colon r q
offset_exact Seconds r q = signed_exact Seconds r q
offset_exact Hours r q = signed_exact Hours r q
offset_exact Loose r q = (utc_is false Loose r q (nat_lt 0 (utc_len false (behind_blanks r.rest))) refl, utc_back false Loose r q)

-- ---- the name of a zone

pub name_exact : Exact name_read (SkipsAll Shown)
name_exact r q = (λ h. skips Shown r q (same_Ok _ _ h), λ is. ap (λ (s : Progress). Ok s) (skipped Shown r q is))

-- ---- the seconds from 1970

record GivesStamp (negative : Bool) (text : List ℕ) (p : Parsed) (q : Progress) : Type 0 where
  digits : List ℕ
  n : ℕ
  value : digits_of 18 digits ≡ Some n
  ends : NoneOf Digit q.rest
  written : text ≡ digits ++ q.rest
  given : put_stamp (signed negative n) p ≡ Ok q.parsed

stamp_by : (negative : Bool) (text : List ℕ) (p : Parsed) (q : Progress) → (o : Option ℕ) → digits_of 18 (take (class_len Digit text) text) ≡ o
    → stamp_value o negative text p ≡ Ok q → GivesStamp negative text p q
stamp_by negative text p q None is h = no_answer _ _ h
stamp_by negative text p q (Some n) is h =
    let count = class_len Digit text in
    let gives = put_gives (put_stamp (signed negative n) p) (drop count text) text q h in
    record {
      digits = take count text;
      n = n;
      value = is;
      ends = ap (λ (l : List ℕ). class_len Digit l) (sym gives.1) ∙ front_ends Digit text;
      written = sym (take-append-drop count text) ∙ ap (λ (l : List ℕ). take count text ++ l) gives.1;
      given = gives.0;
    }

stamp_digits_are : (negative : Bool) (text : List ℕ) (p : Parsed) (q : Progress) → stamp_digits negative text p ≡ Ok q → GivesStamp negative text p q
unfolding stamp_digits
stamp_digits_are negative text p q h = stamp_by negative text p q (digits_of 18 (take (class_len Digit text) text)) refl h

record GivesSignedStamp (text : List ℕ) (p : Parsed) (q : Progress) : Type 0 where
  sign : Option Bool
  digits : List ℕ
  n : ℕ
  value : digits_of 18 digits ≡ Some n
  ends : NoneOf Digit q.rest
  written : text ≡ sign_text sign ++ (digits ++ q.rest)
  given : put_stamp (signed (is_below sign) n) p ≡ Ok q.parsed

signed_stamp_gives : (negative : Bool) (c : ℕ) (text : List ℕ) (p : Parsed) (q : Progress) → c ≡ (if negative then 45 else 43) → stamp_digits negative text p ≡ Ok q
    → GivesSignedStamp (c ∷ text) p q
signed_stamp_gives negative c text p q sign h =
    let is = stamp_digits_are negative text p q h in
    record {
      sign = Some negative;
      digits = is.digits;
      n = is.n;
      value = is.value;
      ends = is.ends;
      written = ap (λ (k : ℕ). k ∷ text) sign ∙ ap (λ (l : List ℕ). (if negative then 45 else 43) ∷ l) is.written;
      given = is.given;
    }

unsigned_stamp_gives : (text : List ℕ) (p : Parsed) (q : Progress) → stamp_digits false text p ≡ Ok q → GivesSignedStamp text p q
unsigned_stamp_gives text p q h =
    let is = stamp_digits_are false text p q h in
    record { sign = None; digits = is.digits; n = is.n; value = is.value; ends = is.ends; written = is.written; given = is.given }

stamp_by_plus : (c : ℕ) (text : List ℕ) (p : Parsed) (q : Progress) → (b : Bool) → (c == 43) ≡ b
    → (if b then stamp_digits false text p else stamp_digits false (c ∷ text) p) ≡ Ok q → GivesSignedStamp (c ∷ text) p q
stamp_by_plus c text p q true e h = signed_stamp_gives false c text p q (same_byte c 43 e) h
stamp_by_plus c text p q false e h = unsigned_stamp_gives (c ∷ text) p q h

stamp_by_minus : (c : ℕ) (text : List ℕ) (p : Parsed) (q : Progress) → (b : Bool) → (c == 45) ≡ b
    → (if b then stamp_digits true text p else if c == 43 then stamp_digits false text p else stamp_digits false (c ∷ text) p) ≡ Ok q → GivesSignedStamp (c ∷ text) p q
stamp_by_minus c text p q true e h = signed_stamp_gives true c text p q (same_byte c 45 e) h
stamp_by_minus c text p q false e h = stamp_by_plus c text p q (c == 43) refl h

stamp_is : (text : List ℕ) (p : Parsed) (q : Progress) → signed_stamp text p ≡ Ok q → GivesSignedStamp text p q
unfolding signed_stamp
stamp_is [] p q h = no_answer _ _ h
stamp_is (c ∷ text) p q h = stamp_by_minus c text p q (c == 45) refl h

stamp_front : (negative : Bool) (digits : List ℕ) (p : Parsed) → signed_stamp ((if negative then 45 else 43) ∷ digits) p ≡ stamp_digits negative digits p
unfolding signed_stamp
stamp_front true digits p = refl
stamp_front false digits p = refl

stamp_by_sign : (sign : Option Bool) (n : ℕ) (ds : List ℕ) (p : Parsed) (q : Progress) → digits_of 18 ds ≡ Some n → NoneOf Digit q.rest
    → put_stamp (signed (is_below sign) n) p ≡ Ok q.parsed → signed_stamp (sign_text sign ++ (ds ++ q.rest)) p ≡ Ok q
stamp_by_sign None n ds p q value ends given =
    let are = numeral 18 n ds value in unsigned_stamp ds q.rest n p are.0 ∙ stamp_counted ds q.rest n false p q.parsed are.0 are.1 ends given
stamp_by_sign (Some negative) n ds p q value ends given =
    let are = numeral 18 n ds value in stamp_front negative (ds ++ q.rest) p ∙ stamp_counted ds q.rest n negative p q.parsed are.0 are.1 ends given

stamp_gives : (r q : Progress) → GivesSignedStamp (behind_blanks r.rest) r.parsed q → ReadsStamp r q
stamp_gives r q is =
    let count = class_len Blank r.rest in
    record {
      blanks = take count r.rest;
      sign = is.sign;
      digits = is.digits;
      n = is.n;
      space = front_all Blank r.rest;
      value = is.value;
      ends = is.ends;
      written = sym (take-append-drop count r.rest) ∙ ap (λ (l : List ℕ). take count r.rest ++ l) is.written;
      given = is.given;
    }

stamp_back : (r q : Progress) → ReadsStamp r q → stamp_read r ≡ Ok q
stamp_back r q is =
    let are = numeral 18 is.n is.digits is.value in
    let text = ap (λ (l : List ℕ). behind_blanks l) is.written ∙ behind_signed is.blanks is.sign is.digits q.rest is.n is.space are.0 in
    ap (λ (l : List ℕ). signed_stamp l r.parsed) text ∙ stamp_by_sign is.sign is.n is.digits r.parsed q is.value is.ends is.given

pub stamp_exact : Exact stamp_read ReadsStamp
stamp_exact r q = (λ h. stamp_gives r q (stamp_is (behind_blanks r.rest) r.parsed q h), stamp_back r q)
