-- The words of RFC 2822, and the date-time and the offset that they write.
use Rattle.std.proofs.Common.{◌≡◌, inl, inr, ℕ, ◌<◌, ℤ, ◌-ℤ◌, List, [], ◌∷◌, ◌++◌, codes, length, take, drop, get_or, Option, None, Some, IfSome, refl, sym, ap, subst, ◌∙◌, arith}
use Rattle.std.specs.Prelude.{IsSomeAnd}
use Rattle.chrono_datetime.specs.Moment.{Moment}
use Rattle.chrono_datetime.specs.Names.{month_of_letters}
use Rattle.chrono_datetime.specs.Time.{TimeOfDay}
use Rattle.chrono_datetime.specs.declared.Month.{Month}
use Rattle.chrono_instant.specs.Instants.{IsEpochSecond, epoch_second}
use Rattle.chrono_instant.specs.Offsets.{moment_ahead}
use Rattle.chrono_text.specs.Numbers.{digits_of, natural_of}
use Rattle.chrono_zoned.specs.Zoned.{Zoned}
use Rattle.chrono_stamps.proofs.StampLemmas.{IsFound}
use Rattle.chrono_stamps.specs.Rfc2822.{IsDayOfWeek, IsMailDate, IsMailTime, IsMailZone, IsRfc2822Text, hours_behind}

-- ---- lists of a few bytes

pub two_bytes : (l : List ℕ) → length l ≡ 2 → l ≡ get_or l 0 0 ∷ get_or l 1 0 ∷ []
two_bytes [] e = absurd (omega (arith, e))
two_bytes (a ∷ []) e = absurd (omega (arith, e))
two_bytes (a ∷ b ∷ []) e = refl
two_bytes (a ∷ b ∷ c ∷ l) e = absurd (omega (arith, e))

pub five_bytes : (l : List ℕ) → length l ≡ 5
    → take 3 l ++ codes ":" ++ drop 3 l ≡ get_or l 0 0 ∷ get_or l 1 0 ∷ get_or l 2 0 ∷ 58 ∷ get_or l 3 0 ∷ get_or l 4 0 ∷ []
five_bytes [] e = absurd (omega (arith, e))
five_bytes (a ∷ []) e = absurd (omega (arith, e))
five_bytes (a ∷ b ∷ []) e = absurd (omega (arith, e))
five_bytes (a ∷ b ∷ c ∷ []) e = absurd (omega (arith, e))
five_bytes (a ∷ b ∷ c ∷ d ∷ []) e = absurd (omega (arith, e))
five_bytes (a ∷ b ∷ c ∷ d ∷ f ∷ []) e = refl
five_bytes (a ∷ b ∷ c ∷ d ∷ f ∷ g ∷ l) e = absurd (omega (arith, e))

pub clock_bytes : (hour minute second : List ℕ) (a b : ℕ) → length hour ≡ 2 → length minute ≡ 2 → second ≡ a ∷ b ∷ []
    → hour ++ codes ":" ++ minute ++ codes ":" ++ second ≡ get_or hour 0 0 ∷ get_or hour 1 0 ∷ 58 ∷ get_or minute 0 0 ∷ get_or minute 1 0 ∷ 58 ∷ a ∷ b ∷ []
clock_bytes hour minute second a b h m s =
    ap (λ (l : List ℕ). l ++ codes ":" ++ minute ++ codes ":" ++ second) (two_bytes hour h)
    ∙ ap (λ (l : List ℕ). (get_or hour 0 0 ∷ get_or hour 1 0 ∷ []) ++ codes ":" ++ l ++ codes ":" ++ second) (two_bytes minute m)
    ∙ ap (λ (l : List ℕ). (get_or hour 0 0 ∷ get_or hour 1 0 ∷ []) ++ codes ":" ++ (get_or minute 0 0 ∷ get_or minute 1 0 ∷ []) ++ codes ":" ++ l) s

-- ---- words with a meaning have a byte

pub some_day : (w : List ℕ) (n : ℕ) → digits_of 2 w ≡ Some n → 0 < length w
unfolding digits_of natural_of
some_day [] n e = absurd cc
some_day (c ∷ w) n e = omega arith

pub some_month : (w : List ℕ) (m : Month) → month_of_letters w ≡ Some m → 0 < length w
unfolding month_of_letters
some_month [] m e = absurd cc
some_month (c ∷ w) m e = omega arith

some_name : (w : List ℕ) (n : ℕ) → hours_behind w ≡ Some n → 0 < length w
unfolding hours_behind
some_name [] n e = absurd cc
some_name (c ∷ w) n e = omega arith

pub some_zone : (w : List ℕ) (x : ℤ) → IsMailZone w x → 0 < length w
some_zone w x (inl is) = omega (arith, is.long)
some_zone w x (inr is) = some_name w is.hours is.behind

-- ---- the same words

pub same_date : (a b c day month year : List ℕ) (n : ℤ) → a ≡ day → b ≡ month → c ≡ year → IsMailDate day month year n → IsMailDate a b c n
same_date a b c day month year n d m y is =
    subst (λ (l : List ℕ). IsMailDate l b c n) (sym d) (subst (λ (l : List ℕ). IsMailDate day l c n) (sym m) (subst (λ (l : List ℕ). IsMailDate day month l n) (sym y) is))

pub same_time : (a b c hour minute second : List ℕ) (t : TimeOfDay) → a ≡ hour → b ≡ minute → c ≡ second → IsMailTime hour minute second t → IsMailTime a b c t
same_time a b c hour minute second t h m s is =
    subst (λ (l : List ℕ). IsMailTime l b c t) (sym h) (subst (λ (l : List ℕ). IsMailTime hour l c t) (sym m) (subst (λ (l : List ℕ). IsMailTime hour minute l t) (sym s) is))

pub same_weekday : (a weekday : List ℕ) (d n : ℤ) → a ≡ weekday → d ≡ n → IsDayOfWeek weekday n → IsDayOfWeek a d
same_weekday a weekday d n w e is = subst (λ (l : List ℕ). IsDayOfWeek l d) (sym w) (subst (λ (k : ℤ). IsDayOfWeek weekday k) (sym e) is)

-- ---- the instant

-- what is found of a text
pub stamp_found : (text : List ℕ) (m : Moment) (x : ℤ) (r : Option (Zoned ℤ)) → (IsEpochSecond (epoch_second m -ℤ x) → IsRfc2822Text text m x)
    → IfSome r (λ d. moment_ahead d.utc d.zone ≡ m) → IfSome r (λ d. d.zone ≡ x) → IfSome r (λ d. IsEpochSecond (epoch_second m -ℤ x))
    → IfSome r (λ d. IsRfc2822Text text (moment_ahead d.utc d.zone) d.zone)
stamp_found text m x None make local zone instant = tt
stamp_found text m x (Some d) make local zone instant =
    subst (λ (y : ℤ). IsRfc2822Text text (moment_ahead d.utc d.zone) y) (sym zone) (subst (λ (n : Moment). IsRfc2822Text text n x) (sym local) (make instant))

-- and that is the only date-time and offset of the text
pub same_stamp : (m n : Moment) (x y : ℤ) (r : Option (Zoned ℤ)) → n ≡ m → y ≡ x
    → (IsEpochSecond (epoch_second n -ℤ y) → IsSomeAnd r (IsFound n y)) → IsEpochSecond (epoch_second m -ℤ x) → IsSomeAnd r (IsFound m x)
same_stamp m n x y r local offset every instant =
    let there = subst (λ (k : Moment). IsEpochSecond (epoch_second k -ℤ y)) (sym local) (subst (λ (z : ℤ). IsEpochSecond (epoch_second m -ℤ z)) (sym offset) instant) in
    subst (λ (k : Moment). IsSomeAnd r (IsFound k x)) local (subst (λ (z : ℤ). IsSomeAnd r (IsFound n z)) offset (every there))
