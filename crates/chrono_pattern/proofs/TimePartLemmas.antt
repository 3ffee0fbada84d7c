-- The time of day that fits parts is the one that they name.
use Rattle.std.proofs.Common.{◌≡◌, ℕ, true, ◌&&◌, ◌+◌, ◌/◌, ◌%◌, Option, None, Some, ℤ, pos, ap, sym, ◌∙◌, arith}
use Rattle.std.proofs.lemmas.Bool.{and_parts, false≢true}
use Rattle.std.proofs.lemmas.Bool.Decides.{Decides-int_eq}
use Rattle.std.specs.Cmp.Derive.{both_true}
use Rattle.std.specs.Prelude.{IfSome}
use Rattle.chrono_datetime.specs.Duration.{nanos_per_second}
use Rattle.chrono_datetime.specs.Time.{TimeOfDay, hour_of, minute_of, second_of}
use Rattle.chrono_pattern.specs.DateParts.{is_present, says}
use Rattle.chrono_pattern.specs.TimeParts.{clock_fits, counts, names_second, names_time, second_fits, size_or_zero, time_fits}
use Rattle.chrono_pattern.specs.declared.parsed.Parsed.{Parsed}
use Rattle.chrono_pattern.proofs.DatePartLemmas.{is_said}

pub record NamesTime (p : Parsed) : Type 0 where
  pub half : is_present p.hour_div_12 ≡ true
  pub hour : is_present p.hour_mod_12 ≡ true
  pub minute : is_present p.minute ≡ true

pub time_names : (p : Parsed) → names_time p ≡ true → NamesTime p
unfolding names_time
time_names p named =
    let both = and_parts (is_present p.hour_div_12 && is_present p.hour_mod_12) (is_present p.minute && names_second p) named in
    let front = and_parts (is_present p.hour_div_12) (is_present p.hour_mod_12) both.0 in
    record { half = front.0; hour = front.1; minute = (and_parts (is_present p.minute) (names_second p) both.1).0 }

-- a part that is given and fits is that value
exactly : (o : Option ℤ) (v : ℤ) → is_present o ≡ true → says o v ≡ true → o ≡ Some v
exactly None v here fits = absurd (false≢true here)
exactly (Some w) v here fits = ap (λ (x : ℤ). Some x) ((Decides-int_eq w v).0 fits)

pub half_is : (p : Parsed) (t : TimeOfDay) → names_time p ≡ true → time_fits p t ≡ true → p.hour_div_12 ≡ Some (pos (hour_of t / 12))
unfolding time_fits clock_fits
half_is p t named fits = exactly p.hour_div_12 _ (time_names p named).half (and_parts _ _ (and_parts _ _ (and_parts _ _ fits).0).0).0

pub hour_is : (p : Parsed) (t : TimeOfDay) → names_time p ≡ true → time_fits p t ≡ true → p.hour_mod_12 ≡ Some (pos (hour_of t % 12))
unfolding time_fits clock_fits
hour_is p t named fits = exactly p.hour_mod_12 _ (time_names p named).hour (and_parts _ _ (and_parts _ _ (and_parts _ _ fits).0).0).1

pub minute_is : (p : Parsed) (t : TimeOfDay) → names_time p ≡ true → time_fits p t ≡ true → p.minute ≡ Some (pos (minute_of t))
unfolding time_fits clock_fits
minute_is p t named fits = exactly p.minute _ (time_names p named).minute (and_parts _ _ (and_parts _ _ fits).0).1

-- a part that counts has that size
pub counted : (o : Option ℤ) (k : ℕ) → counts o (pos k) ≡ true → size_or_zero o ≡ k
counted None k fits = grind (arith, Decides-int_eq (pos 0) (pos k))
counted (Some v) k fits = grind (arith, Decides-int_eq v (pos k))

pub second_counts : (p : Parsed) (t : TimeOfDay) → time_fits p t ≡ true → counts p.second (pos (second_of t + t.fraction / nanos_per_second)) ≡ true
unfolding time_fits second_fits
second_counts p t fits = (and_parts _ _ (and_parts _ _ fits).1).0

pub nanos_count : (p : Parsed) (t : TimeOfDay) → time_fits p t ≡ true → counts p.nanosecond (pos (t.fraction % nanos_per_second)) ≡ true
unfolding time_fits second_fits
nanos_count p t fits = (and_parts _ _ (and_parts _ _ fits).1).1

-- the time of the parts fits them
pub record ShowsParts (found : Option TimeOfDay) (a b c d e : ℕ) : Type 0 where
  pub half : IfSome found (λ t. a ≡ hour_of t / 12)
  pub hour : IfSome found (λ t. b ≡ hour_of t % 12)
  pub minute : IfSome found (λ t. c ≡ minute_of t)
  pub second : IfSome found (λ t. d ≡ second_of t + t.fraction / nanos_per_second)
  pub nanos : IfSome found (λ t. e ≡ t.fraction % nanos_per_second)

pub time_of_parts : (p : Parsed) (half hour minute second nanos : ℕ) (found : Option TimeOfDay) → ShowsParts found half hour minute second nanos
    → p.hour_div_12 ≡ Some (pos half) → p.hour_mod_12 ≡ Some (pos hour) → p.minute ≡ Some (pos minute) → counts p.second (pos second) ≡ true
    → counts p.nanosecond (pos nanos) ≡ true → IfSome found (λ t. time_fits p t ≡ true)
unfolding time_fits clock_fits second_fits
time_of_parts p half hour minute second nanos None shows is_half is_hour is_minute is_second is_nanos = tt
time_of_parts p half hour minute second nanos (Some t) shows is_half is_hour is_minute is_second is_nanos =
    let of = λ (k : ℕ). Some (pos k) in
    both_true
    (both_true (both_true (is_said p.hour_div_12 _ (is_half ∙ ap of shows.half)) (is_said p.hour_mod_12 _ (is_hour ∙ ap of shows.hour))) (is_said p.minute _ (is_minute ∙ ap of shows.minute)))
    (both_true (ap (λ (k : ℕ). counts p.second (pos k)) (sym shows.second) ∙ is_second) (ap (λ (k : ℕ). counts p.nanosecond (pos k)) (sym shows.nanos) ∙ is_nanos))
