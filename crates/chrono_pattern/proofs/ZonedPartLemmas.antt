-- The date-time that the seconds from 1970 name, and the instant of a local date-time with its offset.
use Rattle.std.proofs.Common.{◌≡◌, ℕ, ℤ, pos, ◌+◌, ◌/◌, ◌%◌, ◌≤◌, ◌<◌, ◌+ℤ◌, ◌-ℤ◌, ◌↔◌, ◌⊎◌, inl, inr, if◌then◌else◌, Bool, true, false, ◌&&◌, ◌||◌, Option, None, Some, Result, Ok, Err, neg_ℤ, refl, ap, sym, subst, ◌∙◌, arith}
use Rattle.std.proofs.lemmas.Bool.{and_from, and_parts, false≢true, le-leb, leb-false, leb-true, lt-leb}
use Rattle.std.proofs.lemmas.Bool.Decides.{Decides-int_eq}
use Rattle.std.proofs.lemmas.Int.{ints}
use Rattle.std.specs.Ordering.{int_eq}
use Rattle.std.specs.Prelude.{IfSome, IsSome}
use Rattle.chrono_calendar.proofs.Signed.{signed}
use Rattle.chrono_datetime.specs.Moment.{Moment, IsMoment}
use Rattle.chrono_instant.proofs.InstantLemmas.{IsEpochSecond-moment, LiesIn-once, epoch_second-ahead, one_moment}
use Rattle.chrono_instant.specs.Instants.{IsEpochSecond, LiesIn, epoch_second, second_of_minute}
use Rattle.chrono_instant.specs.Offsets.{IsOffset, IsShifted, moment_ahead}
use Rattle.chrono_datetime.specs.Duration.{nanos_per_second}
use Rattle.chrono_datetime.specs.Time.{FractionFits, TimeOfDay, is_leap, second_of}
use Rattle.chrono_pattern.proofs.TimePartLemmas.{counted}
use Rattle.chrono_pattern.specs.DateParts.{date_fits, is_present, names_date}
use Rattle.chrono_pattern.specs.TimeParts.{IsClockTime, clock_fits, counts, names_time, size_or_zero}
use Rattle.chrono_pattern.specs.ZonedParts.{IsClockMoment, IsClockZoned, fits_by, is_next_to, is_stamp_of, moment_fits, names_leap, names_moment, names_zoned, shows_second, zoned_fits, stamped_time_fits}
use Rattle.chrono_pattern.specs.declared.error.ReadFault.{ReadFault}
use Rattle.chrono_pattern.specs.declared.parsed.Parsed.{Parsed}
use Rattle.chrono_zoned.specs.Zoned.{Zoned}

-- ---- an instant of a fixed offset

-- UTC has a date where it has one for the instant
pub utc_second : (local : Moment) (d : Zoned ℤ) (x : ℤ) → d.zone ≡ x → moment_ahead d.utc d.zone ≡ local → epoch_second local -ℤ x ≡ epoch_second d.utc
utc_second local d x zone shown =
    let ahead : epoch_second local ≡ (epoch_second d.utc +ℤ d.zone) = ap epoch_second (sym shown) ∙ epoch_second-ahead d.utc d.zone in
    omega (arith, ints, ahead, zone)

pub there : (local : Moment) (d : Zoned ℤ) (x : ℤ) → IsMoment d.utc → d.zone ≡ x → moment_ahead d.utc d.zone ≡ local → IsEpochSecond (epoch_second local -ℤ x)
there local d x i zone shown = subst IsEpochSecond (sym (utc_second local d x zone shown)) (IsEpochSecond-moment d.utc i)

pub not_none : (r : Option Moment) → IsSome r → r ≡ None → ⊥
not_none None h e = false≢true h
not_none (Some m) h e = cc

-- the instant is that of UTC's date-time
pub same_instant : (utc local : Moment) (d : Zoned ℤ) (x : ℤ) → IsMoment d.utc → d.zone ≡ x → moment_ahead d.utc d.zone ≡ local
    → IsShifted local (neg_ℤ x) utc → record { utc = utc; zone = x } ≡ d
same_instant utc local d x i zone shown shifted =
    let second : epoch_second utc ≡ epoch_second d.utc = shifted.second ∙ omega (arith, ints, utc_second local d x zone shown) in
    let fraction : utc.time.fraction ≡ d.utc.time.fraction = shifted.fraction ∙ ap (λ (m : Moment). m.time.fraction) (sym shown) in
    let same = one_moment utc d.utc shifted.exists.time i.time second fraction in
    ap (λ (m : Moment). record { utc = m; zone = x }) same ∙ ap (λ (z : ℤ). record { utc = d.utc; zone = z }) (sym zone)

-- the local second is one of a date
pub shows_date : (utc local : Moment) (x : ℤ) → IsMoment local → IsShifted local (neg_ℤ x) utc → IsEpochSecond (epoch_second utc +ℤ x)
shows_date utc local x i shifted =
    let back : (epoch_second utc +ℤ x) ≡ epoch_second local = omega (arith, ints, shifted.second) in
    subst IsEpochSecond (sym back) (IsEpochSecond-moment local i)

pub found_as : (r : Option (Zoned ℤ)) (z d : Zoned ℤ) → IfSome r (λ e. e ≡ z) → IsSome r → z ≡ d → r ≡ Some d
found_as None z d value some same = absurd (false≢true some)
found_as (Some e) z d value some same = ap Some (value ∙ same)

-- ---- a second from 1970

day_place : (m : Moment) → IsMoment m → second_of_minute (epoch_second m) ≡ second_of m.time
day_place m i = omega (arith, signed, i.time.second)

pub found_at : (r : Option Moment) (s : ℤ) (nanos : ℕ) (m : Moment) → IfSome r (LiesIn s nanos)
    → (IsSome r ↔ (IsEpochSecond s × FractionFits (second_of_minute s) nanos))
    → IsMoment m → IsClockTime m.time → epoch_second m ≡ s → m.time.fraction ≡ nanos → r ≡ Some m
found_at None s nanos m lies exists i clock second fraction =
    let minute : second_of_minute s ≡ second_of m.time = ap second_of_minute (sym second) ∙ day_place m i in
    let fits : FractionFits (second_of_minute s) nanos = subst (λ (n : ℕ). FractionFits (second_of_minute s) n) fraction (subst (λ (n : ℕ). FractionFits n m.time.fraction) (sym minute) clock.leap) in
    absurd (false≢true (exists.1 (subst IsEpochSecond second (IsEpochSecond-moment m i), fits)))
found_at (Some found) s nanos m lies exists i clock second fraction =
    ap Some (LiesIn-once s nanos found m lies (record { second = second; past = fraction; exists = i }))

-- what is found is a date-time that a clock shows
pub shown_at : (r : Option Moment) (s : ℤ) (nanos : ℕ) → IfSome r (LiesIn s nanos)
    → (IsSome r ↔ (IsEpochSecond s × FractionFits (second_of_minute s) nanos)) → IfSome r (λ m. IsClockMoment m)
shown_at None s nanos lies exists = tt
shown_at (Some m) s nanos lies exists =
    let minute : second_of_minute s ≡ second_of m.time = ap second_of_minute (sym lies.second) ∙ day_place m lies.exists in
    let fits = subst (λ (n : ℕ). FractionFits (second_of_minute s) n) (sym lies.past) (exists.0 refl).1 in
    (lies.exists.date, record { time = lies.exists.time; leap = subst (λ (n : ℕ). FractionFits n m.time.fraction) minute fits })

-- ---- the second and the fraction that are given beside the seconds from 1970

not_so : (b : Bool) → (if b then false else true) ≡ true → b ≡ false
not_so true h = absurd (false≢true h)
not_so false h = refl

second_given : (p : Parsed) (t : TimeOfDay) → stamped_time_fits p t ≡ true → shows_second p.second t ≡ true
unfolding stamped_time_fits
second_given p t h =
    (and_parts (shows_second p.second t) (counts p.nanosecond (pos (t.fraction % nanos_per_second))) (and_parts (clock_fits p t) _ h).1).0

nanos_given : (p : Parsed) (t : TimeOfDay) → stamped_time_fits p t ≡ true → size_or_zero p.nanosecond ≡ t.fraction % nanos_per_second
unfolding stamped_time_fits
nanos_given p t h =
    counted p.nanosecond (t.fraction % nanos_per_second)
    (and_parts (shows_second p.second t) (counts p.nanosecond (pos (t.fraction % nanos_per_second))) (and_parts (clock_fits p t) _ h).1).1

leap_shown : (o : Option ℤ) (t : TimeOfDay) → names_leap o ≡ true → shows_second o t ≡ true → nanos_per_second ≤ t.fraction
leap_shown None t sixty shown = absurd (false≢true sixty)
leap_shown (Some v) t sixty shown =
    let is : v ≡ pos 60 = (Decides-int_eq v (pos 60)).0 sixty in
    let same : v ≡ pos (second_of t + t.fraction / nanos_per_second) = (Decides-int_eq v (pos (second_of t + t.fraction / nanos_per_second))).0 shown in
    omega (arith, ints, is, same)

sixty : (v : ℤ) (t : TimeOfDay) → IsClockTime t → v ≡ pos (second_of t + t.fraction / nanos_per_second) → nanos_per_second ≤ t.fraction → v ≡ pos 60
sixty v t clock same leap = omega (arith, ints, same, clock.leap.1 leap, clock.time.fraction, leap)

plain_by : (v : ℤ) (t : TimeOfDay) (b : Bool) → is_leap t ≡ b → IsClockTime t → int_eq v (pos 60) ≡ false → v ≡ pos (second_of t + t.fraction / nanos_per_second)
    → t.fraction < nanos_per_second
plain_by v t false is clock other same = leb-false nanos_per_second t.fraction is
plain_by v t true is clock other same =
    absurd (false≢true (sym other ∙ (Decides-int_eq v (pos 60)).1 (sixty v t clock same (leb-true nanos_per_second t.fraction is))))

plain_shown : (o : Option ℤ) (t : TimeOfDay) → IsClockTime t → names_leap o ≡ false → shows_second o t ≡ true → t.fraction < nanos_per_second
plain_shown None t clock other shown = leb-false nanos_per_second t.fraction (not_so (is_leap t) shown)
plain_shown (Some v) t clock other shown =
    plain_by v t (is_leap t) refl clock other ((Decides-int_eq v (pos (second_of t + t.fraction / nanos_per_second))).0 shown)

pub leap_fraction : (p : Parsed) (t : TimeOfDay) → IsClockTime t → names_leap p.second ≡ true → stamped_time_fits p t ≡ true
    → t.fraction ≡ nanos_per_second + size_or_zero p.nanosecond
leap_fraction p t clock sixty fits =
    omega (arith, leap_shown p.second t sixty (second_given p t fits), nanos_given p t fits, clock.time.fraction)

pub plain_fraction : (p : Parsed) (t : TimeOfDay) → IsClockTime t → names_leap p.second ≡ false → stamped_time_fits p t ≡ true
    → t.fraction ≡ size_or_zero p.nanosecond
plain_fraction p t clock other fits =
    omega (arith, plain_shown p.second t clock other (second_given p t fits), nanos_given p t fits)

-- ---- the second that is named

by_second : (s x : ℤ) (m : Moment) (l : ℤ) → l ≡ s +ℤ x → (a : Bool) → int_eq s (epoch_second m -ℤ x) ≡ a → (a || int_eq s (epoch_second m -ℤ x +ℤ pos 1)) ≡ true
    → (l ≡ epoch_second m) ⊎ (l ≡ epoch_second m +ℤ pos 1)
by_second s x m l is true e h = inl (omega (arith, ints, is, (Decides-int_eq s (epoch_second m -ℤ x)).0 e))
by_second s x m l is false e h = inr (omega (arith, ints, is, (Decides-int_eq s (epoch_second m -ℤ x +ℤ pos 1)).0 h))

pub leap_named : (s x : ℤ) (m : Moment) (l : ℤ) → nanos_per_second ≤ m.time.fraction → is_stamp_of s m x ≡ true → l ≡ s +ℤ x
    → (l ≡ epoch_second m) ⊎ (l ≡ epoch_second m +ℤ pos 1)
leap_named s x m l leap h is =
    let test = ap (λ (b : Bool). if b then is_next_to s (epoch_second m -ℤ x) else int_eq s (epoch_second m -ℤ x)) (le-leb nanos_per_second m.time.fraction leap) in
    by_second s x m l is (int_eq s (epoch_second m -ℤ x)) refl (sym test ∙ h)

pub plain_named : (s x : ℤ) (m : Moment) → m.time.fraction < nanos_per_second → is_stamp_of s m x ≡ true → epoch_second m ≡ s +ℤ x
plain_named s x m plain h =
    let test = ap (λ (b : Bool). if b then is_next_to s (epoch_second m -ℤ x) else int_eq s (epoch_second m -ℤ x)) (lt-leb nanos_per_second m.time.fraction plain) in
    let same = (Decides-int_eq s (epoch_second m -ℤ x)).0 (sym test ∙ h) in
    omega (arith, ints, same)

pub leap_above : (p : Parsed) (t : TimeOfDay) → names_leap p.second ≡ true → stamped_time_fits p t ≡ true → nanos_per_second ≤ t.fraction
leap_above p t sixty fits = leap_shown p.second t sixty (second_given p t fits)

pub plain_below : (p : Parsed) (t : TimeOfDay) → IsClockTime t → names_leap p.second ≡ false → stamped_time_fits p t ≡ true
    → t.fraction < nanos_per_second
plain_below p t clock other fits = plain_shown p.second t clock other (second_given p t fits)

-- ---- all parts

pub record FitsStamp (p : Parsed) (s : ℤ) (m : Moment) (x : ℤ) : Type 0 where
  pub date : date_fits p m.date ≡ true
  pub time : stamped_time_fits p m.time ≡ true
  pub stamp : is_stamp_of s m x ≡ true

pub fits_stamp : (p : Parsed) (s : ℤ) (m : Moment) (x : ℤ) → p.timestamp ≡ Some s → moment_fits p m x ≡ true → FitsStamp p s m x
unfolding moment_fits
fits_stamp p s m x is h =
    let both = and_parts (date_fits p m.date) (fits_by p.timestamp p m x) h in
    let rest = and_parts (stamped_time_fits p m.time) (is_stamp_of s m x) (sym (ap (λ (o : Option ℤ). fits_by o p m x) is) ∙ both.1) in
    record { date = both.0; time = rest.0; stamp = rest.1 }

pub offset_fits : (p : Parsed) (m : Moment) (x : ℤ) → zoned_fits p m x ≡ true → (counts p.offset x ≡ true) × (moment_fits p m x ≡ true)
unfolding zoned_fits
offset_fits p m x h = and_parts (counts p.offset x) (moment_fits p m x) h

pub both_fit : (p : Parsed) (m : Moment) (x : ℤ) → counts p.offset x ≡ true → moment_fits p m x ≡ true → zoned_fits p m x ≡ true
unfolding zoned_fits
both_fit p m x offset moment = and_from (counts p.offset x) (moment_fits p m x) offset moment

if_stamped : (b rest offset : Bool) → (if b then true else (if b then true else rest) && offset) ≡ true → (if b then true else rest) ≡ true
if_stamped true rest offset h = refl
if_stamped false rest offset h = (and_parts rest offset h).0

pub moment_named : (p : Parsed) → names_zoned p ≡ true → names_moment p ≡ true
unfolding names_zoned names_moment
moment_named p h = if_stamped (is_present p.timestamp) (names_date p && names_time p) (is_present p.offset) h

-- ---- what is found

pub same_offset : (o : Option ℤ) (a b : ℤ) → o ≡ Some a → o ≡ Some b → a ≡ b
same_offset o a b h k = cc

pub no_offset : (o : Option ℤ) (a : ℤ) → o ≡ Some a → o ≡ None → ⊥
no_offset o a h k = cc

pub same_local : (o : Result Moment ReadFault) (a b : Moment) → o ≡ Ok a → o ≡ Ok b → a ≡ b
same_local o a b h k = cc

pub no_local : (o : Result Moment ReadFault) (a : Moment) (cause : ReadFault) → o ≡ Ok a → o ≡ Err cause → ⊥
no_local o a cause h k = cc

pub zoned_found : (p : Parsed) (r : Option (Zoned ℤ)) (m : Moment) (x : ℤ) → IfSome r (λ d. moment_ahead d.utc d.zone ≡ m) → IfSome r (λ d. d.zone ≡ x)
    → counts p.offset x ≡ true → moment_fits p m x ≡ true → IfSome r (λ d. zoned_fits p (moment_ahead d.utc d.zone) d.zone ≡ true)
zoned_found p None m x local zone offset fits = tt
zoned_found p (Some d) m x local zone offset fits =
    ap (λ (n : Moment). zoned_fits p n d.zone) local ∙ ap (λ (z : ℤ). zoned_fits p m z) zone ∙ both_fit p m x offset fits

-- it is one that a clock shows
pub zoned_shown : (r : Option (Zoned ℤ)) (m : Moment) (x : ℤ) → IfSome r (λ d. moment_ahead d.utc d.zone ≡ m) → IfSome r (λ d. d.zone ≡ x)
    → IfSome r (λ d. IsMoment d.utc) → IsOffset x → IsClockMoment m → IfSome r (λ d. IsClockZoned d)
zoned_shown None m x local zone utc near shown = tt
zoned_shown (Some d) m x local zone utc near shown = (utc, subst IsOffset (sym zone) near, subst IsClockMoment (sym local) shown)

pub of_utc : (r : Option (Zoned ℤ)) (utc : Moment) (x : ℤ) → IfSome r (λ d. d ≡ record { utc = utc; zone = x }) → IsMoment utc → IfSome r (λ d. IsMoment d.utc)
of_utc None utc x value i = tt
of_utc (Some d) utc x value i = subst IsMoment (sym (ap (λ (z : Zoned ℤ). z.utc) value)) i

-- the offset and the local date-time of a zoned one that fits
pub local_fits : (p : Parsed) (m : Moment) (x y : ℤ) → y ≡ x → zoned_fits p m y ≡ true → moment_fits p m x ≡ true
local_fits p m x y same h = sym (ap (λ (z : ℤ). moment_fits p m z) same) ∙ (offset_fits p m y h).1
