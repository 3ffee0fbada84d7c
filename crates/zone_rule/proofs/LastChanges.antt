-- Which of the seconds of a change is the last one by u.
use Rattle.std.proofs.Common.{◌≡◌, ℤ, pos, ◌+ℤ◌, ◌-ℤ◌, ◌≤ℤ◌, ◌<ℤ◌, Bool, true, false, cond, int_le, sym, ap, ◌∙◌, arith}
use Rattle.std.proofs.lemmas.Bool.{cond_both}
use Rattle.std.proofs.lemmas.Int.{ints}
use Rattle.std.specs.Prelude.{Option, Some}
use Rattle.chrono_clock.proofs.TimeLemmas.{int_le-above, int_le-below}
use Rattle.chrono_calendar.specs.Days.{year_of}
use Rattle.chrono_calendar.proofs.Names.{ordinal_name_of-number, year_length_bounds}
use Rattle.chrono_calendar.proofs.Signed.{signed}
use Rattle.chrono_calendar.proofs.Years.{days_before_year-closed}
use Rattle.zone_rule.specs.Changes.{IsYearOfCycle, change_second, last_by, year_of_second}
use Rattle.zone_rule.specs.Rules.{ahead_by, is_daylight}
use Rattle.zone_rule.specs.declared.rule.Daylight.{Daylight}

pub is_by-fact : (x u : ℤ) → int_le x u ≡ true → x ≤ℤ u
is_by-fact x u h = grind (arith, ints)

pub is_later-fact : (x u : ℤ) → int_le x u ≡ false → u <ℤ x
is_later-fact x u h = grind (arith, ints)

pub last_by-next : (second : ℤ → ℤ) (y u a : ℤ) → a ≡ second (y +ℤ pos 1) → a ≤ℤ u → a ≡ last_by second y u
last_by-next second y u a at_a by =
    let test : int_le (second (y +ℤ pos 1)) u ≡ true = int_le-below (second (y +ℤ pos 1)) u (omega (arith, signed, at_a, by)) in
    rw test at_a

pub last_by-same : (second : ℤ → ℤ) (y u a b : ℤ) → a ≡ second (y +ℤ pos 1) → u <ℤ a → b ≡ second y → b ≤ℤ u → b ≡ last_by second y u
last_by-same second y u a b at_a later at_b by =
    let first : int_le (second (y +ℤ pos 1)) u ≡ false = int_le-above (second (y +ℤ pos 1)) u (omega (arith, signed, at_a, later)) in
    let test : int_le (second y) u ≡ true = int_le-below (second y) u (omega (arith, signed, at_b, by)) in
    rw (first, test) at_b

pub last_by-before : (second : ℤ → ℤ) (y u a b c : ℤ) → a ≡ second (y +ℤ pos 1) → u <ℤ a → b ≡ second y → u <ℤ b → c ≡ second (y -ℤ pos 1) → c ≤ℤ u → c ≡ last_by second y u
last_by-before second y u a b c at_a a_later at_b b_later at_c by =
    let first : int_le (second (y +ℤ pos 1)) u ≡ false = int_le-above (second (y +ℤ pos 1)) u (omega (arith, signed, at_a, a_later)) in
    let middle : int_le (second y) u ≡ false = int_le-above (second y) u (omega (arith, signed, at_b, b_later)) in
    let test : int_le (second (y -ℤ pos 1)) u ≡ true = int_le-below (second (y -ℤ pos 1)) u (omega (arith, signed, at_c, by)) in
    rw (first, middle, test) at_c

pub last_by-first : (second : ℤ → ℤ) (y u a b c d : ℤ) → a ≡ second (y +ℤ pos 1) → u <ℤ a → b ≡ second y → u <ℤ b → c ≡ second (y -ℤ pos 1) → u <ℤ c → d ≡ second (y -ℤ pos 2) → d ≡ last_by second y u
last_by-first second y u a b c d at_a a_later at_b b_later at_c c_later at_d =
    let first : int_le (second (y +ℤ pos 1)) u ≡ false = int_le-above (second (y +ℤ pos 1)) u (omega (arith, signed, at_a, a_later)) in
    let middle : int_le (second y) u ≡ false = int_le-above (second y) u (omega (arith, signed, at_b, b_later)) in
    let last : int_le (second (y -ℤ pos 1)) u ≡ false = int_le-above (second (y -ℤ pos 1)) u (omega (arith, signed, at_c, c_later)) in
    rw (first, middle, last) at_d

-- the last change is that of some year
pub last_by-some : (f : ℤ → ℤ) (y u : ℤ) → (P : ℤ → Type 0) → ((w : ℤ) → P (f w)) → P (last_by f y u)
last_by-some f y u P each =
    cond_both (int_le (f (y +ℤ pos 1)) u) (f (y +ℤ pos 1)) (cond (int_le (f y) u) (f y) (cond (int_le (f (y -ℤ pos 1)) u) (f (y -ℤ pos 1)) (f (y -ℤ pos 2)))) P
    (λ _. each (y +ℤ pos 1))
    (λ _. cond_both (int_le (f y) u) (f y) (cond (int_le (f (y -ℤ pos 1)) u) (f (y -ℤ pos 1)) (f (y -ℤ pos 2))) P
    (λ _. each y)
    (λ _. cond_both (int_le (f (y -ℤ pos 1)) u) (f (y -ℤ pos 1)) (f (y -ℤ pos 2)) P (λ _. each (y -ℤ pos 1)) (λ _. each (y -ℤ pos 2))))

-- a day of the years 1969 to 2370 has a year there
pub year_of-cycle : (n : ℤ) → pos 719_162 ≤ℤ n → n ≤ℤ pos 865_262 → IsYearOfCycle (year_of n)
year_of-cycle n first last =
    let named = ordinal_name_of-number n in
    let days = days_before_year-closed (year_of n) in
    let bounds = year_length_bounds (year_of n) in
    (omega (arith, signed, named.number, named.exists.0, named.exists.1, days, bounds.1, first, last), omega (arith, signed, named.number, named.exists.0, named.exists.1, days, bounds.1, first, last))

-- daylight time holds as the last changes say, and the clock is ahead as that says
pub is_daylight-by : (offset : ℤ) (d : Daylight) (u a b : ℤ) → a ≡ last_by (change_second d.offset d.ends) (year_of_second u) u → b ≡ last_by (change_second offset d.begins) (year_of_second u) u → int_le a b ≡ is_daylight offset d u
unfolding is_daylight
is_daylight-by offset d u a b ended begun =
    ap (λ (x : ℤ). int_le x b) ended ∙ ap (λ (x : ℤ). int_le (last_by (change_second d.offset d.ends) (year_of_second u) u) x) begun

pub ahead_by-daylight : (offset : ℤ) (d : Daylight) (u : ℤ) (daylight : Option Daylight) → daylight ≡ Some d → is_daylight offset d u ≡ true → d.offset ≡ ahead_by offset daylight u
ahead_by-daylight offset d u daylight is holds =
    sym (ap (λ (o : Option Daylight). ahead_by offset o u) is ∙ ap (λ (b : Bool). cond b d.offset offset) holds)

pub ahead_by-standard : (offset : ℤ) (d : Daylight) (u : ℤ) (daylight : Option Daylight) → daylight ≡ Some d → is_daylight offset d u ≡ false → offset ≡ ahead_by offset daylight u
ahead_by-standard offset d u daylight is holds =
    sym (ap (λ (o : Option Daylight). ahead_by offset o u) is ∙ ap (λ (b : Bool). cond b d.offset offset) holds)
