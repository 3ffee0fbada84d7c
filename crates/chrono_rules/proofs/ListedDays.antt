-- The lists of a rule name its instances.
use Rattle.std.proofs.Common.{◌≡◌, ℕ, zero, suc, ◌+◌, ◌-◌, ◌/◌, true, false, not, ◌&&◌, ◌||◌, Bool, List, [], ◌∷◌, ℤ, refl, sym, arith}
use Rattle.std.specs.List.{list_any}
use Rattle.std.proofs.lemmas.Bool.{not-false, not-true, not_from_false, or_parts}
use Rattle.chrono_datetime.specs.Days.{day_of}
use Rattle.chrono_datetime.specs.MonthMoves.{month_length_of}
use Rattle.chrono_datetime.specs.Weekday.{days_from_monday}
use Rattle.chrono_datetime.specs.Weeks.{weekday_of}
use Rattle.chrono_sets.specs.FiniteSets.{FiniteSet, are_empty, has, is_empty}
use Rattle.chrono_sets.proofs.Members.{has-no_numbers, has-none}
use Rattle.chrono_rules.specs.ByParts.{counted_place, days_behind, has_numbers, on_month_day, on_weekday, passes}
use Rattle.chrono_rules.specs.Instances.{is_instance, is_member}
use Rattle.chrono_rules.specs.RuleParts.{lacks_month_days, lacks_weekdays, lists_nth}
use Rattle.chrono_rules.specs.declared.rule.Rule.{Rule}

-- ---- BYMONTHDAY

named_day : (r : Rule) (start n : ℤ) → lacks_month_days r ≡ false → is_instance r start n ≡ true → on_month_day r n ≡ true
unfolding is_instance is_member passes
named_day r start n some is = grind (arith, some, is)

front_day : (r : Rule) (n : ℤ) → is_empty r.month_days_from_end ≡ true → on_month_day r n ≡ true → has r.month_days (day_of n) ≡ true
unfolding on_month_day
front_day r n none is = grind (arith, has-none r.month_days_from_end ((month_length_of n - day_of n) + 1) none, is)

back_day : (r : Rule) (n : ℤ) → is_empty r.month_days ≡ true → on_month_day r n ≡ true → has r.month_days_from_end ((month_length_of n - day_of n) + 1) ≡ true
unfolding on_month_day
back_day r n none is = grind (arith, has-none r.month_days (day_of n) none, is)

-- a rule with days from the front alone, and one with days from the end alone
pub day_from_front : (r : Rule) (start n : ℤ) → is_empty r.month_days ≡ false → is_empty r.month_days_from_end ≡ true → is_instance r start n ≡ true → has r.month_days (day_of n) ≡ true
day_from_front r start n some none is =
    front_day r n none (named_day r start n (rw some refl) is)

pub day_from_end : (r : Rule) (start n : ℤ) → is_empty r.month_days ≡ true → is_empty r.month_days_from_end ≡ false → is_instance r start n ≡ true → has r.month_days_from_end ((month_length_of n - day_of n) + 1) ≡ true
day_from_end r start n none some is =
    back_day r n none (named_day r start n (rw (none, some) refl) is)

-- ---- BYDAY

named_weekday : (r : Rule) (start n : ℤ) → lacks_weekdays r ≡ false → is_instance r start n ≡ true → on_weekday r n ≡ true
unfolding is_instance is_member passes
named_weekday r start n some is = grind (arith, some, is)

-- in lists that are all empty no number stands
none_listed : (sets : List FiniteSet) (w k : ℕ) → are_empty sets ≡ true → lists_nth sets w k ≡ false
none_listed [] w k are = has-no_numbers k
none_listed (s ∷ sets) zero k are =
    let other = list_any (λ t. not (is_empty t)) sets in
    let none = or_parts (not (is_empty s)) other (not-true (not (is_empty s) || other) are) in
    has-none s k (not-false (is_empty s) none.0)
none_listed (s ∷ sets) (suc w) k are =
    let other = list_any (λ t. not (is_empty t)) sets in
    let none = or_parts (not (is_empty s)) other (not-true (not (is_empty s) || other) are) in
    none_listed sets w k (not_from_false other none.1)

neither : (every may front back : Bool) → front ≡ false → back ≡ false → (every || (may && (front || back))) ≡ true → every ≡ true
neither true may front back first last is = refl
neither false true true back first last is = sym first
neither false true false true first last is = sym last
neither false true false false first last is = is
neither false false front back first last is = is

-- a rule whose weekdays have no numbers
pub weekday_plain : (r : Rule) (start n : ℤ) → is_empty r.weekdays.every ≡ false → are_empty r.weekdays.front ≡ true → are_empty r.weekdays.back ≡ true → is_instance r start n ≡ true → has r.weekdays.every (days_from_monday (weekday_of n)) ≡ true
unfolding on_weekday
weekday_plain r start n some front back is =
    let w = days_from_monday (weekday_of n) in
    neither (has r.weekdays.every w) (has_numbers r.frequency)
    (lists_nth r.weekdays.front w (1 + (counted_place r n - 1) / 7)) (lists_nth r.weekdays.back w (1 + days_behind r n / 7))
    (none_listed r.weekdays.front w (1 + (counted_place r n - 1) / 7) front)
    (none_listed r.weekdays.back w (1 + days_behind r n / 7) back)
    (named_weekday r start n (rw some refl) is)
