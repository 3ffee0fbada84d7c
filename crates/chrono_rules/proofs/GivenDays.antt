-- Days that are instances of a rule or dates beside them, and no exceptions.
use Rattle.std.proofs.Common.{◌≡◌, true, false, ◌||◌, ◌&&◌, not, refl, ap, ◌∙◌, arith, ℤ, ◌<ℤ◌}
use Rattle.std.proofs.lemmas.Int.{by_lt_z}
use Rattle.chrono_datetime.proofs.Signed.{signed}
use Rattle.chrono_rules.specs.Instances.{is_instance}
use Rattle.chrono_datetime.specs.RisingDates.{is_listed}
use Rattle.chrono_rules.specs.RecurrenceSets.{RecurrenceSet, is_in_recurrence, is_instance_or_date}
use Rattle.std.proofs.Math.Bool.{and-false, or-true}

pub given-instance : (s : RecurrenceSet) (e : ℤ) → is_instance s.rule s.start e ≡ true → is_instance_or_date s e ≡ true
unfolding is_instance_or_date
given-instance s e is = rw is refl

pub given-date : (s : RecurrenceSet) (e : ℤ) → is_listed s.dates e ≡ true → is_instance_or_date s e ≡ true
unfolding is_instance_or_date
given-date s e is = ap (λ b. is_instance s.rule s.start e || b) is ∙ or-true (is_instance s.rule s.start e)

pub not_given : (s : RecurrenceSet) (d : ℤ) → is_instance s.rule s.start d ≡ false → is_listed s.dates d ≡ false → is_instance_or_date s d ≡ false
unfolding is_instance_or_date
not_given s d instance listed = rw (instance, listed) refl

-- an exception is not in the recurrence, nor is a day that is not given
pub excepted : (s : RecurrenceSet) (d : ℤ) → is_listed s.exceptions d ≡ true → is_in_recurrence s d ≡ false
unfolding is_in_recurrence
excepted s d is = ap (λ b. is_instance_or_date s d && not b) is ∙ and-false (is_instance_or_date s d)

pub not_in : (s : RecurrenceSet) (d : ℤ) → is_instance_or_date s d ≡ false → is_in_recurrence s d ≡ false
unfolding is_in_recurrence
not_in s d none = rw none refl

pub in_recurrence : (s : RecurrenceSet) (e : ℤ) → is_instance_or_date s e ≡ true → is_listed s.exceptions e ≡ false → is_in_recurrence s e ≡ true
unfolding is_in_recurrence
in_recurrence s e given kept = rw (given, kept) refl

-- up to a day that is an exception, and behind it
pub none_through : (s : RecurrenceSet) (e d : ℤ) → is_listed s.exceptions e ≡ true → (d <ℤ e → is_in_recurrence s d ≡ false) → (e <ℤ d → is_in_recurrence s d ≡ false) → is_in_recurrence s d ≡ false
none_through s e d out before behind =
    by_lt_z d e (λ lt. before lt)
    (λ ge. by_lt_z e d (λ lt. behind lt) (λ le. let same : d ≡ e = omega (arith, signed, ge, le) in ap (is_in_recurrence s) same ∙ excepted s e out))
