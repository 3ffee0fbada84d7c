use Rattle.std.proofs.Common.{◌≡◌, true, zero, suc, [], ◌∷◌, refl, arith, pos, ◌≤ℤ◌, ◌<ℤ◌}
use Rattle.std.proofs.lemmas.Bool.{false≢true}
use Rattle.std.proofs.lemmas.List.Elements.{All-cons, All-nil}
use Rattle.chrono_datetime.specs.declared.Weekday.TheVariants.{Sat, Sun}
use Rattle.chrono_datetime.specs.WeekdaySet.{DaySet, set_of}
use Rattle.chrono_datetime.specs.Days.{IsDate}
use Rattle.chrono_datetime.specs.RisingDates.{AreRising}
use Rattle.chrono_datetime.proofs.Signed.{signed}
use Rattle.chrono_business.specs.OpenDays.{AreHolidays, is_workday}
use Rattle.chrono_business.proofs.law.known_wrong_holidays.Goals as goal

abbrev weekend : DaySet
weekend = set_of (Sat ∷ Sun ∷ [])

none : AreHolidays weekend []
none = record {
  dates = λ i d within. absurd (omega (arith, within));
  rising = λ i j d low within. absurd (omega (arith, within));
  workdays = λ i d within. absurd (omega (arith, within));
}

monday : AreHolidays weekend (pos 738_886 ∷ [])
monday = record {
  dates = All-cons IsDate (pos 738_886) [] (omega (arith, signed), omega (arith, signed)) (All-nil IsDate);
  rising = λ i j d low within. absurd (omega (arith, low, within));
  workdays = All-cons (λ h. is_workday weekend h ≡ true) (pos 738_886) [] refl (All-nil (λ h. is_workday weekend h ≡ true));
}

pub returns-clause-saturday : goal.returns-clause-saturday
returns-clause-saturday c = (record { within = omega arith; holidays = none }, λ d. refl)

pub returns-clause-twice : goal.returns-clause-twice
returns-clause-twice c = (
  record { within = omega arith; holidays = monday },
  omega arith,
  λ d. refl,
  λ d. omega (arith, signed),
)

pub returns-clause-both : goal.returns-clause-both
returns-clause-both c = (record { within = omega arith; holidays = monday }, λ d. refl)

pub returns-clause-not_both : goal.returns-clause-not_both
returns-clause-not_both c = λ wrong. false≢true (wrong.2 (pos 0))

pub returns-clause-tuesday : goal.returns-clause-tuesday
returns-clause-tuesday c = λ wrong.
    let le : pos 738_887 ≤ℤ pos 738_886 = wrong.3 (pos 0) in omega (arith, signed, le)

monday_and_tuesday : AreRising (pos 738_886 ∷ pos 738_887 ∷ [])
monday_and_tuesday zero zero d low within = absurd (omega (arith, low))
monday_and_tuesday zero (suc zero) d low within = omega (arith, signed)
monday_and_tuesday zero (suc (suc j)) d low within = absurd (omega (arith, within))
monday_and_tuesday (suc i) zero d low within = absurd (omega (arith, low))
monday_and_tuesday (suc i) (suc j) d low within = absurd (omega (arith, low, within))

pub returns-clause-right : goal.returns-clause-right
returns-clause-right c = record {
  dates = All-cons IsDate (pos 738_886) (pos 738_887 ∷ []) (omega (arith, signed), omega (arith, signed)) (All-cons IsDate (pos 738_887) [] (omega (arith, signed), omega (arith, signed)) (All-nil IsDate));
  rising = monday_and_tuesday;
  workdays = All-cons (λ h. is_workday weekend h ≡ true) (pos 738_886) (pos 738_887 ∷ []) refl (All-cons (λ h. is_workday weekend h ≡ true) (pos 738_887) [] refl (All-nil (λ h. is_workday weekend h ≡ true)));
}

pub returns-clause-not_twice : goal.returns-clause-not_twice
returns-clause-not_twice c = λ h.
    let less : pos 738_886 <ℤ pos 738_886 = h.rising 0 1 (pos 0) (omega arith) (omega arith) in omega (arith, signed, less)

pub returns-clause-not_on_saturday : goal.returns-clause-not_on_saturday
returns-clause-not_on_saturday c = λ h. false≢true (h.workdays 0 (pos 0) (omega arith))

pub returns-clause-not_past_the_last : goal.returns-clause-not_past_the_last
returns-clause-not_past_the_last c = λ h.
    let date : IsDate (pos 95_745_400) = h.dates 0 (pos 0) (omega arith) in omega (arith, signed, date.1)
