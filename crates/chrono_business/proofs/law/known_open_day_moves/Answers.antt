use Rattle.std.proofs.Common.{◌≡◌, [], ◌∷◌, true, false, refl, sym, ◌∙◌, arith, ℤ, pos, neg_ℤ, ◌+ℤ◌, ◌≤ℤ◌, ◌<ℤ◌}
use Rattle.std.proofs.lemmas.Bool.{false≢true}
use Rattle.chrono_datetime.specs.declared.Weekday.TheVariants.{Sat, Sun}
use Rattle.chrono_datetime.specs.WeekdaySet.{set_of}
use Rattle.chrono_datetime.specs.Recurrence.{count_between, count_where}
use Rattle.chrono_datetime.proofs.Signed.{signed}
use Rattle.chrono_business.specs.OpenDays.{Closed, IsMovedByOpenDays, closed, is_open, open_days_signed}
use Rattle.chrono_business.proofs.OpenMoves.{moved-next, moved-one, moved-previous}
use Rattle.chrono_business.proofs.law.known_open_day_moves.Goals as goal

abbrev weekends : Closed
weekends = closed (set_of (Sat ∷ Sun ∷ [])) []

on : (c : Closed) (d e n : ℤ) → is_open c e ≡ true → pos 0 <ℤ n → open_days_signed c (d +ℤ pos 1) (e +ℤ pos 1) ≡ n → IsMovedByOpenDays c d n e
on c d e n is more count = moved-previous c d e n more (record { passes = is; count = count })

back : (c : Closed) (d e n : ℤ) → is_open c e ≡ true → n ≤ℤ pos 0 → open_days_signed c d e ≡ n → IsMovedByOpenDays c d n e
back c d e n is most count = moved-next c d e n most (record { passes = is; count = count })

saturday_on : IsMovedByOpenDays weekends (pos 738_947) (pos 1) (pos 738_949)
unfolding is_open count_between count_where
saturday_on = on weekends (pos 738_947) (pos 738_949) (pos 1) refl (omega (arith, signed)) refl

saturday_back : IsMovedByOpenDays weekends (pos 738_947) (neg_ℤ (pos 1)) (pos 738_946)
unfolding is_open count_between count_where
saturday_back = back weekends (pos 738_947) (pos 738_946) (neg_ℤ (pos 1)) refl (omega (arith, signed)) refl

pub returns-clause-saturday : goal.returns-clause-saturday
returns-clause-saturday c = saturday_on

pub returns-clause-saturday_back : goal.returns-clause-saturday_back
returns-clause-saturday_back c = saturday_back

pub returns-clause-not_tuesday : goal.returns-clause-not_tuesday
returns-clause-not_tuesday c = λ moved.
    omega (arith, signed, moved-one weekends (pos 738_947) (pos 738_949) (pos 738_950) (pos 1) saturday_on moved)

pub returns-clause-not_thursday : goal.returns-clause-not_thursday
returns-clause-not_thursday c = λ moved.
    omega (arith, signed, moved-one weekends (pos 738_947) (pos 738_946) (pos 738_945) (neg_ℤ (pos 1)) saturday_back moved)

pub returns-clause-saturday_zero : goal.returns-clause-saturday_zero
unfolding is_open count_between count_where
returns-clause-saturday_zero c = back weekends (pos 738_947) (pos 738_949) (pos 0) refl (omega (arith, signed)) refl

pub returns-clause-friday : goal.returns-clause-friday
unfolding is_open count_between count_where
returns-clause-friday c = on weekends (pos 738_946) (pos 738_949) (pos 1) refl (omega (arith, signed)) refl

pub returns-clause-friday_zero : goal.returns-clause-friday_zero
unfolding is_open count_between count_where
returns-clause-friday_zero c = back weekends (pos 738_946) (pos 738_946) (pos 0) refl (omega (arith, signed)) refl

pub returns-clause-monday_back : goal.returns-clause-monday_back
unfolding is_open count_between count_where
returns-clause-monday_back c = back weekends (pos 738_949) (pos 738_946) (neg_ℤ (pos 1)) refl (omega (arith, signed)) refl

pub returns-clause-from_next : goal.returns-clause-from_next
unfolding is_open count_between count_where
returns-clause-from_next c = record { passes = refl; count = refl }

pub returns-clause-from_next_back : goal.returns-clause-from_next_back
unfolding is_open count_between count_where
returns-clause-from_next_back c = record { passes = refl; count = refl }

pub returns-clause-from_previous : goal.returns-clause-from_previous
unfolding is_open count_between count_where
returns-clause-from_previous c = record { passes = refl; count = refl }

pub returns-clause-from_previous_back : goal.returns-clause-from_previous_back
unfolding is_open count_between count_where
returns-clause-from_previous_back c = record { passes = refl; count = refl }

saturday_closed : is_open weekends (pos 738_947) ≡ false
unfolding is_open
saturday_closed = refl

pub returns-clause-from_next_not_saturday : goal.returns-clause-from_next_not_saturday
returns-clause-from_next_not_saturday c = λ moved. false≢true (sym saturday_closed ∙ moved.passes)

pub returns-clause-from_previous_not_saturday : goal.returns-clause-from_previous_not_saturday
returns-clause-from_previous_not_saturday c = λ moved. false≢true (sym saturday_closed ∙ moved.passes)
