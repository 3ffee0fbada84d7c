-- Planned local times from the beginning of the calendar on.
use Rattle.std.proofs.Common.{◌≡◌, true, false, ℤ, pos, neg_ℤ, ◌≤ℤ◌, ◌<ℤ◌, arith, ap}
use Rattle.std.specs.Int.RustNames.{int_lt}
use Rattle.std.proofs.lemmas.Int.{by_lt_z, ints}
use Rattle.chrono_datetime.specs.Moment.{IsMoment, Moment, moment}
use Rattle.chrono_datetime.specs.Time.{FractionFits, time_at}
use Rattle.chrono_instant.specs.Instants.{IsEpochSecond, epoch_second, second_of_minute}
use Rattle.chrono_zoned.proofs.HeldSecondLemmas.{later_second}
use Rattle.chrono_cron.specs.declared.field_sets.FieldSets.{FieldSets}
use Rattle.chrono_cron.specs.Due.{is_due}
use Rattle.zoned_cron.specs.Private.{IsPlanned}
use Rattle.zoned_cron.proofs.Stretches.{planned_date, planned_past}
use Rattle.zoned_cron.proofs.Windows.{due_fraction, none_from_first}

-- none is earlier than the first moment of all
pub first_of_all : (s : FieldSets) (first : Moment) (n l : ℤ) → first ≡ moment (neg_ℤ (pos 95_746_129)) (time_at 0 0 0 0) → n ≡ epoch_second first → IsPlanned s l → n ≤ℤ l
first_of_all s first n l is is_n h =
    let date = planned_date s l h in
    let low : epoch_second first ≡ neg_ℤ (pos 8_334_601_228_800) = ap epoch_second is in
    omega (arith, ints, is_n, low, date.0)

-- each lies behind a second before all dates
pub before_planned : (s : FieldSets) (local here l : ℤ) → here ≡ local → (IsEpochSecond here × FractionFits (second_of_minute here) 0 → ⊥) → int_lt (pos 8_210_266_876_799) here ≡ false → IsPlanned s l → local <ℤ l
before_planned s local here l is none high h =
    let date = planned_date s l h in
    by_lt_z local l (λ lt. lt)
    (λ ge. absurd (none ((omega (arith, ints, is, ge, date.0), omega (arith, ints, high)), (omega arith, λ leap. absurd (omega (arith, leap))))))

-- none lies behind a second after all dates
pub none_past : (s : FieldSets) (here local l : ℤ) → here ≡ local → int_lt (pos 8_210_266_876_799) here ≡ true → local <ℤ l → IsPlanned s l → ⊥
none_past s here local l is past later h = planned_past s local l (omega (arith, ints, is, past)) later h

-- and behind the first moment, if the schedule is not due there
pub behind_first : (s : FieldSets) (first : Moment) (l : ℤ) → first ≡ moment (neg_ℤ (pos 95_746_129)) (time_at 0 0 0 0) → is_due s first ≡ false → IsMoment first → IsPlanned s l → epoch_second first <ℤ l
behind_first s first l is_first not i h =
    by_lt_z (epoch_second first) l (λ lt. lt)
    (λ ge.
    absurd (none_from_first s first h.moment h.moment is_first not h.exists h.due
    (λ after. omega (arith, ints, ge, h.second, later_second first h.moment i after (due_fraction s h.moment h.due)))))
