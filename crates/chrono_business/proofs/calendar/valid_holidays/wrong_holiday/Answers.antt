use Rattle.std.proofs.Common.{◌≡◌, ℕ, ◌+◌, ◌-◌, ◌<◌, true, not, length, sym, ap, ◌∙◌, arith, ℤ, ◌<ℤ◌}
use Rattle.std.specs.Prelude.{slice_index_or}
use Rattle.chrono_datetime.specs.Days.{IsDate}
use Rattle.chrono_datetime.specs.WeekdaySet.{contains}
use Rattle.chrono_datetime.proofs.RisingLists.{rising-next}
use Rattle.chrono_datetime.proofs.Signed.{signed}
use Rattle.chrono_business.specs.OpenDays.{is_workday}
use Rattle.chrono_business.proofs.Checked.{all-next, at_place, right_so_far}
use Rattle.std.proofs.lemmas.List.{get_or_default}
use Rattle.chrono_business.proofs.calendar.valid_holidays.wrong_holiday.Goals as goal
use Rattle.chrono_business.proofs.calendar.valid_holidays.wrong_holiday.Goals.{else-place-gt0-via-then-place-gt0+else-number-num_days_from_ce, else-place-gt0-via-else-place-gt0}

pub loop-place-preserved : goal.loop-place-preserved
loop-place-preserved c =
    let xs = c.args.holidays.now in
    let i = c.loop-place.place in
    let x : ℤ = c.index-holidays-place.result in
    let inv = c.loop-place.invariant in
    let is = c.index-holidays-place.is in
    let number : c.num_days_from_ce-number.result ≡ x = c.num_days_from_ce-number.ensures.value in
    let within : i < length xs = omega (arith, c.loop-place-test.true, c.loop-place.auto.place-end) in
    let date : IsDate x = rw number at c.num_days_from_ce-number.ensures.in_range in
    let workday : is_workday c.args.weekend x ≡ true = ap not (ap (contains c.args.weekend) (sym c.weekday.ensures.value) ∙ (sym c.contains.ensures ∙ c.if-contains.false)) in
    let rising : (j k : ℕ) (d : ℤ) → j < k → k < i + 1 → slice_index_or xs j d <ℤ slice_index_or xs k d = elim c.else-place-gt0.branch [
      | else-place-gt0-via-then-place-gt0+else-number-num_days_from_ce w ↦
          let last : ℤ = w.index-holidays-place-then-place-gt0.result in
          let less : last <ℤ x = omega (arith, signed, number, w.num_days_from_ce.ensures.value, w.if-number-num_days_from_ce.false) in
          λ j k d order high. rising-next xs i last x (omega (arith, w.if-place-gt0.true)) within is w.index-holidays-place-then-place-gt0.is less (λ j k d order low inside. inv.rising j k d order low) j k d order high (omega (arith, high, within))
      | else-place-gt0-via-else-place-gt0 w ↦ λ j k d order high. absurd (omega (arith, order, high, w.if-place-gt0.false))
    ] in
    record {
      dates = all-next IsDate xs i x within is date inv.dates;
      rising = rising;
      workdays = all-next (λ h. is_workday c.args.weekend h ≡ true) xs i x within is workday inv.workdays;
    }

-- those before it are right, so it is a workday that is not later
pub returns-then-number-num_days_from_ce-clause-some : goal.returns-then-number-num_days_from_ce-clause-some
returns-then-number-num_days_from_ce-clause-some c =
    let xs = c.args.holidays.now in
    let i = c.loop-place.place in
    let x : ℤ = c.index-holidays-place.result in
    let last : ℤ = c.index-holidays-place-then-place-gt0.result in
    let inv = c.loop-place.invariant in
    let is = c.index-holidays-place.is in
    let number : c.num_days_from_ce-number.result ≡ x = c.num_days_from_ce-number.ensures.value in
    let within : i < length xs = omega (arith, c.loop-place-test.true, c.loop-place.auto.place-end) in
    let some : 0 < i = omega (arith, c.if-place-gt0.true) in
    let workday : is_workday c.args.weekend x ≡ true = ap not (ap (contains c.args.weekend) (sym c.weekday.ensures.value) ∙ (sym c.contains.ensures ∙ c.if-contains.false)) in (
      right_so_far c.args.weekend xs i within inv.dates inv.rising inv.workdays,
      some,
      at_place (λ h. is_workday c.args.weekend h ≡ true) xs i x within is workday,
      λ d.
          let here : x ≡ slice_index_or xs i d = is ∙ get_or_default xs i x d within in
          let before : last ≡ slice_index_or xs (i - 1) d = c.index-holidays-place-then-place-gt0.is ∙ get_or_default xs (i - 1) last d (omega (arith, within)) in
          omega (arith, signed, here, before, number, c.num_days_from_ce.ensures.value, c.if-number-num_days_from_ce.true),
    )
