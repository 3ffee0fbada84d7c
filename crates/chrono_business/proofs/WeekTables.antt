-- The lists of a week's counts and workdays with one entry more.
use Rattle.std.proofs.Common.{◌≡◌, ℕ, ◌+◌, ◌<◌, ◌≤◌, List, length, ap, ◌∙◌, arith, pos}
use Rattle.std.specs.Prelude.{set, slice_index_or}
use Rattle.std.proofs.lemmas.Int.{by_lt_z}
use Rattle.std.proofs.lemmas.List.{get_or-set_other, get_or-set_same}
use Rattle.chrono_datetime.specs.WeekdaySet.{DaySet}
use Rattle.chrono_datetime.specs.Recurrence.{count_where, first_date}
use Rattle.chrono_datetime.proofs.Signed.{signed}
use Rattle.chrono_business.specs.OpenDays.{is_workday}
use Rattle.chrono_business.specs.Workweeks.{IsWorkdayAt}

pub counts-next : (weekend : DaySet) (counts : List ℕ) (day n : ℕ) → day < 7 → length counts ≡ 8 → n ≡ count_where (is_workday weekend) (day + 1) first_date → ((days d : ℕ) → days ≤ day → slice_index_or counts days d ≡ count_where (is_workday weekend) days first_date) → (days d : ℕ) → days ≤ day + 1 → slice_index_or (set counts (day + 1) n) days d ≡ count_where (is_workday weekend) days first_date
counts-next weekend counts day n within size here so_far = λ days d low. by_lt_z (pos days) (pos (day + 1))
    (λ lt. get_or-set_other counts (day + 1) days n d (λ same. omega (arith, signed, lt, same)) ∙ so_far days d (omega (arith, signed, lt)))
    (λ ge.
    let same : days ≡ day + 1 = omega (arith, signed, ge) in
    ap (λ k. slice_index_or (set counts (day + 1) n) k d) same
    ∙ (get_or-set_same counts (day + 1) n d (omega arith) ∙ (here ∙ ap (λ k. count_where (is_workday weekend) k first_date) (omega (arith, same)))))

pub workdays-next : (weekend : DaySet) (workdays : List ℕ) (count day : ℕ) → count < length workdays → IsWorkdayAt weekend count day → ((place d : ℕ) → place < count → IsWorkdayAt weekend place (slice_index_or workdays place d)) → (place d : ℕ) → place < count + 1 → IsWorkdayAt weekend place (slice_index_or (set workdays count day) place d)
workdays-next weekend workdays count day within here so_far = λ place d low. by_lt_z (pos place) (pos count)
    (λ lt.
    let at = get_or-set_other workdays count place day d (λ same. omega (arith, signed, lt, same)) in
    rw at (so_far place d (omega (arith, signed, lt))))
    (λ ge.
    let same : place ≡ count = omega (arith, signed, ge) in
    rw same (rw (get_or-set_same workdays count day d within) here))
