-- A wrong holiday is in no list of holidays of a calendar, so that a list has one first wrong one; and such a list with one
-- holiday more.
use Rattle.std.proofs.Common.{◌≡◌, ℕ, ◌+◌, ◌-◌, ◌<◌, Bool, true, false, not, List, length, take, refl, sym, ap, ◌∙◌, arith, ℤ, pos, ◌<ℤ◌}
use Rattle.std.specs.Prelude.{slice_index_or}
use Rattle.std.specs.List.{All, AllWithin}
use Rattle.std.proofs.lemmas.Bool.{false≢true}
use Rattle.std.proofs.lemmas.List.{get_or-take, get_or_default, length-take-le}
use Rattle.std.proofs.lemmas.Int.{by_lt_z}
use Rattle.chrono_datetime.specs.WeekdaySet.{DaySet}
use Rattle.chrono_datetime.specs.Recurrence.{is_on}
use Rattle.chrono_datetime.proofs.Signed.{signed}
use Rattle.chrono_business.specs.declared.holiday_error.HolidayError.{HolidayError}
use Rattle.chrono_business.specs.declared.holiday_error.HolidayError.TheVariants.{NotRising, OnWeekend}
use Rattle.chrono_datetime.specs.Days.{IsDate}
use Rattle.chrono_business.specs.OpenDays.{AreHolidays, is_workday}
use Rattle.chrono_business.specs.WrongHolidays.{AreRightBefore, IsWrong}

both : (b : Bool) → b ≡ true → not b ≡ true → ⊥
both true on off = false≢true off
both false on off = false≢true on

abbrev place_of : HolidayError → ℕ
place_of (NotRising i) = i
place_of (OnWeekend i) = i

right_before : (weekend : DaySet) (xs : List ℤ) (e : HolidayError) → IsWrong weekend xs e → AreRightBefore weekend xs (place_of e)
right_before weekend xs (NotRising i) wrong = wrong.0
right_before weekend xs (OnWeekend i) wrong = wrong.0

-- what is wrong in one list is wrong in each that has the same days up to it
wrong_among : (weekend : DaySet) (xs ys : List ℤ) (e : HolidayError) → IsWrong weekend xs e → place_of e < length ys → ((k : ℕ) (d : ℤ) → k < length ys → slice_index_or ys k d ≡ slice_index_or xs k d) → AreHolidays weekend ys → ⊥
wrong_among weekend xs ys (NotRising i) wrong within same are =
    omega (arith, signed, wrong.3 (pos 0), same i (pos 0) within, same (i - 1) (pos 0) (omega (arith, within)), are.rising (i - 1) i (pos 0) (omega (arith, wrong.1)) within)
wrong_among weekend xs ys (OnWeekend i) wrong within same are =
    both (is_on weekend (slice_index_or ys i (pos 0))) (ap (is_on weekend) (same i (pos 0) within) ∙ wrong.1 (pos 0)) (are.workdays i (pos 0) within)

pub not_wrong : (weekend : DaySet) (xs : List ℤ) (e : HolidayError) → IsWrong weekend xs e → AreHolidays weekend xs → ⊥
not_wrong weekend xs e wrong are =
    wrong_among weekend xs xs e wrong (right_before weekend xs e wrong).within (λ k d within. refl) are

-- no wrong one lies in front of another
not_in_front : (weekend : DaySet) (xs : List ℤ) (e f : HolidayError) → IsWrong weekend xs e → IsWrong weekend xs f → place_of e < place_of f → ⊥
not_in_front weekend xs e f wrong other front =
    let right = right_before weekend xs f other in
    let n : ℕ = place_of f in
    let long : length (take n xs) ≡ n = length-take-le n xs (omega (arith, right.within)) in
    wrong_among weekend xs (take n xs) e wrong (omega (arith, front, long)) (λ k d low. get_or-take n xs k d (omega (arith, low, long))) right.holidays

at_one_place : (weekend : DaySet) (xs : List ℤ) (e f : HolidayError) → IsWrong weekend xs e → IsWrong weekend xs f → place_of e ≡ place_of f → e ≡ f
at_one_place weekend xs (NotRising i) (NotRising j) wrong other same = ap NotRising same
at_one_place weekend xs (OnWeekend i) (OnWeekend j) wrong other same = ap OnWeekend same
at_one_place weekend xs (NotRising i) (OnWeekend j) wrong other same =
    absurd (both (is_on weekend (slice_index_or xs j (pos 0))) (other.1 (pos 0)) (ap (λ k. is_workday weekend (slice_index_or xs k (pos 0))) (sym same) ∙ wrong.2 (pos 0)))
at_one_place weekend xs (OnWeekend i) (NotRising j) wrong other same =
    absurd (both (is_on weekend (slice_index_or xs i (pos 0))) (wrong.1 (pos 0)) (ap (λ k. is_workday weekend (slice_index_or xs k (pos 0))) same ∙ other.2 (pos 0)))

pub one_wrong : (weekend : DaySet) (xs : List ℤ) (e f : HolidayError) → IsWrong weekend xs e → IsWrong weekend xs f → e ≡ f
one_wrong weekend xs e f wrong other =
    by_lt_z (pos (place_of e)) (pos (place_of f))
    (λ lt. absurd (not_in_front weekend xs e f wrong other (omega (arith, signed, lt))))
    (λ ge. by_lt_z (pos (place_of f)) (pos (place_of e))
    (λ lt. absurd (not_in_front weekend xs f e other wrong (omega (arith, signed, lt))))
    (λ le. at_one_place weekend xs e f wrong other (omega (arith, signed, ge, le))))

-- what holds of the first i days of a list holds of the list of these
all-taken : (P : ℤ → Type 0) (xs : List ℤ) (i : ℕ) → i < length xs → AllWithin P xs 0 i → All P (take i xs)
all-taken P xs i within front = λ k d low.
    let here : k < i = omega (arith, low, length-take-le i xs (omega (arith, within))) in
    let same : slice_index_or (take i xs) k d ≡ slice_index_or xs k d = get_or-take i xs k d here in
    let was = front k d (omega arith) here in
    rw same was

pub right_so_far : (weekend : DaySet) (xs : List ℤ) (i : ℕ) → i < length xs → AllWithin IsDate xs 0 i → ((j k : ℕ) (d : ℤ) → j < k → k < i → slice_index_or xs j d <ℤ slice_index_or xs k d) → AllWithin (λ h. is_workday weekend h ≡ true) xs 0 i → AreRightBefore weekend xs i
right_so_far weekend xs i within dates rising workdays = record {
  within = within;
  holidays = record {
    dates = all-taken IsDate xs i within dates;
    rising = λ j k d order low.
        let here : k < i = omega (arith, low, length-take-le i xs (omega (arith, within))) in
        omega (arith, signed, get_or-take i xs j d (omega (arith, order, here)), get_or-take i xs k d here, rising j k d order here);
    workdays = all-taken (λ h. is_workday weekend h ≡ true) xs i within workdays;
  };
}

-- what is read at a place stands there, whatever stands for no day
pub at_place : (P : ℤ → Type 0) (xs : List ℤ) (i : ℕ) (x : ℤ) → i < length xs → x ≡ slice_index_or xs i x → P x → (d : ℤ) → P (slice_index_or xs i d)
at_place P xs i x within is here d =
    let at : x ≡ slice_index_or xs i d = is ∙ get_or_default xs i x d within in
    rw at at here

-- what holds of the first i days and of the next holds of one more
pub all-next : (P : ℤ → Type 0) (xs : List ℤ) (i : ℕ) (x : ℤ) → i < length xs → x ≡ slice_index_or xs i x → P x → AllWithin P xs 0 i → AllWithin P xs 0 (i + 1)
all-next P xs i x within is here front = λ k d low high. by_lt_z (pos k) (pos i) (λ lt. front k d low (omega (arith, signed, lt))) (λ ge.
    let same : k ≡ i = omega (arith, signed, ge) in
    let at : x ≡ slice_index_or xs k d = is ∙ (get_or_default xs i x d within ∙ ap (λ j. slice_index_or xs j d) (sym same)) in
    rw at at here)
