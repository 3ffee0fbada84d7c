use Rattle.std.proofs.Common.{◌≡◌, ◌<◌, ◌≤◌, true, not, inl, inr, ℕ, List, ◌∷◌, ◌++◌, length, drop, take, refl, IfSome, sym, ap, ◌∙◌, arith, ℤ, ◌<ℤ◌}
use Rattle.std.specs.Prelude.{slice_index_or}
use Rattle.std.proofs.lemmas.List.{length-take, length-take-le, take-take}
use Rattle.std.proofs.lemmas.List.Folds.{list_any_at}
use Rattle.std.specs.Ordering.{int_eq, is_eq}
use Rattle.chrono_text.proofs.AnswerLemmas.{if_none}
use Rattle.chrono_datetime.specs.Days.{IsDate}
use Rattle.chrono_datetime.specs.WeekdaySet.{contains}
use Rattle.chrono_business.specs.OpenDays.{is_workday}
use Rattle.chrono_business.proofs.HolidayInserts.{IsWithDay, if-some, ranks-rise, less_by, greater_by, too_many, with-day, with-holidays, with-kept, with-only, with-rising}
use Rattle.chrono_business.proofs.holiday_list.insert.Goals as goal

pub returns-in-Ok-clause-here : goal.returns-in-Ok-clause-here
returns-in-Ok-clause-here c = λ workday.
    let zs = take c.args.len c.args.dates.now in
    list_any_at (λ h. int_eq h c.args.date) zs c.in-Ok.field-0 c.args.date c.in-Ok.ensures.bound (ap is_eq (c.in-Ok.ensures.ok c.args.date))

workday : (c : goal.After-dates-1) → is_workday c.args.weekend c.args.date ≡ true
workday c = ap not (ap (contains c.args.weekend) (sym c.weekday.ensures.value) ∙ (sym c.contains.ensures ∙ c.if-contains.false))

before : (c : goal.After-dates-1) (k : ℕ) (d : ℤ) → k < c.in-Err.place → slice_index_or (take c.args.len c.args.dates.now) k d <ℤ c.args.date
before c k d low =
    let zs = take c.args.len c.args.dates.now in
    less_by (slice_index_or zs k d) c.args.date ((c.in-Err.ensures.position (ranks-rise zs c.args.date c.requires.holidays.rising)).0 k d (omega arith) low)

after : (c : goal.After-dates-1) (k : ℕ) (d : ℤ) → c.in-Err.place ≤ k → k < length (take c.args.len c.args.dates.now) → c.args.date <ℤ slice_index_or (take c.args.len c.args.dates.now) k d
after c k d low within =
    let zs = take c.args.len c.args.dates.now in
    greater_by (slice_index_or zs k d) c.args.date ((c.in-Err.ensures.position (ranks-rise zs c.args.date c.requires.holidays.rising)).1 k d low within)

date : (c : goal.After-dates-1) → IsDate c.args.date
date c = rw c.num_days_from_ce.ensures.value at c.num_days_from_ce.ensures.in_range

in_front : (c : goal.After-dates-1) → take c.in-Err.place c.args.dates.now ≡ take c.in-Err.place (take c.args.len c.args.dates.now)
in_front c =
    sym (take-take c.in-Err.place c.args.len c.args.dates.now (omega (arith, c.in-Err.ensures.bound, length-take c.args.len c.args.dates.now)))

put : (c : goal.After-dates-1) → IfSome c.insert_at.result (λ n. IsWithDay (take c.args.len c.args.dates.now) (take n c.insert_at.new.dates) c.in-Err.place c.args.date)
put c =
    if-some c.insert_at.result _ _ (λ n is. record { bound = c.in-Err.ensures.bound; is = is ∙ ap (λ (l : List ℤ). l ++ c.args.date ∷ drop c.in-Err.place (take c.args.len c.args.dates.now)) (in_front c) }) c.insert_at.ensures.after

pub returns-in-Err-clause-holidays : goal.returns-in-Err-clause-holidays
returns-in-Err-clause-holidays c =
    if-some c.insert_at.result _ _ (λ n w. with-holidays c.args.weekend (take c.args.len c.args.dates.now) (take n c.insert_at.new.dates) c.in-Err.place c.args.date w c.requires.holidays (date c) (workday c) (before c) (after c)) (put c)

pub returns-in-Err-clause-only : goal.returns-in-Err-clause-only
returns-in-Err-clause-only c =
    if-some c.insert_at.result _ _ (λ n w d h. elim (with-only (take c.args.len c.args.dates.now) (take n c.insert_at.new.dates) c.in-Err.place c.args.date d w h) [ inl was ↦ inl was | inr same ↦ inr (same, workday c) ]) (put c)

pub returns-in-Err-clause-kept : goal.returns-in-Err-clause-kept
returns-in-Err-clause-kept c =
    if-some c.insert_at.result _ _ (λ n w d h. with-kept (take c.args.len c.args.dates.now) (take n c.insert_at.new.dates) c.in-Err.place c.args.date d w h) (put c)

pub returns-in-Err-clause-here : goal.returns-in-Err-clause-here
returns-in-Err-clause-here c =
    if-some c.insert_at.result _ _ (λ n w is. with-day (take c.args.len c.args.dates.now) (take n c.insert_at.new.dates) c.in-Err.place c.args.date w) (put c)

pub returns-in-Err-clause-none : goal.returns-in-Err-clause-none
returns-in-Err-clause-none c =
    let zs : List ℤ = take c.args.len c.args.dates.now in
    let ys : List ℤ = take c.in-Err.place zs ++ c.args.date ∷ drop c.in-Err.place zs in
    let w : IsWithDay zs ys c.in-Err.place c.args.date = record { bound = c.in-Err.ensures.bound; is = refl } in
    let up = with-rising zs ys c.in-Err.place c.args.date w c.requires.holidays.rising (before c) (after c) in
    if_none c.insert_at.result _ _ (λ full xs rise all. too_many zs ys xs c.in-Err.place (length c.args.dates.now) c.args.date w up (sym full ∙ sym (length-take-le c.args.len c.args.dates.now c.requires.bound)) rise (λ d was. all d (inl was)) (all c.args.date (inr (refl, workday c)))) c.insert_at.ensures.none
