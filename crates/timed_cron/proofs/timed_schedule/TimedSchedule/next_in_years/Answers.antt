use Rattle.std.proofs.Common.{rules, ◌≡◌, ◌∙◌, sym, ap, arith, pos, ℤ, ◌+ℤ◌, to_z, of_z, w32, ◌<◌, ◌≤ℤ◌, ◌-ℤ◌, neg_ℤ, unsigned_abs}
use Rattle.std.proofs.Math.Path.{subst}
use Rattle.std.proofs.lemmas.Bool.{both_ways}
use Rattle.std.proofs.lemmas.Int.{to_z-of_z}
use Rattle.chrono_datetime.specs.Days.{year_of}
use Rattle.chrono_datetime.proofs.Signed.{signed, casts}
use Rattle.timed_cron.specs.DueSeconds.{is_due_at_second}
use Rattle.timed_cron.specs.Years.{has_year}
use Rattle.timed_cron.proofs.YearSteps.{IsNextFrom, IsFoundNext, in_later_year, next_at_start, next_goes_on}
use Rattle.timed_cron.proofs.timed_schedule.TimedSchedule.next_in_years.Goals as goal

-- the year after one, carried through its type
year_after : (r y : ℤ) → to_z w32 (of_z w32 r) ≡ y → neg_ℤ (pos 262_143) ≤ℤ r → r ≤ℤ pos 262_142 → to_z w32 (of_z w32 (to_z w32 (of_z w32 r) +ℤ pos 1)) ≡ (y +ℤ pos 1)
year_after r y is low high = omega (arith, casts, is, low, high)

listed_high : (L l : ℤ) → L ≡ l → l ≤ℤ pos 2_099 → L ≤ℤ pos 262_142
listed_high L l is high = omega (arith, signed, is, high)

fewer : (Y p r l L : ℤ) → Y ≤ℤ p → to_z w32 (of_z w32 r) ≡ p → neg_ℤ (pos 262_143) ≤ℤ r → r ≤ℤ pos 262_142 → to_z w32 (of_z w32 (to_z w32 (of_z w32 r) +ℤ pos 1)) ≤ℤ l → L ≡ l → l ≤ℤ pos 2_099 → unsigned_abs (pos 262_143 -ℤ L) < unsigned_abs (pos 262_143 -ℤ Y)
fewer Y p r l L before is low high beyond is_l listed = omega (arith, casts, before, is, low, high, beyond, is_l, listed)

pub loop-next-init : goal.loop-next-init
loop-next-init c =
    let same = to_z-of_z w32 c.year-year.result (search rules) in
    let year = same ∙ c.year-year.ensures.value ∙ ap (λ (d : ℤ). year_of d) c.date.ensures in
    (omega (arith, signed, same, c.year-year.ensures.in_range), next_at_start c.args.self.now c.args.years c.args.start _ year)

pub loop-next-preserved : goal.loop-next-preserved
loop-next-preserved c =
    let years = c.args.years in
    let fits = to_z-of_z w32 c.year-found.result (search rules) in
    let year = fits ∙ c.year-found.ensures.value ∙ ap (λ (d : ℤ). year_of d) c.date-in-loop-next.ensures in
    let found : IsFoundNext c.args.self.now years c.loop-next.from c.in-Some.next = record {
      at = c.date_times_exist-in-loop-next.ensures;
      later = c.in-Some.ensures.later;
      least = c.in-Some.ensures.least;
      unlisted = sym (ap (has_year years) year) ∙ sym c.contains.ensures ∙ c.if-contains.false;
    } in
    let on = c.in-Some-first_from in
    let within = on.ensures.within in
    let listed = to_z-of_z w32 on.listed (search rules) in
    let whole = c.year-found.ensures.in_range in
    let past : to_z w32 (of_z w32 (to_z w32 (of_z w32 c.year-found.result) +ℤ pos 1)) ≡ year_of c.in-Some.next.date +ℤ pos 1 = year_after c.year-found.result (year_of c.in-Some.next.date) year whole.0 whole.1 in (
      listed_high (to_z w32 (of_z w32 on.listed)) on.listed listed within.1,
      subst (IsNextFrom c.args.self.now years c.args.start c.end_before_year-from.result) (sym listed)
          (next_goes_on c.args.self.now years c.args.start c.loop-next.from c.in-Some.next c.end_before_year-from.result _ _ on.listed c.loop-next.invariant.1 found past on.ensures.not_before on.ensures.least
          (λ q at later. subst (λ (x : ℤ). x ≤ℤ year_of q.date) listed (c.end_before_year-from.ensures.after q at later))
          (λ q at le. c.end_before_year-from.ensures.all q at (subst (λ (x : ℤ). x ≤ℤ year_of q.date) (sym listed) le))),
    )

pub returns-in_default-clause-none : goal.returns-in_default-clause-none
returns-in_default-clause-none c = λ q at later due.
    both_ways (is_due_at_second c.args.self.now q) (c.in_default.ensures.none q at (c.loop-next.invariant.1.kept q at later due)) due.fields

pub returns-then-contains-clause-due : goal.returns-then-contains-clause-due
returns-then-contains-clause-due c =
    let year = to_z-of_z w32 c.year-found.result (search rules) ∙ c.year-found.ensures.value ∙ ap (λ (d : ℤ). year_of d) c.date-in-loop-next.ensures in
    record { fields = c.in-Some.ensures.due; year = sym (ap (has_year c.args.years) year) ∙ sym c.contains.ensures ∙ c.if-contains.true }

pub returns-then-contains-clause-later : goal.returns-then-contains-clause-later
returns-then-contains-clause-later c = c.loop-next.invariant.1.behind c.in-Some.next c.date_times_exist-in-loop-next.ensures c.in-Some.ensures.later

pub returns-then-contains-clause-least : goal.returns-then-contains-clause-least
returns-then-contains-clause-least c = λ q at one other due.
    both_ways (is_due_at_second c.args.self.now q) (c.in-Some.ensures.least q at (c.loop-next.invariant.1.kept q at one due) other) due.fields

pub returns-in_default-first_from-clause-none : goal.returns-in_default-first_from-clause-none
returns-in_default-first_from-clause-none c = λ q at later due.
    let years = c.args.years in
    let fits = to_z-of_z w32 c.year-found.result (search rules) in
    let year = fits ∙ c.year-found.ensures.value ∙ ap (λ (d : ℤ). year_of d) c.date-in-loop-next.ensures in
    let whole = c.year-found.ensures.in_range in
    let found : IsFoundNext c.args.self.now years c.loop-next.from c.in-Some.next = record {
      at = c.date_times_exist-in-loop-next.ensures;
      later = c.in-Some.ensures.later;
      least = c.in-Some.ensures.least;
      unlisted = sym (ap (has_year years) year) ∙ sym c.contains.ensures ∙ c.if-contains.false;
    } in
    let beyond = in_later_year c.args.self.now years c.loop-next.from c.in-Some.next q found at (c.loop-next.invariant.1.kept q at later due) due in
    both_ways (has_year years (year_of q.date)) (c.in_default-first_from.ensures.none (year_of q.date) (subst (λ (x : ℤ). x ≤ℤ year_of q.date) (sym (year_after c.year-found.result (year_of c.in-Some.next.date) year whole.0 whole.1)) beyond)) due.year

pub loop-next-smaller : goal.loop-next-smaller
loop-next-smaller c =
    let years = c.args.years in
    let fits = to_z-of_z w32 c.year-found.result (search rules) in
    let year = fits ∙ c.year-found.ensures.value ∙ ap (λ (d : ℤ). year_of d) c.date-in-loop-next.ensures in
    let on = c.in-Some-first_from in
    let beyond = on.ensures.not_before in
    let whole = c.year-found.ensures.in_range in
    let so_far = c.loop-next.invariant in
    let before = so_far.1.in_order c.in-Some.next c.date_times_exist-in-loop-next.ensures c.in-Some.ensures.later in
    let listed = to_z-of_z w32 on.listed (search rules) in
    let within = on.ensures.within in
    fewer (to_z w32 c.loop-next.year-bits) (year_of c.in-Some.next.date) c.year-found.result on.listed (to_z w32 (of_z w32 on.listed)) before year whole.0 whole.1 beyond listed within.1
