use Rattle.std.proofs.Common.{rules, ◌≡◌, ◌<◌, ◌∙◌, sym, ap, arith, pos, neg_ℤ, ℤ, ◌-ℤ◌, ◌≤ℤ◌, unsigned_abs, to_z, of_z, w32}
use Rattle.std.proofs.Math.Path.{subst}
use Rattle.std.proofs.lemmas.Bool.{both_ways}
use Rattle.std.proofs.lemmas.Int.{to_z-of_z}
use Rattle.chrono_datetime.specs.Days.{year_of}
use Rattle.chrono_datetime.proofs.Signed.{signed, casts}
use Rattle.timed_cron.specs.DueSeconds.{is_due_at_second}
use Rattle.timed_cron.specs.Years.{has_year}
use Rattle.timed_cron.proofs.YearSteps.{IsPrevFrom, IsFoundPrev, in_earlier_year, prev_at_start, prev_goes_on}
use Rattle.timed_cron.proofs.timed_schedule.TimedSchedule.prev_in_years.Goals as goal

-- the year before one, carried through its type
year_before : (r y : ℤ) → to_z w32 (of_z w32 r) ≡ y → neg_ℤ (pos 262_143) ≤ℤ r → r ≤ℤ pos 262_142 → to_z w32 (of_z w32 (to_z w32 (of_z w32 r) -ℤ pos 1)) ≡ (y -ℤ pos 1)
year_before r y is low high = omega (arith, casts, is, low, high)

listed_low : (L l : ℤ) → L ≡ l → pos 1_970 ≤ℤ l → neg_ℤ (pos 262_143) ≤ℤ L
listed_low L l is low = omega (arith, signed, is, low)

fewer : (Y p r l L : ℤ) → p ≤ℤ Y → to_z w32 (of_z w32 r) ≡ p → neg_ℤ (pos 262_143) ≤ℤ r → r ≤ℤ pos 262_142 → l ≤ℤ to_z w32 (of_z w32 (to_z w32 (of_z w32 r) -ℤ pos 1)) → L ≡ l → pos 1_970 ≤ℤ l → unsigned_abs (L -ℤ neg_ℤ (pos 262_144)) < unsigned_abs (Y -ℤ neg_ℤ (pos 262_144))
fewer Y p r l L before is low high beyond is_l listed = omega (arith, casts, before, is, low, high, beyond, is_l, listed)

pub loop-previous-init : goal.loop-previous-init
loop-previous-init c =
    let same = to_z-of_z w32 c.year-year.result (search rules) in
    let year = same ∙ c.year-year.ensures.value ∙ ap (λ (d : ℤ). year_of d) c.date.ensures in
    (omega (arith, signed, same, c.year-year.ensures.in_range), prev_at_start c.args.self.now c.args.years c.args.start _ year)

pub loop-previous-preserved : goal.loop-previous-preserved
loop-previous-preserved c =
    let years = c.args.years in
    let fits = to_z-of_z w32 c.year-found.result (search rules) in
    let year = fits ∙ c.year-found.ensures.value ∙ ap (λ (d : ℤ). year_of d) c.date-in-loop-previous.ensures in
    let found : IsFoundPrev c.args.self.now years c.loop-previous.from c.in-Some.previous = record {
      at = c.date_times_exist-in-loop-previous.ensures;
      earlier = c.in-Some.ensures.earlier;
      greatest = c.in-Some.ensures.greatest;
      unlisted = sym (ap (has_year years) year) ∙ sym c.contains.ensures ∙ c.if-contains.false;
    } in
    let on = c.in-Some-last_to in
    let within = on.ensures.within in
    let listed = to_z-of_z w32 on.listed (search rules) in
    let whole = c.year-found.ensures.in_range in
    let past : to_z w32 (of_z w32 (to_z w32 (of_z w32 c.year-found.result) -ℤ pos 1)) ≡ year_of c.in-Some.previous.date -ℤ pos 1 = year_before c.year-found.result (year_of c.in-Some.previous.date) year whole.0 whole.1 in (
      listed_low (to_z w32 (of_z w32 on.listed)) on.listed listed within.0,
      subst (IsPrevFrom c.args.self.now years c.args.start c.beginning_after_year-from.result) (sym listed)
          (prev_goes_on c.args.self.now years c.args.start c.loop-previous.from c.in-Some.previous c.beginning_after_year-from.result _ _ on.listed c.loop-previous.invariant.1 found past on.ensures.not_after on.ensures.greatest
          (λ q at later. subst (λ (x : ℤ). year_of q.date ≤ℤ x) listed (c.beginning_after_year-from.ensures.before q at later))
          (λ q at le. c.beginning_after_year-from.ensures.all q at (subst (λ (x : ℤ). year_of q.date ≤ℤ x) (sym listed) le))),
    )

pub returns-in_default-clause-none : goal.returns-in_default-clause-none
returns-in_default-clause-none c = λ q at later due.
    both_ways (is_due_at_second c.args.self.now q) (c.in_default.ensures.none q at (c.loop-previous.invariant.1.kept q at later due)) due.fields

pub returns-then-contains-clause-due : goal.returns-then-contains-clause-due
returns-then-contains-clause-due c =
    let year = to_z-of_z w32 c.year-found.result (search rules) ∙ c.year-found.ensures.value ∙ ap (λ (d : ℤ). year_of d) c.date-in-loop-previous.ensures in
    record { fields = c.in-Some.ensures.due; year = sym (ap (has_year c.args.years) year) ∙ sym c.contains.ensures ∙ c.if-contains.true }

pub returns-then-contains-clause-earlier : goal.returns-then-contains-clause-earlier
returns-then-contains-clause-earlier c = c.loop-previous.invariant.1.before c.in-Some.previous c.date_times_exist-in-loop-previous.ensures c.in-Some.ensures.earlier

pub returns-then-contains-clause-greatest : goal.returns-then-contains-clause-greatest
returns-then-contains-clause-greatest c = λ q at one other due.
    both_ways (is_due_at_second c.args.self.now q) (c.in-Some.ensures.greatest q at one (c.loop-previous.invariant.1.kept q at other due)) due.fields

pub returns-in_default-last_to-clause-none : goal.returns-in_default-last_to-clause-none
returns-in_default-last_to-clause-none c = λ q at later due.
    let years = c.args.years in
    let fits = to_z-of_z w32 c.year-found.result (search rules) in
    let year = fits ∙ c.year-found.ensures.value ∙ ap (λ (d : ℤ). year_of d) c.date-in-loop-previous.ensures in
    let whole = c.year-found.ensures.in_range in
    let found : IsFoundPrev c.args.self.now years c.loop-previous.from c.in-Some.previous = record {
      at = c.date_times_exist-in-loop-previous.ensures;
      earlier = c.in-Some.ensures.earlier;
      greatest = c.in-Some.ensures.greatest;
      unlisted = sym (ap (has_year years) year) ∙ sym c.contains.ensures ∙ c.if-contains.false;
    } in
    let beyond = in_earlier_year c.args.self.now years c.loop-previous.from c.in-Some.previous q found at (c.loop-previous.invariant.1.kept q at later due) due in
    both_ways (has_year years (year_of q.date)) (c.in_default-last_to.ensures.none (year_of q.date) (subst (λ (x : ℤ). year_of q.date ≤ℤ x) (sym (year_before c.year-found.result (year_of c.in-Some.previous.date) year whole.0 whole.1)) beyond)) due.year

pub loop-previous-smaller : goal.loop-previous-smaller
loop-previous-smaller c =
    let years = c.args.years in
    let fits = to_z-of_z w32 c.year-found.result (search rules) in
    let year = fits ∙ c.year-found.ensures.value ∙ ap (λ (d : ℤ). year_of d) c.date-in-loop-previous.ensures in
    let on = c.in-Some-last_to in
    let beyond = on.ensures.not_after in
    let whole = c.year-found.ensures.in_range in
    let so_far = c.loop-previous.invariant in
    let before = so_far.1.in_order c.in-Some.previous c.date_times_exist-in-loop-previous.ensures c.in-Some.ensures.earlier in
    let listed = to_z-of_z w32 on.listed (search rules) in
    let within = on.ensures.within in
    fewer (to_z w32 c.loop-previous.year-bits) (year_of c.in-Some.previous.date) c.year-found.result on.listed (to_z w32 (of_z w32 on.listed)) before year whole.0 whole.1 beyond listed within.0
