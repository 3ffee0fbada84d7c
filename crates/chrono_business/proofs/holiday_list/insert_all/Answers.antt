use Rattle.std.proofs.Common.{◌≡◌, ℕ, ◌+◌, ◌<◌, true, List, length, take, refl, ◌∙◌, arith, ℤ}
use Rattle.std.proofs.lemmas.List.{take_all}
use Rattle.std.proofs.lemmas.Bool.{false≢true}
use Rattle.chrono_business.specs.OpenDays.{is_holiday}
use Rattle.chrono_business.proofs.HolidayUnions.{list-more, list-next, list-parts, list-front, list-in, too_many-day, too_many-more, with-day, with-more, with-none, with-same}
use Rattle.chrono_business.proofs.holiday_list.insert_all.Goals as goal

pub loop-date-init : goal.loop-date-init
loop-date-init c = record {
  bound = c.requires.bound;
  same = refl;
  with = with-none c.args.weekend _ (take c.args.len c.args.dates.now) c.requires.holidays (λ d h. absurd (false≢true h));
}

pub insert-requires-clause-bound : goal.insert-requires-clause-bound
insert-requires-clause-bound c = c.loop-date.invariant.bound

pub insert-requires-clause-holidays : goal.insert-requires-clause-holidays
insert-requires-clause-holidays c = c.loop-date.invariant.with.holidays

pub returns-in_err-count-clause-none : goal.returns-in_err-count-clause-none
returns-in_err-count-clause-none c =
    let more = c.args.more.now in
    let i : ℕ = c.loop-date.date-index in
    let x : ℤ = c.date-item.result in
    let within : i < length more = omega (arith, c.loop-date-test.true, c.loop-date.auto.date-index-end) in
    let inv = c.loop-date.invariant in
    let front : List ℤ = take c.loop-date.count c.loop-date.dates in
    rw c.from_residual.ensures (too_many-more c.args.weekend _ (λ d. d ≡ x) (λ d. is_holiday more d ≡ true) (take c.args.len c.args.dates.now) front (length c.loop-date.dates) (length c.args.dates.now) inv.with (λ d p. list-front more i d p) (λ d same. list-in more i x d within (same ∙ c.date-item.is)) inv.same (too_many-day c.args.weekend front x (length c.loop-date.dates) c.in_err-count.ensures.none))

pub loop-date-preserved : goal.loop-date-preserved
loop-date-preserved c =
    let more = c.args.more.now in
    let i : ℕ = c.loop-date.date-index in
    let x : ℤ = c.date-item.result in
    let within : i < length more = omega (arith, c.loop-date-test.true, c.loop-date.auto.date-index-end) in
    let inv = c.loop-date.invariant in
    let new = c.in_ok-count.ensures in
    let front : List ℤ = take c.loop-date.count c.loop-date.dates in
    let then : List ℤ = take c.in_ok-count.count c.insert.new.dates in
    record {
      bound = omega (arith, new.bound, c.insert.auto.dates);
      same = omega (arith, inv.same, c.insert.auto.dates);
      with = with-more c.args.weekend _ (λ d. d ≡ x) (λ d. is_holiday (take (i + 1) more) d ≡ true) (take c.args.len c.args.dates.now) front then inv.with (with-day c.args.weekend front then x new.holidays new.only new.kept new.here) (λ d p. list-more more i x d within p) (λ d same. list-next more i x d within (same ∙ c.date-item.is)) (λ d p. list-parts more i x d within c.date-item.is p);
    }

pub returns-clause-bound : goal.returns-clause-bound
returns-clause-bound c = omega (arith, c.loop-date.invariant.bound, c.loop-date.invariant.same)

pub returns-clause-some : goal.returns-clause-some
returns-clause-some c =
    let end : c.loop-date.date-index ≡ length c.args.more.now = omega (arith, c.loop-date-test.false, c.loop-date.auto.date-index-end) in
    with-same c.args.weekend _ (λ d. is_holiday c.args.more.now d ≡ true) (take c.args.len c.args.dates.now) (take c.loop-date.count c.loop-date.dates) c.loop-date.invariant.with (λ d p. rw (take_all c.loop-date.date-index c.args.more.now (omega (arith, end))) at p) (λ d p. rw (take_all c.loop-date.date-index c.args.more.now (omega (arith, end))) p)
