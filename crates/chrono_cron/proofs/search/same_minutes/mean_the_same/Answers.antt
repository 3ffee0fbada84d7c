use Rattle.std.proofs.Common.{sym, ◌∙◌}
use Rattle.std.proofs.lemmas.Bool.{both_ways}
use Rattle.chrono_cron.specs.Due.{is_day, is_minute}
use Rattle.chrono_cron.proofs.MomentOrder.{never-days, never-minutes}
use Rattle.chrono_cron.proofs.SameDues.{never-same, same-days, same-due, same-dues, same-minutes, same-never}
use Rattle.chrono_cron.proofs.search.same_minutes.mean_the_same.Goals as goal

pub returns-in_default : goal.returns-in_default
returns-in_default c =
    let never = never-minutes c.args.one.now c.in_default.ensures.none in (
      λ yes. same-never c.args.one.now c.args.other.now never (c.is_never_due.ensures.0 yes),
      λ same. c.is_never_due.ensures.1 (never-same c.args.one.now c.args.other.now never same),
    )

pub returns-in_default-first_day : goal.returns-in_default-first_day
returns-in_default-first_day c =
    let never = never-days c.args.one.now c.first_date-first.result.0 c.first_date-first.ensures.of_type c.in_default-first_day.ensures.none in (
      λ yes. same-never c.args.one.now c.args.other.now never (c.is_never_due-in_default-first_day.ensures.0 yes),
      λ same. c.is_never_due-in_default-first_day.ensures.1 (never-same c.args.one.now c.args.other.now never same),
    )

pub returns-then-not-is_day : goal.returns-then-not-is_day
returns-then-not-is_day c = (
  λ yes. cc,
  λ same.
      let due = same-due c.args.one.now c.args.other.now c.in-Some-first_day.day c.in-Some.minute same c.in-Some-first_day.ensures.in_range c.in-Some.ensures.within c.in-Some-first_day.ensures.member c.in-Some.ensures.member in
      absurd (both_ways (is_day c.args.other.now c.in-Some-first_day.day) (sym c.is_day.ensures ∙ c.if-not-is_day.true) due.0),
)

pub returns-then-not-is_minute : goal.returns-then-not-is_minute
returns-then-not-is_minute c = (
  λ yes. cc,
  λ same.
      let due = same-due c.args.one.now c.args.other.now c.in-Some-first_day.day c.in-Some.minute same c.in-Some-first_day.ensures.in_range c.in-Some.ensures.within c.in-Some-first_day.ensures.member c.in-Some.ensures.member in
      absurd (both_ways (is_minute c.args.other.now c.in-Some.minute) (sym c.is_minute.ensures ∙ c.if-not-is_minute.true) due.1),
)

pub returns-then-not-have_same_minutes : goal.returns-then-not-have_same_minutes
returns-then-not-have_same_minutes c = (
  λ yes. cc,
  λ same.
      let other = sym c.is_day.ensures ∙ c.if-not-is_day.false in
      let minutes = same-minutes c.args.one.now c.args.other.now c.in-Some-first_day.day same c.in-Some-first_day.ensures.in_range c.in-Some-first_day.ensures.member other in
      absurd (both_ways c.have_same_minutes.result c.if-not-have_same_minutes.true (c.have_same_minutes.ensures.1 minutes)),
)

pub returns : goal.returns
returns c = (
  λ yes. same-dues c.args.one.now c.args.other.now (c.have_same_minutes.ensures.0 c.if-not-have_same_minutes.false) (c.have_same_days.ensures.0 yes),
  λ same.
      let other = sym c.is_minute.ensures ∙ c.if-not-is_minute.false in
      c.have_same_days.ensures.1 (same-days c.args.one.now c.args.other.now c.in-Some.minute same c.in-Some.ensures.within c.in-Some.ensures.member other),
)
