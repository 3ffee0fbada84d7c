use Rattle.std.proofs.Common.{rules, ◌≡◌, ◌∙◌, ◌+ℤ◌, ap, subst, sym, None, Some}
use Rattle.chrono_clock.proofs.MomentLemmas.{reach_by-parts}
use Rattle.chrono_naive.specs.Days.{date_of_day}
use Rattle.chrono_naive.proofs.NamedDates.{date_of_day-number}
use Rattle.chrono_datetime.specs.Moment.{IsMoment, Moment, moment, reach}
use Rattle.chrono_datetime.proofs.ReachLemmas.{IfSome-moved, IfSome-reach, reach-along, reach-exists}
use Rattle.chrono_datetime.proofs.naive_date_time.NaiveDateTime.checked_add_signed.Goals as goal

pub returns-in_err-date-clause-value : goal.returns-in_err-date-clause-value
unfolding reach
returns-in_err-date-clause-value c =
    let start = moment c.self.inside.date c.self.inside.time in
    let date : None ≡ date_of_day (c.self.inside.date +ℤ c.landing-time.result.1) = search rules in
    let nowhere = reach_by-parts date_of_day None start c.args.rhs c.landing-time.result.1 c.landing-time.result.0 c.landing-time.ensures.time c.landing-time.ensures.days date in
    c.from_residual.ensures ∙ nowhere ∙ ap (λ (m : Moment). reach m c.args.rhs) c.self.view_is

pub returns-in_err-date-clause-start : goal.returns-in_err-date-clause-start
returns-in_err-date-clause-start c =
    let P : Moment → Type 0 = IsMoment in
    let start : IsMoment (moment c.self.inside.date c.self.inside.time) = record { date = c.in_err-date.ensures.in_range; time = c.landing-time.ensures.start } in
    subst P c.self.view_is start

pub returns-in_err-date-clause-exists : goal.returns-in_err-date-clause-exists
returns-in_err-date-clause-exists c = reach-exists _ c.args.self c.args.rhs (returns-in_err-date-clause-value c)

pub returns : goal.returns
unfolding reach
returns c =
    let start = moment c.self.inside.date c.self.inside.time in
    let date : Some c.in_ok-date.date ≡ date_of_day (c.self.inside.date +ℤ c.landing-time.result.1) = search rules in
    let landed = reach_by-parts date_of_day (Some c.in_ok-date.date) start c.args.rhs c.landing-time.result.1 c.landing-time.result.0 c.landing-time.ensures.time c.landing-time.ensures.days date in
    let reached = reach-along (Some (moment c.in_ok-date.date c.landing-time.result.0)) start c.args.self c.args.rhs c.self.view_is c.landing-time.ensures.start landed in
    let laws = IfSome-reach (Some (moment c.in_ok-date.date c.landing-time.result.0)) c.args.self c.args.rhs reached.0 reached.1 in
    let P : Moment → Type 0 = IsMoment in
    let here : IsMoment start = record { date = c.in_ok-date.ensures.in_range; time = c.landing-time.ensures.start } in
    let end : IsMoment (moment c.in_ok-date.date c.landing-time.result.0) = record { date = (date_of_day-number c.in_ok-date.date (c.self.inside.date +ℤ c.landing-time.result.1) (sym date)).0; time = c.landing-time.ensures.end } in
    let known = IfSome-moved (Some (moment c.in_ok-date.date c.landing-time.result.0)) c.args.self c.args.rhs reached.1 in
    record {
      value = reached.1;
      exists = reach-exists (Some (moment c.in_ok-date.date c.landing-time.result.0)) c.args.self c.args.rhs reached.1;
      moved = known.0;
      start = subst P c.self.view_is here;
      end = end;
      plain = known.1;
      distance = known.2;
      adds_up = laws.0;
      later = laws.1;
      earlier = laws.2;
    }
