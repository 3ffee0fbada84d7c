use Rattle.std.proofs.Common.{ℤ, ap, ◌∙◌, subst}
use Rattle.chrono_clock.specs.Time.{TimeOfDay, IsTime}
use Rattle.chrono_clock.proofs.MomentLemmas.{moment_distance-parts, moment_distance-turned}
use Rattle.chrono_naive.specs.Days.{IsDate}
use Rattle.chrono_datetime.specs.Moment.{IsMoment, Moment, moment, moment_distance}
use Rattle.chrono_datetime.proofs.DifferenceLemmas.{reach-moment_distance, moment_distance-sign}
use Rattle.chrono_datetime.proofs.naive_date_time.NaiveDateTime.signed_duration_since.Goals as goal

pub returns : goal.returns
returns c =
    let D : ℤ → Type 0 = IsDate in
    let T : TimeOfDay → Type 0 = IsTime in
    let base = moment c.rhs.inside.date c.rhs.inside.time in
    let value =
    moment_distance-parts c.self.inside.date c.rhs.inside.date _ _ _ c.self.inside.time c.rhs.inside.time c.signed_duration_since.ensures c.signed_duration_since-2.ensures.value c.add.ensures
    ∙ ap (λ m. moment_distance m base) c.self.view_is ∙ ap (moment_distance c.args.self) c.rhs.view_is in
    let date = subst D (c.num_days_from_ce.ensures.value ∙ ap (λ (m : Moment). m.date) c.self.view_is) c.num_days_from_ce.ensures.in_range in
    let rhs_date = subst D (c.num_days_from_ce-2.ensures.value ∙ ap (λ (m : Moment). m.date) c.rhs.view_is) c.num_days_from_ce-2.ensures.in_range in
    let time = subst T (ap (λ (m : Moment). m.time) c.self.view_is) c.signed_duration_since-2.ensures.times.0 in
    let rhs_time = subst T (ap (λ (m : Moment). m.time) c.rhs.view_is) c.signed_duration_since-2.ensures.times.1 in
    let here : IsMoment c.args.self = record { date = date; time = time } in
    let there : IsMoment c.args.rhs = record { date = rhs_date; time = rhs_time } in
    let signs = moment_distance-sign c.args.self c.args.rhs time rhs_time in
    record {
      value = value;
      moments = (here, there);
      turned = value ∙ moment_distance-turned c.args.self c.args.rhs;
      back = λ way. rw value (reach-moment_distance c.args.self c.args.rhs date time rhs_time way);
      later = λ way. rw value (signs way).0;
      same = λ way. rw value (signs way).1;
      earlier = λ way. rw value (signs way).2;
    }
