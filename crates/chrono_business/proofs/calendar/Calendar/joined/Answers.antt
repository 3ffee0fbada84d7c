use Rattle.std.proofs.Common.{◌≡◌, true, ◌⊎◌, inl, inr, List, [], take, ap, ◌∙◌, ℤ}
use Rattle.chrono_datetime.specs.WeekdaySet.{DaySet, union}
use Rattle.chrono_business.specs.OpenDays.{Closed, closed, is_holiday, is_open}
use Rattle.chrono_business.specs.HolidayLists.{AreHolidaysWith}
use Rattle.chrono_business.proofs.HolidayUnions.{with-more}
use Rattle.chrono_business.proofs.JoinedCalendars.{joined-open}
use Rattle.chrono_business.proofs.calendar.Calendar.joined.Goals as goal

pub returns-clause-open : goal.returns-clause-open
returns-clause-open c = λ d.
    let a = c.args.self.now in
    let b = c.args.other.now in
    let own : List ℤ = take c.in_ok-own.own c.insert_all.new.dates in
    let all : List ℤ = take c.in_ok-all.all c.insert_all-2.new.dates in
    let week : c.weekend.result ≡ a.weekend = c.weekend.ensures ∙ ap (λ (v : Closed). v.weekend) c.self.view_is in
    let other_week : c.weekend-2.result ≡ b.weekend = c.weekend-2.ensures ∙ ap (λ (v : Closed). v.weekend) c.other.view_is in
    let days : c.as_slice-days.result.now ≡ a.holidays = c.as_slice-days.ensures ∙ ap (λ (v : Closed). v.holidays) c.self.view_is in
    let other_days : c.as_slice-other_days.result.now ≡ b.holidays = c.as_slice-other_days.ensures ∙ ap (λ (v : Closed). v.holidays) c.other.view_is in
    let both : c.union-weekend.result ≡ union a.weekend b.weekend = c.union-weekend.ensures ∙ (ap (λ (s : DaySet). union s c.weekend-2.result) week ∙ ap (union a.weekend) other_week) in
    let first : AreHolidaysWith c.union-weekend.result [] (λ e. is_holiday a.holidays e ≡ true) own = rw days at c.in_ok-own.ensures.some in
    let next : AreHolidaysWith c.union-weekend.result own (λ e. is_holiday b.holidays e ≡ true) all = rw other_days at c.in_ok-all.ensures.some in
    let with = with-more c.union-weekend.result (λ e. is_holiday a.holidays e ≡ true) (λ e. is_holiday b.holidays e ≡ true) (λ e. (is_holiday a.holidays e ≡ true) ⊎ (is_holiday b.holidays e ≡ true)) [] own all first next (λ e p. inl p) (λ e q. inr q) (λ e r. r) in
    ap (λ (v : Closed). is_open v d) c.new.ensures ∙ joined-open a b (closed c.union-weekend.result all) d both (rw both at with)
