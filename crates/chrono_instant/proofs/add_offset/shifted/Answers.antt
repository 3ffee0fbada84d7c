use Rattle.std.proofs.Common.{arith, rules, refl, ap, sym, subst, ◌≡◌, ℤ}
use Rattle.std.proofs.lemmas.Grind.{common_steps}
use Rattle.chrono_datetime.proofs.NamedDates.{date_of_day-number}
use Rattle.chrono_datetime.specs.Days.{IsDate}
use Rattle.chrono_datetime.specs.Moment.{Moment}
use Rattle.chrono_datetime.specs.Time.{IsTime, TimeOfDay}
use Rattle.chrono_instant.specs.Instants.{IsEpochSecond}
use Rattle.chrono_instant.specs.Offsets.{moment_ahead}
use Rattle.chrono_instant.proofs.InstantLemmas.{IsEpochSecond-moment, IsShifted-ahead}
use Rattle.chrono_instant.proofs.add_offset.shifted.Goals as goal

pub returns-clause-value : goal.returns-clause-value
returns-clause-value c =
    let same : c.and_time-2.result ≡ moment_ahead c.args.datetime c.args.seconds = first_of (search rules, grind (arith, common_steps)) in
    let there : IsDate c.in_ok-date.date = (date_of_day-number c.in_ok-date.date _ (sym c.in_ok-date.ensures.date)).0 in
    let date : c.in_ok-date.date ≡ c.and_time-2.result.date = sym (ap (λ (m : Moment). m.date) c.and_time-2.ensures) in
    let start : IsTime c.args.datetime.time = subst (λ (t : TimeOfDay). IsTime t) c.time-time.ensures c.overflowing_add_offset-time.ensures.start in
    IsShifted-ahead c.args.datetime c.and_time-2.result c.args.seconds start (subst (λ (n : ℤ). IsDate n) date there) same

pub returns-clause-exists : goal.returns-clause-exists
returns-clause-exists c =
    let shifted = returns-clause-value c in
    (λ _. subst (λ (s : ℤ). IsEpochSecond s) shifted.second (IsEpochSecond-moment c.and_time-2.result shifted.exists), λ _. refl)
