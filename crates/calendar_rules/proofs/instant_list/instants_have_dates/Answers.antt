use Rattle.std.proofs.Common.{subst}
use Rattle.chrono_datetime.specs.Moment.{IsMoment}
use Rattle.chrono_instant.specs.Instants.{IsEpochSecond}
use Rattle.chrono_instant.proofs.InstantLemmas.{IsEpochSecond-moment}
use Rattle.calendar_rules.proofs.instant_list.instants_have_dates.Goals as goal

pub returns : goal.returns
returns g c = record {
  utc = IsEpochSecond-moment c.args.instant.utc (subst IsMoment c.naive_utc.ensures c.date_times_exist.ensures);
  local = subst IsEpochSecond c.naive_local.ensures.value.second (IsEpochSecond-moment c.naive_local.result c.naive_local.ensures.value.exists);
}
