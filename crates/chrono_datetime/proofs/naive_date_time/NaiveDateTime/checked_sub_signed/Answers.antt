use Rattle.std.proofs.Common.{rules}
use Rattle.chrono_datetime.proofs.DifferenceLemmas.{IfSome-turned}
use Rattle.chrono_datetime.proofs.naive_date_time.NaiveDateTime.checked_sub_signed.Goals as goal

pub returns-clause-distance : goal.returns-clause-distance
returns-clause-distance c = IfSome-turned c.checked_add_signed.result c.args.self c.args.rhs (search rules)
