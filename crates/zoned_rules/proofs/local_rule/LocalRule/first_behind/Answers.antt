use Rattle.std.proofs.Common.{arith}
use Rattle.std.proofs.lemmas.Option.{IfSome_then}
use Rattle.chrono_datetime.proofs.Signed.{casts}
use Rattle.chrono_zoned.proofs.OptionLemmas.{if_none}
use Rattle.zoned_rules.proofs.SinceStart.{if_both, listed_alone, since_listed}
use Rattle.zoned_rules.proofs.local_rule.LocalRule.first_behind.Goals as goal

pub returns-clause-listed : goal.returns-clause-listed
returns-clause-listed c =
    if_both c.first_from.result c.first_from.ensures.listed c.first_from.ensures.not_before (λ m listed low.
    since_listed c.args.self.now m listed (omega (arith, casts, low, c.requires.since, c.date.ensures, c.num_seconds_from_midnight.ensures.value)))

pub returns-clause-least : goal.returns-clause-least
returns-clause-least c =
    IfSome_then c.first_from.result c.first_from.ensures.least (λ m h q listed lt. h q (listed_alone c.args.self.now q listed) (omega (arith, casts, lt, c.date.ensures, c.num_seconds_from_midnight.ensures.value)))

pub returns-clause-none : goal.returns-clause-none
returns-clause-none c =
    if_none c.first_from.result c.first_from.ensures.none (λ h q listed.
    omega (arith, casts, h q (listed_alone c.args.self.now q listed), c.date.ensures, c.num_seconds_from_midnight.ensures.value))
