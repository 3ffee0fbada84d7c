use Rattle.std.proofs.Common.{arith, ap, length}
use Rattle.std.proofs.lemmas.Grind.{common_steps}
use Rattle.zone_database.proofs.WrongFiles.{no_rule}
use Rattle.zone_database.proofs.owned_zone.rule_of_footer.Goals as goal

pub returns-in-Err-clause-error : goal.returns-in-Err-clause-error
returns-in-Err-clause-error c =
    no_rule c.args.footer.now (λ none. let n = ap length none in grind (arith, common_steps, n, c.is_empty.ensures, c.if-is_empty.false)) c.in-Err.ensures.every
