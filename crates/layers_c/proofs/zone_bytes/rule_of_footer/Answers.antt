use Rattle.std.proofs.Common.{arith, ap, length}
use Rattle.std.proofs.lemmas.Grind.{common_steps}
use Rattle.layers_c.proofs.ZoneLemmas.{not_footer}
use Rattle.layers_c.proofs.zone_bytes.rule_of_footer.Goals as goal

pub returns-in-Err-clause-none : goal.returns-in-Err-clause-none
returns-in-Err-clause-none c =
    not_footer c.args.footer.now (λ none. let n = ap length none in grind (arith, common_steps, n, c.is_empty.ensures, c.if-is_empty.false)) c.in-Err.ensures.every
