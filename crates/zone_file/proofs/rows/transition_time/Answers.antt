use Rattle.std.proofs.Common.{rules, ne_eqb}
use Rattle.zone_file.proofs.rows.transition_time.Goals as goal

pub returns-clause-read : goal.returns-clause-read
returns-clause-read c = rw (ne_eqb c.args.version 0 c.if-version-eq0.false) (search rules)

pub returns-clause-every : goal.returns-clause-every
returns-clause-every c = rw (ne_eqb c.args.version 0 c.if-version-eq0.false) (search rules)
