use Rattle.std.proofs.Common.{sym, arith}
use Rattle.chrono_rules.proofs.search.skipped_by_position.has_place.Goals as goal

pub returns-then-number-ge384 : goal.returns-then-number-ge384
returns-then-number-ge384 c = sym (c.last_place-last.ensures.none c.args.number (omega (arith, c.if-number-ge384.true, c.last_place-last.ensures.few)))
