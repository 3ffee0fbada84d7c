use Rattle.std.proofs.Common.{}
use Rattle.calendar_text.proofs.PutLemmas.{none_both, none_first, some_both}
use Rattle.calendar_text.proofs.writer.put_two.Goals as goal

pub returns-in_err-end-clause-none : goal.returns-in_err-end-clause-none
returns-in_err-end-clause-none c = rw c.from_residual.ensures (none_first _ _ _ _ c.in_err-end.ensures.none)

pub returns-clause-put : goal.returns-clause-put
returns-clause-put c = some_both c.put-2.result _ _ _ _ _ _ _ c.in_ok-end.ensures.put c.put-2.ensures.put

pub returns-clause-none : goal.returns-clause-none
returns-clause-none c = none_both c.put-2.result _ _ _ _ _ _ c.in_ok-end.ensures.put c.put.ensures.length c.put-2.ensures.none
