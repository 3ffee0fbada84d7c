use Rattle.std.proofs.Common.{ap, sym, ◌∙◌}
use Rattle.std.specs.Prelude.{Result}
use Rattle.chrono_pattern.specs.Progress.{Progress}
use Rattle.chrono_pattern.specs.declared.item.State.TheVariants.{Outside}
use Rattle.chrono_pattern.specs.declared.stop.Stop.{Stop}
use Rattle.chrono_pattern.proofs.ItemLemmas.{read_of_front, read_of_none}
use Rattle.chrono_pattern.proofs.ReadLemmas.{behind_item}
use Rattle.chrono_pattern.proofs.reader.read_front.Goals as goal

pub returns-in-Err-clause-stop : goal.returns-in-Err-clause-stop
returns-in-Err-clause-stop c =
    let l = c.loop-item in
    sym l.invariant
    ∙ read_of_front _ _ c.in-Some.item l.reader c.in-Some.ensures.item
    ∙ ap (λ (o : Result Progress Stop). behind_item o Outside c.in-Some.behind.now) c.in-Err.ensures.stop

pub loop-item-preserved : goal.loop-item-preserved
loop-item-preserved c =
    let l = c.loop-item in
    sym (read_of_front _ _ c.in-Some.item l.reader c.in-Some.ensures.item
    ∙ ap (λ (o : Result Progress Stop). behind_item o Outside c.in-Some.behind.now) c.in-Ok.ensures.read) ∙ l.invariant

pub returns-clause-read : goal.returns-clause-read
returns-clause-read c =
    let l = c.loop-item in
    sym l.invariant ∙ read_of_none _ l.reader c.in_default.ensures.none
