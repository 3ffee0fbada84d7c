use Rattle.std.proofs.Common.{◌∙◌}
use Rattle.std.proofs.lemmas.Option.{IfSome_then}
use Rattle.chrono_pattern.specs.declared.item.Item.TheVariants.{Byte, Empty}
use Rattle.chrono_pattern.specs.declared.item.Padding.TheVariants.{Usual}
use Rattle.chrono_pattern.specs.declared.item.State.TheVariants.{Opened, Outside}
use Rattle.chrono_pattern.proofs.FrontLemmas.{IfNone_then, begins, front_ends, front_goes_on, stands_for_itself}
use Rattle.chrono_pattern.proofs.front_item.front_item.Goals as goal

pub returns-in-None-clause-none : goal.returns-in-None-clause-none
returns-in-None-clause-none c = front_ends Outside _ c.in-None.ensures.cases

pub returns-then-byte-eq37-clause-item : goal.returns-then-byte-eq37-clause-item
returns-then-byte-eq37-clause-item c =
    let opens = front_goes_on Outside _ _ _ (Opened Usual, Empty) c.in-Some.ensures.cases.0 (begins c.in-Some.byte.now c.if-byte-eq37.true) in
    IfSome_then c.specifier.result c.specifier.ensures.item (λ r h. opens ∙ h)

pub returns-then-byte-eq37-clause-none : goal.returns-then-byte-eq37-clause-none
returns-then-byte-eq37-clause-none c =
    let opens = front_goes_on Outside _ _ _ (Opened Usual, Empty) c.in-Some.ensures.cases.0 (begins c.in-Some.byte.now c.if-byte-eq37.true) in
    IfNone_then c.specifier.result c.specifier.ensures.none (λ h. opens ∙ h)

pub returns-else-byte-eq37-clause-item : goal.returns-else-byte-eq37-clause-item
returns-else-byte-eq37-clause-item c =
    front_goes_on Outside _ _ _ (Outside, Byte c.in-Some.byte.now) c.in-Some.ensures.cases.0 (stands_for_itself c.in-Some.byte.now c.if-byte-eq37.false)
