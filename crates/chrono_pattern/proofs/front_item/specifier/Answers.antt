use Rattle.std.proofs.Common.{[], ap, refl, sym, ◌∙◌, arith, length}
use Rattle.std.proofs.lemmas.Str.Ascii.{IsAscii-nil}
use Rattle.std.proofs.lemmas.Option.{IfSome_then}
use Rattle.chrono_pattern.specs.PatternItems.{item_before, items_from}
use Rattle.chrono_pattern.specs.declared.item.Padding.TheVariants.{Usual}
use Rattle.chrono_pattern.specs.declared.item.State.{State}
use Rattle.chrono_pattern.specs.declared.item.State.TheVariants.{Opened}
use Rattle.chrono_pattern.proofs.FrontLemmas.{IfNone_then, front_ends, front_goes_on, front_is_later, front_stops, within}
use Rattle.chrono_pattern.proofs.Utf8Lemmas.{specifier_ends, specifier_longer, within_ascii}
use Rattle.chrono_pattern.proofs.front_item.specifier.Goals as goal

pub returns-in-None-clause-none : goal.returns-in-None-clause-none
returns-in-None-clause-none c = front_ends (Opened Usual) _ c.in-None.ensures.cases

pub returns-in-None-opened_step-clause-none : goal.returns-in-None-opened_step-clause-none
returns-in-None-opened_step-clause-none c =
    front_stops (Opened Usual) _ _ _ c.in-Some.ensures.cases.0 (sym c.opened_step.ensures ∙ c.in-None-opened_step.is)

pub returns-in-Outside-clause-item : goal.returns-in-Outside-clause-item
returns-in-Outside-clause-item c =
    let found = c.in-Some-opened_step in
    front_goes_on (Opened Usual) _ _ _ (found.state, found.item) c.in-Some.ensures.cases.0 (sym c.opened_step.ensures ∙ found.is)
    ∙ ap (λ (s : State). item_before found.item (items_from s c.in-Some.rest.now)) c.in-Outside.is

pub returns-in-Outside-clause-ascii : goal.returns-in-Outside-clause-ascii
returns-in-Outside-clause-ascii c =
    let found = c.in-Some-opened_step in
    specifier_ends _ [] _ _ (Opened Usual) _ (found.state, found.item) refl IsAscii-nil refl c.in-Some.ensures.cases.0 (sym c.opened_step.ensures ∙ found.is)

pub later_item-requires : goal.later_item-requires
later_item-requires c = within _ c.in-Opened.is

pub returns-in-Opened : goal.returns-in-Opened
returns-in-Opened c =
    let found = c.in-Some-opened_step in
    let later = c.later_item in
    let small = within_ascii (Opened Usual) _ (found.state, found.item) refl (sym c.opened_step.ensures ∙ found.is) in
    let same = front_is_later (Opened Usual) _ _ _ (found.state, found.item) c.in-Some.ensures.cases.0 (sym c.opened_step.ensures ∙ found.is) (within _ c.in-Opened.is) in
    record {
      item = IfSome_then later.result later.ensures.item (λ r h. same ∙ h);
      shorter = IfSome_then later.result later.ensures.shorter (λ r h. omega (arith, h, ap length c.in-Some.ensures.cases.0));
      none = IfNone_then later.result later.ensures.none (λ h. same ∙ h);
      ascii = IfSome_then later.result later.ensures.ascii (λ r h. specifier_longer _ _ _ _ _ c.in-Some.ensures.cases.0 small h);
    }
