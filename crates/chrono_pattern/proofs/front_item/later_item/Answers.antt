use Rattle.std.proofs.Common.{ap, sym, ◌∙◌, arith, length}
use Rattle.chrono_pattern.specs.PatternItems.{item_before, items_from}
use Rattle.chrono_pattern.specs.declared.item.State.{State}
use Rattle.chrono_pattern.proofs.FrontLemmas.{front_ends, front_goes_on, front_is_later, front_stops, within}
use Rattle.chrono_pattern.proofs.Utf8Lemmas.{ascii_grows, specifier_ends, within_ascii}
use Rattle.chrono_pattern.proofs.front_item.later_item.Goals as goal

pub returns-in-None-clause-none : goal.returns-in-None-clause-none
returns-in-None-clause-none c =
    let l = c.loop-byte in
    sym l.invariant.items ∙ front_stops l.stands _ _ _ c.in-Some.ensures.cases.0 (sym c.pattern_step.ensures ∙ c.in-None.is)

pub returns-in-Outside-clause-item : goal.returns-in-Outside-clause-item
returns-in-Outside-clause-item c =
    let l = c.loop-byte in
    let found = c.in-Some-pattern_step in
    sym l.invariant.items
    ∙ front_goes_on l.stands _ _ _ (found.next, found.item) c.in-Some.ensures.cases.0 (sym c.pattern_step.ensures ∙ found.is)
    ∙ ap (λ (s : State). item_before found.item (items_from s c.in-Some.behind.now)) c.in-Outside.is

pub returns-in-Outside-clause-ascii : goal.returns-in-Outside-clause-ascii
returns-in-Outside-clause-ascii c =
    let l = c.loop-byte in
    let found = c.in-Some-pattern_step in
    specifier_ends _ l.invariant.front.0 _ _ l.stands _ (found.next, found.item) l.invariant.front.1 l.invariant.front.2 l.invariant.within
    c.in-Some.ensures.cases.0 (sym c.pattern_step.ensures ∙ found.is)

pub loop-byte-preserved : goal.loop-byte-preserved
loop-byte-preserved c =
    let l = c.loop-byte in
    let found = c.in-Some-pattern_step in
    let step = sym c.pattern_step.ensures ∙ found.is in
    record {
      within = within _ c.in-Opened.is;
      front = ascii_grows _ l.invariant.front.0 _ _ _ l.invariant.front.1 l.invariant.front.2 c.in-Some.ensures.cases.0 (within_ascii l.stands _ _ l.invariant.within step);
      items = sym (front_is_later l.stands _ _ _ (found.next, found.item) c.in-Some.ensures.cases.0 (sym c.pattern_step.ensures ∙ found.is) (within _ c.in-Opened.is)) ∙ l.invariant.items;
      shorter = omega (arith, l.invariant.shorter, ap length c.in-Some.ensures.cases.0);
    }

pub returns-clause-none : goal.returns-clause-none
returns-clause-none c =
    let l = c.loop-byte in
    sym l.invariant.items ∙ front_ends l.stands _ c.in_default.ensures.cases
