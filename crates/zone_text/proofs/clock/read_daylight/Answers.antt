use Rattle.std.proofs.Common.{◌≡◌, List, ℕ, ℤ, Option, ◌∷◌, ◌-◌, Ok, ap, arith, drop, length, subst, sym, take, ◌∙◌}
use Rattle.std.proofs.lemmas.List.{take_all}
use Rattle.std.proofs.lemmas.Option.{same_Some}
use Rattle.std.specs.Result.{result_ok}
use Rattle.zone_rule.specs.Changes.{YearlyChange}
use Rattle.zone_rule.specs.declared.rule.Daylight.{Daylight}
use Rattle.zone_text.specs.ChangeTexts.{AreChangesText}
use Rattle.zone_text.specs.ZoneTexts.{IsAhead, daylight_ahead}
use Rattle.zone_text.proofs.ZoneLemmas.{same_daylight}
use Rattle.zone_text.proofs.clock.read_daylight.Goals as goal

pub returns-clause-every : goal.returns-clause-every
returns-clause-every c = λ d is.
    let ahead = c.daylight_ahead.ensures ∙ ap (λ (l : List ℕ). daylight_ahead c.args.standard l) c.split_offset.ensures.front in
    let offset = c.offset_of.ensures.every d.offset (subst (λ (o : Option ℤ). IsAhead o d.offset) (sym ahead) is.ahead_is) in
    let behind : c.split_offset.result.1.now ≡ 44 ∷ is.changes = c.split_offset.ensures.behind ∙ is.comma in
    let changes : take (length c.split_offset.result.1.now - 1) (drop 1 c.split_offset.result.1.now) ≡ is.changes =
    ap (λ (l : List ℕ). take (length l - 1) (drop 1 l)) behind ∙ take_all (length (44 ∷ is.changes) - 1) is.changes (omega arith) in
    let both = c.read_changes.ensures.every d.begins d.ends (subst (λ (l : List ℕ). AreChangesText l d.begins d.ends) (sym changes) is.changes_are) in
    let same_offset : c.in_ok-offset.offset ≡ d.offset = same_Some _ _ (ap result_ok (sym c.in_ok-offset.was ∙ offset)) in
    let same_both : ◌≡◌ {A = YearlyChange × YearlyChange} (c.in_ok-begins.begins, c.in_ok-begins.ends) (d.begins, d.ends) = same_Some _ _ (ap result_ok (sym c.in_ok-begins.was ∙ both)) in
    ap (λ (e : Daylight). Ok e) (same_daylight d _ _ _ same_offset (ap (λ (p : YearlyChange × YearlyChange). p.0) same_both) (ap (λ (p : YearlyChange × YearlyChange). p.1) same_both))
