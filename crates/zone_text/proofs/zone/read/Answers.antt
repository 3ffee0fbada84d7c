use Rattle.std.proofs.Common.{◌≡◌, List, ℕ, ℤ, Option, ap, subst, sym, ◌∙◌}
use Rattle.std.proofs.lemmas.Option.{same_Some}
use Rattle.std.specs.Result.{result_ok}
use Rattle.zone_text.specs.NameTexts.{behind_front, front_of, is_of_offset}
use Rattle.zone_text.specs.ZoneTexts.{IsAhead, IsDaylightPart, IsDaylightTimes, written_ahead}
use Rattle.zone_text.proofs.ZoneLemmas.{has_daylight, not_empty}
use Rattle.zone_text.proofs.zone.read.Goals as goal

pub returns-in_err-standard_name-clause-every : goal.returns-in_err-standard_name-clause-every
returns-in_err-standard_name-clause-every c = λ standard daylight rule is. absurd (c.in_err-standard_name.ensures.every standard is.after_name is.name_is)

pub returns-in_err-daylight_name-clause-every : goal.returns-in_err-daylight_name-clause-every
returns-in_err-daylight_name-clause-every c = λ standard daylight rule is.
    let first = c.in_ok-standard_name.ensures.every standard is.after_name is.name_is in
    let rest : c.split_offset.result.1.now ≡ is.rest = c.split_offset.ensures.behind ∙ ap (λ (l : List ℕ). behind_front is_of_offset l) first.1 ∙ is.behind in
    let part = subst (λ (l : List ℕ). IsDaylightPart rule.standard l daylight rule.daylight) (sym rest) is.daylight_is in
    let some = has_daylight rule.standard c.split_offset.result.1.now daylight rule.daylight (λ nothing. not_empty c.split_offset.result.1.now _ c.is_empty.ensures c.if-is_empty.false nothing) part in
    absurd (c.in_err-daylight_name.ensures.every daylight some.2.after_name some.2.name_is)

pub returns-in_err-daylight-clause-every : goal.returns-in_err-daylight-clause-every
returns-in_err-daylight-clause-every c = λ standard daylight rule is.
    let first = c.in_ok-standard_name.ensures.every standard is.after_name is.name_is in
    let front = c.split_offset.ensures.front ∙ ap (λ (l : List ℕ). front_of is_of_offset l) first.1 in
    let ahead = c.written_ahead.ensures ∙ ap (λ (l : List ℕ). written_ahead l) front in
    let offset = c.offset_of.ensures.every rule.standard (subst (λ (o : Option ℤ). IsAhead o rule.standard) (sym ahead) is.ahead_is) in
    let same : c.in_ok-standard.standard ≡ rule.standard = same_Some _ _ (ap result_ok (sym c.in_ok-standard.was ∙ offset)) in
    let rest : c.split_offset.result.1.now ≡ is.rest = c.split_offset.ensures.behind ∙ ap (λ (l : List ℕ). behind_front is_of_offset l) first.1 ∙ is.behind in
    let part = subst (λ (l : List ℕ). IsDaylightPart rule.standard l daylight rule.daylight) (sym rest) is.daylight_is in
    let some = has_daylight rule.standard c.split_offset.result.1.now daylight rule.daylight (λ nothing. not_empty c.split_offset.result.1.now _ c.is_empty.ensures c.if-is_empty.false nothing) part in
    let second = c.in_ok-daylight_name.ensures.every daylight some.2.after_name some.2.name_is in
    let times = subst (λ (l : List ℕ). IsDaylightTimes rule.standard l some.0) (sym second.1) some.2.times_are in
    let read = c.read_daylight.ensures.every some.0 (subst (λ (x : ℤ). IsDaylightTimes x c.in_ok-daylight_name.behind.now some.0) (sym same) times) in
    absurd (cc (c.in_err-daylight.was, read))
