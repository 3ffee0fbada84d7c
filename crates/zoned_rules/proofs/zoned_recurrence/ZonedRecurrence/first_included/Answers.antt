use Rattle.std.proofs.Common.{◌≡◌, ⊎_elim, inl, inr, ℤ, ◌<ℤ◌, of_z, to_z, w64, subst, sym}
use Rattle.std.proofs.lemmas.Int.{to_z-of_z}
use Rattle.std.proofs.lemmas.Option.{IfSome_then}
use Rattle.chrono_zoned.proofs.OptionLemmas.{one_of}
use Rattle.zoned_rules.specs.ZonedSets.{IsIncluded}
use Rattle.zoned_rules.proofs.zoned_recurrence.ZonedRecurrence.first_included.Goals as goal

pub returns-clause-included : goal.returns-clause-included
returns-clause-included g c =
    let set = c.args.self.now in
    let here : to_z w64 (of_z w64 c.args.start) ≡ c.args.start = to_z-of_z w64 c.args.start c.ranges.start in
    one_of (λ x. (c.args.start <ℤ x) × IsIncluded set.rule.local (g.Z.TimeZone.ahead set.rule.zone) set.rule.bound set.dates.now x) c.next_second.result c.first_listed.result c.earlier.result c.earlier.ensures.either
    (IfSome_then c.next_second.result c.next_second.ensures.recurs (λ x h. (subst (λ (k : ℤ). k <ℤ x) here h.0, record { has_dates = h.1.recurs.recurs.dates; included = inl h.1 })))
    (IfSome_then c.first_listed.result c.first_listed.ensures.listed (λ x h. (subst (λ (k : ℤ). k <ℤ x) here h.0, record { has_dates = h.1; included = inr h.2 })))

pub returns-clause-least : goal.returns-clause-least
returns-clause-least g c = λ u later h.
    let here : to_z w64 (of_z w64 c.args.start) ≡ c.args.start = to_z-of_z w64 c.args.start c.ranges.start in
    let from : to_z w64 (of_z w64 c.args.start) <ℤ u = subst (λ (k : ℤ). k <ℤ u) (sym here) later in
    ⊎_elim (λ f. c.earlier.ensures.least u (inl (c.next_second.ensures.least u from f)))
    (λ listed. c.earlier.ensures.least u (inr (c.first_listed.ensures.least u from h.has_dates listed))) h.included
