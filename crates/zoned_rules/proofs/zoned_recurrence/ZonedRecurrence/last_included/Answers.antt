use Rattle.std.proofs.Common.{◌≡◌, ⊎_elim, inl, inr, ℤ, ◌<ℤ◌, of_z, to_z, w64, subst, sym}
use Rattle.std.proofs.lemmas.Int.{to_z-of_z}
use Rattle.std.proofs.lemmas.Option.{IfSome_then}
use Rattle.chrono_zoned.proofs.OptionLemmas.{one_of}
use Rattle.zoned_rules.specs.ZonedSets.{IsIncluded}
use Rattle.zoned_rules.proofs.zoned_recurrence.ZonedRecurrence.last_included.Goals as goal

pub returns-clause-included : goal.returns-clause-included
returns-clause-included g c =
    let set = c.args.self.now in
    let here : to_z w64 (of_z w64 c.args.end) ≡ c.args.end = to_z-of_z w64 c.args.end c.ranges.end in
    one_of (λ x. (x <ℤ c.args.end) × IsIncluded set.rule.local (g.Z.TimeZone.ahead set.rule.zone) set.rule.bound set.dates.now x) c.previous_second.result c.last_listed.result c.later.result c.later.ensures.either
    (IfSome_then c.previous_second.result c.previous_second.ensures.recurs (λ x h. (subst (λ (k : ℤ). x <ℤ k) here h.0, record { has_dates = h.1.recurs.recurs.dates; included = inl h.1 })))
    (IfSome_then c.last_listed.result c.last_listed.ensures.listed (λ x h. (subst (λ (k : ℤ). x <ℤ k) here h.0, record { has_dates = h.1; included = inr h.2 })))

pub returns-clause-greatest : goal.returns-clause-greatest
returns-clause-greatest g c = λ u earlier h.
    let here : to_z w64 (of_z w64 c.args.end) ≡ c.args.end = to_z-of_z w64 c.args.end c.ranges.end in
    let to : u <ℤ to_z w64 (of_z w64 c.args.end) = subst (λ (k : ℤ). u <ℤ k) (sym here) earlier in
    ⊎_elim (λ f. c.later.ensures.greatest u (inl (c.previous_second.ensures.greatest u to f)))
    (λ listed. c.later.ensures.greatest u (inr (c.last_listed.ensures.greatest u to h.has_dates listed))) h.included
