use Rattle.std.proofs.Common.{◌≡◌, ⊎_elim, inl, inr, of_z, to_z, w64, arith}
use Rattle.std.proofs.lemmas.Int.{ints, to_z-of_z}
use Rattle.zoned_rules.proofs.zoned_rule.ZonedRule.previous_candidate.Goals as goal

pub returns-clause-reached : goal.returns-clause-reached
returns-clause-reached g c = λ m u h beside.
    let fits : to_z w64 (of_z w64 c.args.end) ≡ c.args.end = to_z-of_z w64 c.args.end c.ranges.end in
    ⊎_elim (λ e. c.later_candidate.ensures.reached u (inl (c.candidate_before-first.ensures.reached m u h (omega (arith, ints, fits, beside)) e)))
    (λ e. c.later_candidate.ensures.reached u (inr (c.candidate_before-second.ensures.reached m u h (omega (arith, ints, fits, beside)) e)))
