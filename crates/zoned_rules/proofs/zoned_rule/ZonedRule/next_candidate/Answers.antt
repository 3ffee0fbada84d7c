use Rattle.std.proofs.Common.{◌≡◌, ⊎_elim, inl, inr, of_z, to_z, w64, arith}
use Rattle.std.proofs.lemmas.Int.{ints, to_z-of_z}
use Rattle.zoned_rules.proofs.zoned_rule.ZonedRule.next_candidate.Goals as goal

pub returns-clause-reached : goal.returns-clause-reached
returns-clause-reached g c = λ m u h beside.
    let fits : to_z w64 (of_z w64 c.args.after) ≡ c.args.after = to_z-of_z w64 c.args.after c.ranges.after in
    ⊎_elim (λ e. c.earlier_candidate.ensures.reached u (inl (c.candidate_behind-first.ensures.reached m u h (omega (arith, ints, fits, beside)) e)))
    (λ e. c.earlier_candidate.ensures.reached u (inr (c.candidate_behind-second.ensures.reached m u h (omega (arith, ints, fits, beside)) e)))
