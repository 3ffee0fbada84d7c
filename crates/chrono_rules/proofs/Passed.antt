-- What a search for a member passes over.
use Rattle.std.proofs.Common.{◌≡◌, false, refl, ap, ◌∙◌, arith, ℤ, ◌<ℤ◌, int_le}
use Rattle.std.proofs.lemmas.Bool.{and_right}
use Rattle.chrono_datetime.proofs.Signed.{signed}
use Rattle.chrono_rules.specs.Instances.{in_interval, is_member, not_after}
use Rattle.chrono_rules.specs.ByParts.{passes}
use Rattle.chrono_rules.specs.declared.rule.End.{End}
use Rattle.chrono_rules.specs.declared.rule.End.TheVariants.{Until}
use Rattle.chrono_rules.specs.declared.rule.Rule.{Rule}

-- a day that does not pass is no member
pub no_pass : (r : Rule) (start d : ℤ) → passes r start d ≡ false → is_member r start d ≡ false
unfolding is_member
no_pass r start d out =
    and_right (int_le start d) _ (and_right (not_after r.end d) _ (and_right (in_interval r start d) _ (rw out refl)))

-- behind UNTIL nothing is left
until-behind : (f : End) (u d : ℤ) → f ≡ Until u → u <ℤ d → not_after f d ≡ false
unfolding not_after
until-behind f u d is behind =
    let past : int_le d u ≡ false = grind (arith, signed, behind) in
    ap (λ f. not_after f d) is ∙ past

pub behind_until : (r : Rule) (start u d : ℤ) → r.end ≡ Until u → u <ℤ d → is_member r start d ≡ false
unfolding is_member
behind_until r start u d is behind =
    and_right (int_le start d) _ (rw (until-behind r.end u d is behind) refl)
