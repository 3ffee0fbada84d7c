use Rattle.std.proofs.Common.{◌∙◌, ◌<◌, ℤ, subst, sym, unsigned_abs, w32, w64}
use Rattle.std.proofs.lemmas.Int.{to_z-of_z}
use Rattle.zone_rule.proofs.Carried.{seconds_bound, sum_fits, sum_is}
use Rattle.zone_rule.proofs.change.second_of.Goals as goal

pub overflow_sub-result : goal.overflow_sub-result
overflow_sub-result c =
    sum_fits c.from-days.result c.from.result c.from-2.result c.args.day c.args.second c.args.offset
    (to_z-of_z w64 c.from-days.result (record { sfits = c.from-days.type_inv }) ∙ c.from-days.ensures ∙ to_z-of_z w32 c.args.day c.ranges.day)
    (to_z-of_z w64 c.from.result (record { sfits = c.from.type_inv }) ∙ c.from.ensures ∙ to_z-of_z w32 c.args.second c.ranges.second)
    (to_z-of_z w64 c.from-2.result (record { sfits = c.from-2.type_inv }) ∙ c.from-2.ensures ∙ to_z-of_z w32 c.args.offset c.ranges.offset)
    c.requires.day c.requires.second c.requires.offset

pub returns-clause-value : goal.returns-clause-value
returns-clause-value c =
    sum_is c.from-days.result c.from.result c.from-2.result c.args.day c.args.second c.args.offset
    (to_z-of_z w64 c.from-days.result (record { sfits = c.from-days.type_inv }) ∙ c.from-days.ensures ∙ to_z-of_z w32 c.args.day c.ranges.day)
    (to_z-of_z w64 c.from.result (record { sfits = c.from.type_inv }) ∙ c.from.ensures ∙ to_z-of_z w32 c.args.second c.ranges.second)
    (to_z-of_z w64 c.from-2.result (record { sfits = c.from-2.type_inv }) ∙ c.from-2.ensures ∙ to_z-of_z w32 c.args.offset c.ranges.offset)
    c.requires.day c.requires.second c.requires.offset

pub returns-clause-in_range : goal.returns-clause-in_range
returns-clause-in_range c = subst (λ (z : ℤ). unsigned_abs z < 8_400_000_000_000) (sym (returns-clause-value c)) (seconds_bound c.args.day c.args.second c.args.offset c.requires.day c.requires.second c.requires.offset)
