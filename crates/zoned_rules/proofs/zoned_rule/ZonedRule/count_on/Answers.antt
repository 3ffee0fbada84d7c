use Rattle.std.proofs.Common.{◌≡◌, ℤ, ◌≤ℤ◌, ◌<ℤ◌, of_z, to_z, w64, arith, subst, sym}
use Rattle.std.proofs.lemmas.Int.{ints, to_z-of_z}
use Rattle.zoned_rules.specs.Private.{AreBehind}
use Rattle.zoned_rules.specs.Recurs.{Recurs}
use Rattle.zoned_rules.proofs.CountedSeconds.{one_behind}
use Rattle.zoned_rules.proofs.zoned_rule.ZonedRule.count_on.Goals as goal

least_again : (second S next N u : ℤ) → S ≡ second → N ≡ next → (second <ℤ u → next ≤ℤ u) → S <ℤ u → N ≤ℤ u
least_again second S next N u is_s is_n least later = omega (arith, ints, is_n, least (omega (arith, ints, is_s, later)))

pub count_whole_days-requires-clause-least : goal.count_whole_days-requires-clause-least
count_whole_days-requires-clause-least g c = λ u later q.
    least_again c.args.second (to_z w64 (of_z w64 c.args.second)) c.args.next (to_z w64 (of_z w64 c.args.next)) u (to_z-of_z w64 c.args.second c.ranges.second) (to_z-of_z w64 c.args.next c.ranges.next) (λ lt. c.requires.least u lt q) later

pub returns-clause-value : goal.returns-clause-value
returns-clause-value g c =
    let P : ℤ → Type 0 = Recurs c.args.self.now.local (g.Z.TimeZone.ahead c.args.self.now.zone) in
    subst (λ (b : ℤ). AreBehind P 1 c.args.second b) (sym (to_z-of_z w64 c.args.next c.ranges.next)) (one_behind P c.args.second c.args.next c.requires.later c.requires.recurs c.requires.least)
