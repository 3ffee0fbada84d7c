use Rattle.std.proofs.Common.{◌≡◌, ◌+◌, cond, true, false, sym, ap, ◌∙◌, refl, arith, pos, ◌+ℤ◌}
use Rattle.chrono_rules.specs.ByParts.{date_passes}
use Rattle.chrono_rules.specs.Instances.{is_member}
use Rattle.chrono_rules.specs.Periods.{period_first}
use Rattle.chrono_rules.proofs.Counts.{counted-next}
use Rattle.chrono_rules.proofs.Passed.{no_pass}
use Rattle.chrono_rules.proofs.PlacesInPeriods.{date_passes-is, from_period}
use Rattle.chrono_rules.proofs.rule.Rule.and_day.Goals as goal

pub returns-then-not-passes-clause-passed : goal.returns-then-not-passes-clause-passed
returns-then-not-passes-clause-passed c =
    let no : date_passes c.args.self.now c.args.start c.args.date ≡ false = date_passes-is c.args.self.now c.args.start c.args.date c.requires.date ∙ (sym c.passes.ensures ∙ c.if-not-passes.true) in
    rw no (omega arith)

pub returns-then-not-passes-clause-members : goal.returns-then-not-passes-clause-members
returns-then-not-passes-clause-members c =
    let no : is_member c.args.self.now c.args.start c.args.date ≡ false = no_pass c.args.self.now c.args.start c.args.date (sym c.passes.ensures ∙ c.if-not-passes.true) in
    rw no (omega arith)

pub is_member_at-is_member-requires-clause-front : goal.is_member_at-is_member-requires-clause-front
is_member_at-is_member-requires-clause-front c = λ some.
    let r = c.args.self.now in
    let so_far = c.args.before + c.args.count.passed in
    let yes : date_passes r c.args.start c.args.date ≡ true = date_passes-is r c.args.start c.args.date c.requires.date ∙ (sym c.passes.ensures ∙ c.if-not-passes.false) in
    counted-next (date_passes r c.args.start) (period_first r.frequency r.week_start c.args.date) c.args.date (c.args.date +ℤ pos 1) so_far (so_far + 1)
    (c.requires.front some) (ap (λ b. so_far + cond b 1 0) (sym yes)) (from_period r.frequency r.week_start c.args.date) refl

pub returns-clause-passed : goal.returns-clause-passed
returns-clause-passed c =
    let yes : date_passes c.args.self.now c.args.start c.args.date ≡ true = date_passes-is c.args.self.now c.args.start c.args.date c.requires.date ∙ (sym c.passes.ensures ∙ c.if-not-passes.false) in
    ap (λ b. c.args.count.passed + cond b 1 0) (sym yes)
