use Rattle.std.proofs.Common.{◌≡◌, ◌+◌, ◌*◌, ◌%◌, refl, ap, ◌∙◌, arith}
use Rattle.chrono_sets.specs.FiniteSets.{has}
use Rattle.chrono_cron.proofs.NamedDaySets.{in_week}
use Rattle.chrono_cron.proofs.named_days.nth_week.Goals as goal

pub returns : goal.returns
returns c = λ k from to.
    let w = (k + c.args.before) % 7 in
    let place : w + 7 * c.args.weeks ≡ 7 * c.args.weeks + w = omega arith in
    let listed = c.every_week.ensures.members k (omega (arith, to, c.requires.before)) ∙ c.lowered.ensures w ∙ ap (has c.args.asked) place in
    c.between.ensures k ∙ rw (listed, in_week c.args.weeks k from) refl
