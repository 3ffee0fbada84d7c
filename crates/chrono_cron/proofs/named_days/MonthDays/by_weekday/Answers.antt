use Rattle.std.proofs.Common.{◌<◌, ◌-◌, refl, ◌∙◌, arith}
use Rattle.chrono_cron.specs.Due.{is_named_by_weekday}
use Rattle.chrono_cron.proofs.NamedDaySets.{last_places}
use Rattle.chrono_cron.proofs.named_days.MonthDays.by_weekday.Goals as goal

pub returns : goal.returns
unfolding is_named_by_weekday
returns c = λ k from to.
    let small : k < 40 = omega (arith, to, c.requires.short) in
    let last = last_places c.args.length (c.args.length - 6) k 7 (omega (arith, c.requires.long)) to in
    c.union.ensures k ∙ rw (c.between-last.ensures k, c.every_week.ensures.members k (omega (arith, small, c.requires.before)), last, c.nth_weekdays.ensures k from (omega (arith, to, c.requires.short))) refl
