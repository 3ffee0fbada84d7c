use Rattle.std.proofs.Common.{◌/◌, ◌%◌, sym, ap, ◌∙◌, arith}
use Rattle.chrono_sets.specs.FiniteSets.{has}
use Rattle.chrono_cron.proofs.DueMinutes.{is_minute-at, no_hour, no_minute}
use Rattle.chrono_cron.proofs.field_sets.FieldSets.last_in_hour.Goals as goal

pub returns-then-not-contains-clause-none : goal.returns-then-not-contains-clause-none
returns-then-not-contains-clause-none c = λ j end same.
    no_hour c.args.self.now j (ap (has c.args.self.now.hours) same ∙ (sym c.contains.ensures ∙ c.if-not-contains.true))

pub returns-in_default-clause-none : goal.returns-in_default-clause-none
returns-in_default-clause-none c =
    (λ j end same. no_minute c.args.self.now j (c.in_default.ensures.none (j % 60) (omega arith) (omega (arith, end, same))))

pub returns-clause-member : goal.returns-clause-member
returns-clause-member c =
    is_minute-at c.args.self.now (c.args.end / 60) c.in-Some.minute (omega (arith, c.in-Some.ensures.before)) (sym c.contains.ensures ∙ c.if-not-contains.false) c.in-Some.ensures.member

pub returns-clause-greatest : goal.returns-clause-greatest
returns-clause-greatest c = λ j low high.
    no_minute c.args.self.now j (c.in-Some.ensures.greatest (j % 60) (omega (arith, low, high, c.in-Some.ensures.before)) (omega (arith, low, high, c.in-Some.ensures.before)))
