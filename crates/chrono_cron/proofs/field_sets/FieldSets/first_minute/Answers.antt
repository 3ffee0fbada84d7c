use Rattle.std.proofs.Common.{◌/◌, ◌%◌, inl, inr, arith}
use Rattle.std.proofs.lemmas.Bool.{cases_lt}
use Rattle.chrono_cron.proofs.DueMinutes.{is_minute-at, no_hour, no_minute}
use Rattle.chrono_cron.proofs.field_sets.FieldSets.first_minute.Goals as goal

pub returns-in_default-first_in-clause-none : goal.returns-in_default-first_in-clause-none
returns-in_default-first_in-clause-none c =
    (λ j low end. no_minute c.args.self.now j (c.in_default-first_in.ensures.none (j % 60) (omega arith) (omega arith)))

pub returns-in_default-first_in-2-clause-none : goal.returns-in_default-first_in-2-clause-none
returns-in_default-first_in-2-clause-none c =
    (λ j low end. elim (cases_lt (c.args.from / 60) (j / 60)) [
      | inl later ↦ no_hour c.args.self.now j (c.in_default-first_in-2.ensures.none (j / 60) (omega (arith, later)) (omega (arith, end)))
      | inr same ↦ c.in_default.ensures.none j low end (omega (arith, low, same))
    ])

pub returns-clause-member : goal.returns-clause-member
returns-clause-member c =
    is_minute-at c.args.self.now c.in-Some-first_in-2.hour c.in-Some-first_in.minute c.in-Some-first_in.ensures.before c.in-Some-first_in-2.ensures.member c.in-Some-first_in.ensures.member

pub returns-clause-least : goal.returns-clause-least
returns-clause-least c = λ j low high.
    elim (cases_lt (c.args.from / 60) (j / 60)) [
      | inr same ↦ c.in_default.ensures.none j low (omega (arith, high, c.in-Some-first_in-2.ensures.before, c.in-Some-first_in.ensures.before)) (omega (arith, low, same))
      | inl later ↦ elim (cases_lt (j / 60) c.in-Some-first_in-2.hour) [
        | inl earlier ↦ no_hour c.args.self.now j (c.in-Some-first_in-2.ensures.least (j / 60) (omega (arith, later)) earlier)
        | inr end ↦ no_minute c.args.self.now j (c.in-Some-first_in.ensures.least (j % 60) (omega arith) (omega (arith, end, high, c.in-Some-first_in.ensures.before)))
      ]
    ]
