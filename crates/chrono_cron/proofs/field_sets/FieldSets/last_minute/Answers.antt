use Rattle.std.proofs.Common.{◌/◌, ◌%◌, inl, inr, arith}
use Rattle.std.proofs.lemmas.Bool.{cases_lt}
use Rattle.chrono_cron.proofs.DueMinutes.{is_minute-at, no_hour, no_minute}
use Rattle.chrono_cron.proofs.field_sets.FieldSets.last_minute.Goals as goal

pub returns-in_default-last_in-clause-none : goal.returns-in_default-last_in-clause-none
returns-in_default-last_in-clause-none c =
    (λ j from end. no_minute c.args.self.now j (c.in_default-last_in.ensures.none (j % 60) (omega arith) (omega arith)))

pub returns-in_default-last_in-2-clause-none : goal.returns-in_default-last_in-2-clause-none
returns-in_default-last_in-2-clause-none c =
    (λ j from end. elim (cases_lt (j / 60) (c.args.end / 60)) [
      | inl earlier ↦ no_hour c.args.self.now j (c.in_default-last_in-2.ensures.none (j / 60) (omega arith) earlier)
      | inr same ↦ c.in_default.ensures.none j end (omega (arith, end, same))
    ])

pub returns-clause-member : goal.returns-clause-member
returns-clause-member c =
    is_minute-at c.args.self.now c.in-Some-last_in-2.hour c.in-Some-last_in.minute c.in-Some-last_in.ensures.before c.in-Some-last_in-2.ensures.member c.in-Some-last_in.ensures.member

pub returns-clause-greatest : goal.returns-clause-greatest
returns-clause-greatest c = λ j low high.
    elim (cases_lt (j / 60) (c.args.end / 60)) [
      | inr same ↦ c.in_default.ensures.none j high (omega (arith, high, same))
      | inl earlier ↦ elim (cases_lt c.in-Some-last_in-2.hour (j / 60)) [
        | inl later ↦ no_hour c.args.self.now j (c.in-Some-last_in-2.ensures.greatest (j / 60) later earlier)
        | inr end ↦ no_minute c.args.self.now j (c.in-Some-last_in.ensures.greatest (j % 60) (omega (arith, end, low, c.in-Some-last_in.ensures.before)) (omega arith))
      ]
    ]
