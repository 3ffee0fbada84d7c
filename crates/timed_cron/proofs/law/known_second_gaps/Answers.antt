use Rattle.std.proofs.Common.{refl, pos, arith, inl, inr, ◌∙◌}
use Rattle.std.proofs.lemmas.Bool.{both_ways}
use Rattle.chrono_datetime.specs.Moment.{IsMoment}
use Rattle.chrono_datetime.proofs.Signed.{signed}
use Rattle.chrono_cron.specs.KnownSchedules.{known_moment}
use Rattle.timed_cron.specs.DueSeconds.{is_timed_due}
use Rattle.timed_cron.specs.KnownSeconds.{leap_day_seconds}
use Rattle.timed_cron.proofs.YearSteps.{any_year}
use Rattle.timed_cron.proofs.law.known_second_gaps.Goals as goal

due_moment : IsMoment (known_moment (pos 738_945) 0 0 45 0)
due_moment = record { date = (omega (arith, signed), omega (arith, signed)); time = record { second = omega arith; fraction = omega arith } }

pub returns-clause-between : goal.returns-clause-between
returns-clause-between c = λ none.
    both_ways (is_timed_due leap_day_seconds (known_moment (pos 738_945) 0 0 45 0))
    (none (known_moment (pos 738_945) 0 0 45 0) due_moment (inr (refl, inl (omega arith))) (inr (refl, inl (omega arith)))) (any_year leap_day_seconds (known_moment (pos 738_945) 0 0 45 0) refl ∙ c.known_seconds.ensures.second)

pub returns-clause-after : goal.returns-clause-after
returns-clause-after c = λ none.
    both_ways (is_timed_due leap_day_seconds (known_moment (pos 738_945) 0 0 45 0))
    (none (known_moment (pos 738_945) 0 0 45 0) due_moment (inr (refl, inl (omega arith)))) (any_year leap_day_seconds (known_moment (pos 738_945) 0 0 45 0) refl ∙ c.known_seconds.ensures.second)

pub returns-clause-before : goal.returns-clause-before
returns-clause-before c = λ none.
    both_ways (is_timed_due leap_day_seconds (known_moment (pos 738_945) 0 0 45 0))
    (none (known_moment (pos 738_945) 0 0 45 0) due_moment (inr (refl, inl (omega arith)))) (any_year leap_day_seconds (known_moment (pos 738_945) 0 0 45 0) refl ∙ c.known_seconds.ensures.second)
