use Rattle.std.proofs.Common.{◌≡◌, true, Bool, cond, [], ◌∷◌, refl, ap₂, pos}
use Rattle.std.specs.Prelude.{filter}
use Rattle.chrono_datetime.specs.Moment.{Moment}
use Rattle.chrono_sets.specs.FiniteSets.{has}
use Rattle.chrono_cron.specs.Due.{is_due, is_minute}
use Rattle.chrono_cron.specs.DueMoments.{dues_after, minutes_from}
use Rattle.chrono_cron.specs.KnownSchedules.{each_minute, known_moment}
use Rattle.chrono_cron.proofs.EachMinute.{due_at}
use Rattle.chrono_cron.proofs.law.known_last_dues.Goals as goal

-- a list of two of which both pass
both_pass : (p : Moment → Bool) (a b : Moment) → p a ≡ true → p b ≡ true → filter p (a ∷ b ∷ []) ≡ (a ∷ b ∷ [])
both_pass p a b first second = ap₂ (λ s t. cond s (a ∷ cond t (b ∷ []) []) (cond t (b ∷ []) [])) first second

pub returns-clause-two : goal.returns-clause-two
unfolding dues_after minutes_from is_minute has
returns-clause-two c =
    both_pass (is_due each_minute) (known_moment (pos 95_745_399) 23 58 0 0) (known_moment (pos 95_745_399) 23 59 0 0)
    (due_at (known_moment (pos 95_745_399) 23 58 0 0) refl refl)
    (due_at (known_moment (pos 95_745_399) 23 59 0 0) refl refl)

pub returns-clause-left : goal.returns-clause-left
unfolding dues_after minutes_from is_minute has
returns-clause-left c =
    both_pass (is_due each_minute) (known_moment (pos 95_745_399) 23 58 0 0) (known_moment (pos 95_745_399) 23 59 0 0)
    (due_at (known_moment (pos 95_745_399) 23 58 0 0) refl refl)
    (due_at (known_moment (pos 95_745_399) 23 59 0 0) refl refl)

pub returns-clause-none : goal.returns-clause-none
unfolding dues_after minutes_from
returns-clause-none c = refl
