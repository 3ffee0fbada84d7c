use Rattle.std.proofs.Common.{◌≡◌, ◌/◌, true, false, ◌&&◌, refl, sym, ◌∙◌, inl, inr, arith, pos, neg_ℤ}
use Rattle.std.proofs.lemmas.Bool.{and_right, false≢true}
use Rattle.chrono_datetime.specs.Moment.{IsMoment, Moment}
use Rattle.chrono_datetime.proofs.Signed.{signed}
use Rattle.chrono_sets.specs.FiniteSets.{has}
use Rattle.chrono_cron.specs.Due.{begins_minute, is_day, is_due, is_minute}
use Rattle.chrono_cron.specs.KnownSchedules.{each_minute, known_moment, no_minute}
use Rattle.chrono_cron.proofs.EachMinute.{due_at}
use Rattle.chrono_cron.proofs.law.known_gaps.Goals as goal

-- the beginning of day 2, at which it is due
abbrev begun : Moment
begun = known_moment (pos 2) 0 0 0 0

exists : IsMoment begun
exists = record {
  date = (omega (arith, signed), omega (arith, signed));
  time = record { second = omega arith; fraction = omega arith };
}

due : is_due each_minute begun ≡ true
unfolding is_minute has
due = due_at begun refl refl

pub returns-clause-between : goal.returns-clause-between
returns-clause-between c = λ h. false≢true (sym (h begun exists (inl (omega (arith, signed))) (inl (omega (arith, signed)))) ∙ due)

pub returns-clause-after : goal.returns-clause-after
returns-clause-after c = λ h. false≢true (sym (h begun exists (inl (omega (arith, signed)))) ∙ due)

pub returns-clause-before : goal.returns-clause-before
returns-clause-before c = λ h. false≢true (sym (h begun exists (inl (omega (arith, signed)))) ∙ due)

pub returns-clause-never : goal.returns-clause-never
returns-clause-never c = λ h. false≢true (sym (h begun exists) ∙ due)

not_due : is_minute no_minute (begun.time.second / 60) ≡ false → is_due no_minute begun ≡ false
unfolding is_due
not_due e = rw e (and_right (is_day no_minute begun.date) (false && begins_minute begun) refl)

no_minute_due : is_due no_minute begun ≡ false
unfolding is_minute has
no_minute_due = not_due refl

pub returns-clause-others : goal.returns-clause-others
returns-clause-others c = λ h. false≢true (sym no_minute_due ∙ (sym (h begun exists) ∙ due))

-- the next minute, and the last and the first of the calendar
abbrev next : Moment
next = known_moment (pos 2) 0 1 0 0

exists_next : IsMoment next
exists_next = record {
  date = (omega (arith, signed), omega (arith, signed));
  time = record { second = omega arith; fraction = omega arith };
}

due_next : is_due each_minute next ≡ true
unfolding is_minute has
due_next = due_at next refl refl

pub returns-clause-two_minutes : goal.returns-clause-two_minutes
returns-clause-two_minutes c = λ h.
    false≢true (sym (h next exists_next (inr (refl, inl (omega arith))) (inr (refl, inr (refl, omega arith)))) ∙ due_next)

abbrev latest : Moment
latest = known_moment (pos 95_745_399) 23 59 0 0

exists_latest : IsMoment latest
exists_latest = record {
  date = (omega (arith, signed), omega (arith, signed));
  time = record { second = omega arith; fraction = omega arith };
}

due_latest : is_due each_minute latest ≡ true
unfolding is_minute has
due_latest = due_at latest refl refl

pub returns-clause-last_minute : goal.returns-clause-last_minute
returns-clause-last_minute c = λ h. false≢true (sym (h latest exists_latest (inr (refl, inl (omega arith)))) ∙ due_latest)

abbrev earliest : Moment
earliest = known_moment (neg_ℤ (pos 95_746_129)) 0 0 0 0

exists_earliest : IsMoment earliest
exists_earliest = record {
  date = (omega (arith, signed), omega (arith, signed));
  time = record { second = omega arith; fraction = omega arith };
}

due_earliest : is_due each_minute earliest ≡ true
unfolding is_minute has
due_earliest = due_at earliest refl refl

pub returns-clause-first_minute : goal.returns-clause-first_minute
returns-clause-first_minute c = λ h. false≢true (sym (h earliest exists_earliest (inr (refl, inr (refl, omega arith)))) ∙ due_earliest)
