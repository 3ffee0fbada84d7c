use Rattle.std.proofs.Common.{◌≡◌, ◌||◌, ℕ, Bool, List, get_or, [], ap, sym, ◌∙◌}
use Rattle.std.specs.Prelude.{codes}
use Rattle.chrono_cron.specs.declared.field_sets.FieldSets.{FieldSets}
use Rattle.chrono_cron.specs.ScheduleTexts.{IsScheduleText, begins_with_star, fields_of, nickname_meaning, text_words}
use Rattle.chrono_cron.proofs.law.known_followers.Goals as goal

-- whether the first of the fields begins with `*`, or the second
abbrev starred_in : List (List ℕ) → Bool
starred_in fields = begins_with_star (get_or fields 0 []) || begins_with_star (get_or fields 1 [])

told : (text : List ℕ) (s : FieldSets) → IsScheduleText text s → s.follows_clock ≡ starred_in (fields_of text)
told text s is = sym is.follows_clock ∙ sym (ap starred_in is.written)

pub returns-clause-minutes : goal.returns-clause-minutes
unfolding fields_of text_words nickname_meaning begins_with_star
returns-clause-minutes c = λ s is. told (codes "*/5 2 * * *") s is

pub returns-clause-hours : goal.returns-clause-hours
unfolding fields_of text_words nickname_meaning begins_with_star
returns-clause-hours c = λ s is. told (codes "0 */2 1 1 1") s is

pub returns-clause-hourly : goal.returns-clause-hourly
unfolding fields_of text_words nickname_meaning begins_with_star
returns-clause-hourly c = λ s is. told (codes "@hourly") s is

pub returns-clause-daily : goal.returns-clause-daily
unfolding fields_of text_words nickname_meaning begins_with_star
returns-clause-daily c = λ s is. told (codes "@daily") s is

pub returns-clause-star_behind : goal.returns-clause-star_behind
unfolding fields_of text_words nickname_meaning begins_with_star
returns-clause-star_behind c = λ s is. told (codes "0,* 0-23 * * *") s is
