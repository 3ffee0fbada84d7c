use Rattle.std.proofs.Common.{refl}
use Rattle.chrono_pattern.specs.Needs.{has_item_of}
use Rattle.chrono_pattern.specs.PatternSteps.{date_number_at, group_at, opened_step, time_number_at, unpadded_step, word_at}
use Rattle.chrono_pattern.proofs.law.known_needs.Goals as goal

pub returns-clause-dates : goal.returns-clause-dates
unfolding has_item_of opened_step unpadded_step date_number_at time_number_at word_at group_at
returns-clause-dates c = refl

pub returns-clause-no_dates : goal.returns-clause-no_dates
unfolding has_item_of opened_step unpadded_step date_number_at time_number_at word_at group_at
returns-clause-no_dates c = refl

pub returns-clause-times : goal.returns-clause-times
unfolding has_item_of opened_step unpadded_step date_number_at time_number_at word_at group_at
returns-clause-times c = refl

pub returns-clause-no_times : goal.returns-clause-no_times
unfolding has_item_of opened_step unpadded_step date_number_at time_number_at word_at group_at
returns-clause-no_times c = refl

pub returns-clause-offsets : goal.returns-clause-offsets
unfolding has_item_of opened_step unpadded_step date_number_at time_number_at word_at group_at
returns-clause-offsets c = refl

pub returns-clause-no_offsets : goal.returns-clause-no_offsets
unfolding has_item_of opened_step unpadded_step date_number_at time_number_at word_at group_at
returns-clause-no_offsets c = refl

pub returns-clause-bytes : goal.returns-clause-bytes
unfolding has_item_of opened_step unpadded_step date_number_at time_number_at word_at group_at
returns-clause-bytes c = refl
