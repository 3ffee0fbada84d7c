use Rattle.std.proofs.Common.{refl}
use Rattle.chrono_pattern.specs.Patterns.{error_from}
use Rattle.chrono_pattern.specs.PatternSteps.{date_number_at, group_at, opened_step, time_number_at, unpadded_step, word_at}
use Rattle.chrono_pattern.proofs.law.known_errors.Goals as goal

pub returns-clause-unknown : goal.returns-clause-unknown
unfolding error_from opened_step unpadded_step date_number_at time_number_at word_at group_at
returns-clause-unknown c = refl

pub returns-clause-cut : goal.returns-clause-cut
unfolding error_from opened_step unpadded_step date_number_at time_number_at word_at group_at
returns-clause-cut c = refl

pub returns-clause-cut_padding : goal.returns-clause-cut_padding
unfolding error_from opened_step unpadded_step date_number_at time_number_at word_at group_at
returns-clause-cut_padding c = refl

pub returns-clause-word : goal.returns-clause-word
unfolding error_from opened_step unpadded_step date_number_at time_number_at word_at group_at
returns-clause-word c = refl

pub returns-clause-second_padding : goal.returns-clause-second_padding
unfolding error_from opened_step unpadded_step date_number_at time_number_at word_at group_at
returns-clause-second_padding c = refl

pub returns-clause-digits : goal.returns-clause-digits
unfolding error_from opened_step unpadded_step date_number_at time_number_at word_at group_at
returns-clause-digits c = refl

pub returns-clause-none : goal.returns-clause-none
unfolding error_from opened_step unpadded_step date_number_at time_number_at word_at group_at
returns-clause-none c = refl

pub returns-clause-colons : goal.returns-clause-colons
unfolding error_from opened_step unpadded_step date_number_at time_number_at word_at group_at
returns-clause-colons c = refl

pub returns-clause-cut_colon : goal.returns-clause-cut_colon
unfolding error_from opened_step unpadded_step date_number_at time_number_at word_at group_at
returns-clause-cut_colon c = refl

pub returns-clause-zoned : goal.returns-clause-zoned
unfolding error_from opened_step unpadded_step date_number_at time_number_at word_at group_at
returns-clause-zoned c = refl
