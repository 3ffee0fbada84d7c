use Rattle.std.proofs.Common.{refl}
use Rattle.chrono_pattern.specs.NamedParts.{named_from, with_group}
use Rattle.chrono_pattern.specs.Needs.{has_item_of}
use Rattle.chrono_pattern.specs.PatternSteps.{date_number_at, group_at, opened_step, time_number_at, unpadded_step, word_at}
use Rattle.chrono_pattern.specs.Separable.{is_separable_from}
use Rattle.chrono_pattern.proofs.law.known_separable_patterns.Goals as goal

pub returns-clause-dashes : goal.returns-clause-dashes
unfolding is_separable_from has_item_of named_from with_group opened_step unpadded_step date_number_at time_number_at word_at group_at
returns-clause-dashes c = refl

pub returns-clause-whole : goal.returns-clause-whole
unfolding is_separable_from has_item_of named_from with_group opened_step unpadded_step date_number_at time_number_at word_at group_at
returns-clause-whole c = refl

pub returns-clause-long_date : goal.returns-clause-long_date
unfolding is_separable_from has_item_of named_from with_group opened_step unpadded_step date_number_at time_number_at word_at group_at
returns-clause-long_date c = refl

pub returns-clause-spaces : goal.returns-clause-spaces
unfolding is_separable_from has_item_of named_from with_group opened_step unpadded_step date_number_at time_number_at word_at group_at
returns-clause-spaces c = refl

pub returns-clause-stamp : goal.returns-clause-stamp
unfolding is_separable_from has_item_of named_from with_group opened_step unpadded_step date_number_at time_number_at word_at group_at
returns-clause-stamp c = refl

pub returns-clause-digits : goal.returns-clause-digits
unfolding is_separable_from has_item_of named_from with_group opened_step unpadded_step date_number_at time_number_at word_at group_at
returns-clause-digits c = refl

pub returns-clause-signed_digits : goal.returns-clause-signed_digits
unfolding is_separable_from has_item_of named_from with_group opened_step unpadded_step date_number_at time_number_at word_at group_at
returns-clause-signed_digits c = refl

pub returns-clause-century : goal.returns-clause-century
unfolding is_separable_from has_item_of named_from with_group opened_step unpadded_step date_number_at time_number_at word_at group_at
returns-clause-century c = refl

pub returns-clause-signed_century : goal.returns-clause-signed_century
unfolding is_separable_from has_item_of named_from with_group opened_step unpadded_step date_number_at time_number_at word_at group_at
returns-clause-signed_century c = refl

pub returns-clause-year_behind : goal.returns-clause-year_behind
unfolding is_separable_from has_item_of named_from with_group opened_step unpadded_step date_number_at time_number_at word_at group_at
returns-clause-year_behind c = refl

pub returns-clause-unpadded : goal.returns-clause-unpadded
unfolding is_separable_from has_item_of named_from with_group opened_step unpadded_step date_number_at time_number_at word_at group_at
returns-clause-unpadded c = refl

pub returns-clause-spaced : goal.returns-clause-spaced
unfolding is_separable_from has_item_of named_from with_group opened_step unpadded_step date_number_at time_number_at word_at group_at
returns-clause-spaced c = refl

pub returns-clause-fraction : goal.returns-clause-fraction
unfolding is_separable_from has_item_of named_from with_group opened_step unpadded_step date_number_at time_number_at word_at group_at
returns-clause-fraction c = refl

pub returns-clause-second_point : goal.returns-clause-second_point
unfolding is_separable_from has_item_of named_from with_group opened_step unpadded_step date_number_at time_number_at word_at group_at
returns-clause-second_point c = refl

pub returns-clause-minutes : goal.returns-clause-minutes
unfolding is_separable_from has_item_of named_from with_group opened_step unpadded_step date_number_at time_number_at word_at group_at
returns-clause-minutes c = refl

pub returns-clause-zone : goal.returns-clause-zone
unfolding is_separable_from has_item_of named_from with_group opened_step unpadded_step date_number_at time_number_at word_at group_at
returns-clause-zone c = refl

pub returns-clause-fraction_with_no_second : goal.returns-clause-fraction_with_no_second
unfolding is_separable_from has_item_of named_from with_group opened_step unpadded_step date_number_at time_number_at word_at group_at
returns-clause-fraction_with_no_second c = refl

pub returns-clause-its_ends : goal.returns-clause-its_ends
unfolding is_separable_from has_item_of named_from with_group opened_step unpadded_step date_number_at time_number_at word_at group_at
returns-clause-its_ends c = refl

pub returns-clause-fraction_of_second : goal.returns-clause-fraction_of_second
unfolding is_separable_from has_item_of named_from with_group opened_step unpadded_step date_number_at time_number_at word_at group_at
returns-clause-fraction_of_second c = refl

pub returns-clause-fraction_of_stamp : goal.returns-clause-fraction_of_stamp
unfolding is_separable_from has_item_of named_from with_group opened_step unpadded_step date_number_at time_number_at word_at group_at
returns-clause-fraction_of_stamp c = refl

pub returns-clause-fraction_left_out : goal.returns-clause-fraction_left_out
unfolding is_separable_from has_item_of named_from with_group opened_step unpadded_step date_number_at time_number_at word_at group_at
returns-clause-fraction_left_out c = refl
