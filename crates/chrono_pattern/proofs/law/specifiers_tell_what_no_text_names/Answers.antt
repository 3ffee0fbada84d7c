use Rattle.std.proofs.Common.{refl}
use Rattle.chrono_pattern.specs.NamedParts.{named_from, with_group}
use Rattle.chrono_pattern.specs.Needs.{has_item_of}
use Rattle.chrono_pattern.specs.PatternSteps.{date_number_at, group_at, opened_step, time_number_at, unpadded_step, word_at}
use Rattle.chrono_pattern.specs.TimeParts.{names_time}
use Rattle.chrono_pattern.proofs.NamedLemmas.{each_text_date, each_text_moment, each_text_time, each_text_zoned, no_text_date, no_text_moment, no_text_time, no_text_zoned}
use Rattle.chrono_pattern.proofs.law.specifiers_tell_what_no_text_names.Goals as goal

pub returns-clause-no_date : goal.returns-clause-no_date
returns-clause-no_date c = no_text_date

pub returns-clause-no_time : goal.returns-clause-no_time
returns-clause-no_time c = no_text_time

pub returns-clause-no_date_time : goal.returns-clause-no_date_time
returns-clause-no_date_time c = no_text_moment

pub returns-clause-no_zoned : goal.returns-clause-no_zoned
returns-clause-no_zoned c = no_text_zoned

pub returns-clause-date : goal.returns-clause-date
returns-clause-date c = each_text_date

pub returns-clause-time : goal.returns-clause-time
returns-clause-time c = each_text_time

pub returns-clause-date_time : goal.returns-clause-date_time
returns-clause-date_time c = each_text_moment

pub returns-clause-zoned : goal.returns-clause-zoned
returns-clause-zoned c = each_text_zoned

pub returns-clause-fraction_left_out : goal.returns-clause-fraction_left_out
unfolding named_from with_group has_item_of names_time opened_step unpadded_step date_number_at time_number_at word_at group_at
returns-clause-fraction_left_out c = refl

pub returns-clause-fraction_alone : goal.returns-clause-fraction_alone
unfolding named_from with_group has_item_of names_time opened_step unpadded_step date_number_at time_number_at word_at group_at
returns-clause-fraction_alone c = refl
