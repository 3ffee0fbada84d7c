use Rattle.std.proofs.Common.{refl}
use Rattle.std.specs.Fmt.{digits}
use Rattle.chrono_pattern.specs.Groups.{group_text}
use Rattle.chrono_pattern.specs.Numbers.{field_text}
use Rattle.chrono_pattern.specs.Patterns.{text_from}
use Rattle.chrono_pattern.specs.PatternSteps.{date_number_at, group_at, opened_step, time_number_at, unpadded_step, word_at}
use Rattle.chrono_pattern.specs.Subseconds.{subsecond_of}
use Rattle.chrono_pattern.specs.Words.{word_text}
use Rattle.chrono_pattern.proofs.law.known_texts_of_times.Goals as goal

pub returns-clause-midnight : goal.returns-clause-midnight
unfolding text_from opened_step unpadded_step date_number_at time_number_at word_at group_at field_text word_text group_text subsecond_of digits
returns-clause-midnight c n = refl

pub returns-clause-noon : goal.returns-clause-noon
unfolding text_from opened_step unpadded_step date_number_at time_number_at word_at group_at field_text word_text group_text subsecond_of digits
returns-clause-noon c n = refl

pub returns-clause-hour : goal.returns-clause-hour
unfolding text_from opened_step unpadded_step date_number_at time_number_at word_at group_at field_text word_text group_text subsecond_of digits
returns-clause-hour c n = refl

pub returns-clause-leap : goal.returns-clause-leap
unfolding text_from opened_step unpadded_step date_number_at time_number_at word_at group_at field_text word_text group_text subsecond_of digits
returns-clause-leap c n = refl

pub returns-clause-digits : goal.returns-clause-digits
unfolding text_from opened_step unpadded_step date_number_at time_number_at word_at group_at field_text word_text group_text subsecond_of digits
returns-clause-digits c n = refl

pub returns-clause-leap_of_an_hour : goal.returns-clause-leap_of_an_hour
unfolding text_from opened_step unpadded_step date_number_at time_number_at word_at group_at field_text word_text group_text subsecond_of digits
returns-clause-leap_of_an_hour c n = refl

pub returns-clause-hour_before_one : goal.returns-clause-hour_before_one
unfolding text_from opened_step unpadded_step date_number_at time_number_at word_at group_at field_text word_text group_text subsecond_of digits
returns-clause-hour_before_one c n = refl
