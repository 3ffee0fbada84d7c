use Rattle.std.proofs.Common.{refl}
use Rattle.chrono_datetime.specs.Names.{month_of_letters, weekday_of_letters}
use Rattle.chrono_text.specs.Numbers.{digits_of, natural_of}
use Rattle.chrono_pattern.specs.NumberReads.{digits_read, number_put, number_read, signed_read}
use Rattle.chrono_pattern.specs.Parts.{put}
use Rattle.chrono_pattern.specs.Progress.{class_len, literal_read}
use Rattle.chrono_pattern.specs.Reads.{read_from}
use Rattle.chrono_pattern.specs.PatternSteps.{date_number_at, group_at, opened_step, time_number_at, unpadded_step, word_at}
use Rattle.chrono_pattern.specs.SubsecondReads.{places_read, subsecond_read}
use Rattle.chrono_pattern.specs.WordReads.{half_read, month_read, weekday_read, word_read}
use Rattle.chrono_pattern.proofs.law.known_readings.Goals as goal

pub returns-clause-date : goal.returns-clause-date
unfolding read_from literal_read number_read number_put signed_read digits_read class_len put digits_of natural_of word_read month_read weekday_read half_read subsecond_read places_read month_of_letters weekday_of_letters opened_step unpadded_step date_number_at time_number_at word_at group_at
returns-clause-date c = refl

pub returns-clause-below_zero : goal.returns-clause-below_zero
unfolding read_from literal_read number_read number_put signed_read digits_read class_len put digits_of natural_of word_read month_read weekday_read half_read subsecond_read places_read month_of_letters weekday_of_letters opened_step unpadded_step date_number_at time_number_at word_at group_at
returns-clause-below_zero c = refl

pub returns-clause-four_digits : goal.returns-clause-four_digits
unfolding read_from literal_read number_read number_put signed_read digits_read class_len put digits_of natural_of word_read month_read weekday_read half_read subsecond_read places_read month_of_letters weekday_of_letters opened_step unpadded_step date_number_at time_number_at word_at group_at
returns-clause-four_digits c = refl

pub returns-clause-midnight : goal.returns-clause-midnight
unfolding read_from literal_read number_read number_put signed_read digits_read class_len put digits_of natural_of word_read month_read weekday_read half_read subsecond_read places_read month_of_letters weekday_of_letters opened_step unpadded_step date_number_at time_number_at word_at group_at
returns-clause-midnight c = refl

pub returns-clause-leap : goal.returns-clause-leap
unfolding read_from literal_read number_read number_put signed_read digits_read class_len put digits_of natural_of word_read month_read weekday_read half_read subsecond_read places_read month_of_letters weekday_of_letters opened_step unpadded_step date_number_at time_number_at word_at group_at
returns-clause-leap c = refl

pub returns-clause-sunday : goal.returns-clause-sunday
unfolding read_from literal_read number_read number_put signed_read digits_read class_len put digits_of natural_of word_read month_read weekday_read half_read subsecond_read places_read month_of_letters weekday_of_letters opened_step unpadded_step date_number_at time_number_at word_at group_at
returns-clause-sunday c = refl

pub returns-clause-sixty : goal.returns-clause-sixty
unfolding read_from literal_read number_read number_put signed_read digits_read class_len put digits_of natural_of word_read month_read weekday_read half_read subsecond_read places_read month_of_letters weekday_of_letters opened_step unpadded_step date_number_at time_number_at word_at group_at
returns-clause-sixty c = refl

pub returns-clause-last_day : goal.returns-clause-last_day
unfolding read_from literal_read number_read number_put signed_read digits_read class_len put digits_of natural_of word_read month_read weekday_read half_read subsecond_read places_read month_of_letters weekday_of_letters opened_step unpadded_step date_number_at time_number_at word_at group_at
returns-clause-last_day c = refl

pub returns-clause-last_week : goal.returns-clause-last_week
unfolding read_from literal_read number_read number_put signed_read digits_read class_len put digits_of natural_of word_read month_read weekday_read half_read subsecond_read places_read month_of_letters weekday_of_letters opened_step unpadded_step date_number_at time_number_at word_at group_at
returns-clause-last_week c = refl

pub returns-clause-week_zero : goal.returns-clause-week_zero
unfolding read_from literal_read number_read number_put signed_read digits_read class_len put digits_of natural_of word_read month_read weekday_read half_read subsecond_read places_read month_of_letters weekday_of_letters opened_step unpadded_step date_number_at time_number_at word_at group_at
returns-clause-week_zero c = refl

pub returns-clause-blanks : goal.returns-clause-blanks
unfolding read_from literal_read number_read number_put signed_read digits_read class_len put digits_of natural_of word_read month_read weekday_read half_read subsecond_read places_read month_of_letters weekday_of_letters opened_step unpadded_step date_number_at time_number_at word_at group_at
returns-clause-blanks c = refl

pub returns-clause-last_quarter : goal.returns-clause-last_quarter
unfolding read_from literal_read number_read number_put signed_read digits_read class_len put digits_of natural_of word_read month_read weekday_read half_read subsecond_read places_read month_of_letters weekday_of_letters opened_step unpadded_step date_number_at time_number_at word_at group_at
returns-clause-last_quarter c = refl
