use Rattle.std.proofs.Common.{refl}
use Rattle.chrono_datetime.specs.Names.{month_of_letters, weekday_of_letters}
use Rattle.chrono_text.specs.Numbers.{digits_of, natural_of}
use Rattle.chrono_pattern.specs.ItemReads.{group_read}
use Rattle.chrono_pattern.specs.NumberReads.{digits_read, number_put, number_read, signed_read}
use Rattle.chrono_pattern.specs.Parts.{put}
use Rattle.chrono_pattern.specs.Progress.{class_len, literal_read}
use Rattle.chrono_pattern.specs.Reads.{read_from}
use Rattle.chrono_pattern.specs.PatternSteps.{date_number_at, group_at, opened_step, time_number_at, unpadded_step, word_at}
use Rattle.chrono_pattern.specs.SubsecondReads.{places_read, subsecond_read}
use Rattle.chrono_pattern.specs.WordReads.{half_read, month_read, weekday_read, word_read}
use Rattle.chrono_pattern.proofs.law.known_reading_errors.Goals as goal

pub returns-clause-twice : goal.returns-clause-twice
unfolding read_from literal_read number_read number_put signed_read digits_read class_len put digits_of natural_of word_read month_read weekday_read half_read subsecond_read places_read month_of_letters weekday_of_letters opened_step unpadded_step date_number_at time_number_at word_at group_at
returns-clause-twice c = refl

pub returns-clause-thirteen : goal.returns-clause-thirteen
unfolding read_from literal_read number_read number_put signed_read digits_read class_len put digits_of natural_of word_read month_read weekday_read half_read subsecond_read places_read month_of_letters weekday_of_letters opened_step unpadded_step date_number_at time_number_at word_at group_at
returns-clause-thirteen c = refl

pub returns-clause-letter : goal.returns-clause-letter
unfolding read_from literal_read number_read number_put signed_read digits_read class_len put digits_of natural_of word_read month_read weekday_read half_read subsecond_read places_read month_of_letters weekday_of_letters opened_step unpadded_step date_number_at time_number_at word_at group_at
returns-clause-letter c = refl

pub returns-clause-short : goal.returns-clause-short
unfolding read_from literal_read number_read number_put signed_read digits_read class_len put digits_of natural_of word_read month_read weekday_read half_read subsecond_read places_read month_of_letters weekday_of_letters opened_step unpadded_step date_number_at time_number_at word_at group_at
returns-clause-short c = refl

pub returns-clause-long : goal.returns-clause-long
unfolding read_from literal_read number_read number_put signed_read digits_read class_len put digits_of natural_of word_read month_read weekday_read half_read subsecond_read places_read month_of_letters weekday_of_letters opened_step unpadded_step date_number_at time_number_at word_at group_at
returns-clause-long c = refl

pub returns-clause-other_hour : goal.returns-clause-other_hour
unfolding read_from literal_read number_read number_put signed_read digits_read class_len put digits_of natural_of word_read month_read weekday_read half_read subsecond_read places_read month_of_letters weekday_of_letters opened_step unpadded_step date_number_at time_number_at word_at group_at group_read
returns-clause-other_hour c = refl

pub returns-clause-day : goal.returns-clause-day
unfolding read_from literal_read number_read number_put signed_read digits_read class_len put digits_of natural_of word_read month_read weekday_read half_read subsecond_read places_read month_of_letters weekday_of_letters opened_step unpadded_step date_number_at time_number_at word_at group_at group_read
returns-clause-day c = refl

pub returns-clause-second : goal.returns-clause-second
unfolding read_from literal_read number_read number_put signed_read digits_read class_len put digits_of natural_of word_read month_read weekday_read half_read subsecond_read places_read month_of_letters weekday_of_letters opened_step unpadded_step date_number_at time_number_at word_at group_at group_read
returns-clause-second c = refl

pub returns-clause-hour : goal.returns-clause-hour
unfolding read_from literal_read number_read number_put signed_read digits_read class_len put digits_of natural_of word_read month_read weekday_read half_read subsecond_read places_read month_of_letters weekday_of_letters opened_step unpadded_step date_number_at time_number_at word_at group_at group_read
returns-clause-hour c = refl

pub returns-clause-minute : goal.returns-clause-minute
unfolding read_from literal_read number_read number_put signed_read digits_read class_len put digits_of natural_of word_read month_read weekday_read half_read subsecond_read places_read month_of_letters weekday_of_letters opened_step unpadded_step date_number_at time_number_at word_at group_at group_read
returns-clause-minute c = refl

pub returns-clause-day_zero : goal.returns-clause-day_zero
unfolding read_from literal_read number_read number_put signed_read digits_read class_len put digits_of natural_of word_read month_read weekday_read half_read subsecond_read places_read month_of_letters weekday_of_letters opened_step unpadded_step date_number_at time_number_at word_at group_at group_read
returns-clause-day_zero c = refl

pub returns-clause-day_of_year : goal.returns-clause-day_of_year
unfolding read_from literal_read number_read number_put signed_read digits_read class_len put digits_of natural_of word_read month_read weekday_read half_read subsecond_read places_read month_of_letters weekday_of_letters opened_step unpadded_step date_number_at time_number_at word_at group_at group_read
returns-clause-day_of_year c = refl

pub returns-clause-iso_week : goal.returns-clause-iso_week
unfolding read_from literal_read number_read number_put signed_read digits_read class_len put digits_of natural_of word_read month_read weekday_read half_read subsecond_read places_read month_of_letters weekday_of_letters opened_step unpadded_step date_number_at time_number_at word_at group_at group_read
returns-clause-iso_week c = refl

pub returns-clause-week : goal.returns-clause-week
unfolding read_from literal_read number_read number_put signed_read digits_read class_len put digits_of natural_of word_read month_read weekday_read half_read subsecond_read places_read month_of_letters weekday_of_letters opened_step unpadded_step date_number_at time_number_at word_at group_at group_read
returns-clause-week c = refl

pub returns-clause-half_hour : goal.returns-clause-half_hour
unfolding read_from literal_read number_read number_put signed_read digits_read class_len put digits_of natural_of word_read month_read weekday_read half_read subsecond_read places_read month_of_letters weekday_of_letters opened_step unpadded_step date_number_at time_number_at word_at group_at group_read
returns-clause-half_hour c = refl

pub returns-clause-sunday : goal.returns-clause-sunday
unfolding read_from literal_read number_read number_put signed_read digits_read class_len put digits_of natural_of word_read month_read weekday_read half_read subsecond_read places_read month_of_letters weekday_of_letters opened_step unpadded_step date_number_at time_number_at word_at group_at group_read
returns-clause-sunday c = refl

pub returns-clause-slash : goal.returns-clause-slash
unfolding read_from literal_read number_read number_put signed_read digits_read class_len put digits_of natural_of word_read month_read weekday_read half_read subsecond_read places_read month_of_letters weekday_of_letters opened_step unpadded_step date_number_at time_number_at word_at group_at group_read
returns-clause-slash c = refl

pub returns-clause-no_month : goal.returns-clause-no_month
unfolding read_from literal_read number_read number_put signed_read digits_read class_len put digits_of natural_of word_read month_read weekday_read half_read subsecond_read places_read month_of_letters weekday_of_letters opened_step unpadded_step date_number_at time_number_at word_at group_at group_read
returns-clause-no_month c = refl

pub returns-clause-no_digit : goal.returns-clause-no_digit
unfolding read_from literal_read number_read number_put signed_read digits_read class_len put digits_of natural_of word_read month_read weekday_read half_read subsecond_read places_read month_of_letters weekday_of_letters opened_step unpadded_step date_number_at time_number_at word_at group_at group_read
returns-clause-no_digit c = refl

pub returns-clause-no_minute : goal.returns-clause-no_minute
unfolding read_from literal_read number_read number_put signed_read digits_read class_len put digits_of natural_of word_read month_read weekday_read half_read subsecond_read places_read month_of_letters weekday_of_letters opened_step unpadded_step date_number_at time_number_at word_at group_at group_read
returns-clause-no_minute c = refl

pub returns-clause-second_behind : goal.returns-clause-second_behind
unfolding read_from literal_read number_read number_put signed_read digits_read class_len put digits_of natural_of word_read month_read weekday_read half_read subsecond_read places_read month_of_letters weekday_of_letters opened_step unpadded_step date_number_at time_number_at word_at group_at group_read
returns-clause-second_behind c = refl

pub returns-clause-no_half : goal.returns-clause-no_half
unfolding read_from literal_read number_read number_put signed_read digits_read class_len put digits_of natural_of word_read month_read weekday_read half_read subsecond_read places_read month_of_letters weekday_of_letters opened_step unpadded_step date_number_at time_number_at word_at group_at group_read
returns-clause-no_half c = refl

pub returns-clause-no_weekday : goal.returns-clause-no_weekday
unfolding read_from literal_read number_read number_put signed_read digits_read class_len put digits_of natural_of word_read month_read weekday_read half_read subsecond_read places_read month_of_letters weekday_of_letters opened_step unpadded_step date_number_at time_number_at word_at group_at group_read
returns-clause-no_weekday c = refl

pub returns-clause-quarter_zero : goal.returns-clause-quarter_zero
unfolding read_from literal_read number_read number_put signed_read digits_read class_len put digits_of natural_of word_read month_read weekday_read half_read subsecond_read places_read month_of_letters weekday_of_letters opened_step unpadded_step date_number_at time_number_at word_at group_at group_read
returns-clause-quarter_zero c = refl

pub returns-clause-quarter : goal.returns-clause-quarter
unfolding read_from literal_read number_read number_put signed_read digits_read class_len put digits_of natural_of word_read month_read weekday_read half_read subsecond_read places_read month_of_letters weekday_of_letters opened_step unpadded_step date_number_at time_number_at word_at group_at group_read
returns-clause-quarter c = refl

pub returns-clause-no_fraction : goal.returns-clause-no_fraction
unfolding read_from literal_read number_read number_put signed_read digits_read class_len put digits_of natural_of word_read month_read weekday_read half_read subsecond_read places_read month_of_letters weekday_of_letters opened_step unpadded_step date_number_at time_number_at word_at group_at group_read
returns-clause-no_fraction c = refl

pub returns-clause-no_digit_of_fraction : goal.returns-clause-no_digit_of_fraction
unfolding read_from literal_read number_read number_put signed_read digits_read class_len put digits_of natural_of word_read month_read weekday_read half_read subsecond_read places_read month_of_letters weekday_of_letters opened_step unpadded_step date_number_at time_number_at word_at group_at group_read
returns-clause-no_digit_of_fraction c = refl
