use Rattle.std.proofs.Common.{refl}
use Rattle.chrono_text.specs.Numbers.{digits_of, natural_of}
use Rattle.chrono_pattern.specs.ItemReads.{group_read, iso_read}
use Rattle.chrono_pattern.specs.NumberReads.{digits_read, number_put, number_read, signed_read}
use Rattle.chrono_pattern.specs.OffsetReads.{minutes_taken, offset_read, signed_offset_read, signed_stamp, size_taken, stamp_digits, two_taken, utc_or_offset}
use Rattle.chrono_pattern.specs.Parts.{put, put_stamp}
use Rattle.chrono_pattern.specs.Progress.{class_len, literal_read}
use Rattle.chrono_pattern.specs.Reads.{read_from}
use Rattle.chrono_pattern.specs.PatternSteps.{date_number_at, group_at, opened_step, time_number_at, unpadded_step, word_at}
use Rattle.chrono_pattern.specs.SubsecondReads.{places_read, subsecond_read}
use Rattle.chrono_pattern.proofs.law.known_readings_of_offsets.Goals as goal

pub returns-clause-colon : goal.returns-clause-colon
unfolding read_from literal_read number_read number_put signed_read digits_read class_len put digits_of natural_of group_read subsecond_read places_read iso_read two_taken minutes_taken size_taken signed_offset_read utc_or_offset offset_read put_stamp stamp_digits signed_stamp opened_step unpadded_step date_number_at time_number_at word_at group_at
returns-clause-colon c = refl

pub returns-clause-blank : goal.returns-clause-blank
unfolding read_from literal_read number_read number_put signed_read digits_read class_len put digits_of natural_of group_read subsecond_read places_read iso_read two_taken minutes_taken size_taken signed_offset_read utc_or_offset offset_read put_stamp stamp_digits signed_stamp opened_step unpadded_step date_number_at time_number_at word_at group_at
returns-clause-blank c = refl

pub returns-clause-seconds : goal.returns-clause-seconds
unfolding read_from literal_read number_read number_put signed_read digits_read class_len put digits_of natural_of group_read subsecond_read places_read iso_read two_taken minutes_taken size_taken signed_offset_read utc_or_offset offset_read put_stamp stamp_digits signed_stamp opened_step unpadded_step date_number_at time_number_at word_at group_at
returns-clause-seconds c = refl

pub returns-clause-hours : goal.returns-clause-hours
unfolding read_from literal_read number_read number_put signed_read digits_read class_len put digits_of natural_of group_read subsecond_read places_read iso_read two_taken minutes_taken size_taken signed_offset_read utc_or_offset offset_read put_stamp stamp_digits signed_stamp opened_step unpadded_step date_number_at time_number_at word_at group_at
returns-clause-hours c = refl

pub returns-clause-utc : goal.returns-clause-utc
unfolding read_from literal_read number_read number_put signed_read digits_read class_len put digits_of natural_of group_read subsecond_read places_read iso_read two_taken minutes_taken size_taken signed_offset_read utc_or_offset offset_read put_stamp stamp_digits signed_stamp opened_step unpadded_step date_number_at time_number_at word_at group_at
returns-clause-utc c = refl

pub returns-clause-zone : goal.returns-clause-zone
unfolding read_from literal_read number_read number_put signed_read digits_read class_len put digits_of natural_of group_read subsecond_read places_read iso_read two_taken minutes_taken size_taken signed_offset_read utc_or_offset offset_read put_stamp stamp_digits signed_stamp opened_step unpadded_step date_number_at time_number_at word_at group_at
returns-clause-zone c = refl

pub returns-clause-before : goal.returns-clause-before
unfolding read_from literal_read number_read number_put signed_read digits_read class_len put digits_of natural_of group_read subsecond_read places_read iso_read two_taken minutes_taken size_taken signed_offset_read utc_or_offset offset_read put_stamp stamp_digits signed_stamp opened_step unpadded_step date_number_at time_number_at word_at group_at
returns-clause-before c = refl

pub returns-clause-all : goal.returns-clause-all
unfolding read_from literal_read number_read number_put signed_read digits_read class_len put digits_of natural_of group_read subsecond_read places_read iso_read two_taken minutes_taken size_taken signed_offset_read utc_or_offset offset_read put_stamp stamp_digits signed_stamp opened_step unpadded_step date_number_at time_number_at word_at group_at
returns-clause-all c = refl

pub returns-clause-hours_alone : goal.returns-clause-hours_alone
unfolding read_from literal_read number_read number_put signed_read digits_read class_len put digits_of natural_of group_read subsecond_read places_read iso_read two_taken minutes_taken size_taken signed_offset_read utc_or_offset offset_read put_stamp stamp_digits signed_stamp opened_step unpadded_step date_number_at time_number_at word_at group_at
returns-clause-hours_alone c = refl
