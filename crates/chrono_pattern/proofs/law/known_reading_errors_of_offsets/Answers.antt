use Rattle.std.proofs.Common.{refl}
use Rattle.chrono_text.specs.Numbers.{digits_of, natural_of}
use Rattle.chrono_pattern.specs.ItemReads.{group_read, iso_read}
use Rattle.chrono_pattern.specs.NumberReads.{digits_read, number_put, number_read, signed_read}
use Rattle.chrono_pattern.specs.OffsetReads.{minutes_taken, offset_read, signed_offset_read, signed_stamp, size_taken, stamp_digits, two_taken, utc_or_offset}
use Rattle.chrono_pattern.specs.Parts.{put, put_stamp}
use Rattle.chrono_pattern.specs.Progress.{class_len, literal_read}
use Rattle.chrono_pattern.specs.Reads.{read_from}
use Rattle.chrono_pattern.specs.PatternSteps.{date_number_at, group_at, opened_step, time_number_at, unpadded_step, word_at}
use Rattle.chrono_pattern.specs.SubsecondReads.{places_read, subsecond_read}
use Rattle.chrono_pattern.proofs.law.known_reading_errors_of_offsets.Goals as goal

pub returns-clause-sixty : goal.returns-clause-sixty
unfolding read_from literal_read number_read number_put signed_read digits_read class_len put digits_of natural_of group_read subsecond_read places_read iso_read two_taken minutes_taken size_taken signed_offset_read utc_or_offset offset_read put_stamp stamp_digits signed_stamp opened_step unpadded_step date_number_at time_number_at word_at group_at
returns-clause-sixty c = refl

pub returns-clause-day : goal.returns-clause-day
unfolding read_from literal_read number_read number_put signed_read digits_read class_len put digits_of natural_of group_read subsecond_read places_read iso_read two_taken minutes_taken size_taken signed_offset_read utc_or_offset offset_read put_stamp stamp_digits signed_stamp opened_step unpadded_step date_number_at time_number_at word_at group_at
returns-clause-day c = refl

pub returns-clause-short : goal.returns-clause-short
unfolding read_from literal_read number_read number_put signed_read digits_read class_len put digits_of natural_of group_read subsecond_read places_read iso_read two_taken minutes_taken size_taken signed_offset_read utc_or_offset offset_read put_stamp stamp_digits signed_stamp opened_step unpadded_step date_number_at time_number_at word_at group_at
returns-clause-short c = refl

pub returns-clause-sign : goal.returns-clause-sign
unfolding read_from literal_read number_read number_put signed_read digits_read class_len put digits_of natural_of group_read subsecond_read places_read iso_read two_taken minutes_taken size_taken signed_offset_read utc_or_offset offset_read put_stamp stamp_digits signed_stamp opened_step unpadded_step date_number_at time_number_at word_at group_at
returns-clause-sign c = refl

pub returns-clause-twice : goal.returns-clause-twice
unfolding read_from literal_read number_read number_put signed_read digits_read class_len put digits_of natural_of group_read subsecond_read places_read iso_read two_taken minutes_taken size_taken signed_offset_read utc_or_offset offset_read put_stamp stamp_digits signed_stamp opened_step unpadded_step date_number_at time_number_at word_at group_at
returns-clause-twice c = refl

pub returns-clause-late : goal.returns-clause-late
unfolding read_from literal_read number_read number_put signed_read digits_read class_len put digits_of natural_of group_read subsecond_read places_read iso_read two_taken minutes_taken size_taken signed_offset_read utc_or_offset offset_read put_stamp stamp_digits signed_stamp opened_step unpadded_step date_number_at time_number_at word_at group_at
returns-clause-late c = refl

pub returns-clause-empty : goal.returns-clause-empty
unfolding read_from literal_read number_read number_put signed_read digits_read class_len put digits_of natural_of group_read subsecond_read places_read iso_read two_taken minutes_taken size_taken signed_offset_read utc_or_offset offset_read put_stamp stamp_digits signed_stamp opened_step unpadded_step date_number_at time_number_at word_at group_at
returns-clause-empty c = refl

pub returns-clause-letter : goal.returns-clause-letter
unfolding read_from literal_read number_read number_put signed_read digits_read class_len put digits_of natural_of group_read subsecond_read places_read iso_read two_taken minutes_taken size_taken signed_offset_read utc_or_offset offset_read put_stamp stamp_digits signed_stamp opened_step unpadded_step date_number_at time_number_at word_at group_at
returns-clause-letter c = refl

pub returns-clause-digits : goal.returns-clause-digits
unfolding read_from literal_read number_read number_put signed_read digits_read class_len put digits_of natural_of group_read subsecond_read places_read iso_read two_taken minutes_taken size_taken signed_offset_read utc_or_offset offset_read put_stamp stamp_digits signed_stamp opened_step unpadded_step date_number_at time_number_at word_at group_at
returns-clause-digits c = refl

pub returns-clause-other_between : goal.returns-clause-other_between
unfolding read_from literal_read number_read number_put signed_read digits_read class_len put digits_of natural_of group_read subsecond_read places_read iso_read two_taken minutes_taken size_taken signed_offset_read utc_or_offset offset_read put_stamp stamp_digits signed_stamp opened_step unpadded_step date_number_at time_number_at word_at group_at
returns-clause-other_between c = refl

pub returns-clause-none_between : goal.returns-clause-none_between
unfolding read_from literal_read number_read number_put signed_read digits_read class_len put digits_of natural_of group_read subsecond_read places_read iso_read two_taken minutes_taken size_taken signed_offset_read utc_or_offset offset_read put_stamp stamp_digits signed_stamp opened_step unpadded_step date_number_at time_number_at word_at group_at
returns-clause-none_between c = refl
