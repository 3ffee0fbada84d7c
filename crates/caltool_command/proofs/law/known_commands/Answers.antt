use Rattle.std.proofs.Common.{refl}
use Rattle.chrono_text.specs.Numbers.{natural_of, number_of, to_i64, to_i32, to_u32, to_u8}
use Rattle.caltool_command.specs.Types.{to_months, to_weekday}
use Rattle.caltool_command.specs.Grammar.{arguments_of, numbers_of}
use Rattle.caltool_command.specs.Commands.{calendar_date, clock_time, date_and_time, weekdays, weekday_set, command_from, name_of, command_named, command_of}
use Rattle.caltool_command.proofs.law.known_commands.Goals as goal

pub returns : goal.returns
unfolding command_of arguments_of numbers_of number_of natural_of to_i64 to_i32 to_u32 to_u8 to_months to_weekday command_named name_of command_from calendar_date clock_time date_and_time weekdays weekday_set
returns c = record { ymd = refl; yo = refl; iwd = refl; day = refl; wom = refl; days = refl; months_on = refl; months_back = refl; week = refl; moved = refl; diff = refl; since = refl; set = refl; on = refl; every = refl; longest = refl }
