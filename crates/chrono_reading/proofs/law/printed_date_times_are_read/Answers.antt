use Rattle.std.proofs.Common.{append_assoc}
use Rattle.chrono_datetime.specs.DateText.{date_text}
use Rattle.chrono_datetime.specs.TimeText.{time_text}
use Rattle.chrono_reading.proofs.law.printed_date_times_are_read.Goals as goal

pub returns : goal.returns
returns c = λ m between date time fits separator. record {
  date = date_text m.date;
  separator = between;
  time = time_text m.time;
  date_written = c.printed_dates_are_read.ensures m.date date;
  between = separator;
  time_written = c.printed_times_are_read.ensures m.time time fits;
  written = simp append_assoc;
}
