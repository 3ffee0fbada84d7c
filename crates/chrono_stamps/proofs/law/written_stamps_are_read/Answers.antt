use Rattle.chrono_stamps.proofs.WrittenLemmas.{stamp_written}
use Rattle.chrono_stamps.proofs.law.written_stamps_are_read.Goals as goal

pub returns : goal.returns
returns c = λ form use_z m x is small has.
    stamp_written form use_z m x is small has (c.printed_dates_are_read.ensures m.date is.date)
