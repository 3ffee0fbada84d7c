use Rattle.chrono_stamps.proofs.IsoTextLemmas.{iso_written}
use Rattle.chrono_stamps.proofs.law.written_iso_texts_are_read.Goals as goal

pub returns : goal.returns
returns c = λ m x is small fits there.
    iso_written m x is small fits.0 there (c.printed_dates_are_read.ensures m.date is.date) (c.printed_times_are_read.ensures m.time is.time fits)
