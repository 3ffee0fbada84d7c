use Rattle.chrono_pattern.proofs.CutAgain.{cut_clock_again, cut_date_again, cut_moment_again, cut_time_again, cut_zoned_again, cut_zoned_clock_again}
use Rattle.chrono_pattern.proofs.CutTexts.{cut_text}
use Rattle.chrono_pattern.proofs.law.lossy_patterns_write_the_same_again.Goals as goal

pub returns-clause-cut : goal.returns-clause-cut
returns-clause-cut c = cut_text

pub returns-clause-date : goal.returns-clause-date
returns-clause-date c = cut_date_again

pub returns-clause-time : goal.returns-clause-time
returns-clause-time c = cut_time_again

pub returns-clause-date_time : goal.returns-clause-date_time
returns-clause-date_time c = cut_moment_again

pub returns-clause-zoned : goal.returns-clause-zoned
returns-clause-zoned c = cut_zoned_again

pub returns-clause-clock : goal.returns-clause-clock
returns-clause-clock c = cut_clock_again

pub returns-clause-zoned_clock : goal.returns-clause-zoned_clock
returns-clause-zoned_clock c = cut_zoned_clock_again
