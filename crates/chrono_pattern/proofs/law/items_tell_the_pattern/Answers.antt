use Rattle.std.proofs.Common.{pos, refl}
use Rattle.chrono_pattern.specs.PatternItems.{items_from}
use Rattle.chrono_pattern.specs.PatternSteps.{date_number_at, group_at, opened_step, time_number_at, unpadded_step, word_at}
use Rattle.chrono_pattern.proofs.ItemLemmas.{same_read, same_text}
use Rattle.chrono_pattern.proofs.law.items_tell_the_pattern.Goals as goal

pub returns-clause-written : goal.returns-clause-written
returns-clause-written c a b m same = same_text a b m (pos 0) same

pub returns-clause-zoned : goal.returns-clause-zoned
returns-clause-zoned c = same_text

pub returns-clause-read : goal.returns-clause-read
returns-clause-read c = same_read

pub returns-clause-short_date : goal.returns-clause-short_date
unfolding items_from opened_step unpadded_step date_number_at time_number_at word_at group_at
returns-clause-short_date c = refl

pub returns-clause-short_time : goal.returns-clause-short_time
unfolding items_from opened_step unpadded_step date_number_at time_number_at word_at group_at
returns-clause-short_time c = refl
