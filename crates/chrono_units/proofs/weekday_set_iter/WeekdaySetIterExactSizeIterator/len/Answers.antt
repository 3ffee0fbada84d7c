use Rattle.std.proofs.Common.{◌∙◌, ap, length}
use Rattle.chrono_units.proofs.SetWalks.{length-walk}
use Rattle.chrono_units.proofs.weekday_set_iter.WeekdaySetIterExactSizeIterator.len.Goals as goal

pub returns-clause-value : goal.returns-clause-value
returns-clause-value c =
    c.from.ensures ∙ c.len.ensures ∙ length-walk c.self.inside.days c.self.inside.start ∙ ap length c.self.view_is
