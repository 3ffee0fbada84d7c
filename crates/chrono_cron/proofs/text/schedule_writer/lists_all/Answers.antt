use Rattle.chrono_cron.proofs.WrittenFields.{all_by_gap}
use Rattle.chrono_cron.proofs.text.schedule_writer.lists_all.Goals as goal

pub returns : goal.returns
returns c =
    all_by_gap c.args.set c.args.low c.first_gap.result c.args.end c.first_gap.ensures.not_before c.first_gap.ensures.within c.first_gap.ensures.members c.first_gap.ensures.gap
