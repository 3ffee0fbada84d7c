use Rattle.std.proofs.Common.{sym, ap}
use Rattle.std.specs.Prelude.{◌&&◌}
use Rattle.calendar_text.specs.CalendarTimes.{time_of}
use Rattle.calendar_text.specs.Lines.{head_of, is_local, same_zone, zone_of, zones_agree}
use Rattle.chrono_text.proofs.PieceLemmas.{nothing_behind}
use Rattle.calendar_text.proofs.content_line.zones_agree.Goals as goal

pub returns-in_default : goal.returns-in_default
unfolding zones_agree time_of
returns-in_default c =
    let start = c.args.start.now in
    sym (ap (λ v. is_local (time_of v) && same_zone (zone_of c.args.head.now) (zone_of (head_of start))) (nothing_behind 58 start c.in_default.ensures.none))
