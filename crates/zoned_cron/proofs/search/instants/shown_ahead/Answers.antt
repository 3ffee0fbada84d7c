use Rattle.std.proofs.Common.{arith, ap, ◌∙◌}
use Rattle.chrono_datetime.specs.Time.{TimeOfDay}
use Rattle.chrono_instant.specs.Instants.{epoch_second}
use Rattle.chrono_text.proofs.Signed.{casts}
use Rattle.zoned_cron.proofs.search.instants.shown_ahead.Goals as goal

pub returns : goal.returns
returns c =
    let second = ap (λ (t : TimeOfDay). t.second) c.in_ok-time.ensures.1 in
    let days = c.day_and_second-days.ensures in
    let date = c.in_ok-date.ensures.moved in
    ap epoch_second c.new.ensures ∙ omega (arith, casts, days, date, second)
