use Rattle.std.proofs.Common.{arith}
use Rattle.chrono_text.proofs.AsciiTexts.{IsAscii-clock_text}
use Rattle.chrono_clock.specs.Time.{hour_of, minute_of, second_of}
use Rattle.chrono_clock.proofs.naive_time.NaiveTime.put_into.Goals as goal

pub returns-clause-ascii : goal.returns-clause-ascii
returns-clause-ascii g c =
    let t = c.args.self.now in
    IsAscii-clock_text (hour_of t) (minute_of t) (second_of t) t.fraction
    (omega (arith, c.hour.ensures.value, c.hour.ensures.bound)) (omega arith) (omega arith)
    (omega (arith, c.nanosecond.ensures.value, c.nanosecond.ensures.bound))
