use Rattle.std.proofs.Common.{arith, ◌+◌}
use Rattle.chrono_calendar.proofs.Signed.{casts}
use Rattle.zone_rule.specs.Changes.{YearlyChange}
use Rattle.zone_rule.proofs.MeanYears.{lies_within, window_high-is, window_low-is}
use Rattle.zone_rule.proofs.mean_year.window_of.Goals as goal
use Rattle.std.specs.Prelude.{pos}

pub returns : goal.returns
returns c =
    let change : YearlyChange = record { day = c.args.day; second = c.args.second } in
    let least = c.places-least.result.0 in
    let days = c.places-least.result.1 in
    let known = c.places-least.ensures in
    let hours = c.requires.second in
    record {
      change = c.requires;
      low = omega (arith, casts, window_low-is change, known.place, known.some, known.in_range, hours);
      high = omega (arith, casts, window_high-is change, known.place, known.later, known.some, known.in_range, hours);
      near_low = omega (arith, casts, known.some, known.in_range, hours);
      near_high = omega (arith, casts, known.some, known.in_range, hours);
      lies = lies_within (pos 0) change least (least + days) _ _ known.least known.most
          (omega (arith, casts, known.some, known.in_range, hours))
          (omega (arith, casts, known.some, known.in_range, hours));
    }
