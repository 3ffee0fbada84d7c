use Rattle.std.proofs.Common.{◌≡◌, rules, ◌/◌, ◌%◌, ◌-◌, true, false, arith}
use Rattle.zoned_rules.specs.LocalTimes.{is_above_hours, is_above_minutes, is_above_seconds, names_number}
use Rattle.zoned_rules.proofs.ListedTimes.{all_three, no_hour, no_minute, no_second}
use Rattle.zoned_rules.proofs.local_rule.LocalRule.listed_before.Goals as goal

pub returns-then-not-names_number-clause-passed : goal.returns-then-not-names_number-clause-passed
returns-then-not-names_number-clause-passed c =
    let r = c.args.self.now in
    let n = c.args.end - 1 in
    let off : names_number (is_above_hours r.steps.unit) r.times.hours (r.start.time.second / 3_600) (n / 3_600) ≡ false = search rules in
    λ k low high. no_hour r.steps.unit r.times r.start.time.second n k off (omega (arith, low, high, c.requires.some))

pub returns-then-not-names_number-2-clause-passed : goal.returns-then-not-names_number-2-clause-passed
returns-then-not-names_number-2-clause-passed c =
    let r = c.args.self.now in
    let n = c.args.end - 1 in
    let off : names_number (is_above_minutes r.steps.unit) r.times.minutes (r.start.time.second / 60 % 60) (n / 60 % 60) ≡ false = search rules in
    λ k low high. no_minute r.steps.unit r.times r.start.time.second n k off (omega (arith, low, high, c.requires.some))

pub returns-then-not-names_number-3-clause-passed : goal.returns-then-not-names_number-3-clause-passed
returns-then-not-names_number-3-clause-passed c =
    let r = c.args.self.now in
    let n = c.args.end - 1 in
    let off : names_number (is_above_seconds r.steps.unit) r.times.seconds (r.start.time.second % 60) (n % 60) ≡ false = search rules in
    λ k low high. no_second r.steps.unit r.times r.start.time.second n k off (omega (arith, low, high, c.requires.some))

pub returns-clause-time : goal.returns-clause-time
returns-clause-time c =
    let r = c.args.self.now in
    let n = c.args.end - 1 in
    let a : names_number (is_above_hours r.steps.unit) r.times.hours (r.start.time.second / 3_600) (n / 3_600) ≡ true = search rules in
    let b : names_number (is_above_minutes r.steps.unit) r.times.minutes (r.start.time.second / 60 % 60) (n / 60 % 60) ≡ true = search rules in
    let d : names_number (is_above_seconds r.steps.unit) r.times.seconds (r.start.time.second % 60) (n % 60) ≡ true = search rules in
    λ e. all_three r.steps.unit r.times r.start.time.second n a b d
