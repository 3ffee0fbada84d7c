use Rattle.std.proofs.Common.{rules, ◌≡◌, true, false, ◌∙◌, ◌+ℤ◌, ◌-ℤ◌}
use Rattle.chrono_business.specs.KnownYears.{is_known}
use Rattle.chrono_business.proofs.KnownDays.{roll-known-nearest, roll-known-no_date, roll-known-no_end, roll-known-other, some-known}
use Rattle.chrono_business.proofs.known_years.KnownYears.contains_roll.Goals as goal

pub returns-then-not-contains : goal.returns-then-not-contains
returns-then-not-contains c =
    let here : is_known c.args.self c.args.date ≡ false = search rules in
    roll-known-no_date c.args.self c.args.roll c.args.date c.args.rolled here

pub returns-then-not-contains-2 : goal.returns-then-not-contains-2
returns-then-not-contains-2 c =
    let here : is_known c.args.self c.args.date ≡ true = search rules in
    let there : is_known c.args.self c.args.rolled ≡ false = search rules in
    roll-known-no_end c.args.self c.args.roll c.args.date c.args.rolled here there

pub returns-in-NearestQuantLib : goal.returns-in-NearestQuantLib
returns-in-NearestQuantLib c =
    let here : is_known c.args.self c.args.date ≡ true = search rules in
    let there : is_known c.args.self c.args.rolled ≡ true = search rules in
    c.contains_some.ensures ∙ (some-known c.args.self c.mirrored.result (c.args.date +ℤ (c.args.date -ℤ c.args.rolled)) c.mirrored.ensures
    ∙ roll-known-nearest c.args.self c.args.roll c.args.date c.args.rolled c.in-NearestQuantLib.is here there)

pub returns-in_default : goal.returns-in_default
returns-in_default c =
    let here : is_known c.args.self c.args.date ≡ true = search rules in
    let there : is_known c.args.self c.args.rolled ≡ true = search rules in
    roll-known-other c.args.self c.args.roll c.args.date c.args.rolled c.in_default.not-NearestQuantLib here there
