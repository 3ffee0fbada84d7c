use Rattle.std.proofs.Common.{◌≡◌, rules, ℤ, Bool}
use Rattle.std.proofs.lemmas.Bool.{both_ways}
use Rattle.std.proofs.lemmas.Int.{by_lt_z}
use Rattle.std.proofs.lemmas.Option.{IfSome_then}
use Rattle.chrono_datetime.specs.PassedOver.{NoneBefore, PassedBetween}
use Rattle.chrono_rules.specs.Instances.{is_instance}
use Rattle.chrono_zoned.proofs.OptionLemmas.{if_none}
use Rattle.zoned_rules.proofs.ListedTimes.{on_days, renamed}
use Rattle.zoned_rules.proofs.local_rule.LocalRule.previous_day.Goals as goal

pub returns-clause-greatest : goal.returns-clause-greatest
returns-clause-greatest c =
    let r = c.args.self.now in
    let first = c.in_ok-first.first in
    let is_days : c.self.inside.days ≡ r.days = search rules in
    let is_start : c.date.result ≡ r.start.date = search rules in
    IfSome_then c.prev_before.result c.prev_before.ensures.greatest (λ e between q h lt.
    by_lt_z e q.date
    (λ more.
    absurd (both_ways (is_instance r.days r.start.date q.date)
    (renamed (λ (test : ℤ → Bool). PassedBetween test e first) c.self.inside.days r.days c.date.result r.start.date is_days is_start between q.date more (c.in_ok-first.ensures.passed q h lt))
    (on_days r q h)))
    (λ le. le))

pub returns-clause-none : goal.returns-clause-none
returns-clause-none c =
    let r = c.args.self.now in
    let first = c.in_ok-first.first in
    let is_days : c.self.inside.days ≡ r.days = search rules in
    let is_start : c.date.result ≡ r.start.date = search rules in
    if_none c.prev_before.result c.prev_before.ensures.none (λ none q h.
    by_lt_z q.date c.args.day
    (λ lt.
    absurd (both_ways (is_instance r.days r.start.date q.date)
    (renamed (λ (test : ℤ → Bool). NoneBefore test first) c.self.inside.days r.days c.date.result r.start.date is_days is_start none q.date (c.in_ok-first.ensures.passed q h lt) h.exists.date)
    (on_days r q h)))
    (λ ge. ge))
