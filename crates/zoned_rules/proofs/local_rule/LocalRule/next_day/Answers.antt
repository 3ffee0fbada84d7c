use Rattle.std.proofs.Common.{◌≡◌, rules, ℤ, Bool}
use Rattle.std.proofs.lemmas.Bool.{both_ways}
use Rattle.std.proofs.lemmas.Int.{by_lt_z}
use Rattle.std.proofs.lemmas.Option.{IfSome_then}
use Rattle.chrono_datetime.specs.PassedOver.{NoneAfter, PassedBetween}
use Rattle.chrono_rules.specs.Instances.{is_instance}
use Rattle.chrono_zoned.proofs.OptionLemmas.{if_none}
use Rattle.zoned_rules.proofs.ListedTimes.{on_days, renamed}
use Rattle.zoned_rules.proofs.local_rule.LocalRule.next_day.Goals as goal

pub returns-clause-least : goal.returns-clause-least
returns-clause-least c =
    let r = c.args.self.now in
    let last = c.in_ok-last.last in
    let is_days : c.self.inside.days ≡ r.days = search rules in
    let is_start : c.date.result ≡ r.start.date = search rules in
    IfSome_then c.next_after.result c.next_after.ensures.least (λ e between q h lt.
    by_lt_z q.date e
    (λ less.
    absurd (both_ways (is_instance r.days r.start.date q.date)
    (renamed (λ (test : ℤ → Bool). PassedBetween test last e) c.self.inside.days r.days c.date.result r.start.date is_days is_start between q.date (c.in_ok-last.ensures.passed q h lt) less)
    (on_days r q h)))
    (λ ge. ge))

pub returns-clause-none : goal.returns-clause-none
returns-clause-none c =
    let r = c.args.self.now in
    let last = c.in_ok-last.last in
    let is_days : c.self.inside.days ≡ r.days = search rules in
    let is_start : c.date.result ≡ r.start.date = search rules in
    if_none c.next_after.result c.next_after.ensures.none (λ none q h.
    by_lt_z c.args.day q.date
    (λ lt.
    absurd (both_ways (is_instance r.days r.start.date q.date)
    (renamed (λ (test : ℤ → Bool). NoneAfter test last) c.self.inside.days r.days c.date.result r.start.date is_days is_start none q.date (c.in_ok-last.ensures.passed q h lt) h.exists.date)
    (on_days r q h)))
    (λ ge. ge))
