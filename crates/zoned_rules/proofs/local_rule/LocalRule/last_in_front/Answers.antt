use Rattle.std.proofs.Common.{◌≡◌, ℤ, ◌≤ℤ◌, ◌<ℤ◌, arith, ap, ap₂, subst, sym}
use Rattle.std.proofs.lemmas.Int.{by_lt_z, ints}
use Rattle.std.proofs.lemmas.Option.{IfSome_then}
use Rattle.chrono_instant.specs.Instants.{epoch_second}
use Rattle.chrono_zoned.proofs.OptionLemmas.{if_any, if_none}
use Rattle.zoned_rules.specs.Private.{second_on}
use Rattle.zoned_rules.proofs.SinceStart.{listed_alone, none_since}
use Rattle.zoned_rules.proofs.local_rule.LocalRule.last_in_front.Goals as goal

pub returns-in_err-last-clause-none : goal.returns-in_err-last-clause-none
returns-in_err-last-clause-none c =
    let at : second_on c.date.result c.num_seconds_from_midnight.result ≡ epoch_second c.args.local = ap₂ second_on c.date.ensures c.num_seconds_from_midnight.ensures.value in
    if_any c.from_residual.result (λ q listed. subst (λ (x : ℤ). x ≤ℤ epoch_second q) at (c.in_err-last.ensures.none q (listed_alone c.args.self.now q listed)))

pub returns-clause-earlier : goal.returns-clause-earlier
returns-clause-earlier c =
    let at : second_on c.date.result c.num_seconds_from_midnight.result ≡ epoch_second c.args.local = ap₂ second_on c.date.ensures c.num_seconds_from_midnight.ensures.value in
    IfSome_then c.if_begun.result c.if_begun.ensures.same (λ m is. omega (arith, ints, at, ap epoch_second is, c.in_ok-last.ensures.before))

pub returns-clause-greatest : goal.returns-clause-greatest
returns-clause-greatest c =
    let at : second_on c.date.result c.num_seconds_from_midnight.result ≡ epoch_second c.args.local = ap₂ second_on c.date.ensures c.num_seconds_from_midnight.ensures.value in
    IfSome_then c.if_begun.result c.if_begun.ensures.same (λ m is q listed lt.
    omega (arith, ints, ap epoch_second is, c.in_ok-last.ensures.greatest q (listed_alone c.args.self.now q listed) (subst (λ (x : ℤ). epoch_second q <ℤ x) (sym at) lt)))

pub returns-clause-none : goal.returns-clause-none
returns-clause-none c =
    let at : second_on c.date.result c.num_seconds_from_midnight.result ≡ epoch_second c.args.local = ap₂ second_on c.date.ensures c.num_seconds_from_midnight.ensures.value in
    if_none c.if_begun.result c.if_begun.ensures.none (λ before q listed.
    by_lt_z (epoch_second q) (epoch_second c.args.local)
    (λ lt.
    absurd (none_since (epoch_second c.args.self.now.start) (epoch_second c.in_ok-last.last) (epoch_second q) before listed.since (c.in_ok-last.ensures.greatest q (listed_alone c.args.self.now q listed) (subst (λ (x : ℤ). epoch_second q <ℤ x) (sym at) lt))))
    (λ ge. ge))
