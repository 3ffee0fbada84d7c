use Rattle.std.proofs.Common.{◌≡◌, ◌⊎◌, ℤ, w64, arith, ap₂, subst}
use Rattle.std.proofs.lemmas.Int.{ints, to_z-of_z}
use Rattle.std.proofs.lemmas.Option.{IfSome_then}
use Rattle.chrono_instant.specs.Instants.{epoch_second}
use Rattle.chrono_zoned.proofs.OptionLemmas.{if_none}
use Rattle.zoned_rules.specs.Private.{second_on}
use Rattle.zoned_rules.proofs.SinceStart.{before_later, if_both, listed_alone, since_later, since_listed}
use Rattle.zoned_rules.proofs.local_rule.LocalRule.first_since.Goals as goal

pub returns-clause-listed : goal.returns-clause-listed
returns-clause-listed c =
    let from = c.start_or_later-from in
    let at : second_on c.date.result c.num_seconds_from_midnight.result ≡ epoch_second from.result = ap₂ second_on c.date.ensures c.num_seconds_from_midnight.ensures.value in
    if_both c.first_from.result c.first_from.ensures.listed c.first_from.ensures.not_before (λ m listed low. since_listed c.args.self.now m listed (omega (arith, ints, at, low, from.ensures.start)))

pub returns-clause-not_before : goal.returns-clause-not_before
returns-clause-not_before c =
    let from = c.start_or_later-from in
    let at : second_on c.date.result c.num_seconds_from_midnight.result ≡ epoch_second from.result = ap₂ second_on c.date.ensures c.num_seconds_from_midnight.ensures.value in
    IfSome_then c.first_from.result c.first_from.ensures.not_before (λ m low. omega (arith, ints, at, low, from.ensures.later))

pub returns-clause-least : goal.returns-clause-least
returns-clause-least c =
    let from = c.start_or_later-from in
    let r = c.args.self.now in
    let at : second_on c.date.result c.num_seconds_from_midnight.result ≡ epoch_second from.result = ap₂ second_on c.date.ensures c.num_seconds_from_midnight.ensures.value in
    let either : (epoch_second from.result ≡ c.args.second) ⊎ (epoch_second from.result ≡ epoch_second r.start) = subst (λ (x : ℤ). (epoch_second from.result ≡ x) ⊎ (epoch_second from.result ≡ epoch_second r.start)) (to_z-of_z w64 c.args.second c.ranges.second) from.ensures.either in
    IfSome_then c.first_from.result c.first_from.ensures.least (λ m h q listed beside.
    h q (listed_alone r q listed) (since_later (epoch_second r.start) c.args.second (epoch_second from.result) _ (epoch_second q) at either listed.since beside))

pub returns-clause-none : goal.returns-clause-none
returns-clause-none c =
    let from = c.start_or_later-from in
    let r = c.args.self.now in
    let at : second_on c.date.result c.num_seconds_from_midnight.result ≡ epoch_second from.result = ap₂ second_on c.date.ensures c.num_seconds_from_midnight.ensures.value in
    let either : (epoch_second from.result ≡ c.args.second) ⊎ (epoch_second from.result ≡ epoch_second r.start) = subst (λ (x : ℤ). (epoch_second from.result ≡ x) ⊎ (epoch_second from.result ≡ epoch_second r.start)) (to_z-of_z w64 c.args.second c.ranges.second) from.ensures.either in
    if_none c.first_from.result c.first_from.ensures.none (λ h q listed.
    before_later (epoch_second r.start) c.args.second (epoch_second from.result) _ (epoch_second q) at either listed.since (h q (listed_alone r q listed)))
