use Rattle.std.proofs.Common.{◌≡◌, ℤ, w64, ap, arith, subst, ◌∙◌}
use Rattle.std.proofs.lemmas.Int.{to_z-of_z}
use Rattle.std.proofs.lemmas.Option.{IfSome_then}
use Rattle.chrono_datetime.proofs.Signed.{casts}
use Rattle.chrono_instant.specs.Instants.{epoch_second}
use Rattle.chrono_instant.specs.Offsets.{IsOffset}
use Rattle.chrono_instant.proofs.InstantLemmas.{IsEpochSecond-moment}
use Rattle.chrono_zoned.proofs.OptionLemmas.{none_then}
use Rattle.zoned_cron.proofs.search.instants.shown_at.Goals as goal

pub returns-clause-shown : goal.returns-clause-shown
returns-clause-shown g c =
    let here : epoch_second c.in_ok-utc.utc ≡ c.args.second = c.in_ok-utc.ensures.value.second ∙ to_z-of_z w64 c.args.second c.ranges.second in
    let there : c.offset_from_utc_datetime-offset.result ≡ g.Z.TimeZone.ahead c.args.zone c.args.second = c.offset_from_utc_datetime-offset.ensures ∙ ap (g.Z.TimeZone.ahead c.args.zone) here in
    let date = IsEpochSecond-moment c.in_ok-utc.utc c.in_ok-utc.ensures.value.exists in
    IfSome_then c.from_timestamp-2.result c.from_timestamp-2.ensures.value (λ m h. record {
      second = omega (arith, casts, h.second, c.from.ensures, c.local_minus_utc.ensures.value, c.local_minus_utc.ensures.in_range, there, here, date);
      past = h.past;
      exists = h.exists;
    })

pub returns-clause-near : goal.returns-clause-near
returns-clause-near g c =
    let here : epoch_second c.in_ok-utc.utc ≡ c.args.second = c.in_ok-utc.ensures.value.second ∙ to_z-of_z w64 c.args.second c.ranges.second in
    let there : c.offset_from_utc_datetime-offset.result ≡ g.Z.TimeZone.ahead c.args.zone c.args.second = c.offset_from_utc_datetime-offset.ensures ∙ ap (g.Z.TimeZone.ahead c.args.zone) here in
    let near : IsOffset c.offset_from_utc_datetime-offset.result = subst (λ (x : ℤ). IsOffset x) c.local_minus_utc.ensures.value c.local_minus_utc.ensures.in_range in
    IfSome_then c.from_timestamp-2.result c.from_timestamp-2.ensures.value (λ m h.
    subst (λ (x : ℤ). IsOffset x) there near)

pub returns-clause-none : goal.returns-clause-none
returns-clause-none g c =
    let ahead = g.Z.TimeZone.ahead c.args.zone in
    let here : epoch_second c.in_ok-utc.utc ≡ c.args.second = c.in_ok-utc.ensures.value.second ∙ to_z-of_z w64 c.args.second c.ranges.second in
    let there : c.offset_from_utc_datetime-offset.result ≡ ahead c.args.second = c.offset_from_utc_datetime-offset.ensures ∙ ap ahead here in
    none_then c.from_timestamp-2.result (λ no date local.
    no (c.from_timestamp-2.ensures.exists.1 (
      (omega (arith, casts, date, local.0, there, c.from.ensures, c.local_minus_utc.ensures.value, c.local_minus_utc.ensures.in_range), omega (arith, casts, date, local.1, there, c.from.ensures, c.local_minus_utc.ensures.value, c.local_minus_utc.ensures.in_range)),
      (omega arith, λ leap. absurd (omega (arith, leap))),
    )))
