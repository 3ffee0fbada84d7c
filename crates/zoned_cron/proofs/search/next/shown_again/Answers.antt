use Rattle.std.proofs.Common.{◌≡◌, ℤ, ◌+ℤ◌, of_z, to_z, w64, refl, subst}
use Rattle.chrono_instant.specs.Offsets.{IsOffset}
use Rattle.chrono_zoned.proofs.SecondSums.{offset_carried}
use Rattle.zoned_cron.proofs.Carried.{date_carried, minus, plus, shown_near, twice_near}
use Rattle.zoned_cron.proofs.search.next.shown_again.Goals as goal

pub returns : goal.returns
returns c =
    let second = c.args.second in
    let first = c.args.first in
    let next = c.args.next in
    let near : IsOffset first = subst (λ (x : ℤ). IsOffset x) c.local_minus_utc.ensures.value c.local_minus_utc.ensures.in_range in
    let close : IsOffset next = subst (λ (x : ℤ). IsOffset x) c.local_minus_utc-2.ensures.value c.local_minus_utc-2.ensures.in_range in
    let by_first : to_z w64 (of_z w64 c.from.result) ≡ first = offset_carried c.from.result c.local_minus_utc.result first first c.from.ensures c.local_minus_utc.ensures.value refl near in
    let by_next : to_z w64 (of_z w64 c.from-2.result) ≡ next = offset_carried c.from-2.result c.local_minus_utc-2.result next next c.from-2.ensures c.local_minus_utc-2.ensures.value refl close in
    let shown : to_z w64 (of_z w64 (to_z w64 (of_z w64 second) +ℤ to_z w64 (of_z w64 c.from.result))) ≡ (second +ℤ first) = plus _ _ second first (date_carried second c.requires) by_first (shown_near second first c.requires near) in
    minus _ _ (second +ℤ first) next shown by_next (twice_near second first next c.requires near close)
