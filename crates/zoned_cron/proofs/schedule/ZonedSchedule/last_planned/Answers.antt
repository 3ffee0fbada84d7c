use Rattle.std.proofs.Common.{◌≡◌, of_z, to_z, w64, arith}
use Rattle.std.proofs.lemmas.Int.{ints, to_z-of_z}
use Rattle.std.proofs.lemmas.Bool.{both_ways}
use Rattle.std.proofs.lemmas.Option.{IfSome_then}
use Rattle.chrono_zoned.proofs.OptionLemmas.{if_none}
use Rattle.chrono_cron.specs.Due.{is_due}
use Rattle.zoned_cron.proofs.Windows.{before_last, none_behind, none_up_to}
use Rattle.zoned_cron.proofs.schedule.ZonedSchedule.last_planned.Goals as goal

pub returns-in-Some-clause-later : goal.returns-in-Some-clause-later
returns-in-Some-clause-later g c =
    let k = c.in-Some.ensures.value in
    let fits : to_z w64 (of_z w64 c.args.end) ≡ c.args.end = to_z-of_z w64 c.args.end c.ranges.end in
    let kept : to_z w64 (of_z w64 c.unshown_before.result) ≡ c.unshown_before.result = to_z-of_z w64 c.unshown_before.result (record { sfits = c.unshown_before.type_inv }) in
    IfSome_then c.prev_before.result c.prev_before.ensures.greatest (λ q none.
    none_behind c.args.self.now.schedule.sets (g.Z.TimeZone.ahead c.args.self.now.zone) c.args.self.now.policy c.args.end c.in-Some.past q
    (λ u before. omega (arith, ints, k.second, kept, fits, c.unshown_before.ensures u (omega (arith, ints, fits, before)))) k.exists none)

pub returns-in-Some-clause-none : goal.returns-in-Some-clause-none
returns-in-Some-clause-none g c =
    let k = c.in-Some.ensures.value in
    let fits : to_z w64 (of_z w64 c.args.end) ≡ c.args.end = to_z-of_z w64 c.args.end c.ranges.end in
    let kept : to_z w64 (of_z w64 c.unshown_before.result) ≡ c.unshown_before.result = to_z-of_z w64 c.unshown_before.result (record { sfits = c.unshown_before.type_inv }) in
    if_none c.prev_before.result c.prev_before.ensures.none (λ none.
    none_up_to c.args.self.now.schedule.sets (g.Z.TimeZone.ahead c.args.self.now.zone) c.args.self.now.policy c.args.end c.in-Some.past
    (λ u before. omega (arith, ints, k.second, kept, fits, c.unshown_before.ensures u (omega (arith, ints, fits, before)))) k.exists none)

pub returns-clause-later : goal.returns-clause-later
returns-clause-later g c =
    let s = c.args.self.now.schedule.sets in
    let last = c.last_date_time-last.result.0 in
    IfSome_then c.prev_before-2.result c.prev_before-2.ensures.greatest (λ q none m u f after.
    absurd (both_ways (is_due s m) (none m f.exists after (before_last s m last c.last_date_time-last.ensures.of_type f.exists f.due)) f.due))

pub returns-clause-none : goal.returns-clause-none
returns-clause-none g c =
    let s = c.args.self.now.schedule.sets in
    let last = c.last_date_time-last.result.0 in
    if_none c.prev_before-2.result c.prev_before-2.ensures.none (λ none m u f.
    absurd (both_ways (is_due s m) (none m f.exists (before_last s m last c.last_date_time-last.ensures.of_type f.exists f.due)) f.due))
