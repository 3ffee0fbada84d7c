use Rattle.std.proofs.Common.{◌≡◌, ⊎_elim, true, ℤ, pos, ◌+ℤ◌, ◌-ℤ◌, of_z, to_z, w64, ap, arith, refl, subst, sym, ◌∙◌}
use Rattle.std.proofs.lemmas.Bool.{both_ways}
use Rattle.std.proofs.lemmas.Int.{ints, to_z-of_z}
use Rattle.chrono_datetime.proofs.Signed.{casts}
use Rattle.chrono_instant.specs.Instants.{IsEpochSecond, epoch_second}
use Rattle.chrono_instant.proofs.InstantLemmas.{IsEpochSecond-moment}
use Rattle.chrono_cron.specs.Due.{is_due}
use Rattle.zoned_cron.specs.Private.{TakesDated}
use Rattle.zoned_cron.proofs.Instants.{among, behind}
use Rattle.zoned_cron.proofs.Windows.{due_by, planned_before, planned_now}
use Rattle.zoned_cron.proofs.schedule.ZonedSchedule.fires_at.Goals.{else-is_due-via-then-is_due+else-contains, else-is_due-via-else-is_due}
use Rattle.zoned_cron.proofs.schedule.ZonedSchedule.fires_at.Goals as goal

pub returns-in_default : goal.returns-in_default
returns-in_default g c = (
  λ no. absurd cc,
  λ f.
      let u = c.args.second in
      let ahead = g.Z.TimeZone.ahead c.args.self.now.zone in
      let at : to_z w64 (of_z w64 u) ≡ u = to_z-of_z w64 u c.ranges.second in
      absurd (c.in_default.ensures.none (subst (λ (x : ℤ). IsEpochSecond x) (sym at) f.instant.utc) (subst (λ (x : ℤ). IsEpochSecond (x +ℤ ahead x)) (sym at) f.instant.local)),
)

pub returns-then-contains : goal.returns-then-contains
returns-then-contains g c =
    let s = c.args.self.now.schedule.sets in
    let ahead = g.Z.TimeZone.ahead c.args.self.now.zone in
    let p = c.args.self.now.policy in
    let u = c.args.second in
    let at : to_z w64 (of_z w64 u) ≡ u = to_z-of_z w64 u c.ranges.second in
    let local = c.in-Some.local in (
      λ _. due_by s ahead p local u c.taken.result c.taken.ensures.all (c.contains.ensures.0 c.if-contains.true) at c.requires c.taken.ensures.exists (sym c.is_due.ensures ∙ c.if-is_due.true),
      λ _. refl,
    )

pub returns-in-Some-prev_before : goal.returns-in-Some-prev_before
returns-in-Some-prev_before g c =
    let s = c.args.self.now.schedule.sets in
    let ahead = g.Z.TimeZone.ahead c.args.self.now.zone in
    let p = c.args.self.now.policy in
    let u = c.args.second in
    let at : to_z w64 (of_z w64 u) ≡ u = to_z-of_z w64 u c.ranges.second in
    let local = c.in-Some.local in
    let shown = c.in-Some.ensures.shown in
    let is : epoch_second local ≡ (u +ℤ ahead u) = omega (arith, casts, shown.second, at, ap ahead at) in
    let earlier = c.in-Some-prev_before.earlier in
    let found = c.taken-in-Some-prev_before in (
      λ yes. due_by s ahead p earlier u found.result found.ensures.all (c.contains-in-Some-prev_before.ensures.0 yes) at c.requires found.ensures.exists c.in-Some-prev_before.ensures.member,
      λ f.
          let not : (is_due s local ≡ true) × TakesDated p ahead (epoch_second local) u → ⊥ = λ now. elim c.else-is_due.branch [
            | else-is_due-via-then-is_due+else-contains w ↦ both_ways w.contains.result w.if-contains.false (w.contains.ensures.1 ((among (TakesDated p ahead (epoch_second local)) w.taken.result (to_z w64 (of_z w64 u)) w.taken.ensures.all).1 (subst (λ (x : ℤ). TakesDated p ahead (epoch_second local) x) (sym at) now.1)))
            | else-is_due-via-else-is_due w ↦ both_ways (is_due s local) (sym c.is_due.ensures ∙ w.if-is_due.false) now.0
          ] in
          ⊎_elim (λ now. absurd (not now))
          (λ skipped.
          c.contains-in-Some-prev_before.ensures.1 ((among (TakesDated p ahead (epoch_second earlier)) found.result (to_z w64 (of_z w64 u)) found.ensures.all).1
          (subst (λ (x : ℤ). TakesDated p ahead (epoch_second earlier) x) (sym at)
          (planned_before s ahead p local earlier u shown.exists found.ensures.exists c.in-Some-prev_before.ensures.earlier shown.past is c.in-Some-prev_before.ensures.greatest f skipped.0 skipped.1))))
          (planned_now s ahead p local u shown.exists shown.past is f),
    )

pub returns-then-is_shown : goal.returns-then-is_shown
returns-then-is_shown g c =
    let s = c.args.self.now.schedule.sets in
    let ahead = g.Z.TimeZone.ahead c.args.self.now.zone in
    let p = c.args.self.now.policy in
    let u = c.args.second in
    let at : to_z w64 (of_z w64 u) ≡ u = to_z-of_z w64 u c.ranges.second in
    let local = c.in-Some.local in
    let shown = c.in-Some.ensures.shown in
    let is : epoch_second local ≡ (u +ℤ ahead u) = omega (arith, casts, shown.second, at, ap ahead at) in (
      λ no. absurd cc,
      λ f.
          let not : (is_due s local ≡ true) × TakesDated p ahead (epoch_second local) u → ⊥ = λ now. elim c.else-is_due.branch [
            | else-is_due-via-then-is_due+else-contains w ↦ both_ways w.contains.result w.if-contains.false (w.contains.ensures.1 ((among (TakesDated p ahead (epoch_second local)) w.taken.result (to_z w64 (of_z w64 u)) w.taken.ensures.all).1 (subst (λ (x : ℤ). TakesDated p ahead (epoch_second local) x) (sym at) now.1)))
            | else-is_due-via-else-is_due w ↦ both_ways (is_due s local) (sym c.is_due.ensures ∙ w.if-is_due.false) now.0
          ] in
          ⊎_elim (λ now. absurd (not now))
          (λ skipped.
          let gap = behind p.gap ahead (epoch_second f.planned) u skipped.0 in
          let at_local : to_z w64 (of_z w64 c.timestamp.result) ≡ epoch_second local = to_z-of_z w64 c.timestamp.result (record { sfits = c.timestamp.type_inv }) ∙ c.timestamp.ensures.value in
          let date = IsEpochSecond-moment local shown.exists in
          let second = to_z w64 (of_z w64 (to_z w64 (of_z w64 c.timestamp.result) -ℤ pos 1)) in
          let before : second ≡ (epoch_second local -ℤ pos 1) = omega (arith, casts, at_local, date) in
          absurd (c.is_shown.ensures c.if-is_shown.true (gap.skipped second (omega (arith, ints, before, is, gap.later)) (omega (arith, ints, before, is)))))
          (planned_now s ahead p local u shown.exists shown.past is f),
    )

pub returns-in-None : goal.returns-in-None
returns-in-None g c =
    let s = c.args.self.now.schedule.sets in
    let ahead = g.Z.TimeZone.ahead c.args.self.now.zone in
    let p = c.args.self.now.policy in
    let u = c.args.second in
    let at : to_z w64 (of_z w64 u) ≡ u = to_z-of_z w64 u c.ranges.second in
    let local = c.in-Some.local in
    let shown = c.in-Some.ensures.shown in
    let is : epoch_second local ≡ (u +ℤ ahead u) = omega (arith, casts, shown.second, at, ap ahead at) in (
      λ no. absurd cc,
      λ f.
          let not : (is_due s local ≡ true) × TakesDated p ahead (epoch_second local) u → ⊥ = λ now. elim c.else-is_due.branch [
            | else-is_due-via-then-is_due+else-contains w ↦ both_ways w.contains.result w.if-contains.false (w.contains.ensures.1 ((among (TakesDated p ahead (epoch_second local)) w.taken.result (to_z w64 (of_z w64 u)) w.taken.ensures.all).1 (subst (λ (x : ℤ). TakesDated p ahead (epoch_second local) x) (sym at) now.1)))
            | else-is_due-via-else-is_due w ↦ both_ways (is_due s local) (sym c.is_due.ensures ∙ w.if-is_due.false) now.0
          ] in
          ⊎_elim (λ now. absurd (not now))
          (λ skipped. absurd (both_ways (is_due s f.planned) (c.in-None.ensures.none f.planned f.exists skipped.1) f.due))
          (planned_now s ahead p local u shown.exists shown.past is f),
    )
