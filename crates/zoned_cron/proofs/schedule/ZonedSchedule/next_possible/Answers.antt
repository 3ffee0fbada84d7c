use Rattle.std.proofs.Common.{◌≡◌, inl, inr, rules, ℤ, pos, SFits, ◌+ℤ◌, ◌-ℤ◌, ◌≤ℤ◌, ◌<ℤ◌, of_z, to_z, w64, ap, arith, refl, subst, ◌∙◌}
use Rattle.std.proofs.lemmas.Int.{by_lt_z, ints, to_z-of_z}
use Rattle.chrono_zoned.specs.Zones.{HoldsUntil}
use Rattle.std.specs.Prelude.{Some, None}
use Rattle.chrono_zoned.proofs.SecondSums.{carried, fits_by, offset_carried}
use Rattle.zoned_cron.proofs.Stretches.{planned_date, possible_least, possible_later, reaches, shows_more}
use Rattle.zoned_cron.proofs.Carried.{date_near, days_before, days_behind, minus, no_day_sooner, no_sooner, plus, showing_near, shown_near}
use Rattle.zoned_cron.proofs.schedule.ZonedSchedule.next_possible.Goals as goal

pub returns-then-is_long-clause-least : goal.returns-then-is_long-clause-least
returns-then-is_long-clause-least g c = λ u after f.
    let s = c.args.self.now.schedule.sets in
    let ahead = g.Z.TimeZone.ahead c.args.self.now.zone in
    let p = c.args.self.now.policy in
    let second = c.args.second in
    let here : to_z w64 (of_z w64 second) ≡ second = to_z-of_z w64 second c.ranges.second in
    let stretch = c.stretch_from-stretch in
    let until : ℤ = stretch.result.until in
    let fits : SFits w64 until = search rules in
    let end : to_z w64 (of_z w64 until) ≡ until = to_z-of_z w64 until fits in
    let holds : HoldsUntil ahead second until = subst (λ (x : ℤ). HoldsUntil ahead x until) here stretch.ensures.holds in
    let o : ℤ = to_z w64 (of_z w64 c.from-ahead.result) in
    let is_o : o ≡ ahead second = offset_carried c.from-ahead.result c.local_minus_utc.result stretch.result.offset (ahead second) c.from-ahead.ensures c.local_minus_utc.ensures.value (stretch.ensures.offset ∙ ap ahead here) (stretch.ensures.near second) in
    let local : ℤ = to_z w64 (of_z w64 (to_z w64 (of_z w64 second) +ℤ o)) in
    let is : local ≡ (second +ℤ ahead second) = plus (to_z w64 (of_z w64 second)) o second (ahead second) here is_o (shown_near second (ahead second) c.requires (stretch.ensures.near second)) in
    let later_second : to_z w64 (of_z w64 (to_z w64 (of_z w64 second) +ℤ pos 172_800)) ≡ (second +ℤ pos 172_800) = carried (to_z w64 (of_z w64 second) +ℤ pos 172_800) (second +ℤ pos 172_800) (ap (λ (x : ℤ). x +ℤ pos 172_800) here) (days_behind second 172_800 c.requires (omega arith)) in
    let long : (second +ℤ pos 172_800) ≤ℤ until = omega (arith, ints, later_second, end, c.if-is_long.true) in
    reaches s ahead p second local u None is c.in_default.ensures.least f (shows_more ahead second until u holds stretch.ensures.near after (by_lt_z u until (λ lt. inl lt) (λ ge. inr (omega (arith, ints, ge, long)))))

pub returns-else-is_long-clause-later : goal.returns-else-is_long-clause-later
returns-else-is_long-clause-later g c =
    let s = c.args.self.now.schedule.sets in
    let ahead = g.Z.TimeZone.ahead c.args.self.now.zone in
    let p = c.args.self.now.policy in
    let second = c.args.second in
    let here : to_z w64 (of_z w64 second) ≡ second = to_z-of_z w64 second c.ranges.second in
    let stretch = c.stretch_from-stretch in
    let until : ℤ = stretch.result.until in
    let fits : SFits w64 until = search rules in
    let end : to_z w64 (of_z w64 until) ≡ until = to_z-of_z w64 until fits in
    let holds : HoldsUntil ahead second until = subst (λ (x : ℤ). HoldsUntil ahead x until) here stretch.ensures.holds in
    let o : ℤ = to_z w64 (of_z w64 c.from-ahead.result) in
    let is_o : o ≡ ahead second = offset_carried c.from-ahead.result c.local_minus_utc.result stretch.result.offset (ahead second) c.from-ahead.ensures c.local_minus_utc.ensures.value (stretch.ensures.offset ∙ ap ahead here) (stretch.ensures.near second) in
    let local : ℤ = to_z w64 (of_z w64 (to_z w64 (of_z w64 second) +ℤ o)) in
    let is : local ≡ (second +ℤ ahead second) = plus (to_z w64 (of_z w64 second)) o second (ahead second) here is_o (shown_near second (ahead second) c.requires (stretch.ensures.near second)) in
    let later : second <ℤ until = omega (arith, ints, here, c.requires, stretch.ensures.later (omega (arith, ints, here, c.requires))) in
    possible_later second (to_z w64 (of_z w64 until)) c.in_dates.result c.in_dates.ensures (omega (arith, ints, end, later)) c.requires

pub returns-else-is_long-clause-least : goal.returns-else-is_long-clause-least
returns-else-is_long-clause-least g c = λ u after f.
    let s = c.args.self.now.schedule.sets in
    let ahead = g.Z.TimeZone.ahead c.args.self.now.zone in
    let p = c.args.self.now.policy in
    let second = c.args.second in
    let here : to_z w64 (of_z w64 second) ≡ second = to_z-of_z w64 second c.ranges.second in
    let stretch = c.stretch_from-stretch in
    let until : ℤ = stretch.result.until in
    let fits : SFits w64 until = search rules in
    let end : to_z w64 (of_z w64 until) ≡ until = to_z-of_z w64 until fits in
    let holds : HoldsUntil ahead second until = subst (λ (x : ℤ). HoldsUntil ahead x until) here stretch.ensures.holds in
    let o : ℤ = to_z w64 (of_z w64 c.from-ahead.result) in
    let is_o : o ≡ ahead second = offset_carried c.from-ahead.result c.local_minus_utc.result stretch.result.offset (ahead second) c.from-ahead.ensures c.local_minus_utc.ensures.value (stretch.ensures.offset ∙ ap ahead here) (stretch.ensures.near second) in
    let local : ℤ = to_z w64 (of_z w64 (to_z w64 (of_z w64 second) +ℤ o)) in
    let is : local ≡ (second +ℤ ahead second) = plus (to_z w64 (of_z w64 second)) o second (ahead second) here is_o (shown_near second (ahead second) c.requires (stretch.ensures.near second)) in
    by_lt_z u until
    (λ lt. absurd (reaches s ahead p second local u None is c.in_default.ensures.least f (shows_more ahead second until u holds stretch.ensures.near after (inl lt))))
    (λ ge. possible_least (to_z w64 (of_z w64 until)) u c.in_dates.result c.in_dates.ensures (omega (arith, ints, end, ge)) f.instant.utc)

pub returns-then-planned-ahead-clause-later : goal.returns-then-planned-ahead-clause-later
returns-then-planned-ahead-clause-later g c =
    let s = c.args.self.now.schedule.sets in
    let ahead = g.Z.TimeZone.ahead c.args.self.now.zone in
    let p = c.args.self.now.policy in
    let second = c.args.second in
    let here : to_z w64 (of_z w64 second) ≡ second = to_z-of_z w64 second c.ranges.second in
    let stretch = c.stretch_from-stretch in
    let until : ℤ = stretch.result.until in
    let fits : SFits w64 until = search rules in
    let end : to_z w64 (of_z w64 until) ≡ until = to_z-of_z w64 until fits in
    let holds : HoldsUntil ahead second until = subst (λ (x : ℤ). HoldsUntil ahead x until) here stretch.ensures.holds in
    let o : ℤ = to_z w64 (of_z w64 c.from-ahead.result) in
    let is_o : o ≡ ahead second = offset_carried c.from-ahead.result c.local_minus_utc.result stretch.result.offset (ahead second) c.from-ahead.ensures c.local_minus_utc.ensures.value (stretch.ensures.offset ∙ ap ahead here) (stretch.ensures.near second) in
    let local : ℤ = to_z w64 (of_z w64 (to_z w64 (of_z w64 second) +ℤ o)) in
    let is : local ≡ (second +ℤ ahead second) = plus (to_z w64 (of_z w64 second)) o second (ahead second) here is_o (shown_near second (ahead second) c.requires (stretch.ensures.near second)) in
    let planned = c.in-Some.planned in
    let date = planned_date s planned c.in-Some.ensures.planned.1 in
    let fits_planned : to_z w64 (of_z w64 planned) ≡ planned = carried planned planned refl (date_near planned date) in
    let found : ℤ = to_z w64 (of_z w64 (to_z w64 (of_z w64 planned) -ℤ o)) in
    let is_found : found ≡ (planned -ℤ ahead second) = minus (to_z w64 (of_z w64 planned)) o planned (ahead second) fits_planned is_o (showing_near planned (ahead second) date (stretch.ensures.near second)) in
    possible_later second found c.in_dates-then-planned-ahead.result c.in_dates-then-planned-ahead.ensures (omega (arith, ints, is_found, is, c.in-Some.ensures.planned.0)) c.requires

pub returns-then-planned-ahead-clause-least : goal.returns-then-planned-ahead-clause-least
returns-then-planned-ahead-clause-least g c = λ u after f.
    let s = c.args.self.now.schedule.sets in
    let ahead = g.Z.TimeZone.ahead c.args.self.now.zone in
    let p = c.args.self.now.policy in
    let second = c.args.second in
    let here : to_z w64 (of_z w64 second) ≡ second = to_z-of_z w64 second c.ranges.second in
    let stretch = c.stretch_from-stretch in
    let until : ℤ = stretch.result.until in
    let fits : SFits w64 until = search rules in
    let end : to_z w64 (of_z w64 until) ≡ until = to_z-of_z w64 until fits in
    let holds : HoldsUntil ahead second until = subst (λ (x : ℤ). HoldsUntil ahead x until) here stretch.ensures.holds in
    let o : ℤ = to_z w64 (of_z w64 c.from-ahead.result) in
    let is_o : o ≡ ahead second = offset_carried c.from-ahead.result c.local_minus_utc.result stretch.result.offset (ahead second) c.from-ahead.ensures c.local_minus_utc.ensures.value (stretch.ensures.offset ∙ ap ahead here) (stretch.ensures.near second) in
    let local : ℤ = to_z w64 (of_z w64 (to_z w64 (of_z w64 second) +ℤ o)) in
    let is : local ≡ (second +ℤ ahead second) = plus (to_z w64 (of_z w64 second)) o second (ahead second) here is_o (shown_near second (ahead second) c.requires (stretch.ensures.near second)) in
    let planned = c.in-Some.planned in
    let date = planned_date s planned c.in-Some.ensures.planned.1 in
    let fits_planned : to_z w64 (of_z w64 planned) ≡ planned = carried planned planned refl (date_near planned date) in
    let found : ℤ = to_z w64 (of_z w64 (to_z w64 (of_z w64 planned) -ℤ o)) in
    let is_found : found ≡ (planned -ℤ ahead second) = minus (to_z w64 (of_z w64 planned)) o planned (ahead second) fits_planned is_o (showing_near planned (ahead second) date (stretch.ensures.near second)) in
    let within : found <ℤ until = omega (arith, ints, end, c.if-planned-ahead.true) in
    by_lt_z u found
    (λ lt.
    let more : planned ≤ℤ (u +ℤ ahead u) = reaches s ahead p second local u (Some planned) is c.in-Some.ensures.least f (shows_more ahead second until u holds stretch.ensures.near after (inl (omega (arith, ints, lt, within)))) in
    absurd (no_sooner u (ahead u) (ahead second) planned found more (holds u (omega (arith, ints, after)) (omega (arith, ints, lt, within))) is_found lt))
    (λ ge. possible_least found u c.in_dates-then-planned-ahead.result c.in_dates-then-planned-ahead.ensures ge f.instant.utc)

pub overflow_sub-planned-then-is_long-2 : goal.overflow_sub-planned-then-is_long-2
overflow_sub-planned-then-is_long-2 g c =
    let date = planned_date c.args.self.now.schedule.sets c.in-Some.planned c.in-Some.ensures.planned.1 in
    fits_by (to_z w64 (of_z w64 c.in-Some.planned) -ℤ pos 86_400) (c.in-Some.planned -ℤ pos 86_400) (ap (λ (x : ℤ). x -ℤ pos 86_400) (carried c.in-Some.planned c.in-Some.planned refl (date_near c.in-Some.planned date))) (days_before c.in-Some.planned 86_400 date (omega arith))

pub returns-then-stretch-planned-clause-later : goal.returns-then-stretch-planned-clause-later
returns-then-stretch-planned-clause-later g c =
    let s = c.args.self.now.schedule.sets in
    let ahead = g.Z.TimeZone.ahead c.args.self.now.zone in
    let p = c.args.self.now.policy in
    let second = c.args.second in
    let here : to_z w64 (of_z w64 second) ≡ second = to_z-of_z w64 second c.ranges.second in
    let stretch = c.stretch_from-stretch in
    let until : ℤ = stretch.result.until in
    let fits : SFits w64 until = search rules in
    let end : to_z w64 (of_z w64 until) ≡ until = to_z-of_z w64 until fits in
    let holds : HoldsUntil ahead second until = subst (λ (x : ℤ). HoldsUntil ahead x until) here stretch.ensures.holds in
    let o : ℤ = to_z w64 (of_z w64 c.from-ahead.result) in
    let is_o : o ≡ ahead second = offset_carried c.from-ahead.result c.local_minus_utc.result stretch.result.offset (ahead second) c.from-ahead.ensures c.local_minus_utc.ensures.value (stretch.ensures.offset ∙ ap ahead here) (stretch.ensures.near second) in
    let local : ℤ = to_z w64 (of_z w64 (to_z w64 (of_z w64 second) +ℤ o)) in
    let is : local ≡ (second +ℤ ahead second) = plus (to_z w64 (of_z w64 second)) o second (ahead second) here is_o (shown_near second (ahead second) c.requires (stretch.ensures.near second)) in
    let later : second <ℤ until = omega (arith, ints, here, c.requires, stretch.ensures.later (omega (arith, ints, here, c.requires))) in
    let planned = c.in-Some.planned in
    let date = planned_date s planned c.in-Some.ensures.planned.1 in
    let fits_planned : to_z w64 (of_z w64 planned) ≡ planned = carried planned planned refl (date_near planned date) in
    let leap : ℤ = to_z w64 (of_z w64 (to_z w64 (of_z w64 planned) -ℤ pos 86_400)) in
    let is_leap : leap ≡ (planned -ℤ pos 86_400) = carried (to_z w64 (of_z w64 planned) -ℤ pos 86_400) (planned -ℤ pos 86_400) (ap (λ (x : ℤ). x -ℤ pos 86_400) fits_planned) (days_before planned 86_400 date (omega arith)) in
    let behind : until <ℤ leap = omega (arith, ints, end, c.if-stretch-planned.true) in
    possible_later second leap c.in_dates-then-stretch-planned.result c.in_dates-then-stretch-planned.ensures (omega (arith, ints, behind, later)) c.requires

pub returns-then-stretch-planned-clause-least : goal.returns-then-stretch-planned-clause-least
returns-then-stretch-planned-clause-least g c = λ u after f.
    let s = c.args.self.now.schedule.sets in
    let ahead = g.Z.TimeZone.ahead c.args.self.now.zone in
    let p = c.args.self.now.policy in
    let second = c.args.second in
    let here : to_z w64 (of_z w64 second) ≡ second = to_z-of_z w64 second c.ranges.second in
    let stretch = c.stretch_from-stretch in
    let until : ℤ = stretch.result.until in
    let fits : SFits w64 until = search rules in
    let end : to_z w64 (of_z w64 until) ≡ until = to_z-of_z w64 until fits in
    let holds : HoldsUntil ahead second until = subst (λ (x : ℤ). HoldsUntil ahead x until) here stretch.ensures.holds in
    let o : ℤ = to_z w64 (of_z w64 c.from-ahead.result) in
    let is_o : o ≡ ahead second = offset_carried c.from-ahead.result c.local_minus_utc.result stretch.result.offset (ahead second) c.from-ahead.ensures c.local_minus_utc.ensures.value (stretch.ensures.offset ∙ ap ahead here) (stretch.ensures.near second) in
    let local : ℤ = to_z w64 (of_z w64 (to_z w64 (of_z w64 second) +ℤ o)) in
    let is : local ≡ (second +ℤ ahead second) = plus (to_z w64 (of_z w64 second)) o second (ahead second) here is_o (shown_near second (ahead second) c.requires (stretch.ensures.near second)) in
    let planned = c.in-Some.planned in
    let date = planned_date s planned c.in-Some.ensures.planned.1 in
    let fits_planned : to_z w64 (of_z w64 planned) ≡ planned = carried planned planned refl (date_near planned date) in
    let leap : ℤ = to_z w64 (of_z w64 (to_z w64 (of_z w64 planned) -ℤ pos 86_400)) in
    let is_leap : leap ≡ (planned -ℤ pos 86_400) = carried (to_z w64 (of_z w64 planned) -ℤ pos 86_400) (planned -ℤ pos 86_400) (ap (λ (x : ℤ). x -ℤ pos 86_400) fits_planned) (days_before planned 86_400 date (omega arith)) in
    let later_second : to_z w64 (of_z w64 (to_z w64 (of_z w64 second) +ℤ pos 172_800)) ≡ (second +ℤ pos 172_800) = carried (to_z w64 (of_z w64 second) +ℤ pos 172_800) (second +ℤ pos 172_800) (ap (λ (x : ℤ). x +ℤ pos 172_800) here) (days_behind second 172_800 c.requires (omega arith)) in
    let long : (second +ℤ pos 172_800) ≤ℤ until = omega (arith, ints, later_second, end, c.if-is_long-2.true) in
    let more : planned ≤ℤ (u +ℤ ahead u) = reaches s ahead p second local u (Some planned) is c.in-Some.ensures.least f (shows_more ahead second until u holds stretch.ensures.near after (by_lt_z u until (λ lt. inl lt) (λ ge. inr (omega (arith, ints, ge, long))))) in
    possible_least leap u c.in_dates-then-stretch-planned.result c.in_dates-then-stretch-planned.ensures (no_day_sooner u (ahead u) planned leap more (stretch.ensures.near u) is_leap) f.instant.utc

pub returns-clause-later : goal.returns-clause-later
returns-clause-later g c =
    let s = c.args.self.now.schedule.sets in
    let ahead = g.Z.TimeZone.ahead c.args.self.now.zone in
    let p = c.args.self.now.policy in
    let second = c.args.second in
    let here : to_z w64 (of_z w64 second) ≡ second = to_z-of_z w64 second c.ranges.second in
    let stretch = c.stretch_from-stretch in
    let until : ℤ = stretch.result.until in
    let fits : SFits w64 until = search rules in
    let end : to_z w64 (of_z w64 until) ≡ until = to_z-of_z w64 until fits in
    let holds : HoldsUntil ahead second until = subst (λ (x : ℤ). HoldsUntil ahead x until) here stretch.ensures.holds in
    let o : ℤ = to_z w64 (of_z w64 c.from-ahead.result) in
    let is_o : o ≡ ahead second = offset_carried c.from-ahead.result c.local_minus_utc.result stretch.result.offset (ahead second) c.from-ahead.ensures c.local_minus_utc.ensures.value (stretch.ensures.offset ∙ ap ahead here) (stretch.ensures.near second) in
    let local : ℤ = to_z w64 (of_z w64 (to_z w64 (of_z w64 second) +ℤ o)) in
    let is : local ≡ (second +ℤ ahead second) = plus (to_z w64 (of_z w64 second)) o second (ahead second) here is_o (shown_near second (ahead second) c.requires (stretch.ensures.near second)) in
    let later : second <ℤ until = omega (arith, ints, here, c.requires, stretch.ensures.later (omega (arith, ints, here, c.requires))) in
    possible_later second (to_z w64 (of_z w64 until)) c.in_dates-2.result c.in_dates-2.ensures (omega (arith, ints, end, later)) c.requires

pub returns-clause-least : goal.returns-clause-least
returns-clause-least g c = λ u after f.
    let s = c.args.self.now.schedule.sets in
    let ahead = g.Z.TimeZone.ahead c.args.self.now.zone in
    let p = c.args.self.now.policy in
    let second = c.args.second in
    let here : to_z w64 (of_z w64 second) ≡ second = to_z-of_z w64 second c.ranges.second in
    let stretch = c.stretch_from-stretch in
    let until : ℤ = stretch.result.until in
    let fits : SFits w64 until = search rules in
    let end : to_z w64 (of_z w64 until) ≡ until = to_z-of_z w64 until fits in
    let holds : HoldsUntil ahead second until = subst (λ (x : ℤ). HoldsUntil ahead x until) here stretch.ensures.holds in
    let o : ℤ = to_z w64 (of_z w64 c.from-ahead.result) in
    let is_o : o ≡ ahead second = offset_carried c.from-ahead.result c.local_minus_utc.result stretch.result.offset (ahead second) c.from-ahead.ensures c.local_minus_utc.ensures.value (stretch.ensures.offset ∙ ap ahead here) (stretch.ensures.near second) in
    let local : ℤ = to_z w64 (of_z w64 (to_z w64 (of_z w64 second) +ℤ o)) in
    let is : local ≡ (second +ℤ ahead second) = plus (to_z w64 (of_z w64 second)) o second (ahead second) here is_o (shown_near second (ahead second) c.requires (stretch.ensures.near second)) in
    let planned = c.in-Some.planned in
    let date = planned_date s planned c.in-Some.ensures.planned.1 in
    let fits_planned : to_z w64 (of_z w64 planned) ≡ planned = carried planned planned refl (date_near planned date) in
    let found : ℤ = to_z w64 (of_z w64 (to_z w64 (of_z w64 planned) -ℤ o)) in
    let is_found : found ≡ (planned -ℤ ahead second) = minus (to_z w64 (of_z w64 planned)) o planned (ahead second) fits_planned is_o (showing_near planned (ahead second) date (stretch.ensures.near second)) in
    let past : until ≤ℤ found = omega (arith, ints, end, c.if-planned-ahead.false) in
    by_lt_z u until
    (λ lt.
    let more : planned ≤ℤ (u +ℤ ahead u) = reaches s ahead p second local u (Some planned) is c.in-Some.ensures.least f (shows_more ahead second until u holds stretch.ensures.near after (inl lt)) in
    absurd (no_sooner u (ahead u) (ahead second) planned found more (holds u (omega (arith, ints, after)) lt) is_found (omega (arith, ints, lt, past))))
    (λ ge. possible_least (to_z w64 (of_z w64 until)) u c.in_dates-2.result c.in_dates-2.ensures (omega (arith, ints, end, ge)) f.instant.utc)
