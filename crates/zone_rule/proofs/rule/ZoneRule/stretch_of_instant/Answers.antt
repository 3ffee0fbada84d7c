use Rattle.std.proofs.Common.{rules, inl, inr, refl, ◌≡◌, ◌∙◌, ℤ, pos, negsuc, SFits, ◌+ℤ◌, ◌≤ℤ◌, ◌<ℤ◌, ap, arith, subst, sym, to_z, of_z, w64}
use Rattle.std.specs.Prelude.{Some}
use Rattle.std.proofs.lemmas.Int.{by_lt_z, ints, to_z-of_z}
use Rattle.chrono_zoned.specs.Offsets.{IsOffset}
use Rattle.zone_rule.specs.Rules.{IsNextSetting, IsSteadyUntil}
use Rattle.zone_rule.proofs.NextChanges.{all_near, always_standard, first_set, never_set, offset_is, set_by, steady_holds}
use Rattle.zone_rule.proofs.rule.ZoneRule.stretch_of_instant.Goals as goal

pub returns-in_default-clause-offset : goal.returns-in_default-clause-offset
returns-in_default-clause-offset c = c.without_end.ensures.offset ∙ sym (always_standard c.args.self.now c.in_default.is c.args.second)

pub returns-in_default-clause-holds : goal.returns-in_default-clause-holds
returns-in_default-clause-holds c = λ u from to. always_standard c.args.self.now c.in_default.is u ∙ sym (always_standard c.args.self.now c.in_default.is c.args.second)

pub returns-in_default-clause-near : goal.returns-in_default-clause-near
returns-in_default-clause-near c = λ u. subst (λ (x : ℤ). IsOffset x) (sym (always_standard c.args.self.now c.in_default.is u)) c.without_end.ensures.near

pub returns-in_default-clause-first : goal.returns-in_default-clause-first
returns-in_default-clause-first c = λ t sets later. absurd (never_set c.args.self.now c.in_default.is t sets)

pub returns-in_default-clause-end : goal.returns-in_default-clause-end
returns-in_default-clause-end c = inl c.without_end.ensures.end

pub returns-in_default-checked_add-clause-offset : goal.returns-in_default-checked_add-clause-offset
returns-in_default-checked_add-clause-offset c = offset_is c.args.self.now c.in-Some.daylight c.args.second _ c.hold_from-hold.result.is_daylight c.offset_if-offset.result c.in-Some.is (to_z-of_z w64 c.args.second c.ranges.second) c.hold_from-hold.ensures.holds c.offset_if-offset.ensures

-- a sum that does not fit lies behind all that do
fits_below : (y : ℤ) → pos 0 ≤ℤ y → y <ℤ pos 9_223_372_036_854_775_807 → SFits w64 y
fits_below (pos n) low high = record { sfits = omega (arith, ints, high) }
fits_below (negsuc n) low high = absurd (omega (arith, ints, low))

fits_under : (s w : ℤ) → SFits w64 s → pos 0 <ℤ w → (s +ℤ w) <ℤ pos 9_223_372_036_854_775_807 → (y : ℤ) → y ≡ (s +ℤ w) → SFits w64 y
fits_under (pos n) w fits more high y is = fits_below y (omega (arith, ints, more, is)) (omega (arith, ints, high, is))
fits_under (negsuc n) w fits more high (pos m) is = record { sfits = omega (arith, ints, high, is) }
fits_under (negsuc n) w fits more high (negsuc m) is = let b = fits.sfits in record { sfits = omega (arith, ints, more, is, b) }

pub returns-in_default-checked_add-clause-holds : goal.returns-in_default-checked_add-clause-holds
returns-in_default-checked_add-clause-holds c =
    let r = c.args.self.now in
    let d = c.in-Some.daylight in
    let second = c.args.second in
    let here : to_z w64 (of_z w64 second) ≡ second = to_z-of_z w64 second c.ranges.second in
    let wait : ℤ = c.hold_from-hold.result.wait in
    let kept : to_z w64 (of_z w64 wait) ≡ wait = to_z-of_z w64 wait (search rules) in
    let steady : IsSteadyUntil (record { standard = r.standard; daylight = Some d }) second (second +ℤ wait) =
    subst (λ (x : ℤ). IsSteadyUntil (record { standard = r.standard; daylight = Some d }) x (x +ℤ wait)) here c.hold_from-hold.ensures.steady in
    let more : pos 0 <ℤ wait = let later = c.hold_from-hold.ensures.next.later in omega (arith, ints, later) in
    let past : pos 9_223_372_036_854_775_807 ≤ℤ (second +ℤ wait) = by_lt_z (second +ℤ wait) (pos 9_223_372_036_854_775_807)
    (λ lt. absurd (c.in_default-checked_add.ensures (fits_under second wait c.ranges.second more lt (to_z w64 (of_z w64 second) +ℤ to_z w64 (of_z w64 wait)) (omega (arith, ints, here, kept)))))
    (λ ge. ge) in
    steady_holds r d second (second +ℤ wait) (pos 9_223_372_036_854_775_807) c.in-Some.is steady past

pub returns-in_default-checked_add-clause-near : goal.returns-in_default-checked_add-clause-near
returns-in_default-checked_add-clause-near c =
    let near : IsOffset c.args.self.now.standard = subst (λ (x : ℤ). IsOffset x) c.local_minus_utc.ensures.value c.local_minus_utc.ensures.in_range in
    let far : IsOffset c.in-Some.daylight.offset = subst (λ (x : ℤ). IsOffset x) c.local_minus_utc-2.ensures.value c.local_minus_utc-2.ensures.in_range in
    all_near c.args.self.now c.in-Some.daylight c.in-Some.is near far

pub returns-in_default-checked_add-clause-first : goal.returns-in_default-checked_add-clause-first
returns-in_default-checked_add-clause-first c =
    let r = c.args.self.now in
    let d = c.in-Some.daylight in
    let second = c.args.second in
    let here : to_z w64 (of_z w64 second) ≡ second = to_z-of_z w64 second c.ranges.second in
    let wait : ℤ = c.hold_from-hold.result.wait in
    let kept : to_z w64 (of_z w64 wait) ≡ wait = to_z-of_z w64 wait (search rules) in
    let next : IsNextSetting (record { standard = r.standard; daylight = Some d }) second (second +ℤ wait) =
    subst (λ (x : ℤ). IsNextSetting (record { standard = r.standard; daylight = Some d }) x (x +ℤ wait)) here c.hold_from-hold.ensures.next in
    let more : pos 0 <ℤ wait = let later = next.later in omega (arith, ints, later) in
    let past : pos 9_223_372_036_854_775_807 ≤ℤ (second +ℤ wait) = by_lt_z (second +ℤ wait) (pos 9_223_372_036_854_775_807)
    (λ lt. absurd (c.in_default-checked_add.ensures (fits_under second wait c.ranges.second more lt (to_z w64 (of_z w64 second) +ℤ to_z w64 (of_z w64 wait)) (omega (arith, ints, here, kept)))))
    (λ ge. ge) in
    first_set r d second (second +ℤ wait) (pos 9_223_372_036_854_775_807) c.in-Some.is next past

pub returns-in_default-checked_add-clause-end : goal.returns-in_default-checked_add-clause-end
returns-in_default-checked_add-clause-end c = inl refl

pub returns-clause-offset : goal.returns-clause-offset
returns-clause-offset c = offset_is c.args.self.now c.in-Some.daylight c.args.second _ c.hold_from-hold.result.is_daylight c.offset_if-offset.result c.in-Some.is (to_z-of_z w64 c.args.second c.ranges.second) c.hold_from-hold.ensures.holds c.offset_if-offset.ensures

pub returns-clause-holds : goal.returns-clause-holds
returns-clause-holds c =
    let r = c.args.self.now in
    let d = c.in-Some.daylight in
    let second = c.args.second in
    let here : to_z w64 (of_z w64 second) ≡ second = to_z-of_z w64 second c.ranges.second in
    let wait : ℤ = c.hold_from-hold.result.wait in
    let kept : to_z w64 (of_z w64 wait) ≡ wait = to_z-of_z w64 wait (search rules) in
    let steady : IsSteadyUntil (record { standard = r.standard; daylight = Some d }) second (second +ℤ wait) =
    subst (λ (x : ℤ). IsSteadyUntil (record { standard = r.standard; daylight = Some d }) x (x +ℤ wait)) here c.hold_from-hold.ensures.steady in
    let until = c.in-Some-checked_add.until in
    let sum : to_z w64 (of_z w64 until) ≡ (second +ℤ wait) =
    to_z-of_z w64 until (subst (λ (x : ℤ). SFits w64 x) (sym c.in-Some-checked_add.ensures.1) c.in-Some-checked_add.ensures.0) ∙ c.in-Some-checked_add.ensures.1 ∙ ap (λ (x : ℤ). x +ℤ to_z w64 (of_z w64 wait)) here ∙ ap (λ (x : ℤ). second +ℤ x) kept in
    steady_holds r d second (second +ℤ wait) (to_z w64 (of_z w64 until)) c.in-Some.is steady (omega (arith, ints, sum))

pub returns-clause-later : goal.returns-clause-later
returns-clause-later c = λ _.
    let r = c.args.self.now in
    let d = c.in-Some.daylight in
    let second = c.args.second in
    let here : to_z w64 (of_z w64 second) ≡ second = to_z-of_z w64 second c.ranges.second in
    let wait : ℤ = c.hold_from-hold.result.wait in
    let kept : to_z w64 (of_z w64 wait) ≡ wait = to_z-of_z w64 wait (search rules) in
    let steady : IsSteadyUntil (record { standard = r.standard; daylight = Some d }) second (second +ℤ wait) =
    subst (λ (x : ℤ). IsSteadyUntil (record { standard = r.standard; daylight = Some d }) x (x +ℤ wait)) here c.hold_from-hold.ensures.steady in
    let until = c.in-Some-checked_add.until in
    let sum : to_z w64 (of_z w64 until) ≡ (second +ℤ wait) =
    to_z-of_z w64 until (subst (λ (x : ℤ). SFits w64 x) (sym c.in-Some-checked_add.ensures.1) c.in-Some-checked_add.ensures.0) ∙ c.in-Some-checked_add.ensures.1 ∙ ap (λ (x : ℤ). x +ℤ to_z w64 (of_z w64 wait)) here ∙ ap (λ (x : ℤ). second +ℤ x) kept in
    let later = c.hold_from-hold.ensures.next.later in
    omega (arith, ints, sum, later)

pub returns-clause-near : goal.returns-clause-near
returns-clause-near c =
    let near : IsOffset c.args.self.now.standard = subst (λ (x : ℤ). IsOffset x) c.local_minus_utc.ensures.value c.local_minus_utc.ensures.in_range in
    let far : IsOffset c.in-Some.daylight.offset = subst (λ (x : ℤ). IsOffset x) c.local_minus_utc-2.ensures.value c.local_minus_utc-2.ensures.in_range in
    all_near c.args.self.now c.in-Some.daylight c.in-Some.is near far

pub returns-clause-first : goal.returns-clause-first
returns-clause-first c =
    let r = c.args.self.now in
    let d = c.in-Some.daylight in
    let second = c.args.second in
    let here : to_z w64 (of_z w64 second) ≡ second = to_z-of_z w64 second c.ranges.second in
    let wait : ℤ = c.hold_from-hold.result.wait in
    let kept : to_z w64 (of_z w64 wait) ≡ wait = to_z-of_z w64 wait (search rules) in
    let next : IsNextSetting (record { standard = r.standard; daylight = Some d }) second (second +ℤ wait) =
    subst (λ (x : ℤ). IsNextSetting (record { standard = r.standard; daylight = Some d }) x (x +ℤ wait)) here c.hold_from-hold.ensures.next in
    let until = c.in-Some-checked_add.until in
    let sum : to_z w64 (of_z w64 until) ≡ (second +ℤ wait) =
    to_z-of_z w64 until (subst (λ (x : ℤ). SFits w64 x) (sym c.in-Some-checked_add.ensures.1) c.in-Some-checked_add.ensures.0) ∙ c.in-Some-checked_add.ensures.1 ∙ ap (λ (x : ℤ). x +ℤ to_z w64 (of_z w64 wait)) here ∙ ap (λ (x : ℤ). second +ℤ x) kept in
    first_set r d second (second +ℤ wait) (to_z w64 (of_z w64 until)) c.in-Some.is next (omega (arith, ints, sum))

pub returns-clause-end : goal.returns-clause-end
returns-clause-end c =
    let r = c.args.self.now in
    let d = c.in-Some.daylight in
    let second = c.args.second in
    let here : to_z w64 (of_z w64 second) ≡ second = to_z-of_z w64 second c.ranges.second in
    let wait : ℤ = c.hold_from-hold.result.wait in
    let kept : to_z w64 (of_z w64 wait) ≡ wait = to_z-of_z w64 wait (search rules) in
    let next : IsNextSetting (record { standard = r.standard; daylight = Some d }) second (second +ℤ wait) =
    subst (λ (x : ℤ). IsNextSetting (record { standard = r.standard; daylight = Some d }) x (x +ℤ wait)) here c.hold_from-hold.ensures.next in
    let until = c.in-Some-checked_add.until in
    let sum : to_z w64 (of_z w64 until) ≡ (second +ℤ wait) =
    to_z-of_z w64 until (subst (λ (x : ℤ). SFits w64 x) (sym c.in-Some-checked_add.ensures.1) c.in-Some-checked_add.ensures.0) ∙ c.in-Some-checked_add.ensures.1 ∙ ap (λ (x : ℤ). x +ℤ to_z w64 (of_z w64 wait)) here ∙ ap (λ (x : ℤ). second +ℤ x) kept in
    let later = next.later in
    inr (set_by r d (second +ℤ wait) (to_z w64 (of_z w64 until)) c.in-Some.is sum next.sets, omega (arith, ints, sum, later))
