use Rattle.std.proofs.Common.{◌≡◌, ℕ, ◌+◌, ◌*◌, ◌-◌, ◌<◌, ◌≤◌, ℤ, pos, ◌+ℤ◌, ◌-ℤ◌, ◌*ℤ◌, arith, ap, ◌∙◌, FitsSigned, w64, to_z, of_z}
use Rattle.std.proofs.lemmas.Int.{to_z-of_z}
use Rattle.chrono_clock.specs.Time.{TimeOfDay, distance, land}
use Rattle.chrono_text.proofs.Signed.{signed}
use Rattle.chrono_clock.proofs.DistanceLemmas.{land-distance, distance-later, distance-earlier, distance-same, distance-turned, distance-plain}
use Rattle.chrono_clock.proofs.naive_time.NaiveTime.signed_duration_since.Goals as goal

-- what lies between two places, from their seconds and fractions with two seconds lent to the fractions
between : (x : ℤ) (s t f g : ℕ) → s ≤ 86_400 → t ≤ 86_400 → g < 2_000_000_000 → x ≡ to_z w64 (of_z w64 (to_z w64 s -ℤ to_z w64 (t + 2))) *ℤ pos 1_000_000_000 +ℤ pos (f + 2_000_000_000 - g) → x ≡ pos (s * 1_000_000_000 + f) -ℤ pos (t * 1_000_000_000 + g)
between x s t f g h i j e =
    let z : ℤ = to_z w64 s -ℤ to_z w64 (t + 2) in
    let fits : FitsSigned w64 z = omega (arith, signed) in
    e ∙ ap (λ y. y *ℤ pos 1_000_000_000 +ℤ pos (f + 2_000_000_000 - g)) (to_z-of_z w64 z fits) ∙ omega (arith, signed)

pub returns-clause-value : goal.returns-clause-value
unfolding distance
returns-clause-value c =
    let here : c.self.inside.frac ≡ c.args.self.fraction = ap (λ (t : TimeOfDay). t.fraction) c.self.view_is in
    let there : c.rhs.inside.frac ≡ c.args.rhs.fraction = ap (λ (t : TimeOfDay). t.fraction) c.rhs.view_is in
    between c.from_few_secs.result c.second_beside-here.result c.second_beside-there.result c.self.inside.frac c.rhs.inside.frac
    c.second_beside-here.ensures.bound c.second_beside-there.ensures.bound (omega arith) c.from_few_secs.ensures
    ∙ omega (arith, signed, here, there, c.second_beside-here.ensures.value, c.second_beside-there.ensures.value)

pub returns-clause-back : goal.returns-clause-back
returns-clause-back c = λ w. ap (land c.args.rhs) (returns-clause-value c) ∙ land-distance c.args.self c.args.rhs c.second_beside-here.ensures.time c.second_beside-there.ensures.time w

pub returns-clause-turned : goal.returns-clause-turned
returns-clause-turned c = returns-clause-value c ∙ distance-turned c.args.self c.args.rhs

pub returns-clause-later : goal.returns-clause-later
returns-clause-later c = λ h. rw (returns-clause-value c) (distance-later c.args.self c.args.rhs c.second_beside-here.ensures.time c.second_beside-there.ensures.time h)

pub returns-clause-same : goal.returns-clause-same
returns-clause-same c = λ h. returns-clause-value c ∙ distance-same c.args.self c.args.rhs h

pub returns-clause-earlier : goal.returns-clause-earlier
returns-clause-earlier c = λ h. rw (returns-clause-value c) (distance-earlier c.args.self c.args.rhs c.second_beside-here.ensures.time c.second_beside-there.ensures.time h)

pub returns-clause-plain : goal.returns-clause-plain
returns-clause-plain c = λ here there. returns-clause-value c ∙ distance-plain c.args.self c.args.rhs here there
