use Rattle.std.proofs.Common.{◌≡◌, List, ℕ, ap, arith, inl, inr, slice_index, subst, sym, ◌∙◌}
use Rattle.std.proofs.lemmas.Bool.{false≢true}
use Rattle.std.specs.Prelude.{IsOkAnd}
use Rattle.zone_file.specs.ZoneFiles.{IsLaterVersion, is_later}
use Rattle.zone_file.proofs.zone_file.read.Goals as goal

pub returns-in_err-first-clause-every : goal.returns-in_err-first-clause-every
returns-in_err-first-clause-every c = λ version times places kinds names footer is.
    absurd (c.in_err-first.ensures.every is.header is.first_times is.first_places is.first_kinds is.first_names is.rest is.first)

pub returns-then-version-eq0-clause-every : goal.returns-then-version-eq0-clause-every
returns-then-version-eq0-clause-every c = λ version times places kinds names footer is.
    let first = c.in_ok-first.ensures.every is.header is.first_times is.first_places is.first_kinds is.first_names is.rest is.first in
    let seen = ap (λ (l : List ℕ). slice_index l 4) first.0 ∙ is.version_is in
    let zero : version ≡ 0 = sym seen ∙ c.if-version-eq0.true in
    elim is.parts [
      | inl p ↦ subst (λ (v : ℕ). IsOkAnd c.first_version.result (λ it. (it.version ≡ v) × (it.times.now ≡ times) × (it.places.now ≡ places) × (it.kinds.now ≡ kinds) × (it.names.now ≡ names) × (it.footer.now ≡ footer))) (sym zero) (c.first_version.ensures.every times places kinds names footer p.1)
      | inr p ↦ absurd (false≢true (ap (λ (v : ℕ). is_later v) (sym zero) ∙ p.0))
    ]

pub returns-then-not-is_later-clause-every : goal.returns-then-not-is_later-clause-every
returns-then-not-is_later-clause-every c = λ version times places kinds names footer is.
    let first = c.in_ok-first.ensures.every is.header is.first_times is.first_places is.first_kinds is.first_names is.rest is.first in
    let seen = ap (λ (l : List ℕ). slice_index l 4) first.0 ∙ is.version_is in
    elim is.parts [
      | inl p ↦ absurd (omega (arith, seen, p.0, c.if-version-eq0.false))
      | inr p ↦ absurd (false≢true (sym (sym c.is_later.ensures ∙ c.if-not-is_later.true) ∙ ap (λ (v : ℕ). is_later v) seen ∙ p.0))
    ]

pub returns-clause-every : goal.returns-clause-every
returns-clause-every c = λ version times places kinds names footer is.
    let first = c.in_ok-first.ensures.every is.header is.first_times is.first_places is.first_kinds is.first_names is.rest is.first in
    let seen = ap (λ (l : List ℕ). slice_index l 4) first.0 ∙ is.version_is in
    elim is.parts [
      | inl p ↦ absurd (omega (arith, seen, p.0, c.if-version-eq0.false))
      | inr p ↦ subst (λ (v : ℕ). IsOkAnd c.later_version.result (λ it. (it.version ≡ v) × (it.times.now ≡ times) × (it.places.now ≡ places) × (it.kinds.now ≡ kinds) × (it.names.now ≡ names) × (it.footer.now ≡ footer))) seen
          (c.later_version.ensures.every times places kinds names footer
          (subst (λ (v : ℕ). IsLaterVersion v c.in_ok-first.first.rest.now times places kinds names footer) (sym seen)
          (subst (λ (l : List ℕ). IsLaterVersion version l times places kinds names footer) (sym first.5) p.1)))
    ]
