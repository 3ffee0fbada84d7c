use Rattle.std.proofs.Common.{◌≡◌, ◌==◌, List, ℕ, [], ap, length, refl, subst, sym, ◌∙◌}
use Rattle.std.proofs.lemmas.Bool.{false≢true}
use Rattle.zone_file.specs.ZoneFiles.{IsDataBlock}
use Rattle.std.proofs.lemmas.Bool.{eqb-true}
use Rattle.std.proofs.lemmas.List.{nil_from_length}
use Rattle.zone_file.proofs.zone_file.first_version.Goals as goal

pub returns-in_err-block-clause-every : goal.returns-in_err-block-clause-every
returns-in_err-block-clause-every c = λ times places kinds names footer is. absurd (c.in_err-block.ensures.every times places kinds names [] is.block)

pub returns-then-not-is_empty-clause-every : goal.returns-then-not-is_empty-clause-every
returns-then-not-is_empty-clause-every c = λ times places kinds names footer is.
    let same = c.in_ok-block.ensures.every times places kinds names [] is.block in
    false≢true (sym (sym c.is_empty.ensures ∙ c.if-not-is_empty.true) ∙ ap (λ (l : List ℕ). length l == 0) same.4)

pub returns-clause-read : goal.returns-clause-read
returns-clause-read c =
    let nothing : c.in_ok-block.block.rest.now ≡ [] = nil_from_length c.in_ok-block.block.rest.now (eqb-true (length c.in_ok-block.block.rest.now) 0 (sym c.is_empty.ensures ∙ c.if-not-is_empty.false)) in
    record {
      block = subst (λ (l : List ℕ). IsDataBlock 4 0 c.args.bytes.now c.in_ok-block.block.times.now c.in_ok-block.block.places.now c.in_ok-block.block.kinds.now c.in_ok-block.block.names.now l) nothing c.in_ok-block.ensures.read;
      no_footer = nothing;
    }

pub returns-clause-every : goal.returns-clause-every
returns-clause-every c = λ times places kinds names footer is.
    let same = c.in_ok-block.ensures.every times places kinds names [] is.block in
    (refl, same.0, same.1, same.2, same.3, same.4 ∙ sym is.no_footer)
