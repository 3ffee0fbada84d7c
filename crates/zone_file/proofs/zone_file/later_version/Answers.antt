use Rattle.std.proofs.Common.{refl, sym, ◌∙◌}
use Rattle.zone_file.proofs.zone_file.later_version.Goals as goal

pub returns-in_err-block-clause-every : goal.returns-in_err-block-clause-every
returns-in_err-block-clause-every c = λ times places kinds names footer is. absurd (c.in_err-block.ensures.every times places kinds names is.behind is.block)

pub returns-in_default-clause-every : goal.returns-in_default-clause-every
returns-in_default-clause-every c = λ times places kinds names footer is.
    let same = c.in_ok-block.ensures.every times places kinds names is.behind is.block in
    c.in_default.ensures.every footer (is.ends ∙ sym same.4)

pub returns-clause-every : goal.returns-clause-every
returns-clause-every c = λ times places kinds names footer is.
    let same = c.in_ok-block.ensures.every times places kinds names is.behind is.block in
    (refl, same.0, same.1, same.2, same.3, c.in-Some.ensures.every footer (is.ends ∙ sym same.4))
