use Rattle.std.proofs.Common.{List, ℕ, subst, sym, ◌∙◌}
use Rattle.zone_file.specs.Blocks.{IsData}
use Rattle.zone_file.proofs.block.read_block.Goals as goal

pub returns-in-Some-read_data-clause-every : goal.returns-in-Some-read_data-clause-every
returns-in-Some-read_data-clause-every c = λ header times places kinds names rest is.
    let h = c.in-Some.ensures.every header is.body is.written is.header_long in
    let found = subst (λ (l : List ℕ). IsData c.args.size l c.in-Some.body.now times places kinds names rest) (sym h.0)
    (subst (λ (l : List ℕ). IsData c.args.size header l times places kinds names rest) (sym h.1) is.data_is) in
    let b = c.in-Some-read_data.ensures.every times places kinds names rest found in
    (c.in-Some-read_data.ensures.same ∙ h.0, b.0, b.1, b.2, b.3, b.4)

pub returns-in-None-clause-every : goal.returns-in-None-clause-every
returns-in-None-clause-every c = λ header times places kinds names rest is.
    let h = c.in-Some.ensures.every header is.body is.written is.header_long in
    let found = subst (λ (l : List ℕ). IsData c.args.size l c.in-Some.body.now times places kinds names rest) (sym h.0)
    (subst (λ (l : List ℕ). IsData c.args.size header l times places kinds names rest) (sym h.1) is.data_is) in
    c.in-None.ensures.every times places kinds names rest found
