use Rattle.std.proofs.Common.{List, ℕ, ap, arith, sym, ◌∙◌}
use Rattle.std.proofs.lemmas.Bool.{false≢true}
use Rattle.zone_file.specs.Blocks.{are_counts, leap_count}
use Rattle.zone_file.proofs.zone_file.read_data_block.Goals as goal

pub returns-in_err-block-clause-every : goal.returns-in_err-block-clause-every
returns-in_err-block-clause-every c = λ times places kinds names rest is. absurd (c.in_err-block.ensures.every is.header times places kinds names rest is.block)

pub returns-then-not-are_counts-clause-every : goal.returns-then-not-are_counts-clause-every
returns-then-not-are_counts-clause-every c = λ times places kinds names rest is.
    let same = c.in_ok-block.ensures.every is.header times places kinds names rest is.block in
    false≢true (sym (sym c.are_counts.ensures ∙ c.if-not-are_counts.true) ∙ ap (λ (l : List ℕ). are_counts l) same.0 ∙ is.counts)

pub returns-then-leap_count-ne0-clause-every : goal.returns-then-leap_count-ne0-clause-every
returns-then-leap_count-ne0-clause-every c = λ times places kinds names rest is.
    let same = c.in_ok-block.ensures.every is.header times places kinds names rest is.block in
    omega (arith, c.leap_count.ensures ∙ ap (λ (l : List ℕ). leap_count l) same.0 ∙ is.no_leaps, c.if-leap_count-ne0.true)

pub returns-clause-every : goal.returns-clause-every
returns-clause-every c = λ times places kinds names rest is.
    let same = c.in_ok-block.ensures.every is.header times places kinds names rest is.block in
    (same.1, same.2, same.3, same.4, same.5)
