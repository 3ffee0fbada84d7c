use Rattle.std.proofs.Common.{◌∙◌, Some, ap, sym, to_z-of_z, SFits, w64, rules}
use Rattle.chrono_text.proofs.NumberLemmas.{small_first}
use Rattle.chrono_text.proofs.read.number.read_number.Goals as goal

pub returns-in-Some-clause-number : goal.returns-in-Some-clause-number
returns-in-Some-clause-number c =
    let read = c.in-Some.ensures in
    let fits : SFits w64 c.from.result = search rules in
    small_first c.args.text.now c.in-Some.len c.in-Some.number read.some read.end.within read.digits read.value read.small ∙ ap Some (sym c.from.ensures ∙ sym (to_z-of_z fits))
