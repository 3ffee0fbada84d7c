use Rattle.std.proofs.Common.{◌==◌, ◌∙◌, ap, length, sym}
use Rattle.chrono_text.specs.Lists.{is_of_word}
use Rattle.zone_text.proofs.CutTexts.{all_or_fewer}
use Rattle.zone_text.proofs.name.is_name.Goals as goal

pub returns-then-text-ge-SHORTEST_NAME : goal.returns-then-text-ge-SHORTEST_NAME
returns-then-text-ge-SHORTEST_NAME c =
    let same = ap (λ n. n == length c.args.text.now) c.word_len.ensures.value ∙ all_or_fewer is_of_word c.args.text.now in
    (λ yes. record { long = c.if-text-ge-SHORTEST_NAME.true; bytes = sym same ∙ yes }, λ is. same ∙ is.bytes)
