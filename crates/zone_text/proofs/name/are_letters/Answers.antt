use Rattle.std.proofs.Common.{◌==◌, ◌∙◌, ap, length}
use Rattle.std.specs.Char.{is_ascii_alphabetic}
use Rattle.zone_text.proofs.CutTexts.{all_or_fewer}
use Rattle.zone_text.proofs.name.are_letters.Goals as goal

pub returns : goal.returns
returns c = ap (λ n. n == length c.args.text.now) c.letters_len.ensures.value ∙ all_or_fewer is_ascii_alphabetic c.args.text.now
