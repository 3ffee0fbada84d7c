use Rattle.std.proofs.Common.{◌∙◌, [], ◌∷◌, get_or, ap, sym, rules}
use Rattle.pattern_columns.proofs.CompactTexts.{eight-put, unmarked}
use Rattle.pattern_columns.proofs.compact.put_digits_of_iso.Goals as goal

pub returns-clause-date : goal.returns-clause-date
returns-clause-date c y m d e = unmarked c.args.iso (search rules) y m d e ∙ sym (eight-put c.args.text.now (search rules) _ _ _ _ _ _ _ _)

pub returns-clause-none : goal.returns-clause-none
returns-clause-none c e =
    eight-put c.args.text.now (search rules) _ _ _ _ _ _ _ _
    ∙ ap (λ t. get_or t 0 0 ∷ get_or t 1 0 ∷ get_or t 2 0 ∷ get_or t 3 0 ∷ get_or t 5 0 ∷ get_or t 6 0 ∷ get_or t 8 0 ∷ get_or t 9 0 ∷ []) e
