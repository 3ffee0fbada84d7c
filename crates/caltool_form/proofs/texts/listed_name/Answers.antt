use Rattle.std.proofs.Common.{◌∙◌, ◌∷◌, [], get_or, ap}
use Rattle.caltool_form.proofs.Days.{unspaced}
use Rattle.caltool_form.proofs.texts.listed_name.Goals as goal

pub returns : goal.returns
returns c =
    ap (λ l. get_or l 1 0 ∷ get_or l 2 0 ∷ get_or l 3 0 ∷ 44 ∷ 32 ∷ []) c.spaced_name-name.ensures ∙ unspaced c.args.day
