use Rattle.std.proofs.Common.{ap, ◌∙◌, FitsSigned, rules, w32}
use Rattle.std.proofs.lemmas.Int.{to_z-of_z}
use Rattle.std.specs.Result.{result_ok}
use Rattle.numbers_c.specs.Answers.{or_none}
use Rattle.calendar_c.proofs.texts.calendar_read_date.Goals as goal

pub returns-clause-every : goal.returns-clause-every
returns-clause-every c =
    let fits : FitsSigned w32 c.number_or_none.result = search rules in
    λ n h. to_z-of_z w32 c.number_or_none.result fits ∙ c.number_or_none.ensures.number ∙ ap or_none (c.ok.ensures.value ∙ ap result_ok (c.read_date.ensures.every n h))
