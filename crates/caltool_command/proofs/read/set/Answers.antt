use Rattle.std.proofs.Common.{◌∙◌, get_or, pos, ap, sym, arith, to_z-of_z, SFits, w64, rules}
use Rattle.std.proofs.lemmas.List.{take_rest}
use Rattle.caltool_command.specs.Types.{to_weekday}
use Rattle.caltool_command.specs.Commands.{weekday_set}
use Rattle.caltool_command.proofs.Commands.{set_named}
use Rattle.caltool_command.proofs.read.set.Goals as goal

pub returns : goal.returns
returns c =
    let numbers = c.args.numbers.now in
    let fits : SFits w64 (get_or numbers 0 (pos 0)) = search rules in
    set_named numbers _ _ (omega arith) (ap to_weekday (sym (to_z-of_z fits)) ∙ sym c.to_weekday.ensures ∙ c.in_ok-start.was)
    (ap weekday_set (sym (take_rest numbers 1)) ∙ sym c.weekday_set.ensures ∙ c.in_ok-days.was)
