use Rattle.std.proofs.Common.{[], ◌∷◌, ◌++◌, get_or, take, pos, Some, refl, ap, sym, ◌∙◌, arith, to_z-of_z, SFits, w64, rules}
use Rattle.std.specs.Option.{option_map}
use Rattle.std.proofs.lemmas.List.{take_more, take_all}
use Rattle.chrono_units.specs.WeekdaySet.{set_of, single, union}
use Rattle.chrono_units.proofs.SetMembers.{set_of-push}
use Rattle.caltool_command.specs.Types.{to_weekday}
use Rattle.caltool_command.specs.Commands.{weekdays, weekday_set}
use Rattle.caltool_command.proofs.Weekdays.{weekdays-push, weekdays-fails}
use Rattle.caltool_command.proofs.read.weekday_set.Goals as goal

pub loop-number-init : goal.loop-number-init
unfolding weekdays
loop-number-init c = ([], refl, refl)

pub loop-number-preserved : goal.loop-number-preserved
loop-number-preserved c =
    let (done, so_far, days) = c.loop-number.invariant in
    let numbers = c.args.numbers.now in
    let k = c.loop-number.number-index in
    let day = c.in_ok-to_weekday.field-0 in
    let fits : SFits w64 (get_or numbers k (pos 0)) = search rules in (
      done ++ day ∷ [],
      ap weekdays (take_more numbers k (pos 0) (omega arith)) ∙ weekdays-push (take k numbers) _ done day so_far (ap to_weekday (sym (to_z-of_z fits)) ∙ sym c.to_weekday.ensures ∙ c.in_ok-to_weekday.was),
      c.insert.ensures.after ∙ ap (λ s. union s (single day)) days ∙ sym (set_of-push done day),
    )

pub returns-in_err-to_weekday : goal.returns-in_err-to_weekday
unfolding weekday_set
returns-in_err-to_weekday c =
    let numbers = c.args.numbers.now in
    let k = c.loop-number.number-index in
    let fits : SFits w64 (get_or numbers k (pos 0)) = search rules in
    c.from_residual.ensures
    ∙ ap (option_map set_of) (sym (weekdays-fails numbers k (omega arith) (ap to_weekday (sym (to_z-of_z fits)) ∙ sym c.to_weekday.ensures ∙ c.in_err-to_weekday.was)))

pub returns : goal.returns
unfolding weekday_set
returns c =
    let (done, so_far, days) = c.loop-number.invariant in
    ap Some days ∙ ap (option_map set_of) (sym so_far ∙ ap weekdays (take_all c.loop-number.number-index c.args.numbers.now (omega arith)))
