use Rattle.std.proofs.Common.{◌++◌, ap, ◌∙◌, w32, SFits}
use Rattle.std.proofs.lemmas.Int.{to_z-of_z}
use Rattle.chrono_text.specs.Text.{two_digits}
use Rattle.chrono_rules.specs.WrittenRules.{four_digits}
use Rattle.chrono_rules.proofs.DayTexts.{day_same, three_put}
use Rattle.calendar_text.proofs.time_writer.put_date.Goals as goal

pub returns-clause-text : goal.returns-clause-text
returns-clause-text g c =
    let y = c.year.result in
    let fits : SFits w32 y = record { sfits = c.year.type_inv } in
    let put = rw (to_z-of_z w32 y fits) at c.put_year.ensures.text in
    three_put c.args.text.now (four_digits y) (two_digits c.month.result) (two_digits c.day.result) c.put_year.new.text c.push_two.new.self c.push_two-2.new.self put c.push_two.ensures c.push_two-2.ensures
    ∙ ap (λ text. c.args.text.now ++ text) (day_same _ _ _ _ _ _ c.year.ensures.value c.month.ensures.value c.day.ensures.value)
