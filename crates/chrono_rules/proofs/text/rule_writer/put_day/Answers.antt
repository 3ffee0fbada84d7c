use Rattle.std.proofs.Common.{◌++◌, ◌<◌, ap, ◌∙◌, subst, arith, w32, SFits}
use Rattle.std.specs.Str.{IsAscii}
use Rattle.std.proofs.lemmas.Int.{to_z-of_z}
use Rattle.chrono_text.specs.Text.{two_digits}
use Rattle.chrono_text.proofs.AsciiTexts.{IsAscii-two_digits}
use Rattle.chrono_rules.specs.WrittenRules.{four_digits}
use Rattle.chrono_rules.proofs.DayTexts.{day_same, name_small, three_put}
use Rattle.chrono_rules.proofs.RuleAscii.{day_ascii, year_ascii}
use Rattle.chrono_rules.proofs.text.rule_writer.put_day.Goals as goal

pub returns-clause-text : goal.returns-clause-text
returns-clause-text g c =
    let y = c.year.result in
    let fits : SFits w32 y = record { sfits = c.year.type_inv } in
    let put = rw (to_z-of_z w32 y fits) at c.put_year.ensures.text in
    three_put c.args.text.now (four_digits y) (two_digits c.month.result) (two_digits c.day.result) c.put_year.new.text c.push_two.new.self c.push_two-2.new.self put c.push_two.ensures c.push_two-2.ensures
    ∙ ap (λ text. c.args.text.now ++ text) (day_same _ _ _ _ _ _ c.year.ensures.value c.month.ensures.value c.day.ensures.value)

pub returns-clause-ascii : goal.returns-clause-ascii
returns-clause-ascii g c =
    let fits : SFits w32 c.year.result = record { sfits = c.year.type_inv } in
    let small = name_small c.args.day in
    let month : c.month.result < 100 = omega (arith, c.month.ensures.value, small.0) in
    let day : c.day.result < 100 = omega (arith, c.day.ensures.value, small.1) in
    subst IsAscii (day_same _ _ _ _ _ _ c.year.ensures.value c.month.ensures.value c.day.ensures.value)
    (day_ascii (four_digits c.year.result) (two_digits c.month.result) (two_digits c.day.result) (year_ascii c.year.result fits) (IsAscii-two_digits c.month.result month) (IsAscii-two_digits c.day.result day))
