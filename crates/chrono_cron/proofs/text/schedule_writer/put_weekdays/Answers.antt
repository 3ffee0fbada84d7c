use Rattle.std.proofs.Common.{◌≡◌, ◌++◌, ap, ◌∙◌}
use Rattle.chrono_text.specs.Lists.{each_behind}
use Rattle.chrono_cron.specs.declared.text.schedule_writer.DayName.TheVariants.{LastWeekday, NthWeekday}
use Rattle.chrono_cron.specs.WrittenTexts.{is_starred_by_weekday, names_from, number_items, weekday_field_items}
use Rattle.chrono_cron.proofs.WrittenFields.{field_put, items_put}
use Rattle.chrono_cron.proofs.text.schedule_writer.put_weekdays.Goals as goal

pub returns-clause-text : goal.returns-clause-text
unfolding weekday_field_items
returns-clause-text g c =
    let s = c.args.sets.now in
    let numbers = number_items (is_starred_by_weekday s) s.weekdays 7 0 in
    let lasts = names_from LastWeekday s.month_days.last_weekdays 7 0 in
    let nths = names_from NthWeekday s.month_days.nth_weekdays 35 0 in
    let first : c.put_numbers.new.text ≡ each_behind 44 numbers =
    c.put_numbers.ensures.text ∙ ap (λ front. front ++ each_behind 44 (number_items c.is_starred_by_weekday.result s.weekdays 7 0)) c.new-items.ensures
    ∙ ap (λ starred. each_behind 44 (number_items starred s.weekdays 7 0)) c.is_starred_by_weekday.ensures in
    let second = items_put c.put_numbers.new.text c.put_names.new.text numbers lasts first c.put_names.ensures.text in
    let third = items_put c.put_names.new.text c.put_names-2.new.text (numbers ++ lasts) nths second c.put_names-2.ensures.text in
    field_put c.args.text.now c.put_field.new.text c.put_names-2.new.text (weekday_field_items s) c.put_field.ensures.text third
