use Rattle.std.proofs.Common.{◌≡◌, ◌∷◌, [], ◌++◌, if◌then◌else◌, ap, ◌∙◌}
use Rattle.std.specs.Prelude.{codes}
use Rattle.chrono_text.specs.Lists.{each_behind}
use Rattle.chrono_cron.specs.declared.text.schedule_writer.DayName.TheVariants.{FromEnd, NearestWorkday}
use Rattle.chrono_cron.specs.WrittenTexts.{day_field_items, is_starred_by_day, names_from, number_items}
use Rattle.chrono_cron.proofs.WrittenFields.{field_put, items_put}
use Rattle.chrono_cron.proofs.text.schedule_writer.put_days.Goals as goal

pub returns-clause-text : goal.returns-clause-text
unfolding day_field_items
returns-clause-text g c =
    let s = c.args.sets.now in
    let numbers = number_items (is_starred_by_day s) s.days 31 1 in
    let ends = names_from FromEnd s.month_days.from_end 31 0 in
    let last = if s.month_days.last_workday then codes "LW" ∷ [] else [] in
    let nearest = names_from NearestWorkday s.month_days.nearest_workdays 31 1 in
    let first : c.put_numbers.new.text ≡ each_behind 44 numbers =
    c.put_numbers.ensures.text ∙ ap (λ front. front ++ each_behind 44 (number_items c.is_starred_by_day.result s.days 31 1)) c.new-items.ensures
    ∙ ap (λ starred. each_behind 44 (number_items starred s.days 31 1)) c.is_starred_by_day.ensures in
    let second = items_put c.put_numbers.new.text c.put_names.new.text numbers ends first c.put_names.ensures.text in
    let third = items_put c.put_names.new.text c.put_last_workday.new.text (numbers ++ ends) last second c.put_last_workday.ensures.text in
    let fourth = items_put c.put_last_workday.new.text c.put_names-2.new.text (numbers ++ ends ++ last) nearest third c.put_names-2.ensures.text in
    field_put c.args.text.now c.put_field.new.text c.put_names-2.new.text (day_field_items s) c.put_field.ensures.text fourth
