use Rattle.std.proofs.Common.{◌-◌}
use Rattle.chrono_cron.specs.WrittenTexts.{number_items, plain_text}
use Rattle.chrono_cron.proofs.WrittenFields.{field_put, first_put}
use Rattle.chrono_cron.proofs.text.schedule_writer.put_plain.Goals as goal

pub returns-clause-text : goal.returns-clause-text
unfolding plain_text
returns-clause-text g c =
    let items = number_items c.args.starred c.args.set (c.args.end - c.args.low) c.args.low in
    let put = first_put c.new-items.result c.put_numbers.new.text items c.new-items.ensures c.put_numbers.ensures.text in
    field_put c.args.text.now c.put_field.new.text c.put_numbers.new.text items c.put_field.ensures.text put
