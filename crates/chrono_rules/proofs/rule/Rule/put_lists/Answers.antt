use Rattle.std.proofs.Common.{◌++◌, false}
use Rattle.std.specs.Prelude.{codes}
use Rattle.chrono_text.specs.Lists.{list_text}
use Rattle.chrono_rules.specs.RuleParts.{lacks_month_days, lacks_months, lacks_positions, lacks_weekdays, lacks_weeks, lacks_year_days}
use Rattle.chrono_rules.specs.declared.text.list_writer.Naming.TheVariants.{Number}
use Rattle.chrono_rules.specs.WrittenRules.{both_items, items, part_unless, weekday_items}
use Rattle.chrono_rules.proofs.ListLemmas.{part_on, texts_on}
use Rattle.chrono_rules.proofs.rule.Rule.put_lists.Goals as goal

pub returns-clause-text : goal.returns-clause-text
returns-clause-text g c =
    let r = c.args.self.now in
    let end = c.put_positions.new.text in
    let months = list_text (items r.months Number false 12 1) in
    let month_days = list_text (both_items r.month_days r.month_days_from_end 31) in
    let weekdays = list_text (weekday_items r) in
    let year_days = list_text (both_items r.year_days r.year_days_from_end 366) in
    let weeks = list_text (both_items r.weeks r.weeks_from_end 53) in
    let positions = list_text (both_items r.positions r.positions_from_end 366) in
    let p2 = part_unless (lacks_month_days r) (codes "BYMONTHDAY=") month_days in
    let p3 = part_unless (lacks_weekdays r) (codes "BYDAY=") weekdays in
    let p4 = part_unless (lacks_year_days r) (codes "BYYEARDAY=") year_days in
    let p5 = part_unless (lacks_weeks r) (codes "BYWEEKNO=") weeks in
    let p6 = part_unless (lacks_positions r) (codes "BYSETPOS=") positions in
    let e1 = part_on c.args.text.now c.put_months.new.text (lacks_months r) (codes "BYMONTH=") months c.put_months.ensures.text in
    let e2 = part_on c.put_months.new.text c.put_month_days.new.text (lacks_month_days r) (codes "BYMONTHDAY=") month_days c.put_month_days.ensures.text in
    let e3 = part_on c.put_month_days.new.text c.put_weekdays.new.text (lacks_weekdays r) (codes "BYDAY=") weekdays c.put_weekdays.ensures.text in
    let e4 = part_on c.put_weekdays.new.text c.put_year_days.new.text (lacks_year_days r) (codes "BYYEARDAY=") year_days c.put_year_days.ensures.text in
    let e5 = part_on c.put_year_days.new.text c.put_weeks.new.text (lacks_weeks r) (codes "BYWEEKNO=") weeks c.put_weeks.ensures.text in
    let e6 = part_on c.put_weeks.new.text end (lacks_positions r) (codes "BYSETPOS=") positions c.put_positions.ensures.text in
    texts_on c.args.text.now c.put_months.new.text end (part_unless (lacks_months r) (codes "BYMONTH=") months) (p2 ++ (p3 ++ (p4 ++ (p5 ++ p6)))) e1
    (texts_on c.put_months.new.text c.put_month_days.new.text end p2 (p3 ++ (p4 ++ (p5 ++ p6))) e2
    (texts_on c.put_month_days.new.text c.put_weekdays.new.text end p3 (p4 ++ (p5 ++ p6)) e3
    (texts_on c.put_weekdays.new.text c.put_year_days.new.text end p4 (p5 ++ p6) e4
    (texts_on c.put_year_days.new.text c.put_weeks.new.text end p5 p6 e5 e6))))
