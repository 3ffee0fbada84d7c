use Rattle.std.proofs.Common.{◌∙◌, ap, sym}
use Rattle.std.specs.Option.{option_map}
use Rattle.chrono_sets.specs.FiniteSets.{has}
use Rattle.chrono_cron.specs.declared.text.day_fields.DayItems.{DayItems}
use Rattle.chrono_cron.proofs.FirstWrong.{wrong-day, wrong-hour, wrong-minute, wrong-month, wrong-weekday}
use Rattle.chrono_cron.proofs.text.schedule_reader.read_fields.Goals as goal

pub returns-in_default-clause-wrong : goal.returns-in_default-clause-wrong
returns-in_default-clause-wrong c =
    let minute = sym (c.read_field.ensures 0) ∙ ap (option_map (λ s. has s 0)) c.in_default.is in
    wrong-minute _ _ _ _ _ minute

pub returns-in_default-read_field-clause-wrong : goal.returns-in_default-read_field-clause-wrong
returns-in_default-read_field-clause-wrong c =
    let minute = sym (c.read_field.ensures 0) ∙ ap (option_map (λ s. has s 0)) c.in-Some.is in
    let hour = sym (c.read_field-2.ensures 0) ∙ ap (option_map (λ s. has s 0)) c.in_default-read_field.is in
    wrong-hour _ _ _ _ _ _ minute hour

pub returns-in_default-read_days-clause-wrong : goal.returns-in_default-read_days-clause-wrong
returns-in_default-read_days-clause-wrong c =
    let minute = sym (c.read_field.ensures 0) ∙ ap (option_map (λ s. has s 0)) c.in-Some.is in
    let hour = sym (c.read_field-2.ensures 0) ∙ ap (option_map (λ s. has s 0)) c.in-Some-read_field.is in
    let day = sym (c.read_days.ensures.numbers 0) ∙ ap (option_map (λ (s : DayItems). has s.numbers 0)) c.in_default-read_days.is in
    wrong-day _ _ _ _ _ _ _ minute hour day

pub returns-in_default-read_field-2-clause-wrong : goal.returns-in_default-read_field-2-clause-wrong
returns-in_default-read_field-2-clause-wrong c =
    let minute = sym (c.read_field.ensures 0) ∙ ap (option_map (λ s. has s 0)) c.in-Some.is in
    let hour = sym (c.read_field-2.ensures 0) ∙ ap (option_map (λ s. has s 0)) c.in-Some-read_field.is in
    let day = sym (c.read_days.ensures.numbers 0) ∙ ap (option_map (λ (s : DayItems). has s.numbers 0)) c.in-Some-read_days.is in
    let month = sym (c.read_field-3.ensures 0) ∙ ap (option_map (λ s. has s 0)) c.in_default-read_field-2.is in
    wrong-month _ _ _ _ _ _ _ _ minute hour day month

pub returns-in_default-read_weekdays-clause-wrong : goal.returns-in_default-read_weekdays-clause-wrong
returns-in_default-read_weekdays-clause-wrong c =
    let minute = sym (c.read_field.ensures 0) ∙ ap (option_map (λ s. has s 0)) c.in-Some.is in
    let hour = sym (c.read_field-2.ensures 0) ∙ ap (option_map (λ s. has s 0)) c.in-Some-read_field.is in
    let day = sym (c.read_days.ensures.numbers 0) ∙ ap (option_map (λ (s : DayItems). has s.numbers 0)) c.in-Some-read_days.is in
    let month = sym (c.read_field-3.ensures 0) ∙ ap (option_map (λ s. has s 0)) c.in-Some-read_field-2.is in
    let weekday = sym (c.read_weekdays.ensures.numbers 0) ∙ ap (option_map (λ (s : DayItems). has s.numbers 0)) c.in_default-read_weekdays.is in
    wrong-weekday _ _ _ _ _ _ _ _ _ minute hour day month weekday

pub returns-clause-read : goal.returns-clause-read
returns-clause-read c = λ text written. record {
  minute = c.args.fields.now.minute.text.now;
  hour = c.args.fields.now.hour.text.now;
  day = c.args.fields.now.day.text.now;
  month = c.args.fields.now.month.text.now;
  weekday = c.args.fields.now.weekday.text.now;
  written = written;
  minutes = λ k. sym (c.read_field.ensures k) ∙ ap (option_map (λ s. has s k)) c.in-Some.is;
  hours = λ k. sym (c.read_field-2.ensures k) ∙ ap (option_map (λ s. has s k)) c.in-Some-read_field.is;
  days = λ k. sym (c.read_days.ensures.numbers k) ∙ ap (option_map (λ (s : DayItems). has s.numbers k)) c.in-Some-read_days.is;
  months = λ k. sym (c.read_field-3.ensures k) ∙ ap (option_map (λ s. has s k)) c.in-Some-read_field-2.is;
  weekdays = λ k. sym (c.read_weekdays.ensures.numbers k) ∙ ap (option_map (λ (s : DayItems). has s.numbers k)) c.in-Some-read_weekdays.is;
  month_days = c.named_days.ensures c.args.fields.now.day.text.now c.args.fields.now.weekday.text.now c.in-Some-read_days.ensures.named c.in-Some-read_weekdays.ensures.named;
  either = c.is_either_enough.ensures;
  follows_clock = c.is_starred_in_time.ensures;
}
