use Rattle.std.proofs.Common.{ap, ◌∙◌, sym, drop, refl, None}
use Rattle.chrono_cron.specs.PlacedWords.{first_word}
use Rattle.chrono_cron.specs.ScheduleErrors.{field_fault, schedule_error_at}
use Rattle.chrono_cron.specs.declared.text.schedule_error.ScheduleField.TheVariants.{Minute}
use Rattle.timed_cron.specs.Private.{bytes_of}
use Rattle.timed_cron.specs.TimedErrors.{first_error, unless_seconds}
use Rattle.timed_cron.specs.declared.timed_error.TimedError.TheVariants.{Seconds as InSeconds}
use Rattle.timed_cron.proofs.SixFields.{five_in_front, no_seconds, rest_words, same_reading, same_seconds, second_word, unread_first}
use Rattle.timed_cron.proofs.timed_reader.read_six_fields.Goals as goal

pub seconds_error-requires : goal.seconds_error-requires
seconds_error-requires c =
    unread_first c.args.text.now c.args.second.place c.args.second.end c.args.minute.place c.args.minute.end c.args.month_end c.requires.second c.requires.minute c.requires.others c.in_default.ensures

pub returns-in-Some-front_fault-clause-found : goal.returns-in-Some-front_fault-clause-found
returns-in-Some-front_fault-clause-found c = λ s is.
    let text = c.args.text.now in
    let second = c.args.second in
    let words = rest_words text second.place second.end c.args.minute.place c.args.minute.end c.args.month_end c.requires.second c.requires.minute c.requires.others in
    let same = same_reading text (bytes_of text second.place second.end) (drop second.end text) s words.0 is in
    no_seconds (bytes_of text second.place second.end) s.seconds c.in_default.ensures same.seconds

pub returns-in_default-clause-found : goal.returns-in_default-clause-found
returns-in_default-clause-found c = λ s is.
    let text = c.args.text.now in
    let second = c.args.second in
    let words = rest_words text second.place second.end c.args.minute.place c.args.minute.end c.args.month_end c.requires.second c.requires.minute c.requires.others in
    let same = same_reading text (bytes_of text second.place second.end) (drop second.end text) s words.0 is in
    no_seconds (bytes_of text second.place second.end) s.seconds c.in_default.ensures same.seconds

pub returns-in_default-clause-error : goal.returns-in_default-clause-error
returns-in_default-clause-error c =
    let text = c.args.text.now in
    let second = c.args.second in
    let front = five_in_front text second.place second.end c.args.minute.place c.args.minute.end c.args.month_end c.requires.second c.requires.minute c.requires.others in
    ap InSeconds (c.seconds_error.ensures.error ∙ ap (λ words. schedule_error_at None (field_fault Minute (first_word words))) front)
    ∙ ap (λ fault. first_error fault (second_word text second.place second.end)) c.in_default-front_fault.ensures
    ∙ ap (λ o. unless_seconds o text (second_word text second.place second.end)) (c.in_default.ensures 0)

pub returns-in-Ok-clause-read : goal.returns-in-Ok-clause-read
returns-in-Ok-clause-read c =
    let text = c.args.text.now in
    let second = c.args.second in
    let words = rest_words text second.place second.end c.args.minute.place c.args.minute.end c.args.month_end c.requires.second c.requires.minute c.requires.others in
    rw c.new.ensures (record {
      second = bytes_of text second.place second.end;
      fields = drop second.end text;
      written = words.0;
      five = words.1;
      seconds = λ k. sym (c.in-Some.ensures k);
      schedule = rw c.text_from.ensures at c.in-Ok.ensures.read;
      years = refl;
    })

pub returns-in-Ok-clause-only : goal.returns-in-Ok-clause-only
returns-in-Ok-clause-only c = λ s is.
    let text = c.args.text.now in
    let second = c.args.second in
    let words = rest_words text second.place second.end c.args.minute.place c.args.minute.end c.args.month_end c.requires.second c.requires.minute c.requires.others in
    let same = same_reading text (bytes_of text second.place second.end) (drop second.end text) s words.0 is in
    let schedule = rw (← c.text_from.ensures) at same.schedule in
    let seconds = same_seconds (bytes_of text second.place second.end) c.in-Some.seconds s.seconds c.in-Some.ensures same.seconds in
    rw (c.new.ensures, seconds, c.in-Ok.ensures.sets s.schedule.sets schedule, sym same.years) refl

pub returns-in-Err-clause-found : goal.returns-in-Err-clause-found
returns-in-Err-clause-found c = λ s is.
    let text = c.args.text.now in
    let second = c.args.second in
    let words = rest_words text second.place second.end c.args.minute.place c.args.minute.end c.args.month_end c.requires.second c.requires.minute c.requires.others in
    let same = same_reading text (bytes_of text second.place second.end) (drop second.end text) s words.0 is in
    c.in-Err.ensures.found.0 refl s.schedule.sets (rw (← c.text_from.ensures) at same.schedule)
