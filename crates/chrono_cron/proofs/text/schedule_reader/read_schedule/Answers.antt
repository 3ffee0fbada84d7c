use Rattle.std.proofs.Common.{◌∙◌, ap, sym, refl}
use Rattle.std.specs.Prelude.{Ok}
use Rattle.chrono_cron.specs.declared.text.schedule_error.ScheduleError.{ScheduleError}
use Rattle.chrono_cron.specs.PlacedWords.{placed_words}
use Rattle.chrono_cron.specs.ScheduleErrors.{front_or}
use Rattle.chrono_cron.proofs.FirstWrong.{error-five, error-others, none-wrong, wrong-five, wrong-others}
use Rattle.chrono_cron.proofs.OneReading.{one_reading}
use Rattle.chrono_cron.proofs.TextWords.{fields_five}
use Rattle.chrono_cron.proofs.text.schedule_reader.read_schedule.Goals as goal

pub returns-in-Ok-read_fields-clause-read : goal.returns-in-Ok-read_fields-clause-read
returns-in-Ok-read_fields-clause-read c = c.in-Ok-read_fields.ensures.read c.args.text.now (fields_five c.args.text.now _ _ _ _ _ c.in-Ok.ensures.five)

pub returns-in-Ok-read_fields-clause-every : goal.returns-in-Ok-read_fields-clause-every
returns-in-Ok-read_fields-clause-every c = λ s is.
    ap (λ t. Ok (record { sets = t })) (one_reading c.args.text.now _ s (returns-in-Ok-read_fields-clause-read c) is)

pub returns-in-Ok-read_fields-clause-sets : goal.returns-in-Ok-read_fields-clause-sets
returns-in-Ok-read_fields-clause-sets c = λ s is. one_reading c.args.text.now _ s (returns-in-Ok-read_fields-clause-read c) is

pub returns-in-Ok-read_fields-clause-found : goal.returns-in-Ok-read_fields-clause-found
returns-in-Ok-read_fields-clause-found c = (λ yes. cc, λ others. absurd (others _ (returns-in-Ok-read_fields-clause-read c)))

pub returns-in-Err-read_fields-clause-every : goal.returns-in-Err-read_fields-clause-every
returns-in-Err-read_fields-clause-every c = λ s is.
    absurd (none-wrong c.args.text.now _ s _ (fields_five c.args.text.now _ _ _ _ _ c.in-Ok.ensures.five) c.in-Err-read_fields.ensures.wrong is)

pub returns-in-Err-read_fields-clause-found : goal.returns-in-Err-read_fields-clause-found
returns-in-Err-read_fields-clause-found c = (
  λ yes s is. none-wrong c.args.text.now _ s _ (fields_five c.args.text.now _ _ _ _ _ c.in-Ok.ensures.five) c.in-Err-read_fields.ensures.wrong is,
  λ others. refl,
)

pub returns-in-Err-read_fields-clause-error : goal.returns-in-Err-read_fields-clause-error
returns-in-Err-read_fields-clause-error c =
    let five = c.in-Ok.ensures.five in
    let field = c.in-Err-read_fields.field in
    c.field_error.ensures.value ∙ error-five c.args.text.now _ field _ five (wrong-five c.args.text.now _ _ _ _ _ field five c.in-Err-read_fields.ensures.wrong) c.word.ensures.word

pub returns-in-Err-read_fields-clause-field : goal.returns-in-Err-read_fields-clause-field
returns-in-Err-read_fields-clause-field c =
    wrong-five c.args.text.now _ _ _ _ _ c.in-Err-read_fields.field c.in-Ok.ensures.five c.in-Err-read_fields.ensures.wrong ∙ sym (ap (λ (e : ScheduleError). e.field) c.field_error.ensures.value)

pub returns-in-Some-clause-every : goal.returns-in-Some-clause-every
returns-in-Some-clause-every c = λ s is.
    ap (λ t. Ok (record { sets = t })) (one_reading c.args.text.now _ s c.in-Some.ensures.read is)

pub returns-in-Some-clause-sets : goal.returns-in-Some-clause-sets
returns-in-Some-clause-sets c = λ s is. one_reading c.args.text.now _ s c.in-Some.ensures.read is

pub returns-in-None-clause-every : goal.returns-in-None-clause-every
returns-in-None-clause-every c = λ s is. absurd (c.in-None.ensures.none s is)

pub returns-in-None-clause-error : goal.returns-in-None-clause-error
returns-in-None-clause-error c =
    let words = placed_words 0 c.args.text.now in
    c.unfielded_error.ensures.error ∙ error-others c.args.text.now (front_or words c.in-Err.count) c.in-Err.ensures.others (ap (front_or words) c.in-Err.ensures.fault)

pub returns-in-None-clause-field : goal.returns-in-None-clause-field
returns-in-None-clause-field c =
    wrong-others c.args.text.now c.in-Err.ensures.others ∙ sym (ap (λ (e : ScheduleError). e.field) c.unfielded_error.ensures.error)
