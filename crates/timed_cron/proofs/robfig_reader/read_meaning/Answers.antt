use Rattle.std.proofs.Common.{ap, sym, ◌∙◌}
use Rattle.std.specs.Result.{result_ok}
use Rattle.chrono_cron.specs.PlacedWords.{placed_words}
use Rattle.timed_cron.specs.RobfigTexts.{robfig_meaning_read}
use Rattle.timed_cron.proofs.RobfigWords.{no_meaning}
use Rattle.timed_cron.proofs.robfig_reader.read_meaning.Goals as goal

pub returns-in_default : goal.returns-in_default
returns-in_default c = sym (no_meaning (placed_words 0 c.args.text.now) c.in_default.ensures.count.others)

pub returns-in-Ok-read_fields : goal.returns-in-Ok-read_fields
returns-in-Ok-read_fields c =
    sym (ap robfig_meaning_read c.in-Ok.ensures.words.words ∙ ap result_ok (sym c.read_fields.ensures.read ∙ c.in-Ok-read_fields.is))

pub returns-in-Err : goal.returns-in-Err
returns-in-Err c =
    sym (ap robfig_meaning_read c.in-Ok.ensures.words.words ∙ ap result_ok (sym c.read_fields.ensures.read ∙ c.in-Err.is))
