use Rattle.std.proofs.Common.{ap, subst, List, ℕ, ◌∙◌}
use Rattle.std.specs.Result.{result_ok}
use Rattle.chrono_reading.specs.TimeTexts.{IsTimeText}
use Rattle.chrono_stamps.specs.Rfc2822.{second_shown}
use Rattle.chrono_stamps.proofs.MailStampLemmas.{clock_bytes}
use Rattle.chrono_stamps.proofs.rfc2822_reader.mail_time.Goals as goal

pub returns-clause-every : goal.returns-clause-every
returns-clause-every c = λ t is.
    let bytes = clock_bytes c.args.hour.now c.args.minute.now (second_shown c.args.second.now) _ _ is.hour_in_two is.minute_in_two c.in_ok-second_tens.ensures.read in
    c.ok.ensures.value ∙ ap result_ok (c.read_time.ensures.every t (subst (λ (l : List ℕ). IsTimeText l t) bytes is.clock))
