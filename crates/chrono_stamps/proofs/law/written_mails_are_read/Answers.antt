use Rattle.chrono_stamps.proofs.MailTextLemmas.{mail_written}
use Rattle.chrono_stamps.proofs.law.written_mails_are_read.Goals as goal

pub returns : goal.returns
returns c = mail_written
