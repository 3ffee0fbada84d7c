use Rattle.chrono_stamps.proofs.MailLemmas.{mail_date_ascii}
use Rattle.chrono_stamps.proofs.rfc2822_writer.put_mail_date.Goals as goal

pub returns-clause-ascii : goal.returns-clause-ascii
returns-clause-ascii g c = mail_date_ascii c.args.date c.requires.year.0 c.requires.year.1
