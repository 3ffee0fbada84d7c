use Rattle.std.proofs.Common.{◌∙◌}
use Rattle.timed_cron.specs.QuartzTexts.{quartz_read}
use Rattle.timed_cron.specs.RobfigTexts.{robfig_read}
use Rattle.timed_cron.specs.TimedErrors.{timed_error}
use Rattle.timed_cron.specs.TimedTexts.{IsAtSecondZero, IsTimedText}
use Rattle.timed_cron.specs.declared.dialect.Dialect.TheVariants.{Seconds}
use Rattle.timed_cron.proofs.SixFields.{err_iff, err_of, error_told, is_ok_of, ok_of}
use Rattle.timed_cron.proofs.timed_reader.read_timed_schedule.Goals as goal

pub returns-in-Crontab-clause-every : goal.returns-in-Crontab-clause-every
returns-in-Crontab-clause-every c =
    let read = c.read_at_second_zero in
    rw c.in-Crontab.is (λ s is. is_ok_of (IsAtSecondZero c.args.text.now) read.result s read.ensures.only read.ensures.found is)

pub returns-in-Crontab-clause-found : goal.returns-in-Crontab-clause-found
returns-in-Crontab-clause-found c =
    let read = c.read_at_second_zero in
    rw c.in-Crontab.is (err_iff (IsAtSecondZero c.args.text.now) read.result read.ensures.read read.ensures.found)

pub returns-in-Crontab-clause-error : goal.returns-in-Crontab-clause-error
unfolding timed_error
returns-in-Crontab-clause-error c = rw c.in-Crontab.is c.read_at_second_zero.ensures.error

pub returns-in-Seconds-clause-found : goal.returns-in-Seconds-clause-found
returns-in-Seconds-clause-found c =
    let read = c.read_with_seconds in
    rw c.in-Seconds.is (err_iff (IsTimedText Seconds c.args.text.now) read.result read.ensures.read read.ensures.found)

pub returns-in-Seconds-clause-every : goal.returns-in-Seconds-clause-every
returns-in-Seconds-clause-every c =
    let read = c.read_with_seconds in
    rw c.in-Seconds.is (λ s is. is_ok_of (IsTimedText Seconds c.args.text.now) read.result s read.ensures.only read.ensures.found is)

pub returns-in-Quartz-clause-read : goal.returns-in-Quartz-clause-read
returns-in-Quartz-clause-read c = rw (c.in-Quartz.is, c.read_quartz.ensures.read) (ok_of (quartz_read c.args.text.now))

pub returns-in-Quartz-clause-every : goal.returns-in-Quartz-clause-every
returns-in-Quartz-clause-every c = rw c.in-Quartz.is (λ s is. c.read_quartz.ensures.read ∙ is)

pub returns-in-Quartz-clause-found : goal.returns-in-Quartz-clause-found
returns-in-Quartz-clause-found c = rw (c.in-Quartz.is, c.read_quartz.ensures.read) (err_of (quartz_read c.args.text.now))

pub returns-in-Quartz-clause-error : goal.returns-in-Quartz-clause-error
unfolding timed_error
returns-in-Quartz-clause-error c = rw (c.in-Quartz.is, c.read_quartz.ensures.read) (error_told (quartz_read c.args.text.now))

pub returns-in-Robfig-clause-read : goal.returns-in-Robfig-clause-read
returns-in-Robfig-clause-read c = rw (c.in-Robfig.is, c.read_robfig.ensures.read) (ok_of (robfig_read c.args.text.now))

pub returns-in-Robfig-clause-every : goal.returns-in-Robfig-clause-every
returns-in-Robfig-clause-every c = rw c.in-Robfig.is (λ s is. c.read_robfig.ensures.read ∙ is)

pub returns-in-Robfig-clause-found : goal.returns-in-Robfig-clause-found
returns-in-Robfig-clause-found c = rw (c.in-Robfig.is, c.read_robfig.ensures.read) (err_of (robfig_read c.args.text.now))

pub returns-in-Robfig-clause-error : goal.returns-in-Robfig-clause-error
unfolding timed_error
returns-in-Robfig-clause-error c = rw (c.in-Robfig.is, c.read_robfig.ensures.read) (error_told (robfig_read c.args.text.now))
