use Rattle.std.proofs.Common.{◌≡◌, ◌∙◌, ◌-ℤ◌, List, ap, subst, sym, ℕ, arith}
use Rattle.std.proofs.lemmas.Option.{same_Some}
use Rattle.chrono_datetime.specs.Moment.{Moment, moment}
use Rattle.chrono_instant.specs.Instants.{IsEpochSecond, epoch_second}
use Rattle.chrono_stamps.specs.MailWords.{IsMailGap}
use Rattle.chrono_stamps.specs.Rfc2822.{IsMailZone, IsRfc2822Text}
use Rattle.chrono_stamps.proofs.MailStampLemmas.{same_date, same_stamp, same_time, same_weekday, some_day, some_month, some_zone, stamp_found}
use Rattle.chrono_stamps.proofs.rfc2822_reader.stamp_of.Goals as goal

pub returns-then-not-is_gap-clause-every : goal.returns-then-not-is_gap-clause-every
returns-then-not-is_gap-clause-every c = λ m x is.
    let w = c.mail_words-words.ensures.every is.weekday is.day is.month is.year is.hour is.minute is.second is.zone is.end is.words in
    let holds = c.is_gap.ensures.1 (subst (λ (l : List ℕ). IsMailGap l) (sym w.8) is.ends) in
    cc

pub returns-in_err-date-clause-every : goal.returns-in_err-date-clause-every
returns-in_err-date-clause-every c = λ m x is.
    let w = c.mail_words-words.ensures.every is.weekday is.day is.month is.year is.hour is.minute is.second is.zone is.end is.words in
    let date = c.mail_date.ensures.every m.date (same_date _ _ _ is.day is.month is.year m.date w.1 w.2 w.3 is.date_is) in
    absurd (cc (c.in_err-date.was, date))

pub returns-then-not-is_day_of_week-clause-every : goal.returns-then-not-is_day_of_week-clause-every
returns-then-not-is_day_of_week-clause-every c = λ m x is.
    let w = c.mail_words-words.ensures.every is.weekday is.day is.month is.year is.hour is.minute is.second is.zone is.end is.words in
    let date = c.mail_date.ensures.every m.date (same_date _ _ _ is.day is.month is.year m.date w.1 w.2 w.3 is.date_is) in
    let same = same_Some _ _ (sym c.in_ok-date.was ∙ date) in
    let holds = c.is_day_of_week.ensures.1 (same_weekday _ is.weekday _ m.date w.0 same is.weekday_is) in
    cc

pub returns-in_err-time-clause-every : goal.returns-in_err-time-clause-every
returns-in_err-time-clause-every c = λ m x is.
    let w = c.mail_words-words.ensures.every is.weekday is.day is.month is.year is.hour is.minute is.second is.zone is.end is.words in
    let time = c.mail_time.ensures.every m.time (same_time _ _ _ is.hour is.minute is.second m.time w.4 w.5 w.6 is.time_is) in
    absurd (cc (c.in_err-time.was, time))

pub returns-in_err-offset-clause-every : goal.returns-in_err-offset-clause-every
returns-in_err-offset-clause-every c = λ m x is.
    let w = c.mail_words-words.ensures.every is.weekday is.day is.month is.year is.hour is.minute is.second is.zone is.end is.words in
    let offset = c.mail_zone.ensures.every x (subst (λ (l : List ℕ). IsMailZone l x) (sym w.7) is.zone_is) in
    absurd (cc (c.in_err-offset.was, offset))

pub returns-clause-read : goal.returns-clause-read
returns-clause-read c =
    let words = c.mail_words-words.result in
    let date = c.in_ok-date.ensures.read in
    let time = c.in_ok-time.ensures.read in
    let zone = c.in_ok-offset.ensures.read in
    let laid = c.mail_words-words.ensures.read (some_day _ date.day_number date.day_is) (some_month _ date.month_number date.month_is) (omega (arith, date.year_is.long)) (omega (arith, time.hour_in_two)) (omega (arith, time.minute_in_two)) (some_zone _ c.in_ok-offset.offset zone) in
    let gap = c.is_gap.ensures.0 cc in
    let weekday = c.is_day_of_week.ensures.0 cc in
    let make : IsEpochSecond (epoch_second (moment c.in_ok-date.date c.in_ok-time.time) -ℤ c.in_ok-offset.offset) → IsRfc2822Text c.args.text.now (moment c.in_ok-date.date c.in_ok-time.time) c.in_ok-offset.offset =
    λ instant. record {
      weekday = words.weekday.now;
      day = words.day.now;
      month = words.month.now;
      year = words.year.now;
      hour = words.hour.now;
      minute = words.minute.now;
      second = words.second.now;
      zone = words.zone.now;
      end = words.end.now;
      words = laid;
      ends = gap;
      weekday_is = weekday;
      date_is = date;
      time_is = time;
      zone_is = zone;
      instant = instant;
    } in
    stamp_found c.args.text.now c.new.result c.in_ok-offset.offset c.stamp_at.result
    (subst (λ (m : Moment). IsEpochSecond (epoch_second m -ℤ c.in_ok-offset.offset) → IsRfc2822Text c.args.text.now m c.in_ok-offset.offset) (sym c.new.ensures) make)
    c.stamp_at.ensures.local c.stamp_at.ensures.zone c.stamp_at.ensures.instant

pub returns-clause-every : goal.returns-clause-every
returns-clause-every c = λ m x is.
    let w = c.mail_words-words.ensures.every is.weekday is.day is.month is.year is.hour is.minute is.second is.zone is.end is.words in
    let date = same_Some _ _ (sym c.in_ok-date.was ∙ c.mail_date.ensures.every m.date (same_date _ _ _ is.day is.month is.year m.date w.1 w.2 w.3 is.date_is)) in
    let time = same_Some _ _ (sym c.in_ok-time.was ∙ c.mail_time.ensures.every m.time (same_time _ _ _ is.hour is.minute is.second m.time w.4 w.5 w.6 is.time_is)) in
    let offset = same_Some _ _ (sym c.in_ok-offset.was ∙ c.mail_zone.ensures.every x (subst (λ (l : List ℕ). IsMailZone l x) (sym w.7) is.zone_is)) in
    let local : c.new.result ≡ m = c.new.ensures ∙ ap (λ n. moment n c.in_ok-time.time) date ∙ ap (λ u. moment m.date u) time in
    same_stamp m c.new.result x c.in_ok-offset.offset c.stamp_at.result local offset c.stamp_at.ensures.every is.instant
