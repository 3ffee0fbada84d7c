use Rattle.std.proofs.Common.{◌∙◌, ◌-◌, List, ℕ, length, take, drop, ap, sym, subst}
use Rattle.std.specs.Result.{result_ok}
use Rattle.std.proofs.lemmas.Option.{same_Some, some_pair_parts}
use Rattle.chrono_datetime.specs.Moment.{Moment}
use Rattle.chrono_datetime.specs.Time.{TimeOfDay}
use Rattle.chrono_reading.specs.DateTexts.{IsDateText}
use Rattle.chrono_reading.specs.TimeTexts.{IsTimeText}
use Rattle.chrono_stamps.specs.Rfc3339.{IsStampSeparator}
use Rattle.chrono_text.proofs.TextLemmas.{end_is}
use Rattle.chrono_stamps.proofs.CutLemmas.{joined, ten}
use Rattle.chrono_stamps.proofs.OffsetLemmas.{offset_small}
use Rattle.chrono_stamps.proofs.StampLemmas.{found, from_ok, stamp_cut}
use Rattle.chrono_stamps.proofs.YearLemmas.{second_near, second_small, text_near}
use Rattle.chrono_stamps.proofs.rfc3339_reader.parts_of.Goals as goal

pub returns-then-not-is_separator-clause-every : goal.returns-then-not-is_separator-clause-every
returns-then-not-is_separator-clause-every c = λ m x is.
    let cut = stamp_cut _ _ _ _ _ m x is c.in_ok-front.ensures.cases.0 c.in_ok-front.ensures.cases.1 c.in_ok-separator.ensures.cases.0 in
    let stands = c.is_separator.ensures.1 (subst (λ n. IsStampSeparator n) (sym cut.1) is.between) in
    cc

pub returns-in_err-offset-clause-every : goal.returns-in_err-offset-clause-every
returns-in_err-offset-clause-every c = λ m x is.
    let cut = stamp_cut _ _ _ _ _ m x is c.in_ok-front.ensures.cases.0 c.in_ok-front.ensures.cases.1 c.in_ok-separator.ensures.cases.0 in
    let none = c.in_err-offset.ensures.every is.time is.offset x is.offset_written cut.2 in
    cc

pub returns-in_err-date-clause-every : goal.returns-in_err-date-clause-every
returns-in_err-date-clause-every c = λ m x is.
    let cut = stamp_cut _ _ _ _ _ m x is c.in_ok-front.ensures.cases.0 c.in_ok-front.ensures.cases.1 c.in_ok-separator.ensures.cases.0 in
    let date = c.read_date.ensures.every m.date (subst (λ (l : List ℕ). IsDateText l m.date) (sym cut.0) is.date_written) in
    let none = c.in_err-date.ensures.value ∙ ap result_ok date in
    cc

pub returns-in_err-time-clause-every : goal.returns-in_err-time-clause-every
returns-in_err-time-clause-every c = λ m x is.
    let cut = stamp_cut _ _ _ _ _ m x is c.in_ok-front.ensures.cases.0 c.in_ok-front.ensures.cases.1 c.in_ok-separator.ensures.cases.0 in
    let end = some_pair_parts _ x _ _ (c.in_ok-offset.ensures.every is.time is.offset x is.offset_written cut.2) in
    let piece = end_is c.in_ok-separator.rest.now is.time is.offset c.in_ok-offset.len (sym end.1) cut.2 in
    let time = c.read_time.ensures.every m.time (subst (λ (l : List ℕ). IsTimeText l m.time) (sym piece.0) is.time_written) in
    let none = c.in_err-time.ensures.value ∙ ap result_ok time in
    cc

pub returns-clause-read : goal.returns-clause-read
returns-clause-read c =
    let behind = c.in_ok-separator.rest.now in
    let k = length behind - c.in_ok-offset.len in
    let date = from_ok (λ n. IsDateText c.in_ok-front.front.now n) c.read_date.result c.in_ok-date.date c.in_ok-date.ensures.value c.read_date.ensures.read in
    let time = from_ok (λ (t : TimeOfDay). IsTimeText (take k behind) t) c.read_time.result c.in_ok-time.time c.in_ok-time.ensures.value c.read_time.ensures.read in
    record {
      date = c.in_ok-front.front.now;
      separator = c.in_ok-separator.separator.now;
      time = take k behind;
      offset = drop k behind;
      date_written = subst (λ n. IsDateText c.in_ok-front.front.now n) (sym (ap (λ (m : Moment). m.date) c.new.ensures)) date;
      year_has_four_digits = ten c.args.text.now c.in_ok-front.front.now c.in_ok-front.rest.now c.in_ok-front.ensures.cases.0 c.in_ok-front.ensures.cases.2;
      between = c.is_separator.ensures.0 cc;
      time_written = subst (λ (t : TimeOfDay). IsTimeText (take k behind) t) (sym (ap (λ (m : Moment). m.time) c.new.ensures)) time;
      offset_written = c.in_ok-offset.ensures.read;
      written = joined c.args.text.now c.in_ok-front.front.now c.in_ok-front.rest.now behind c.in_ok-separator.separator.now k c.in_ok-front.ensures.cases.0 c.in_ok-front.ensures.cases.1 c.in_ok-separator.ensures.cases.0;
    }

pub returns-clause-every : goal.returns-clause-every
returns-clause-every c = λ m x is.
    let cut = stamp_cut _ _ _ _ _ m x is c.in_ok-front.ensures.cases.0 c.in_ok-front.ensures.cases.1 c.in_ok-separator.ensures.cases.0 in
    let end = some_pair_parts _ x _ _ (c.in_ok-offset.ensures.every is.time is.offset x is.offset_written cut.2) in
    let piece = end_is c.in_ok-separator.rest.now is.time is.offset c.in_ok-offset.len (sym end.1) cut.2 in
    let time = c.read_time.ensures.every m.time (subst (λ (l : List ℕ). IsTimeText l m.time) (sym piece.0) is.time_written) in
    let date = c.read_date.ensures.every m.date (subst (λ (l : List ℕ). IsDateText l m.date) (sym cut.0) is.date_written) in
    found m _ x _ _ _ c.new.ensures (same_Some _ _ (c.in_ok-date.ensures.value ∙ ap result_ok date)) (same_Some _ _ (c.in_ok-time.ensures.value ∙ ap result_ok time)) end.0

pub returns-clause-instant : goal.returns-clause-instant
returns-clause-instant c =
    let read = returns-clause-read c in
    second_near c.new.result c.in_ok-offset.offset (text_near read.date c.new.result.date read.date_written read.year_has_four_digits) (second_small read.time c.new.result.time read.time_written) (offset_small read.offset c.in_ok-offset.offset read.offset_written)
