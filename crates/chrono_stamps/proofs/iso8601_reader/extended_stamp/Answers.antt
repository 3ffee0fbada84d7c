use Rattle.std.proofs.Common.{◌≡◌, ◌∙◌, ◌-ℤ◌, inl, inr, List, ℕ, ℤ, ap, drop, subst, sym, take}
use Rattle.std.proofs.lemmas.Option.{same_Some}
use Rattle.chrono_datetime.specs.Moment.{Moment, moment}
use Rattle.chrono_instant.specs.Instants.{IsEpochSecond, epoch_second}
use Rattle.chrono_instant.specs.Offsets.{moment_ahead}
use Rattle.chrono_stamps.specs.Iso8601.{IsExtendedText, IsIsoDate, IsIsoOffset, IsIsoTime, behind_date, offset_part, time_part}
use Rattle.chrono_stamps.specs.IsoErrors.{IsIsoTimeError, iso_offset_error}
use Rattle.chrono_stamps.specs.MailErrors.{error_in}
use Rattle.chrono_text.proofs.AnswerLemmas.{same_Ok}
use Rattle.chrono_stamps.proofs.iso8601_reader.extended_stamp.Goals as goal

pub returns-in-Err-clause-every : goal.returns-in-Err-clause-every
returns-in-Err-clause-every c = λ m x is.
    let date = c.iso_date.ensures.every m.date (subst (λ (l : List ℕ). IsIsoDate l m.date) (sym c.in-Some.ensures.front) is.date_is) in
    cc (c.in-Err.is, date)

pub returns-in-Err-iso_time-clause-every : goal.returns-in-Err-iso_time-clause-every
returns-in-Err-iso_time-clause-every c = λ m x is.
    let clock : c.split_at.result.0.now ≡ time_part (behind_date c.args.text.now) = c.split_at.ensures.front ∙ ap (λ k. take k c.in-Some.behind.now) c.time_len.ensures.value ∙ ap (λ (l : List ℕ). time_part l) c.in-Some.ensures.back in
    let time = c.iso_time.ensures.every m.time (subst (λ (l : List ℕ). IsIsoTime l m.time) (sym clock) is.time_is) in
    cc (c.in-Err-iso_time.is, time)

pub returns-in-Err-iso_time-clause-error : goal.returns-in-Err-iso_time-clause-error
returns-in-Err-iso_time-clause-error c =
    let clock : c.split_at.result.0.now ≡ time_part (behind_date c.args.text.now) = c.split_at.ensures.front ∙ ap (λ k. take k c.in-Some.behind.now) c.time_len.ensures.value ∙ ap (λ (l : List ℕ). time_part l) c.in-Some.ensures.back in
    let date = subst (λ (l : List ℕ). IsIsoDate l c.in-Ok.date) c.in-Some.ensures.front c.in-Ok.ensures.read in
    let time = subst (λ (l : List ℕ). IsIsoTimeError l c.in-Err-iso_time.error) clock c.in-Err-iso_time.ensures.error in
    let byte = c.error_in.ensures ∙ ap (λ (l : List ℕ). error_in c.args.text.now l c.in-Err-iso_time.error) c.in-Some.ensures.back in
    inr (c.in-Some.ensures.some, inr (c.in-Ok.date, date, inl (c.in-Err-iso_time.error, time, byte)))

pub returns-in_default-iso_offset-clause-every : goal.returns-in_default-iso_offset-clause-every
returns-in_default-iso_offset-clause-every c = λ m x is.
    let end : c.split_at.result.1.now ≡ offset_part (behind_date c.args.text.now) = c.split_at.ensures.back ∙ ap (λ k. drop k c.in-Some.behind.now) c.time_len.ensures.value ∙ ap (λ (l : List ℕ). offset_part l) c.in-Some.ensures.back in
    let offset = c.iso_offset.ensures.every x (subst (λ (l : List ℕ). IsIsoOffset l x) (sym end) is.offset_is) in
    cc (c.in_default-iso_offset.is, offset)

pub returns-in_default-iso_offset-clause-error : goal.returns-in_default-iso_offset-clause-error
returns-in_default-iso_offset-clause-error c =
    let clock : c.split_at.result.0.now ≡ time_part (behind_date c.args.text.now) = c.split_at.ensures.front ∙ ap (λ k. take k c.in-Some.behind.now) c.time_len.ensures.value ∙ ap (λ (l : List ℕ). time_part l) c.in-Some.ensures.back in
    let end : c.split_at.result.1.now ≡ offset_part (behind_date c.args.text.now) = c.split_at.ensures.back ∙ ap (λ k. drop k c.in-Some.behind.now) c.time_len.ensures.value ∙ ap (λ (l : List ℕ). offset_part l) c.in-Some.ensures.back in
    let date = subst (λ (l : List ℕ). IsIsoDate l c.in-Ok.date) c.in-Some.ensures.front c.in-Ok.ensures.read in
    let time = subst (λ (l : List ℕ). IsIsoTime l c.in-Ok-iso_time.time) clock c.in-Ok-iso_time.ensures.read in
    let none : (x : ℤ) → IsIsoOffset (offset_part (behind_date c.args.text.now)) x → ⊥ = λ x offset.
    let found = c.iso_offset.ensures.every x (subst (λ (l : List ℕ). IsIsoOffset l x) (sym end) offset) in cc (c.in_default-iso_offset.is, found) in
    let byte = c.error_in-in_default-iso_offset.ensures ∙ ap (λ f. error_in c.args.text.now c.split_at.result.1.now f) c.iso_offset_error.ensures ∙ ap (λ (l : List ℕ). error_in c.args.text.now l (iso_offset_error l)) end in
    inr (c.in-Some.ensures.some, inr (c.in-Ok.date, date, inr (c.in-Ok-iso_time.time, time, inl (none, byte))))

pub returns-in-Some-stamp_at-clause-read : goal.returns-in-Some-stamp_at-clause-read
returns-in-Some-stamp_at-clause-read c =
    let clock : c.split_at.result.0.now ≡ time_part (behind_date c.args.text.now) = c.split_at.ensures.front ∙ ap (λ k. take k c.in-Some.behind.now) c.time_len.ensures.value ∙ ap (λ (l : List ℕ). time_part l) c.in-Some.ensures.back in
    let end : c.split_at.result.1.now ≡ offset_part (behind_date c.args.text.now) = c.split_at.ensures.back ∙ ap (λ k. drop k c.in-Some.behind.now) c.time_len.ensures.value ∙ ap (λ (l : List ℕ). offset_part l) c.in-Some.ensures.back in
    let make : IsExtendedText c.args.text.now (moment c.in-Ok.date c.in-Ok-iso_time.time) c.in-Some-iso_offset.offset = record {
      separated = c.in-Some.ensures.some;
      date_is = subst (λ (l : List ℕ). IsIsoDate l c.in-Ok.date) c.in-Some.ensures.front c.in-Ok.ensures.read;
      time_is = subst (λ (l : List ℕ). IsIsoTime l c.in-Ok-iso_time.time) clock c.in-Ok-iso_time.ensures.read;
      offset_is = subst (λ (l : List ℕ). IsIsoOffset l c.in-Some-iso_offset.offset) end c.in-Some-iso_offset.ensures.read;
      instant = subst (λ (n : Moment). IsEpochSecond (epoch_second n -ℤ c.in-Some-iso_offset.offset)) c.new.ensures c.in-Some-stamp_at.ensures.instant;
    } in
    let shown : moment_ahead c.in-Some-stamp_at.stamp.utc c.in-Some-stamp_at.stamp.zone ≡ moment c.in-Ok.date c.in-Ok-iso_time.time = c.in-Some-stamp_at.ensures.local ∙ c.new.ensures in
    subst (λ (y : ℤ). IsExtendedText c.args.text.now (moment_ahead c.in-Some-stamp_at.stamp.utc c.in-Some-stamp_at.stamp.zone) y) (sym c.in-Some-stamp_at.ensures.zone)
    (subst (λ (n : Moment). IsExtendedText c.args.text.now n c.in-Some-iso_offset.offset) (sym shown) make)

pub returns-in-Some-stamp_at-clause-every : goal.returns-in-Some-stamp_at-clause-every
returns-in-Some-stamp_at-clause-every c = λ m x is.
    let clock : c.split_at.result.0.now ≡ time_part (behind_date c.args.text.now) = c.split_at.ensures.front ∙ ap (λ k. take k c.in-Some.behind.now) c.time_len.ensures.value ∙ ap (λ (l : List ℕ). time_part l) c.in-Some.ensures.back in
    let end : c.split_at.result.1.now ≡ offset_part (behind_date c.args.text.now) = c.split_at.ensures.back ∙ ap (λ k. drop k c.in-Some.behind.now) c.time_len.ensures.value ∙ ap (λ (l : List ℕ). offset_part l) c.in-Some.ensures.back in
    let date = same_Ok _ _ (sym c.in-Ok.is ∙ c.iso_date.ensures.every m.date (subst (λ (l : List ℕ). IsIsoDate l m.date) (sym c.in-Some.ensures.front) is.date_is)) in
    let time = same_Ok _ _ (sym c.in-Ok-iso_time.is ∙ c.iso_time.ensures.every m.time (subst (λ (l : List ℕ). IsIsoTime l m.time) (sym clock) is.time_is)) in
    let offset = same_Some _ _ (sym c.in-Some-iso_offset.is ∙ c.iso_offset.ensures.every x (subst (λ (l : List ℕ). IsIsoOffset l x) (sym end) is.offset_is)) in
    let local : c.new.result ≡ m = c.new.ensures ∙ ap (λ n. moment n c.in-Ok-iso_time.time) date ∙ ap (λ u. moment m.date u) time in
    (c.in-Some-stamp_at.ensures.local ∙ local, c.in-Some-stamp_at.ensures.zone ∙ offset)

pub returns-in-None-clause-every : goal.returns-in-None-clause-every
returns-in-None-clause-every c = λ m x is.
    let clock : c.split_at.result.0.now ≡ time_part (behind_date c.args.text.now) = c.split_at.ensures.front ∙ ap (λ k. take k c.in-Some.behind.now) c.time_len.ensures.value ∙ ap (λ (l : List ℕ). time_part l) c.in-Some.ensures.back in
    let end : c.split_at.result.1.now ≡ offset_part (behind_date c.args.text.now) = c.split_at.ensures.back ∙ ap (λ k. drop k c.in-Some.behind.now) c.time_len.ensures.value ∙ ap (λ (l : List ℕ). offset_part l) c.in-Some.ensures.back in
    let date = same_Ok _ _ (sym c.in-Ok.is ∙ c.iso_date.ensures.every m.date (subst (λ (l : List ℕ). IsIsoDate l m.date) (sym c.in-Some.ensures.front) is.date_is)) in
    let time = same_Ok _ _ (sym c.in-Ok-iso_time.is ∙ c.iso_time.ensures.every m.time (subst (λ (l : List ℕ). IsIsoTime l m.time) (sym clock) is.time_is)) in
    let offset = same_Some _ _ (sym c.in-Some-iso_offset.is ∙ c.iso_offset.ensures.every x (subst (λ (l : List ℕ). IsIsoOffset l x) (sym end) is.offset_is)) in
    let local : c.new.result ≡ m = c.new.ensures ∙ ap (λ n. moment n c.in-Ok-iso_time.time) date ∙ ap (λ u. moment m.date u) time in
    c.in-None.ensures.every (subst (λ (n : Moment). IsEpochSecond (epoch_second n -ℤ c.in-Some-iso_offset.offset)) (sym local) (subst (λ (y : ℤ). IsEpochSecond (epoch_second m -ℤ y)) (sym offset) is.instant))

pub returns-in-None-clause-error : goal.returns-in-None-clause-error
returns-in-None-clause-error c =
    let clock : c.split_at.result.0.now ≡ time_part (behind_date c.args.text.now) = c.split_at.ensures.front ∙ ap (λ k. take k c.in-Some.behind.now) c.time_len.ensures.value ∙ ap (λ (l : List ℕ). time_part l) c.in-Some.ensures.back in
    let end : c.split_at.result.1.now ≡ offset_part (behind_date c.args.text.now) = c.split_at.ensures.back ∙ ap (λ k. drop k c.in-Some.behind.now) c.time_len.ensures.value ∙ ap (λ (l : List ℕ). offset_part l) c.in-Some.ensures.back in
    let date = subst (λ (l : List ℕ). IsIsoDate l c.in-Ok.date) c.in-Some.ensures.front c.in-Ok.ensures.read in
    let time = subst (λ (l : List ℕ). IsIsoTime l c.in-Ok-iso_time.time) clock c.in-Ok-iso_time.ensures.read in
    let offset = subst (λ (l : List ℕ). IsIsoOffset l c.in-Some-iso_offset.offset) end c.in-Some-iso_offset.ensures.read in
    let none : IsEpochSecond (epoch_second (moment c.in-Ok.date c.in-Ok-iso_time.time) -ℤ c.in-Some-iso_offset.offset) → ⊥ = λ there.
    c.in-None.ensures.every (subst (λ (n : Moment). IsEpochSecond (epoch_second n -ℤ c.in-Some-iso_offset.offset)) (sym c.new.ensures) there) in
    inr (c.in-Some.ensures.some, inr (c.in-Ok.date, date, inr (c.in-Ok-iso_time.time, time, inr (c.in-Some-iso_offset.offset, offset, none, c.out_of_range.ensures))))
