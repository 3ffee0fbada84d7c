use Rattle.std.proofs.Common.{◌≡◌, ◌+◌, inl, inr, length, take, sym, ap, ◌∙◌, arith}
use Rattle.std.proofs.lemmas.List.{length-take-le}
use Rattle.chrono_reading.specs.DateErrors.{error_at}
use Rattle.chrono_reading.proofs.DateTimeLemmas.{IsErrorAbout-at}
use Rattle.chrono_reading.proofs.date_time.date_time_error.Goals as goal

pub returns-in-None : goal.returns-in-None
returns-in-None c = inl (
  c.in_default.ensures.none,
  inl (record {
    none = λ n is. let found = c.in-None.ensures.every n is in cc;
    error = c.date_error.ensures;
  }),
)

pub returns-in-Some-date_of-2 : goal.returns-in-Some-date_of-2
returns-in-Some-date_of-2 c =
    let text = c.args.text.now in
    let at = c.in-Some.at in
    let found = c.in-Some.ensures.found in
    let of_time = c.time_error-error.result in
    let long : length (take at text) ≡ at = length-take-le at text (omega (arith, found.0)) in
    inr (IsErrorAbout-at text at _ found.0 found.1 c.in-Some.ensures.first (inr (record {
      n = c.in-Some-date_of-2.field-0;
      date_written = c.in-Some-date_of-2.ensures.read;
      of_time = of_time;
      time_error = c.time_error-error.ensures.error;
      error = c.error_at-in-Some-date_of-2.ensures ∙ ap (λ k. error_at of_time.cause (k + 1 + of_time.byte)) (sym long);
    })))

pub returns-in-None-date_of : goal.returns-in-None-date_of
returns-in-None-date_of c =
    let found = c.in-Some.ensures.found in
    inr (IsErrorAbout-at c.args.text.now c.in-Some.at _ found.0 found.1 c.in-Some.ensures.first (inl (record {
      none = λ n is. let date = c.in-None-date_of.ensures.every n is in cc;
      error = c.date_error-in-None-date_of.ensures;
    })))
