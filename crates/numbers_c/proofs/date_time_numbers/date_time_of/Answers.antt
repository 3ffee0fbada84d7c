use Rattle.std.proofs.Common.{◌∙◌, arith, refl, FitsSigned, rules, w64}
use Rattle.chrono_calendar.proofs.Signed.{casts}
use Rattle.numbers_c.proofs.DateTimeLemmas.{moment_from_c-no_date, moment_from_c-parts}
use Rattle.numbers_c.proofs.date_time_numbers.date_time_of.Goals as goal
use Rattle.numbers_c.proofs.date_time_numbers.date_time_of.Goals.{then-moment-lt-FIRST_SECOND-via-then-moment-lt-FIRST_SECOND, then-moment-lt-FIRST_SECOND-via-else-moment-lt-FIRST_SECOND+then-moment-gt-LAST_SECOND}

pub returns-then-moment-lt-FIRST_SECOND : goal.returns-then-moment-lt-FIRST_SECOND
returns-then-moment-lt-FIRST_SECOND c =
    let fits : FitsSigned w64 c.args.moment.seconds = search rules in
    moment_from_c-no_date c.args.moment (λ h. elim c.then-moment-lt-FIRST_SECOND.branch [
      | then-moment-lt-FIRST_SECOND-via-then-moment-lt-FIRST_SECOND w ↦ omega (arith, casts, h.0, h.1, w.if-moment-lt-FIRST_SECOND.true)
      | then-moment-lt-FIRST_SECOND-via-else-moment-lt-FIRST_SECOND+then-moment-gt-LAST_SECOND w ↦ omega (arith, casts, h.0, h.1, w.if-moment-gt-LAST_SECOND.true)
    ])

pub returns : goal.returns
returns c =
    let fits : FitsSigned w64 c.args.moment.seconds = search rules in
    let not_before = c.if-moment-lt-FIRST_SECOND.false in
    let not_after = c.if-moment-gt-LAST_SECOND.false in
    c.date_time_at.ensures
    ∙ moment_from_c-parts c.args.moment _ _ _ (omega (arith, casts, not_before, not_after, fits)) (omega (arith, casts, not_before, not_after, fits)) refl
