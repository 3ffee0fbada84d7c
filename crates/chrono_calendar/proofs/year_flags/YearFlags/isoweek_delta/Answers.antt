use Rattle.std.proofs.Common.{◌≡◌, ap, ◌+◌, ◌/◌, ◌∙◌, arith}
use Rattle.std.proofs.lemmas.Bool.Decides.{nat_tests}
use Rattle.chrono_calendar.proofs.Weeks.{week_counted_in-delta, week_delta, week_delta-flags}
use Rattle.chrono_calendar.proofs.year_flags.YearFlags.isoweek_delta.Goals as goal

pub returns-then-digits-lt3-clause-week : goal.returns-then-digits-lt3-clause-week
returns-then-digits-lt3-clause-week c = λ y o e h.
    let delta = week_delta-flags y c.bits.result (c.bits.ensures.value ∙ e) in
    let same : week_delta y ≡ c.from-digits.result + 7 = grind (arith, nat_tests) in
    week_counted_in-delta y o h ∙ ap (λ d. (o + d) / 7) same

pub returns-else-digits-lt3-clause-week : goal.returns-else-digits-lt3-clause-week
returns-else-digits-lt3-clause-week c = λ y o e h.
    let delta = week_delta-flags y c.bits.result (c.bits.ensures.value ∙ e) in
    let same : week_delta y ≡ c.from-digits.result = grind (arith, nat_tests) in
    week_counted_in-delta y o h ∙ ap (λ d. (o + d) / 7) same
