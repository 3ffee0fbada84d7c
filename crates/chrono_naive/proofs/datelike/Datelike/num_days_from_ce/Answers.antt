use Rattle.std.proofs.Common.{◌≡◌, Some, refl, arith, sym, ◌∙◌, FitsSigned, w32}
use Rattle.std.proofs.lemmas.Int.{to_z-of_z}
use Rattle.chrono_text.proofs.AnswerLemmas.{the_one}
use Rattle.chrono_calendar.proofs.NamedDates.{date_of_day-Some}
use Rattle.chrono_calendar.proofs.Signed.{casts}
use Rattle.chrono_naive.proofs.datelike.Datelike.num_days_from_ce.Goals as goal

-- the date that is made has the number
named : (g : _) (c : goal.After-from_yo_opt g) → c.from_yo_opt.result ≡ Some (g.Self.Datelike.number c.args.self.now)
named g c =
    let fits : FitsSigned w32 c.year.result = omega (arith, casts, c.year.ensures.in_range) in
    c.from_yo_opt.ensures.date ∙ rw (to_z-of_z w32 c.year.result fits, c.year.ensures.value) c.ordinal.ensures.names

pub unwrap-requires : goal.unwrap-requires
unwrap-requires g c = rw (named g c) refl

pub returns-clause-value : goal.returns-clause-value
returns-clause-value g c =
    let fits : FitsSigned w32 c.day_number.result = omega (arith, casts, c.day_number.ensures.in_range) in
    to_z-of_z w32 c.day_number.result fits ∙ c.day_number.ensures.value
    ∙ the_one c.from_yo_opt.result c.unwrap.result (g.Self.Datelike.number c.args.self.now) (sym c.unwrap.ensures) (named g c.before.before.before)

pub returns-clause-names : goal.returns-clause-names
returns-clause-names g c =
    let n = g.Self.Datelike.number c.args.self.now in
    let fits : FitsSigned w32 c.day_number.result = omega (arith, casts, c.day_number.ensures.in_range) in
    let value = returns-clause-value g c in
    rw value (date_of_day-Some n (rw (sym (to_z-of_z w32 c.day_number.result fits) ∙ value) at c.day_number.ensures.in_range))
