use Rattle.std.proofs.Common.{arith}
use Rattle.std.proofs.lemmas.Option.{IfSome_then}
use Rattle.chrono_datetime.proofs.Signed.{signed}
use Rattle.chrono_uses.proofs.questions.year_later.Goals as goal

pub returns-clause-year : goal.returns-clause-year
returns-clause-year c = IfSome_then c.moved_by_months.result c.moved_by_months.ensures.month (λ e h. omega (arith, signed, h, c.days_have_names.ensures.month e, c.days_have_names.ensures.month c.args.date))

pub returns-clause-month : goal.returns-clause-month
returns-clause-month c = IfSome_then c.moved_by_months.result c.moved_by_months.ensures.month (λ e h. omega (arith, signed, h, c.days_have_names.ensures.month e, c.days_have_names.ensures.month c.args.date))

pub returns-clause-exists : goal.returns-clause-exists
returns-clause-exists c =
    let exists = c.moved_by_months.ensures.exists in
    let month = c.days_have_names.ensures.month c.args.date in
    (λ some. omega (arith, signed, (exists.0 some).1, month), λ less. exists.1 (omega (arith, signed, c.moved_by_months.ensures.in_range.0, month), omega (arith, signed, less, month)))
