use Rattle.std.proofs.Common.{ap, ◌∙◌, arith, rules, ℤ, ◌+ℤ◌, FitsSigned, w64}
use Rattle.std.proofs.lemmas.Int.{to_z-of_z}
use Rattle.chrono_datetime.proofs.Signed.{signed}
use Rattle.chrono_business.specs.OpenDays.{open_days_signed}
use Rattle.chrono_business.proofs.Ranks.{signed-ranks, signed-sum}
use Rattle.chrono_business.proofs.calendar.Calendar.open_days.Goals as goal

pub returns-clause-value : goal.returns-clause-value
returns-clause-value c =
    let start = c.rank-start.ensures in
    let end = c.rank-end.ensures in
    let fits : FitsSigned w64 c.ranks_between.result = search rules in
    to_z-of_z w64 c.ranks_between.result fits
    ∙ omega (arith, signed, signed-ranks c.args.self.now c.args.from c.args.to start.in_range end.in_range, start.value, end.value, c.ranks_between.ensures)

pub returns-clause-sum : goal.returns-clause-sum
returns-clause-sum c = λ later.
    ap (λ (x : ℤ). x +ℤ open_days_signed c.args.self.now c.args.to later) (returns-clause-value c)
    ∙ signed-sum c.args.self.now c.args.from c.args.to later
