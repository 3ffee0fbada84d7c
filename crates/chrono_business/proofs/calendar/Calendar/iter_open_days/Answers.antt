use Rattle.std.proofs.Common.{◌≡◌, ap, ◌∙◌, arith, ℤ, to_z, of_z, w32}
use Rattle.chrono_datetime.proofs.Signed.{casts}
use Rattle.chrono_business.specs.OpenDays.{open_days}
use Rattle.chrono_business.proofs.OpenLists.{length-open_days}
use Rattle.chrono_business.proofs.calendar.Calendar.iter_open_days.Goals as goal

pub returns-clause-count : goal.returns-clause-count
returns-clause-count c =
    let now = c.args.self.now in
    let start : to_z w32 (of_z w32 c.num_days_from_ce.result) ≡ c.args.from = omega (arith, casts, c.num_days_from_ce.ensures.value, c.num_days_from_ce.ensures.in_range) in
    let end : to_z w32 (of_z w32 c.num_days_from_ce-2.result) ≡ c.args.to = omega (arith, casts, c.num_days_from_ce-2.ensures.value, c.num_days_from_ce-2.ensures.in_range) in
    length-open_days now (to_z w32 (of_z w32 c.num_days_from_ce.result)) (to_z w32 (of_z w32 c.num_days_from_ce-2.result))
    ∙ (ap (λ (d : ℤ). open_days now d (to_z w32 (of_z w32 c.num_days_from_ce-2.result))) start ∙ ap (λ (d : ℤ). open_days now c.args.from d) end)
