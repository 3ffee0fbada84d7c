use Rattle.std.proofs.Common.{arith, ap, ◌∙◌, ◌≡◌, ℤ, pos, ◌+ℤ◌, w64}
use Rattle.std.specs.Int.{int_div_euclid}
use Rattle.std.proofs.lemmas.Int.{to_z-of_z}
use Rattle.chrono_calendar.proofs.Signed.{casts, signed}
use Rattle.zone_rule.specs.Changes.{change_second}
use Rattle.zone_rule.proofs.MeanYears.{comes_within, year_before, year_kept}
use Rattle.zone_rule.proofs.change.Change.last_window.Goals as goal

pub returns-then-place-window-clause-comes : goal.returns-then-place-window-clause-comes
returns-then-place-window-clause-comes c =
    let year : c.year_of-year.result ≡ (pos 1_970 +ℤ int_div_euclid c.args.second (pos 31_556_952)) = c.year_of-year.ensures.value ∙ ap (λ (z : ℤ). pos 1_970 +ℤ int_div_euclid z (pos 31_556_952)) (to_z-of_z w64 c.args.second c.ranges.second) in
    comes_within (change_second c.args.offset c.args.self.now) c.args.second c.args.place c.window-window.result.low c.window-window.result.high (pos 1) _ c.window-window.ensures.lies
    c.requires.first c.requires.last c.requires.place (omega (arith, signed)) (omega (arith, signed))
    (omega (arith, casts, c.window-window.ensures.low))
    (omega (arith, casts, c.window-window.ensures.high))
    (year_before c.year_of-year.result (pos 1_970 +ℤ int_div_euclid c.args.second (pos 31_556_952)) c.year_of-year.ensures.low c.year_of-year.ensures.high year)

pub returns-clause-comes : goal.returns-clause-comes
returns-clause-comes c =
    let year : c.year_of-year.result ≡ (pos 1_970 +ℤ int_div_euclid c.args.second (pos 31_556_952)) = c.year_of-year.ensures.value ∙ ap (λ (z : ℤ). pos 1_970 +ℤ int_div_euclid z (pos 31_556_952)) (to_z-of_z w64 c.args.second c.ranges.second) in
    comes_within (change_second c.args.offset c.args.self.now) c.args.second c.args.place c.window-window.result.low c.window-window.result.high (pos 0) _ c.window-window.ensures.lies
    c.requires.first c.requires.last c.requires.place (omega (arith, signed)) (omega (arith, signed))
    (omega (arith, casts, c.window-window.ensures.low))
    (omega (arith, casts, c.window-window.ensures.high))
    (year_kept c.year_of-year.result (pos 1_970 +ℤ int_div_euclid c.args.second (pos 31_556_952)) c.year_of-year.ensures.low c.year_of-year.ensures.high year)
