use Rattle.std.proofs.Common.{◌≡◌, refl, ap, ◌∙◌, arith, pos, ◌+ℤ◌, ◌-ℤ◌}
use Rattle.std.proofs.lemmas.Option.{IfSome_then}
use Rattle.chrono_datetime.specs.Weeks.{iso_year_of}
use Rattle.chrono_datetime.proofs.Signed.{casts, signed}
use Rattle.chrono_uses.proofs.office.iso_year_end.Goals as goal

-- the day before the next year's first day is of the year before that
pub returns : goal.returns
returns c =
    let before = c.in_ok-from_isoywd_opt.ensures.before refl refl in
    IfSome_then c.pred_opt.result c.pred_opt.ensures.moved (λ e h. ap iso_year_of h ∙ before ∙ omega (arith, signed, casts))
