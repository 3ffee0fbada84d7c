use Rattle.std.proofs.Common.{◌∙◌, arith, subst, w32}
use Rattle.std.proofs.lemmas.Int.{to_z-of_z}
use Rattle.std.specs.Str.{IsAscii}
use Rattle.zone_text.specs.WrittenTexts.{hour_text}
use Rattle.zone_text.proofs.WrittenAscii.{three_ascii}
use Rattle.zone_text.proofs.zone.ZoneText.put_into.Goals as goal

pub returns-clause-ascii : goal.returns-clause-ascii
returns-clause-ascii g c =
    let behind = to_z-of_z w32 c.utc_minus_local.result (omega (arith, c.utc_minus_local.ensures.in_range)) ∙ c.utc_minus_local.ensures.value in
    three_ascii _ _ _ c.put_name.ensures.ascii (subst (λ x. IsAscii (hour_text x)) behind c.put_hours.ensures.ascii) c.put_daylight_part.ensures.ascii
