use Rattle.std.proofs.Common.{refl}
use Rattle.std.proofs.lemmas.Result.{IfOk-weaker}
use Rattle.layers_c.proofs.FileLemmas.{if_err}
use Rattle.layers_c.proofs.ZoneLemmas.{only_zone, text_reason}
use Rattle.layers_c.proofs.zone_bytes.zone_of_rule.Goals as goal

pub returns-in-Ok-clause-only : goal.returns-in-Ok-clause-only
returns-in-Ok-clause-only c =
    IfOk-weaker c.zone_of_parts.result _ _
    (only_zone c.args.text.now c.args.rows.now c.in-Ok.read.rule c.requires (λ standard daylight rule written. (c.in-Ok.ensures.every standard daylight rule written).2))
    c.zone_of_parts.ensures.parts

pub returns-in-Err-clause-none : goal.returns-in-Err-clause-none
returns-in-Err-clause-none c = λ y held. c.in-Err.ensures.every held.written.standard held.written.daylight held.rule held.written.written

pub returns-in-Ok-clause-why : goal.returns-in-Ok-clause-why
returns-in-Ok-clause-why c =
    if_err c.zone_of_parts.result _ _ (text_reason c.args.text.now c.in-Ok.read.rule.standard c.args.rows.now c.in-Ok.read.rule c.requires) c.zone_of_parts.ensures.why

pub returns-in-Err-clause-why : goal.returns-in-Err-clause-why
returns-in-Err-clause-why c = (λ rule written. c.in-Err.ensures.every written.standard written.daylight rule written.written, (refl, c.in-Err.ensures.error))
