use Rattle.std.proofs.Common.{◌∙◌, sym, subst, arith}
use Rattle.zone_file.specs.Tables.{IsRowsError}
use Rattle.std.proofs.lemmas.Result.{IfOk-weaker}
use Rattle.zone.specs.Parts.{IsZone}
use Rattle.layers_c.specs.ZoneFaults.{AreNoRows, HasFirstKind, IsFooterReason}
use Rattle.layers_c.proofs.FileLemmas.{faulty_parts, file_with, held_zone, if_err, no_rows, of_file, of_parts, only_parts}
use Rattle.layers_c.proofs.zone_bytes.zone_of_file.Goals as goal

pub returns-in-Err-clause-none : goal.returns-in-Err-clause-none
returns-in-Err-clause-none c = λ y held.
    c.in-Err.ensures.every held.file.version held.file.times held.file.places held.file.kinds held.file.names held.file.footer held.file.file

pub returns-in_default-clause-none : goal.returns-in_default-clause-none
returns-in_default-clause-none c = λ y held.
    let f = c.in-Ok.file in
    let p = of_parts c.args.bytes.now f.version f.times.now f.places.now f.kinds.now f.names.now f.footer.now c.in-Ok.ensures.every y held.file in
    c.in_default.ensures.every y.first p.is_dst p.first_name p.first

pub returns-in-Err-rule_of_footer-clause-none : goal.returns-in-Err-rule_of_footer-clause-none
returns-in-Err-rule_of_footer-clause-none c = λ y held.
    let f = c.in-Ok.file in
    let p = of_parts c.args.bytes.now f.version f.times.now f.places.now f.kinds.now f.names.now f.footer.now c.in-Ok.ensures.every y held.file in
    c.in-Err-rule_of_footer.ensures.none y.rule p.rule

pub returns-in-Ok-read_rows-clause-held : goal.returns-in-Ok-read_rows-clause-held
returns-in-Ok-read_rows-clause-held c =
    let f = c.in-Ok.file in
    let k = c.in-Some.kind in
    let room = c.in-Ok-read_rows.ensures.room in
    let within = c.in-Ok-read_rows.ensures.within in
    IfOk-weaker c.zone_of_parts.result _ _
    (held_zone c.args.bytes.now f.version f.times.now f.places.now f.kinds.now f.names.now f.footer.now k.offset k.is_dst k.name.now c.read_rows.new.rows
    c.in-Ok-read_rows.count c.in-Ok-rule_of_footer.rule c.in-Ok.ensures.read c.in-Some.ensures.read c.in-Ok-read_rows.ensures.count (omega (arith, room, within))
    (room ∙ c.requires) c.in-Ok-read_rows.ensures.rows c.in-Ok-rule_of_footer.ensures.read)
    (rw c.first_rows.ensures at c.zone_of_parts.ensures.parts)

pub returns-in-Ok-read_rows-clause-only : goal.returns-in-Ok-read_rows-clause-only
returns-in-Ok-read_rows-clause-only c =
    let f = c.in-Ok.file in
    let k = c.in-Some.kind in
    let room = c.in-Ok-read_rows.ensures.room in
    let within = c.in-Ok-read_rows.ensures.within in
    IfOk-weaker c.zone_of_parts.result _ _
    (λ z is y held. is.0 ∙ only_parts c.args.bytes.now f.version f.times.now f.places.now f.kinds.now f.names.now f.footer.now c.in-Ok.ensures.every k.offset c.read_rows.new.rows
    c.in-Ok-read_rows.count c.in-Ok-rule_of_footer.rule (λ x d name one. (c.in-Some.ensures.every x d name one).0) c.in-Ok-read_rows.ensures.count
    (omega (arith, room, within)) c.in-Ok-read_rows.ensures.rows c.in-Ok-rule_of_footer.ensures.only y held)
    (rw c.first_rows.ensures at c.zone_of_parts.ensures.parts)

pub returns-in-Ok-read_rows-clause-none : goal.returns-in-Ok-read_rows-clause-none
returns-in-Ok-read_rows-clause-none c =
    let f = c.in-Ok.file in
    let k = c.in-Some.kind in
    let room = c.in-Ok-read_rows.ensures.room in
    let within = c.in-Ok-read_rows.ensures.within in
    if_err c.zone_of_parts.result _ _
    (λ e none y held. none (subst IsZone (sym (only_parts c.args.bytes.now f.version f.times.now f.places.now f.kinds.now f.names.now f.footer.now c.in-Ok.ensures.every
    k.offset c.read_rows.new.rows c.in-Ok-read_rows.count c.in-Ok-rule_of_footer.rule (λ x d name one. (c.in-Some.ensures.every x d name one).0)
    c.in-Ok-read_rows.ensures.count (omega (arith, room, within)) c.in-Ok-read_rows.ensures.rows c.in-Ok-rule_of_footer.ensures.only y held)) held.zone_is))
    (rw c.first_rows.ensures at c.zone_of_parts.ensures.none)

pub returns-in-Err-read_rows-clause-none : goal.returns-in-Err-read_rows-clause-none
returns-in-Err-read_rows-clause-none c =
    let f = c.in-Ok.file in
    no_rows c.args.bytes.now f.version f.times.now f.places.now f.kinds.now f.names.now f.footer.now c.in-Ok.ensures.every _ c.in-Err-read_rows.error c.requires
    c.in-Err-read_rows.ensures.error

pub returns-in-Err-clause-why : goal.returns-in-Err-clause-why
returns-in-Err-clause-why c = (λ version times places kinds names footer file. c.in-Err.ensures.every version times places kinds names footer file, c.in-Err.ensures.error)

pub returns-in_default-clause-why : goal.returns-in_default-clause-why
returns-in_default-clause-why c =
    let f = c.in-Ok.file in
    file_with c.args.bytes.now f.version f.times.now f.places.now f.kinds.now f.names.now f.footer.now
    (λ version times places kinds names footer. HasFirstKind kinds names → ⊥)
    c.in-Ok.ensures.read (λ has. c.in_default.ensures.every has.offset has.is_dst has.name has.kind)

pub returns-in-Err-rule_of_footer-clause-why : goal.returns-in-Err-rule_of_footer-clause-why
returns-in-Err-rule_of_footer-clause-why c =
    let f = c.in-Ok.file in
    let k = c.in-Some.kind in
    file_with c.args.bytes.now f.version f.times.now f.places.now f.kinds.now f.names.now f.footer.now
    (λ version times places kinds names footer. IsFooterReason c.args.bytes.now kinds names footer c.place_of_footer.result c.in-Err-rule_of_footer.error.byte)
    c.in-Ok.ensures.read
    (record {
      kind = record { offset = k.offset; is_dst = k.is_dst; name = k.name.now; kind = c.in-Some.ensures.read };
      none = λ has. c.in-Err-rule_of_footer.ensures.none has.rule has.written;
      begins = c.place_of_footer.ensures;
      within = c.in-Err-rule_of_footer.ensures.within;
    })

pub returns-in-Err-read_rows-clause-why : goal.returns-in-Err-read_rows-clause-why
returns-in-Err-read_rows-clause-why c =
    let f = c.in-Ok.file in
    let k = c.in-Some.kind in
    file_with c.args.bytes.now f.version f.times.now f.places.now f.kinds.now f.names.now f.footer.now
    (λ version times places kinds names footer. AreNoRows version times places kinds names footer c.in-Err-read_rows.error)
    c.in-Ok.ensures.read
    (record {
      kind = record { offset = k.offset; is_dst = k.is_dst; name = k.name.now; kind = c.in-Some.ensures.read };
      rule = record { rule = c.in-Ok-rule_of_footer.rule; written = c.in-Ok-rule_of_footer.ensures.read };
      error_is = subst (λ n. IsRowsError f.version f.times.now f.places.now f.kinds.now n c.in-Err-read_rows.error) c.requires c.in-Err-read_rows.ensures.error;
    })

pub returns-in-Ok-read_rows-clause-why : goal.returns-in-Ok-read_rows-clause-why
returns-in-Ok-read_rows-clause-why c =
    let f = c.in-Ok.file in
    let k = c.in-Some.kind in
    let room = c.in-Ok-read_rows.ensures.room in
    let within = c.in-Ok-read_rows.ensures.within in
    if_err c.zone_of_parts.result _ _
    (faulty_parts c.args.bytes.now f.version f.times.now f.places.now f.kinds.now f.names.now f.footer.now _
    (of_file c.args.bytes.now f.version f.times.now f.places.now f.kinds.now f.names.now f.footer.now k.offset k.is_dst k.name.now c.read_rows.new.rows
    c.in-Ok-read_rows.count c.in-Ok-rule_of_footer.rule c.in-Ok.ensures.read c.in-Some.ensures.read c.in-Ok-read_rows.ensures.count (omega (arith, room, within))
    c.in-Ok-read_rows.ensures.rows c.in-Ok-rule_of_footer.ensures.read))
    (rw c.first_rows.ensures at c.zone_of_parts.ensures.why)
