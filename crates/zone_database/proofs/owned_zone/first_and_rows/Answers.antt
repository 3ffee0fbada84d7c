use Rattle.std.proofs.lemmas.Result.{err_from_is_err_and}
use Rattle.zone_database.proofs.WrongFiles.{no_rows_alone}
use Rattle.zone_database.proofs.owned_zone.first_and_rows.Goals as goal

pub returns-in_err-rows-clause-error : goal.returns-in_err-rows-clause-error
returns-in_err-rows-clause-error g c =
    let p = err_from_is_err_and c.from_residual.result c.from_residual.ensures.1 in
    let file = c.in-Ok.file in
    rw (p.1, p.2) (no_rows_alone c.args.bytes.now file.version file.times.now file.places.now file.kinds.now file.names.now file.footer.now c.in-Ok.ensures.read c.in_err-rows.field-0.0 c.in_err-rows.ensures.error)
