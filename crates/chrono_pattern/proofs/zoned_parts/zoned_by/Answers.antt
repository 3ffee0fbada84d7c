use Rattle.chrono_instant.specs.Offsets.{moment_ahead}
use Rattle.chrono_pattern.proofs.ZonedPartLemmas.{local_fits, moment_named, no_local, no_offset, offset_fits, same_local, same_offset, zoned_found, zoned_shown}
use Rattle.chrono_pattern.proofs.zoned_parts.zoned_by.Goals as goal

pub returns-in-Ok-clause-fits : goal.returns-in-Ok-clause-fits
returns-in-Ok-clause-fits c =
    zoned_found c.args.parts c.at_local.result c.in-Ok.local c.in-Some.offset c.at_local.ensures.local c.at_local.ensures.zone
    c.in-Some.ensures.counted c.in-Ok.ensures.fits

pub returns-in-Ok-clause-clock : goal.returns-in-Ok-clause-clock
returns-in-Ok-clause-clock c =
    zoned_shown c.at_local.result c.in-Ok.local c.in-Some.offset c.at_local.ensures.local c.at_local.ensures.zone
    c.at_local.ensures.utc c.in-Some.ensures.in_range c.in-Ok.ensures.clock

pub returns-in-Ok-clause-every : goal.returns-in-Ok-clause-every
returns-in-Ok-clause-every c = λ d shown fits.
    let m = moment_ahead d.utc d.zone in
    let named = c.named_offset.ensures.every d.zone shown.1 (offset_fits c.args.parts m d.zone fits).0 in
    let zone = same_offset c.named_offset.result d.zone c.in-Some.offset named c.in-Some.is in
    let moment = c.named_moment.ensures.every m shown.2 (moment_named c.args.parts c.requires) (local_fits c.args.parts m c.in-Some.offset d.zone zone fits) in
    c.at_local.ensures.every d shown.0 zone (same_local c.named_moment.result m c.in-Ok.local moment c.in-Ok.is)

pub returns-in-Err-clause-every : goal.returns-in-Err-clause-every
returns-in-Err-clause-every c = λ d shown fits.
    let m = moment_ahead d.utc d.zone in
    let named = c.named_offset.ensures.every d.zone shown.1 (offset_fits c.args.parts m d.zone fits).0 in
    let zone = same_offset c.named_offset.result d.zone c.in-Some.offset named c.in-Some.is in
    let moment = c.named_moment.ensures.every m shown.2 (moment_named c.args.parts c.requires) (local_fits c.args.parts m c.in-Some.offset d.zone zone fits) in
    absurd (no_local c.named_moment.result m _ moment c.in-Err.is)

pub returns-in-None-clause-every : goal.returns-in-None-clause-every
returns-in-None-clause-every c = λ d shown fits.
    absurd (no_offset c.named_offset.result d.zone (c.named_offset.ensures.every d.zone shown.1 (offset_fits c.args.parts (moment_ahead d.utc d.zone) d.zone fits).0) c.in-None.is)
