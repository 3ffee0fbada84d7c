use Rattle.std.proofs.Common.{◌∙◌, ◌+◌, ◌%◌, ap, sym, w32, pos}
use Rattle.std.proofs.lemmas.Int.{to_z-of_z}
use Rattle.std.specs.Int.{int_rem_euclid}
use Rattle.chrono_units.specs.Weekday.{weekday_from_monday}
use Rattle.chrono_calendar.specs.Days.{year_of, ordinal_of}
use Rattle.chrono_stored.specs.PackedName.{packed_ordinal}
use Rattle.chrono_calendar.specs.Weeks.{weekday_of}
use Rattle.chrono_calendar.proofs.Names.{ordinal_name_of-number}
use Rattle.chrono_stored.proofs.PackedNames.{IsPackedName-stored, flags-read, weekday-flags}
use Rattle.chrono_stored.proofs.packed.PackedFormDayForm.weekday.Goals as goal

pub returns : goal.returns
returns c =
    let stored = IsPackedName-stored c.self.inside.packed c.args.self.now c.self.invariant c.self.view_is in
    let same = to_z-of_z w32 c.self.inside.packed stored.fits in
    let flags = flags-read c.self.inside.packed c.args.self.now c.flags_in.result stored (c.flags_in.ensures ∙ ap (λ z. int_rem_euclid z (pos 16)) same) in
    let ordinal = c.ordinal_in.ensures ∙ ap (λ z. packed_ordinal z) same ∙ stored.ordinal in
    c.weekday_by.ensures
    ∙ ap (λ o. weekday_from_monday ((o + c.flags_in.result % 8) % 7)) ordinal
    ∙ ap (λ f. weekday_from_monday ((ordinal_of c.args.self.now + f % 8) % 7)) flags
    ∙ weekday-flags (year_of c.args.self.now) (ordinal_of c.args.self.now)
    ∙ ap (λ n. weekday_of n) (sym (ordinal_name_of-number c.args.self.now).number)
