use Rattle.std.proofs.Common.{◌∙◌, sym, ap, w32, pos}
use Rattle.std.proofs.lemmas.Int.{to_z-of_z}
use Rattle.std.specs.Int.{int_rem_euclid}
use Rattle.chrono_calendar.specs.Days.{year_of}
use Rattle.chrono_calendar.proofs.Weeks.{is_leap_year-flags}
use Rattle.chrono_stored.proofs.PackedNames.{IsPackedName-stored, flags-read}
use Rattle.chrono_stored.proofs.packed.PackedFormDayForm.is_leap.Goals as goal

pub returns : goal.returns
returns c =
    let stored = IsPackedName-stored c.self.inside.packed c.args.self.now c.self.invariant c.self.view_is in
    let read = c.flags_in.ensures ∙ ap (λ z. int_rem_euclid z (pos 16)) (to_z-of_z w32 c.self.inside.packed stored.fits) in
    let flags = flags-read c.self.inside.packed c.args.self.now c.flags_in.result stored read in
    c.is_leap_by.ensures ∙ sym (is_leap_year-flags (year_of c.args.self.now) c.flags_in.result flags)
