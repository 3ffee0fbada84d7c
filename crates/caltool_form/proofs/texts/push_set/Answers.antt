use Rattle.std.proofs.Common.{◌∷◌, [], ◌++◌, append_assoc, refl}
use Rattle.chrono_units.specs.declared.weekday.Weekday.TheVariants.{Mon}
use Rattle.chrono_units.specs.WeekdaySet.{walk}
use Rattle.caltool_form.proofs.Days.{unlisted}
use Rattle.caltool_form.proofs.texts.push_set.Goals as goal

pub returns-clause-text : goal.returns-clause-text
returns-clause-text g c =
    rw (c.push-2.ensures, c.shorten.ensures, c.from.ensures, c.min.ensures, c.len.ensures, c.push_listed_days.ensures.text, c.push.ensures, unlisted (c.args.out.now ++ 91 ∷ []) (walk c.args.days Mon)) (simp append_assoc refl)
