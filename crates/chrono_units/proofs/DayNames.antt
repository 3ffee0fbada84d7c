-- How long the name of a day is.
use Rattle.std.proofs.Common.{◌≡◌, length, refl}
use Rattle.chrono_units.specs.declared.weekday.Weekday.{Weekday}
use Rattle.chrono_units.specs.declared.weekday.Weekday.TheVariants.{Mon, Tue, Wed, Thu, Fri, Sat, Sun}
use Rattle.chrono_units.specs.WeekdayText.{weekday_text}

pub length-weekday_text : (day : Weekday) → length (weekday_text day) ≡ 3
length-weekday_text Mon = refl
length-weekday_text Tue = refl
length-weekday_text Wed = refl
length-weekday_text Thu = refl
length-weekday_text Fri = refl
length-weekday_text Sat = refl
length-weekday_text Sun = refl
