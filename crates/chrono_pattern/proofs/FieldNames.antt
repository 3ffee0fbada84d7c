-- What parts name is told by which of them are given.
use Rattle.std.proofs.Common.{◌≡◌, Bool, true, ◌&&◌, if◌then◌else◌, ap, ◌∙◌}
use Rattle.chrono_pattern.specs.DateParts.{is_present, names_calendar, names_date, names_ordinal, names_week, names_year_week}
use Rattle.chrono_pattern.specs.Fields.{fields_given}
use Rattle.chrono_pattern.specs.TimeParts.{names_time}
use Rattle.chrono_pattern.specs.ZonedParts.{names_moment, names_zoned}
use Rattle.chrono_pattern.specs.declared.fields.Fields.{Fields}
use Rattle.chrono_pattern.specs.declared.parsed.Parsed.{Parsed}

pub same_date : (a b : Parsed) → fields_given a ≡ fields_given b → names_date a ≡ names_date b
unfolding names_date names_calendar names_ordinal names_week names_year_week
same_date a b e =
    let year = ap (λ (it : Fields). it.year) e in
    let year_mod_100 = ap (λ (it : Fields). it.year_mod_100) e in
    let month = ap (λ (it : Fields). it.month) e in
    let day = ap (λ (it : Fields). it.day) e in
    let ordinal = ap (λ (it : Fields). it.ordinal) e in
    let isoyear = ap (λ (it : Fields). it.isoyear) e in
    let isoweek = ap (λ (it : Fields). it.isoweek) e in
    let weekday = ap (λ (it : Fields). it.weekday) e in
    let week_from_sun = ap (λ (it : Fields). it.week_from_sun) e in
    let week_from_mon = ap (λ (it : Fields). it.week_from_mon) e in
    cc

pub same_time : (a b : Parsed) → fields_given a ≡ fields_given b → names_time a ≡ names_time b
unfolding names_time
same_time a b e =
    let hour_div_12 = ap (λ (it : Fields). it.hour_div_12) e in
    let hour_mod_12 = ap (λ (it : Fields). it.hour_mod_12) e in
    let minute = ap (λ (it : Fields). it.minute) e in
    let second = ap (λ (it : Fields). it.second) e in
    let nanosecond = ap (λ (it : Fields). it.nanosecond) e in
    cc

pub same_moment : (a b : Parsed) → fields_given a ≡ fields_given b → names_moment a ≡ names_moment b
unfolding names_moment
same_moment a b e =
    ap (λ (f : Fields). if f.timestamp then true else names_date a && names_time a) e
    ∙ ap (λ (c : Bool). if is_present b.timestamp then true else c && names_time a) (same_date a b e)
    ∙ ap (λ (c : Bool). if is_present b.timestamp then true else names_date b && c) (same_time a b e)

pub same_zoned : (a b : Parsed) → fields_given a ≡ fields_given b → names_zoned a ≡ names_zoned b
unfolding names_zoned
same_zoned a b e =
    ap (λ (f : Fields). if f.timestamp then true else names_moment a && f.offset) e
    ∙ ap (λ (c : Bool). if is_present b.timestamp then true else c && is_present b.offset) (same_moment a b e)
