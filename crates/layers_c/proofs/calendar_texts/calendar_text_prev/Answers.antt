use Rattle.std.proofs.Common.{◌≡◌, ◌∙◌, None, ap, subst, sym}
use Rattle.std.proofs.lemmas.Option.{same_Some}
use Rattle.chrono_datetime.specs.Moment.{Moment}
use Rattle.chrono_zoned.specs.Zoned.{ShowsDate}
use Rattle.numbers_c.specs.DateTimes.{numbers_or_none}
use Rattle.zone.specs.Parts.{ZoneParts, zone_offset}
use Rattle.layers_c.specs.Calendars.{IsLastOfText, MeansNoRecurrence}
use Rattle.layers_c.proofs.CalendarLemmas.{carried}
use Rattle.layers_c.proofs.calendar_texts.calendar_text_prev.Goals as goal

pub returns-clause-last : goal.returns-clause-last
returns-clause-last c = λ z s held is_start shows some.
    let P : ZoneParts → Moment → Type 0 = λ v m. ShowsDate (zone_offset v) m → (MeansNoRecurrence c.args.text.now v → ⊥) → IsLastOfText c.args.text.now v m c.last_instant.result in
    let start_is : c.in-Some.start ≡ s = same_Some _ _ (sym c.in-Some.is ∙ c.date_time_of.ensures ∙ is_start) in
    (c.last_instant.result, c.numbers_or_none-2.ensures, carried P c.in-Ok.zone z c.in-Some.start s (c.in-Ok.ensures.only z held) start_is c.last_instant.ensures.last shows some)

pub returns-clause-no_text : goal.returns-clause-no_text
returns-clause-no_text c = λ z held none.
    c.numbers_or_none-2.ensures
    ∙ ap numbers_or_none (c.last_instant.ensures.no_text (subst (λ (v : ZoneParts). MeansNoRecurrence c.args.text.now v) (sym (c.in-Ok.ensures.only z held)) none))

pub returns-clause-no_date : goal.returns-clause-no_date
returns-clause-no_date c = λ z s held is_start hides.
    let P : ZoneParts → Moment → Type 0 = λ v m. (ShowsDate (zone_offset v) m → ⊥) → c.last_instant.result ≡ None in
    let start_is : c.in-Some.start ≡ s = same_Some _ _ (sym c.in-Some.is ∙ c.date_time_of.ensures ∙ is_start) in
    c.numbers_or_none-2.ensures ∙ ap numbers_or_none (carried P c.in-Ok.zone z c.in-Some.start s (c.in-Ok.ensures.only z held) start_is c.last_instant.ensures.no_date hides)
