use Rattle.std.proofs.Common.{◌≡◌, ◌∙◌, None, ap, subst, sym}
use Rattle.std.proofs.lemmas.Option.{same_Some}
use Rattle.chrono_datetime.specs.Moment.{Moment}
use Rattle.chrono_zoned.specs.Zoned.{ShowsDate}
use Rattle.numbers_c.specs.DateTimes.{numbers_or_none}
use Rattle.zone.specs.Parts.{ZoneParts, zone_offset}
use Rattle.layers_c.specs.Calendars.{IsNextOfText, MeansNoRecurrence}
use Rattle.layers_c.proofs.CalendarLemmas.{carried}
use Rattle.layers_c.proofs.calendar_texts.calendar_text_next.Goals as goal

pub returns-clause-next : goal.returns-clause-next
returns-clause-next c = λ z s held is_start shows some.
    let P : ZoneParts → Moment → Type 0 = λ v m. ShowsDate (zone_offset v) m → (MeansNoRecurrence c.args.text.now v → ⊥) → IsNextOfText c.args.text.now v m c.next_instant.result in
    let start_is : c.in-Some.start ≡ s = same_Some _ _ (sym c.in-Some.is ∙ c.date_time_of.ensures ∙ is_start) in
    (c.next_instant.result, c.numbers_or_none-2.ensures, carried P c.in-Ok.zone z c.in-Some.start s (c.in-Ok.ensures.only z held) start_is c.next_instant.ensures.next shows some)

pub returns-clause-no_text : goal.returns-clause-no_text
returns-clause-no_text c = λ z held none.
    c.numbers_or_none-2.ensures
    ∙ ap numbers_or_none (c.next_instant.ensures.no_text (subst (λ (v : ZoneParts). MeansNoRecurrence c.args.text.now v) (sym (c.in-Ok.ensures.only z held)) none))

pub returns-clause-no_date : goal.returns-clause-no_date
returns-clause-no_date c = λ z s held is_start hides.
    let P : ZoneParts → Moment → Type 0 = λ v m. (ShowsDate (zone_offset v) m → ⊥) → c.next_instant.result ≡ None in
    let start_is : c.in-Some.start ≡ s = same_Some _ _ (sym c.in-Some.is ∙ c.date_time_of.ensures ∙ is_start) in
    c.numbers_or_none-2.ensures ∙ ap numbers_or_none (carried P c.in-Ok.zone z c.in-Some.start s (c.in-Ok.ensures.only z held) start_is c.next_instant.ensures.no_date hides)
