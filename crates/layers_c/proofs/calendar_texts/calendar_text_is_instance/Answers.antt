use Rattle.std.proofs.Common.{◌≡◌, ◌∙◌, false, subst, sym}
use Rattle.std.proofs.lemmas.Option.{same_Some}
use Rattle.chrono_datetime.specs.Moment.{Moment}
use Rattle.chrono_zoned.specs.Zoned.{ShowsDate}
use Rattle.zone.specs.Parts.{ZoneParts, zone_offset}
use Rattle.layers_c.specs.Calendars.{IsAnswerOfText, MeansNoRecurrence}
use Rattle.layers_c.proofs.CalendarLemmas.{carried}
use Rattle.layers_c.proofs.calendar_texts.calendar_text_is_instance.Goals as goal

pub returns-in-Some-clause-instance : goal.returns-in-Some-clause-instance
returns-in-Some-clause-instance c = λ z m held is_moment shows some.
    let P : ZoneParts → Moment → Type 0 = λ v t.
    ShowsDate (zone_offset v) t → (MeansNoRecurrence c.args.text.now v → ⊥) → IsAnswerOfText c.args.text.now v t c.has_instant.result in
    let moment_is : c.in-Some.moment ≡ m = same_Some _ _ (sym c.in-Some.is ∙ c.date_time_of.ensures ∙ is_moment) in
    carried P c.in-Ok.zone z c.in-Some.moment m (c.in-Ok.ensures.only z held) moment_is c.has_instant.ensures.instance shows some

pub returns-in-Some-clause-no_text : goal.returns-in-Some-clause-no_text
returns-in-Some-clause-no_text c = λ z held none.
    c.has_instant.ensures.no_text (subst (λ (v : ZoneParts). MeansNoRecurrence c.args.text.now v) (sym (c.in-Ok.ensures.only z held)) none)

pub returns-in-Some-clause-no_date : goal.returns-in-Some-clause-no_date
returns-in-Some-clause-no_date c = λ z m held is_moment hides.
    let P : ZoneParts → Moment → Type 0 = λ v t. (ShowsDate (zone_offset v) t → ⊥) → c.has_instant.result ≡ false in
    let moment_is : c.in-Some.moment ≡ m = same_Some _ _ (sym c.in-Some.is ∙ c.date_time_of.ensures ∙ is_moment) in
    carried P c.in-Ok.zone z c.in-Some.moment m (c.in-Ok.ensures.only z held) moment_is c.has_instant.ensures.no_date hides
