use Rattle.std.proofs.Common.{◌≡◌, ◌∙◌, length, take, subst, sym}
use Rattle.std.proofs.lemmas.Option.{same_Some}
use Rattle.chrono_datetime.specs.Moment.{Moment}
use Rattle.chrono_zoned.specs.Zoned.{ShowsDate}
use Rattle.zone.specs.Parts.{ZoneParts, zone_offset}
use Rattle.layers_c.specs.Calendars.{AreListedOfText, MeansNoRecurrence}
use Rattle.layers_c.proofs.CalendarLemmas.{carried}
use Rattle.layers_c.proofs.calendar_texts.calendar_text_instances.Goals as goal

pub returns-clause-instants : goal.returns-clause-instants
returns-clause-instants c = λ z s u held is_start is_until shows some.
    let numbers = take c.write_instants.result c.write_instants.new.out in
    let P : ZoneParts → Moment → Type 0 = λ v m.
    ShowsDate (zone_offset v) m → (MeansNoRecurrence c.args.text.now v → ⊥) → AreListedOfText c.args.text.now v m u (length c.args.out.now) numbers in
    let start_is : c.in-Some.start ≡ s = same_Some _ _ (sym c.in-Some.is ∙ c.date_time_of.ensures ∙ is_start) in
    let until_is : c.in-Some-date_time_of.until ≡ u = same_Some _ _ (sym c.in-Some-date_time_of.is ∙ c.date_time_of-2.ensures ∙ is_until) in
    carried P c.in-Ok.zone z c.in-Some.start s (c.in-Ok.ensures.only z held) start_is
    (λ there some. subst (λ (m : Moment). AreListedOfText c.args.text.now c.in-Ok.zone c.in-Some.start m (length c.args.out.now) numbers) until_is (c.write_instants.ensures.instants there some))
    shows some

pub returns-clause-no_text : goal.returns-clause-no_text
returns-clause-no_text c = λ z held none.
    c.write_instants.ensures.no_text (subst (λ (v : ZoneParts). MeansNoRecurrence c.args.text.now v) (sym (c.in-Ok.ensures.only z held)) none)

pub returns-clause-no_date : goal.returns-clause-no_date
returns-clause-no_date c = λ z s held is_start hides.
    let P : ZoneParts → Moment → Type 0 = λ v m. (ShowsDate (zone_offset v) m → ⊥) → c.write_instants.result ≡ 0 in
    let start_is : c.in-Some.start ≡ s = same_Some _ _ (sym c.in-Some.is ∙ c.date_time_of.ensures ∙ is_start) in
    carried P c.in-Ok.zone z c.in-Some.start s (c.in-Ok.ensures.only z held) start_is c.write_instants.ensures.no_date hides
