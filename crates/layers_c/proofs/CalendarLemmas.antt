-- Where the zone of a calendar's text lies makes no difference.
use Rattle.std.proofs.Common.{◌≡◌, ◌≤◌, ℕ, List, [], ◌∷◌, length, map, Option, Some, None, IfSome, refl, sym, subst}
use Rattle.std.specs.Borrow.{Bor}
use Rattle.std.proofs.lemmas.List.{length-map}
use Rattle.chrono_datetime.specs.Moment.{Moment}
use Rattle.chrono_instant.specs.Instants.{epoch_second}
use Rattle.chrono_zoned.specs.Zoned.{Zoned}
use Rattle.zone.specs.Parts.{ZoneParts, zone_offset}
use Rattle.zoned_rules.specs.LocalInstants.{HasDates, IsInstantOf}
use Rattle.zoned_rules.specs.declared.zoned_recurrence.ZonedRecurrence.{ZonedRecurrence}
use Rattle.calendar_text.specs.CalendarTexts.{CalendarParts}
use Rattle.calendar_text.specs.declared.calendar_time.CalendarTime.{CalendarTime}
use Rattle.calendar_text.specs.declared.calendar_time.CalendarTime.TheVariants.{Date, Local, Utc}
use Rattle.calendar_rules.specs.Recurrences.{AreInstantsOf, IsInstantOfTime, MeansRecurrence}
use Rattle.layers_c.specs.Calendars.{MeansNoRecurrence, MeansNone, clock}

-- an instant and a recurrence by another reference to the zone
abbrev moved : Bor ZoneParts → Zoned (Bor ZoneParts) → Zoned (Bor ZoneParts)
moved zone d = record { utc = d.utc; zone = zone }

abbrev moved_list : Bor ZoneParts → Bor (List (Zoned (Bor ZoneParts))) → Bor (List (Zoned (Bor ZoneParts)))
moved_list zone ds = record { ref_ptr = ds.ref_ptr; now = map (moved zone) ds.now }

abbrev moved_set : Bor ZoneParts → ZonedRecurrence (Bor ZoneParts) → ZonedRecurrence (Bor ZoneParts)
moved_set zone s = record {
  rule = record { local = s.rule.local; zone = zone; bound = s.rule.bound };
  dates = moved_list zone s.dates;
  exceptions = moved_list zone s.exceptions;
}

module _ (a b : Bor ZoneParts) (same : a.now ≡ b.now) where
  moved_instant : (t : CalendarTime) (d : Zoned (Bor ZoneParts)) → IsInstantOfTime clock a t d → IsInstantOfTime clock b t (moved b d)
  moved_instant (Date day) d h = h
  moved_instant (Local m) d h = (
    refl,
    subst (λ (z : ZoneParts). IsInstantOf (zone_offset z) (epoch_second m) (epoch_second d.utc)) same h.1,
    subst (λ (z : ZoneParts). HasDates (zone_offset z) (epoch_second d.utc)) same h.2,
  )
  moved_instant (Utc m) d h = (refl, h.1, subst (λ (z : ZoneParts). HasDates (zone_offset z) (epoch_second d.utc)) same h.2)

  moved_instants : (ts : List CalendarTime) (ds : List (Zoned (Bor ZoneParts))) → AreInstantsOf clock a ts ds → AreInstantsOf clock b ts (map (moved b) ds)
  moved_instants [] [] h = tt
  moved_instants [] (d ∷ ds) h = h
  moved_instants (t ∷ ts) [] h = h
  moved_instants (t ∷ ts) (d ∷ ds) h = (moved_instant t d h.0, moved_instants ts ds h.1)

  moved_means : (p : CalendarParts) (s : ZonedRecurrence (Bor ZoneParts)) → MeansRecurrence clock a p s → MeansRecurrence clock b p (moved_set b s)
  moved_means p s h = record {
    start = h.start;
    begins = h.begins;
    rule = h.rule;
    written = h.written;
    days = h.days;
    times = h.times;
    from = h.from;
    steps = h.steps;
    bound = h.bound;
    in_zone = refl;
    dates = moved_instants p.dates s.dates.now h.dates;
    exceptions = moved_instants p.exceptions s.exceptions.now h.exceptions;
  }

-- a text that means no recurrence in a zone by one reference means none by any
pub none_anywhere : (text : List ℕ) (zone : Bor ZoneParts) → MeansNone clock zone text → MeansNoRecurrence text zone.now
unfolding MeansNoRecurrence
none_anywhere text zone none other same s held =
    none (moved_set zone s) (record {
      short = held.short;
      parts = held.parts;
      read = held.read;
      short_rule = held.short_rule;
      means = moved_means other zone same held.parts s held.means;
      few_dates = subst (λ (k : ℕ). k ≤ 256) (sym (length-map s.dates.now (moved zone))) held.few_dates;
      few_exceptions = subst (λ (k : ℕ). k ≤ 256) (sym (length-map s.exceptions.now (moved zone))) held.few_exceptions;
    })

-- and by that one too
pub none_here : (text : List ℕ) (zone : Bor ZoneParts) → MeansNoRecurrence text zone.now → MeansNone clock zone text
unfolding MeansNoRecurrence
none_here text zone none = none zone refl

-- what follows of none, or of one that is not looked at
pub some_weaker : {A : Type 0} (o : Option A) (P Q : Type 0) → (P → Q) → IfSome o (λ _. P) → IfSome o (λ _. Q)
some_weaker None P Q f p = tt
some_weaker (Some x) P Q f p = f p

-- what holds of a zone and a moment holds of the same ones
pub carried : (P : ZoneParts → Moment → Type 0) (y z : ZoneParts) (t s : Moment) → y ≡ z → t ≡ s → P y t → P z s
carried P y z t s zone_is moment_is h = subst (λ (v : ZoneParts). P v s) zone_is (subst (λ (m : Moment). P y m) moment_is h)
