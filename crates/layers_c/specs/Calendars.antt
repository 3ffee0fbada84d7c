-- What the text of a calendar means in a zone, its next and its last instant, and lists of instants.
use Rattle.std.specs.Prelude.{◌≡◌, ◌≤◌, ◌<◌, ◌-◌, ◌↔◌, nat_le, if◌then◌else◌, ℕ, zero, suc, Bool, true, false, IsTrue, List, [], ◌∷◌, length, map, codes, ℤ, Option, Some, IfSome, IfNone}
use Rattle.std.specs.Borrow.{Bor}
use Rattle.chrono_datetime.specs.Moment.{IsBefore, Moment}
use Rattle.chrono_zoned.specs.HeldSeconds.{HoldsAt, HoldsNotAfter, HoldsNotBefore, HoldsNotBetween}
use Rattle.numbers_c.specs.DateTimes.{numbers_for_c}
use Rattle.numbers_c.specs.declared.date_time_numbers.CalendarDateTime.{CalendarDateTime}
use Rattle.zone.specs.Parts.{ZoneParts, zone_offset}
use Rattle.zoned_rules.specs.ZonedMemberLists.{HasSecond}
use Rattle.zoned_rules.specs.declared.zoned_recurrence.ZonedRecurrence.{ZonedRecurrence}
use Rattle.calendar_text.specs.CalendarTexts.{CalendarParts, IsCalendarError, IsCalendarText}
use Rattle.calendar_text.specs.declared.calendar_error.CalendarTextFault.{CalendarTextFault}
use Rattle.calendar_text.specs.declared.calendar_error.CalendarTextFault.TheVariants.{NoColon, UnknownProperty, PropertyTwice, NoStart, UnknownParameter, ParameterTwice, NotAZoneName, UnknownValueType, ZoneOfDate, NotATime, OtherKind, OtherZone, NotARule}
use Rattle.calendar_rules.specs.Private.{IsShorter}
use Rattle.calendar_rules.specs.Recurrences.{MeansRecurrence}
use Rattle.calendar_rules.specs.declared.clock_part.ClockPart.TheVariants.{ByHour, ByMinute, BySecond}
use Rattle.calendar_rules.specs.declared.recurrence_error.CalendarRuleError.{CalendarRuleError}
use Rattle.calendar_rules.specs.declared.recurrence_error.CalendarRuleError.TheVariants.{NotLocal, Rule, NoInstant, TooManyTimes}
use Rattle.calendar_rules.specs.declared.timed_error.TimedRuleError.TheVariants.{Frequency, Part, Days, Until, NotTogether}
use Rattle.layers_c.specs.Faults.{numbered}
use Rattle.layers_c.specs.declared.faults.CalendarFault.{CalendarFault}
use Rattle.layers_c.specs.Schedules.{is_up_to}
use Rattle.layers_c.specs.declared.calendar_recurrences.NoRecurrence.{NoRecurrence}
use Rattle.layers_c.specs.declared.calendar_recurrences.NoRecurrence.TheVariants.{TooLong, Text, LongRule, Meaning}

-- how far the clock of a zone is ahead of UTC, by a reference to its parts
abbrev pub clock : Bor ZoneParts → ℤ → ℤ
clock zone = zone_offset zone.now

module _ {Z : Type 0} (ahead : Z → ℤ → ℤ) where
  -- what is found after a moment of UTC: the first instant of a recurrence, and none if there is none
  pub record IsNextInstant (s : ZonedRecurrence Z) (start : Moment) (found : Option Moment) : Type 0 where
    pub member : IfSome found (HoldsAt (HasSecond ahead s))
    pub later : IfSome found (λ m. IsBefore start m)
    pub least : IfSome found (λ m. HoldsNotBetween (HasSecond ahead s) start m)
    pub none : IfNone found (HoldsNotAfter (HasSecond ahead s) start)

  -- what is found before a moment of UTC: the last instant, and none if there is none
  pub record IsLastInstant (s : ZonedRecurrence Z) (start : Moment) (found : Option Moment) : Type 0 where
    pub member : IfSome found (HoldsAt (HasSecond ahead s))
    pub earlier : IfSome found (λ m. IsBefore m start)
    pub greatest : IfSome found (λ m. HoldsNotBetween (HasSecond ahead s) m start)
    pub none : IfNone found (HoldsNotBefore (HasSecond ahead s) start)

  -- the instants of a recurrence after one moment and up to another, for which there is room: each is the first after the one before it
  abbrev pub AreInstantsUpTo : ZonedRecurrence Z → Moment → Moment → ℕ → List Moment → Type 0
  AreInstantsUpTo s start until zero ms = ms ≡ []
  AreInstantsUpTo s start until (suc room) [] = (found : Option Moment) × IsNextInstant s start found × IfSome found (λ m. is_up_to until m ≡ false)
  AreInstantsUpTo s start until (suc room) (m ∷ ms) = IsNextInstant s start (Some m) × (is_up_to until m ≡ true) × AreInstantsUpTo s m until room ms

  module _ (zone : Z) (text : List ℕ) where
    -- The text means the recurrence in the zone. It has at most 8,192 bytes, its rule fewer than 1,024, and each of its lists at most 256 times
    pub record IsMeant (s : ZonedRecurrence Z) : Type 0 where
      pub short : length text ≤ 8_192
      pub parts : CalendarParts
      pub read : IsCalendarText text parts
      pub short_rule : IsShorter parts.rule 1_024
      pub means : MeansRecurrence ahead zone parts s
      pub few_dates : length s.dates.now ≤ 256
      pub few_exceptions : length s.exceptions.now ≤ 256

    -- it means none
    abbrev pub MeansNone : Type 0
    MeansNone = (s : ZonedRecurrence Z) → ¬ IsMeant s

    -- what the recurrence has that it means: after a moment, before one, at one, and after one and up to another
    pub record IsNextMeant (start : Moment) (found : Option Moment) : Type 0 where
      pub set : ZonedRecurrence Z
      pub meant : IsMeant set
      pub next : IsNextInstant set start found

    pub record IsLastMeant (start : Moment) (found : Option Moment) : Type 0 where
      pub set : ZonedRecurrence Z
      pub meant : IsMeant set
      pub last : IsLastInstant set start found

    pub record IsAnswerMeant (m : Moment) (answer : Bool) : Type 0 where
      pub set : ZonedRecurrence Z
      pub meant : IsMeant set
      pub is : IsTrue answer ↔ HoldsAt (HasSecond ahead set) m

    pub record AreMeant (start until : Moment) (room : ℕ) (numbers : List CalendarDateTime) : Type 0 where
      pub set : ZonedRecurrence Z
      pub meant : IsMeant set
      pub moments : List Moment
      pub numbers_are : numbers ≡ map numbers_for_c moments
      pub listed : AreInstantsUpTo set start until room moments

-- The same in a zone by its parts. A recurrence has its zone by a reference, and where that lies makes no difference
module _ (text : List ℕ) (z : ZoneParts) where
  unfoldable pub MeansNoRecurrence : Type 0
  MeansNoRecurrence = (zone : Bor ZoneParts) → zone.now ≡ z → MeansNone clock zone text

  pub record IsNextOfText (start : Moment) (found : Option Moment) : Type 0 where
    pub zone : Bor ZoneParts
    pub zone_is : zone.now ≡ z
    pub next : IsNextMeant clock zone text start found

  pub record IsLastOfText (start : Moment) (found : Option Moment) : Type 0 where
    pub zone : Bor ZoneParts
    pub zone_is : zone.now ≡ z
    pub last : IsLastMeant clock zone text start found

  pub record IsAnswerOfText (m : Moment) (answer : Bool) : Type 0 where
    pub zone : Bor ZoneParts
    pub zone_is : zone.now ≡ z
    pub answers : IsAnswerMeant clock zone text m answer

  pub record AreListedOfText (start until : Moment) (room : ℕ) (numbers : List CalendarDateTime) : Type 0 where
    pub zone : Bor ZoneParts
    pub zone_is : zone.now ≡ z
    pub listed : AreMeant clock zone text start until room numbers

-- why a text means none
abbrev pub IsNoRecurrenceReason : List ℕ → NoRecurrence → Type 0
IsNoRecurrenceReason text TooLong = 8_192 < length text
IsNoRecurrenceReason text (Text e) = IsCalendarError text e
IsNoRecurrenceReason text LongRule = (p : CalendarParts) × IsCalendarText text p × ¬ IsShorter p.rule 1_024
IsNoRecurrenceReason text (Meaning e) = (p : CalendarParts) × IsCalendarText text p

-- what can be wrong with a text of a calendar, numbered from 1
abbrev pub calendar_faults : List CalendarTextFault
calendar_faults =
    NoColon ∷ UnknownProperty ∷ PropertyTwice ∷ NoStart ∷ UnknownParameter ∷ ParameterTwice ∷ NotAZoneName ∷ UnknownValueType ∷ ZoneOfDate ∷ NotATime
    ∷ OtherKind ∷ OtherZone ∷ NotARule ∷ []

-- why a text of a calendar has no instants, numbered from 16
abbrev pub meaning_number : CalendarRuleError → ℕ
meaning_number NotLocal = 16
meaning_number (Rule Frequency) = 17
meaning_number (Rule (Part ByHour)) = 18
meaning_number (Rule (Part ByMinute)) = 19
meaning_number (Rule (Part BySecond)) = 20
meaning_number (Rule (Days e)) = 21
meaning_number (Rule Until) = 22
meaning_number (Rule NotTogether) = 23
meaning_number NoInstant = 24
meaning_number TooManyTimes = 25

-- the numbers of a fault say the reason
abbrev pub IsNumberedReason : NoRecurrence → CalendarFault → Type 0
IsNumberedReason (Text e) a = (numbered calendar_faults a.code ≡ Some e.fault) × (a.byte ≡ e.byte)
IsNumberedReason TooLong a = (a.code ≡ 14) × (a.byte ≡ 0)
IsNumberedReason LongRule a = (a.code ≡ 15) × (a.byte ≡ 0)
IsNumberedReason (Meaning e) a = (a.code ≡ meaning_number e) × (a.byte ≡ 0)

-- what a fault says of a text that is none of a calendar, numbered from 1
abbrev pub text_fault_texts : List (List ℕ)
text_fault_texts =
    codes "the line has no colon"
    ∷ codes "none of DTSTART, RRULE, RDATE and EXDATE"
    ∷ codes "a second DTSTART or RRULE"
    ∷ codes "DTSTART is missing"
    ∷ codes "the parameter is neither TZID nor VALUE"
    ∷ codes "the parameter stands twice"
    ∷ codes "no name of a zone"
    ∷ codes "neither DATE nor DATE-TIME"
    ∷ codes "TZID does not go with VALUE=DATE"
    ∷ codes "no date and no date-time as 20240131T090000"
    ∷ codes "a time of another kind than the line says"
    ∷ codes "a local time in another zone than DTSTART"
    ∷ codes "no rule" ∷ []

-- and of one that means no recurrence, numbered from 14
abbrev pub meaning_fault_texts : List (List ℕ)
meaning_fault_texts =
    codes "more than 8192 bytes"
    ∷ codes "the rule has 1024 bytes or more"
    ∷ codes "DTSTART is no local time"
    ∷ codes "FREQ is missing or stands twice"
    ∷ codes "BYHOUR stands twice or lists no hours"
    ∷ codes "BYMINUTE stands twice or lists no minutes"
    ∷ codes "BYSECOND stands twice or lists no seconds"
    ∷ codes "the parts of days are no rule"
    ∷ codes "UNTIL is no time in UTC, or stands beside COUNT"
    ∷ codes "parts of the rule do not go together"
    ∷ codes "a time of RDATE or EXDATE is no instant"
    ∷ codes "more than 256 times in RDATE or EXDATE"
    ∷ codes "the bytes hold no zone" ∷ []

-- what a fault of a calendar's text says, if there is such a fault
abbrev pub calendar_fault_line : ℕ → Option (List ℕ)
calendar_fault_line code = if nat_le code 13 then numbered text_fault_texts code else numbered meaning_fault_texts (code - 13)
