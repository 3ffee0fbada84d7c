-- A pattern that needs no time of day writes the same at each time of a day. One that needs no date writes the same on each date.
use Rattle.std.proofs.Common.{◌≡◌, ℕ, ℤ, false, List, [], ◌∷◌, ◌++◌, Option, None, Some, refl, ap, sym, ◌∙◌}
use Rattle.std.proofs.lemmas.Bool.{or_parts, true≢false}
use Rattle.chrono_datetime.specs.Moment.{moment}
use Rattle.chrono_datetime.specs.Time.{TimeOfDay}
use Rattle.chrono_pattern.specs.Groups.{group_text}
use Rattle.chrono_pattern.specs.Needs.{group_needs_date, group_needs_time, has_item_of, item_needs_date, item_needs_time, number_needs_date, number_needs_time, word_needs_date, word_needs_time, zoned_needs_time}
use Rattle.chrono_pattern.specs.Numbers.{field_text}
use Rattle.chrono_pattern.specs.Patterns.{text_of_item, text_from}
use Rattle.chrono_pattern.specs.PatternSteps.{pattern_step}
use Rattle.chrono_pattern.specs.Words.{word_text}
use Rattle.chrono_pattern.specs.ZonedPieces.{zoned_piece}
use Rattle.chrono_pattern.specs.declared.item.Padding.{Padding}
use Rattle.chrono_pattern.specs.declared.item.NumberField.{NumberField}
use Rattle.chrono_pattern.specs.declared.item.NumberField.TheVariants.{Year, Century, YearOfCentury, Quarter, Month, Day, SpacedDay, DayOfYear, FromMonday, FromSunday, IsoYear, IsoYearOfCentury, IsoWeek, WeekFromSunday, WeekFromMonday, Hour, SpacedHour, HalfHour, SpacedHalfHour, Minute, Second, Nanosecond}
use Rattle.chrono_pattern.specs.declared.item.WordField.{WordField}
use Rattle.chrono_pattern.specs.declared.item.WordField.TheVariants.{MonthName, MonthLetters, WeekdayName, WeekdayLetters, Half, SmallHalf}
use Rattle.chrono_pattern.specs.declared.item.GroupField.{GroupField}
use Rattle.chrono_pattern.specs.declared.item.GroupField.TheVariants.{YearMonthDay, MonthDayYear, HourMinute, HourMinuteSecond, HalfClock, DayMonthYear, DateAndTime}
use Rattle.chrono_pattern.specs.declared.item.ZonedField.{ZonedField}
use Rattle.chrono_pattern.specs.declared.item.ZonedField.TheVariants.{Offset, ZoneName, Stamp, Iso8601}
use Rattle.chrono_pattern.specs.declared.item.Item.{Item}
use Rattle.chrono_pattern.specs.declared.item.Item.TheVariants.{Empty, Byte, Number, Word, Group, Subsecond, Zoned}
use Rattle.chrono_pattern.specs.declared.item.State.{State}
use Rattle.chrono_pattern.specs.declared.needs.Sort.TheVariants.{OfDate, OfTime}
use Rattle.chrono_pattern.proofs.PatternLemmas.{has_item_of-more, text_from-more, text_from-none, text_from-nothing}

-- ---- an item

number_timeless : (f : NumberField) (p : Padding) (n : ℤ) (t u : TimeOfDay) → number_needs_time f ≡ false
    → field_text f p (moment n t) ≡ field_text f p (moment n u)
unfolding field_text
number_timeless Year p n t u not = refl
number_timeless Century p n t u not = refl
number_timeless YearOfCentury p n t u not = refl
number_timeless Quarter p n t u not = refl
number_timeless Month p n t u not = refl
number_timeless Day p n t u not = refl
number_timeless SpacedDay p n t u not = refl
number_timeless DayOfYear p n t u not = refl
number_timeless FromMonday p n t u not = refl
number_timeless FromSunday p n t u not = refl
number_timeless IsoYear p n t u not = refl
number_timeless IsoYearOfCentury p n t u not = refl
number_timeless IsoWeek p n t u not = refl
number_timeless WeekFromSunday p n t u not = refl
number_timeless WeekFromMonday p n t u not = refl
number_timeless Hour p n t u not = absurd (true≢false not)
number_timeless SpacedHour p n t u not = absurd (true≢false not)
number_timeless HalfHour p n t u not = absurd (true≢false not)
number_timeless SpacedHalfHour p n t u not = absurd (true≢false not)
number_timeless Minute p n t u not = absurd (true≢false not)
number_timeless Second p n t u not = absurd (true≢false not)
number_timeless Nanosecond p n t u not = absurd (true≢false not)

word_timeless : (w : WordField) (n : ℤ) (t u : TimeOfDay) → word_needs_time w ≡ false → word_text w (moment n t) ≡ word_text w (moment n u)
unfolding word_text
word_timeless MonthName n t u not = refl
word_timeless MonthLetters n t u not = refl
word_timeless WeekdayName n t u not = refl
word_timeless WeekdayLetters n t u not = refl
word_timeless Half n t u not = absurd (true≢false not)
word_timeless SmallHalf n t u not = absurd (true≢false not)

group_timeless : (g : GroupField) (n : ℤ) (t u : TimeOfDay) → group_needs_time g ≡ false → group_text g (moment n t) ≡ group_text g (moment n u)
unfolding group_text field_text word_text
group_timeless YearMonthDay n t u not = refl
group_timeless MonthDayYear n t u not = refl
group_timeless HourMinute n t u not = absurd (true≢false not)
group_timeless HourMinuteSecond n t u not = absurd (true≢false not)
group_timeless HalfClock n t u not = absurd (true≢false not)
group_timeless DayMonthYear n t u not = refl
group_timeless DateAndTime n t u not = absurd (true≢false not)

zoned_timeless : (field : ZonedField) (n : ℤ) (t u : TimeOfDay) (x : ℤ) → zoned_needs_time field ≡ false
    → zoned_piece field (moment n t) x ≡ zoned_piece field (moment n u) x
zoned_timeless (Offset form) n t u x not = refl
zoned_timeless ZoneName n t u x not = refl
zoned_timeless Stamp n t u x not = absurd (true≢false not)
zoned_timeless Iso8601 n t u x not = absurd (true≢false not)

item_timeless : (i : Item) (n : ℤ) (t u : TimeOfDay) (x : ℤ) → item_needs_time i ≡ false → text_of_item i (moment n t) x ≡ text_of_item i (moment n u) x
item_timeless Empty n t u x not = refl
item_timeless (Byte c) n t u x not = refl
item_timeless (Number f p) n t u x not = number_timeless f p n t u not
item_timeless (Word w) n t u x not = word_timeless w n t u not
item_timeless (Group g) n t u x not = group_timeless g n t u not
item_timeless (Subsecond point count) n t u x not = absurd (true≢false not)
item_timeless (Zoned field) n t u x not = zoned_timeless field n t u x not

-- ---- a pattern

-- the bytes behind one are timeless from each state
abbrev IsTimeless : List ℕ → ℤ → TimeOfDay → TimeOfDay → ℤ → Type 0
IsTimeless bytes n t u x = (s : State) → has_item_of OfTime s bytes ≡ false → text_from s bytes (moment n t) x ≡ text_from s bytes (moment n u) x

step_timeless : (s : State) (c : ℕ) (bytes : List ℕ) (n : ℤ) (t u : TimeOfDay) (x : ℤ) (o : Option (State × Item)) → pattern_step s c ≡ o
    → IsTimeless bytes n t u x → has_item_of OfTime s (c ∷ bytes) ≡ false
    → text_from s (c ∷ bytes) (moment n t) x ≡ text_from s (c ∷ bytes) (moment n u) x
step_timeless s c bytes n t u x None e rest not = text_from-none s c bytes (moment n t) x e ∙ sym (text_from-none s c bytes (moment n u) x e)
step_timeless s c bytes n t u x (Some next) e rest not =
    let both = or_parts (item_needs_time next.1) (has_item_of OfTime next.0 bytes) (sym (has_item_of-more OfTime s c bytes next e) ∙ not) in
    text_from-more s c bytes (moment n t) x next e
    ∙ ap (λ (l : List ℕ). l ++ text_from next.0 bytes (moment n t) x) (item_timeless next.1 n t u x both.0)
    ∙ ap (λ (l : List ℕ). text_of_item next.1 (moment n u) x ++ l) (rest next.0 both.1)
    ∙ sym (text_from-more s c bytes (moment n u) x next e)

pub timeless : (bytes : List ℕ) (n : ℤ) (t u : TimeOfDay) (x : ℤ) → IsTimeless bytes n t u x
timeless [] n t u x s not = text_from-nothing s (moment n t) x ∙ sym (text_from-nothing s (moment n u) x)
timeless (c ∷ bytes) n t u x s not = step_timeless s c bytes n t u x (pattern_step s c) refl (timeless bytes n t u x) not

-- ---- a pattern that needs no date

number_dateless : (f : NumberField) (p : Padding) (n k : ℤ) (t : TimeOfDay) → number_needs_date f ≡ false
    → field_text f p (moment n t) ≡ field_text f p (moment k t)
unfolding field_text
number_dateless Year p n k t not = absurd (true≢false not)
number_dateless Century p n k t not = absurd (true≢false not)
number_dateless YearOfCentury p n k t not = absurd (true≢false not)
number_dateless Quarter p n k t not = absurd (true≢false not)
number_dateless Month p n k t not = absurd (true≢false not)
number_dateless Day p n k t not = absurd (true≢false not)
number_dateless SpacedDay p n k t not = absurd (true≢false not)
number_dateless DayOfYear p n k t not = absurd (true≢false not)
number_dateless FromMonday p n k t not = absurd (true≢false not)
number_dateless FromSunday p n k t not = absurd (true≢false not)
number_dateless IsoYear p n k t not = absurd (true≢false not)
number_dateless IsoYearOfCentury p n k t not = absurd (true≢false not)
number_dateless IsoWeek p n k t not = absurd (true≢false not)
number_dateless WeekFromSunday p n k t not = absurd (true≢false not)
number_dateless WeekFromMonday p n k t not = absurd (true≢false not)
number_dateless Hour p n k t not = refl
number_dateless SpacedHour p n k t not = refl
number_dateless HalfHour p n k t not = refl
number_dateless SpacedHalfHour p n k t not = refl
number_dateless Minute p n k t not = refl
number_dateless Second p n k t not = refl
number_dateless Nanosecond p n k t not = refl

word_dateless : (w : WordField) (n k : ℤ) (t : TimeOfDay) → word_needs_date w ≡ false → word_text w (moment n t) ≡ word_text w (moment k t)
unfolding word_text
word_dateless MonthName n k t not = absurd (true≢false not)
word_dateless MonthLetters n k t not = absurd (true≢false not)
word_dateless WeekdayName n k t not = absurd (true≢false not)
word_dateless WeekdayLetters n k t not = absurd (true≢false not)
word_dateless Half n k t not = refl
word_dateless SmallHalf n k t not = refl

group_dateless : (g : GroupField) (n k : ℤ) (t : TimeOfDay) → group_needs_date g ≡ false → group_text g (moment n t) ≡ group_text g (moment k t)
unfolding group_text field_text word_text
group_dateless YearMonthDay n k t not = absurd (true≢false not)
group_dateless MonthDayYear n k t not = absurd (true≢false not)
group_dateless HourMinute n k t not = refl
group_dateless HourMinuteSecond n k t not = refl
group_dateless HalfClock n k t not = refl
group_dateless DayMonthYear n k t not = absurd (true≢false not)
group_dateless DateAndTime n k t not = absurd (true≢false not)

zoned_dateless : (field : ZonedField) (n k : ℤ) (t : TimeOfDay) (x : ℤ) → zoned_needs_time field ≡ false
    → zoned_piece field (moment n t) x ≡ zoned_piece field (moment k t) x
zoned_dateless (Offset form) n k t x not = refl
zoned_dateless ZoneName n k t x not = refl
zoned_dateless Stamp n k t x not = absurd (true≢false not)
zoned_dateless Iso8601 n k t x not = absurd (true≢false not)

item_dateless : (i : Item) (n k : ℤ) (t : TimeOfDay) (x : ℤ) → item_needs_date i ≡ false → text_of_item i (moment n t) x ≡ text_of_item i (moment k t) x
item_dateless Empty n k t x not = refl
item_dateless (Byte c) n k t x not = refl
item_dateless (Number f p) n k t x not = number_dateless f p n k t not
item_dateless (Word w) n k t x not = word_dateless w n k t not
item_dateless (Group g) n k t x not = group_dateless g n k t not
item_dateless (Subsecond point count) n k t x not = refl
item_dateless (Zoned field) n k t x not = zoned_dateless field n k t x not

-- the bytes behind one are dateless from each state
abbrev IsDateless : List ℕ → ℤ → ℤ → TimeOfDay → ℤ → Type 0
IsDateless bytes n k t x = (s : State) → has_item_of OfDate s bytes ≡ false → text_from s bytes (moment n t) x ≡ text_from s bytes (moment k t) x

step_dateless : (s : State) (c : ℕ) (bytes : List ℕ) (n k : ℤ) (t : TimeOfDay) (x : ℤ) (o : Option (State × Item)) → pattern_step s c ≡ o
    → IsDateless bytes n k t x → has_item_of OfDate s (c ∷ bytes) ≡ false
    → text_from s (c ∷ bytes) (moment n t) x ≡ text_from s (c ∷ bytes) (moment k t) x
step_dateless s c bytes n k t x None e rest not = text_from-none s c bytes (moment n t) x e ∙ sym (text_from-none s c bytes (moment k t) x e)
step_dateless s c bytes n k t x (Some next) e rest not =
    let both = or_parts (item_needs_date next.1) (has_item_of OfDate next.0 bytes) (sym (has_item_of-more OfDate s c bytes next e) ∙ not) in
    text_from-more s c bytes (moment n t) x next e
    ∙ ap (λ (l : List ℕ). l ++ text_from next.0 bytes (moment n t) x) (item_dateless next.1 n k t x both.0)
    ∙ ap (λ (l : List ℕ). text_of_item next.1 (moment k t) x ++ l) (rest next.0 both.1)
    ∙ sym (text_from-more s c bytes (moment k t) x next e)

pub dateless : (bytes : List ℕ) (n k : ℤ) (t : TimeOfDay) (x : ℤ) → IsDateless bytes n k t x
dateless [] n k t x s not = text_from-nothing s (moment n t) x ∙ sym (text_from-nothing s (moment k t) x)
dateless (c ∷ bytes) n k t x s not = step_dateless s c bytes n k t x (pattern_step s c) refl (dateless bytes n k t x) not
