-- Words of functions that are not public.
use Rattle.std.specs.Prelude.{◌≡◌, ◌≢◌, ℕ, ◌-◌, ◌<◌, ◌≤◌, true, false, ◌&&◌, List, [], ◌∷◌, length, take, drop, slice_index, Option, None, Some, IfSome}
use Rattle.chrono_text.specs.Lists.{is_blank}
use Rattle.chrono_datetime.specs.Days.{year_of}
use Rattle.chrono_datetime.specs.Moment.{Moment, IsBefore, IsMoment}
use Rattle.chrono_datetime.specs.PassedOver.{PassedNumbers}
use Rattle.chrono_sets.specs.FiniteSets.{has}
use Rattle.chrono_cron.specs.Due.{is_due}
use Rattle.chrono_cron.specs.FieldTexts.{field_lists}
use Rattle.chrono_cron.specs.PlacedWords.{placed_words}
use Rattle.chrono_cron.specs.ScheduleErrors.{count_fault}
use Rattle.chrono_cron.specs.declared.text.number_names.Names.TheVariants.{Numbers}
use Rattle.chrono_cron.specs.declared.text.schedule_error.ScheduleFault.{ScheduleFault}
use Rattle.timed_cron.specs.DueSeconds.{is_due_at_second}
use Rattle.timed_cron.specs.Years.{has_year}
use Rattle.timed_cron.specs.declared.field_form.FieldForm.{FieldForm}
use Rattle.timed_cron.specs.declared.field_form.Span.{Span}
use Rattle.timed_cron.specs.declared.quartz_reader.Words.{Words}
use Rattle.timed_cron.specs.declared.robfig_reader.FiveWords.{FiveWords}
use Rattle.timed_cron.specs.declared.timed_schedule.TimedSchedule.{TimedSchedule}
use Rattle.timed_cron.specs.declared.words.Ends.{Ends}
use Rattle.timed_cron.specs.declared.year_set.YearSet.{YearSet}

-- the schedule is due at none of the seconds, from one up to before another, of the minute that begins at a moment
abbrev pub NoSecondIn : TimedSchedule → Moment → ℕ → ℕ → Type 0
NoSecondIn s minute from end = PassedNumbers (λ k. is_due s.schedule.sets minute && has s.seconds k) from end

-- whatever the year, the schedule is due at no moment between two, at none after one, and at none before one
abbrev pub IdleBetween : TimedSchedule → Moment → Moment → Type 0
IdleBetween s start end = (m : Moment) → IsMoment m → IsBefore start m → IsBefore m end → is_due_at_second s m ≡ false

abbrev pub IdleAfter : TimedSchedule → Moment → Type 0
IdleAfter s start = (m : Moment) → IsMoment m → IsBefore start m → is_due_at_second s m ≡ false

abbrev pub IdleBefore : TimedSchedule → Moment → Type 0
IdleBefore s end = (m : Moment) → IsMoment m → IsBefore m end → is_due_at_second s m ≡ false

-- the schedule's fields are due at a moment, and its year is one of the set
pub record IsDueIn (s : TimedSchedule) (years : YearSet) (m : Moment) : Type 0 where
  pub fields : is_due_at_second s m ≡ true
  pub year : has_year years (year_of m.date) ≡ true

-- there is no such moment between two, none after one, and none before one
abbrev pub IdleInYearsBetween : TimedSchedule → YearSet → Moment → Moment → Type 0
IdleInYearsBetween s years start end = (m : Moment) → IsMoment m → IsBefore start m → IsBefore m end → IsDueIn s years m → ⊥

abbrev pub IdleInYearsAfter : TimedSchedule → YearSet → Moment → Type 0
IdleInYearsAfter s years start = (m : Moment) → IsMoment m → IsBefore start m → IsDueIn s years m → ⊥

abbrev pub IdleInYearsBefore : TimedSchedule → YearSet → Moment → Type 0
IdleInYearsBefore s years end = (m : Moment) → IsMoment m → IsBefore m end → IsDueIn s years m → ⊥

-- a field has numbers in order, of at most four digits, and places of its own
pub record IsForm (form : FieldForm) : Type 0 where
  pub order : form.low ≤ form.high
  pub small : form.high < 10_000
  pub base : form.base ≤ form.low
  pub digits : form.digits ≤ 4

-- the ends of a span are numbers of the field
pub record AreEndsOf (form : FieldForm) (ends : ℕ × ℕ) : Type 0 where
  pub first : form.low ≤ ends.0
  pub first_end : ends.0 ≤ form.high
  pub last : form.low ≤ ends.1
  pub last_end : ends.1 ≤ form.high

pub record IsSpanOf (form : FieldForm) (s : Span) : Type 0 where
  pub ends : AreEndsOf form (s.first, s.last)
  pub step : 0 < s.step

-- the bytes from one place up to before another are blanks
abbrev pub AreBlank : List ℕ → ℕ → ℕ → Type 0
AreBlank text from end = (k : ℕ) → from ≤ k → k < end → is_blank (slice_index text k) ≡ true

-- and here none is
abbrev pub AreOfWord : List ℕ → ℕ → ℕ → Type 0
AreOfWord text from end = (k : ℕ) → from ≤ k → k < end → is_blank (slice_index text k) ≡ false

-- the first word that begins at a place or after it has these two ends
pub record IsWordAt (text : List ℕ) (from place end : ℕ) : Type 0 where
  pub order : from ≤ place
  pub blanks : AreBlank text from place
  pub some : place < end
  pub word : AreOfWord text place end
  pub within : end ≤ length text
  pub behind : end < length text → is_blank (slice_index text end) ≡ true

-- from a place on there are four words, and the third of them ends at another
pub record HasFourWords (text : List ℕ) (from third : ℕ) : Type 0 where
  pub c : ℕ × List ℕ
  pub d : ℕ × List ℕ
  pub e : ℕ × List ℕ
  pub f : ℕ × List ℕ
  pub all : placed_words from (drop from text) ≡ c ∷ d ∷ e ∷ f ∷ []
  pub front : placed_words from (drop from (take third text)) ≡ c ∷ d ∷ e ∷ []
  pub order : from ≤ third
  pub within : third ≤ length text

-- the bytes of a word with these two ends
abbrev pub bytes_of : List ℕ → ℕ → ℕ → List ℕ
bytes_of text place end = take (end - place) (drop place text)

-- a word lies in the text
abbrev pub IsWordOf : List ℕ → Ends → Type 0
IsWordOf text e = (e.place ≤ e.end) × (e.end ≤ length text)

-- the word with its place
abbrev pub word_of : List ℕ → Ends → ℕ × List ℕ
word_of text e = (e.place, bytes_of text e.place e.end)

abbrev pub year_word_of : List ℕ → Option Ends → Option (ℕ × List ℕ)
year_word_of text None = None
year_word_of text (Some e) = Some (word_of text e)

-- the word of the years, if there is one, as a list
abbrev pub year_words : Option (ℕ × List ℕ) → List (ℕ × List ℕ)
year_words None = []
year_words (Some word) = word ∷ []

-- the text has these words, and no others
pub record AreQuartzWords (text : List ℕ) (w : Words) : Type 0 where
  pub words : placed_words 0 text ≡ word_of text w.second ∷ word_of text w.minute ∷ word_of text w.hour ∷ word_of text w.day ∷ word_of text w.month ∷ word_of text w.weekday
      ∷ year_words (year_word_of text w.year)
  pub second : IsWordOf text w.second
  pub minute : IsWordOf text w.minute
  pub hour : IsWordOf text w.hour
  pub day : IsWordOf text w.day
  pub month : IsWordOf text w.month
  pub weekday : IsWordOf text w.weekday
  pub year : IfSome w.year (IsWordOf text)

-- the text has these five words, and no others
pub record AreFiveWords (text : List ℕ) (w : FiveWords) : Type 0 where
  pub words : placed_words 0 text ≡ word_of text w.minute ∷ word_of text w.hour ∷ word_of text w.day ∷ word_of text w.month ∷ word_of text w.weekday ∷ []
  pub minute : IsWordOf text w.minute
  pub hour : IsWordOf text w.hour
  pub day : IsWordOf text w.day
  pub month : IsWordOf text w.month
  pub weekday : IsWordOf text w.weekday

-- the text has other words than five, and this is wrong with their number
pub record IsOtherCount (text : List ℕ) (count : ℕ × ScheduleFault) : Type 0 where
  pub told : count ≡ count_fault (length text) (placed_words 0 text)
  pub others : (a b c d e : ℕ × List ℕ) → placed_words 0 text ≢ a ∷ b ∷ c ∷ d ∷ e ∷ []

-- the text has one word, with these two ends
pub record IsOnlyWord (text : List ℕ) (word : Ends) : Type 0 where
  pub words : placed_words 0 text ≡ word_of text word ∷ []
  pub within : IsWordOf text word

-- the text has five words, of which the first is no field of minutes
pub record IsUnreadFirst (text : List ℕ) : Type 0 where
  pub a : ℕ × List ℕ
  pub b : ℕ × List ℕ
  pub c : ℕ × List ℕ
  pub d : ℕ × List ℕ
  pub e : ℕ × List ℕ
  pub words : placed_words 0 text ≡ a ∷ b ∷ c ∷ d ∷ e ∷ []
  pub unread : (k : ℕ) → field_lists Numbers 0 59 a.1 k ≡ None
