-- The texts of schedules with seconds.
use Rattle.std.specs.Prelude.{◌≡◌, ◌⊎◌, ℕ, List, [], ◌∷◌, length, None, Ok}
use Rattle.chrono_sets.specs.FiniteSets.{numbers}
use Rattle.chrono_cron.specs.FieldTexts.{field_lists}
use Rattle.chrono_cron.specs.ScheduleTexts.{AreListed, IsScheduleText, text_words}
use Rattle.chrono_cron.specs.declared.text.number_names.Names.TheVariants.{Numbers}
use Rattle.timed_cron.specs.QuartzTexts.{quartz_read}
use Rattle.timed_cron.specs.RobfigTexts.{robfig_read}
use Rattle.timed_cron.specs.declared.dialect.Dialect.{Dialect}
use Rattle.timed_cron.specs.declared.dialect.Dialect.TheVariants.{Crontab, Seconds, Quartz, Robfig}
use Rattle.timed_cron.specs.declared.timed_schedule.TimedSchedule.{TimedSchedule}

-- a text of the schedule as crontab(5) has it, which is due at second 0 alone, in each year
pub record IsAtSecondZero (text : List ℕ) (s : TimedSchedule) : Type 0 where
  pub schedule : IsScheduleText text s.schedule.sets
  pub seconds : s.seconds ≡ numbers (0 ∷ [])
  pub years : s.years ≡ None

-- a text of six words: the first lists the seconds as a field of minutes lists minutes, and the others are the five fields.
-- It is due in each year
pub record IsSixFieldText (text : List ℕ) (s : TimedSchedule) : Type 0 where
  pub second : List ℕ
  pub fields : List ℕ
  pub written : text_words text ≡ second ∷ text_words fields
  pub five : length (text_words fields) ≡ 5
  pub seconds : AreListed s.seconds (field_lists Numbers 0 59 second)
  pub schedule : IsScheduleText fields s.schedule.sets
  pub years : s.years ≡ None

-- a text of one word: the nickname of five fields
pub record IsNicknameText (text : List ℕ) (s : TimedSchedule) : Type 0 where
  pub one : length (text_words text) ≡ 1
  pub zero : IsAtSecondZero text s

-- a text of the schedule in a dialect
abbrev pub IsTimedText : Dialect → List ℕ → TimedSchedule → Type 0
IsTimedText Crontab text s = IsAtSecondZero text s
IsTimedText Seconds text s = IsSixFieldText text s ⊎ IsNicknameText text s
IsTimedText Quartz text s = quartz_read text ≡ Ok s
IsTimedText Robfig text s = robfig_read text ≡ Ok s
