-- Every byte of an error's line is ASCII.
use Rattle.std.proofs.Common.{◌≡◌, ℕ, Bool, true, List, [], ◌∷◌, Option, Some, None, nat_lt, refl}
use Rattle.std.specs.Prelude.{codes}
use Rattle.std.specs.List.{list_all}
use Rattle.std.specs.Str.{IsAscii}
use Rattle.std.proofs.lemmas.Bool.{and_parts, ltb-true}
use Rattle.std.proofs.lemmas.Str.{IsAscii-append}
use Rattle.std.proofs.lemmas.Str.Ascii.{IsAscii-nil, IsAscii-cons}
use Rattle.chrono_rules.specs.declared.text.rule_error.RuleError.{RuleError}
use Rattle.chrono_rules.specs.declared.text.rule_error.RuleFault.{RuleFault}
use Rattle.chrono_rules.specs.declared.text.rule_error.RuleFault.TheVariants.{Alone, BesideCount, Blank, Empty, Extension, Missing, NotADate, NotAFrequency, NotANumber, NotAWeekday, NotWith, NumbersBesideWeeks, NumbersNotWith, OfCalendars, OfHours, OfMinutes, OfSeconds, OfSkips, OutOfRange, Range, Twice, Unknown, WithTime}
use Rattle.chrono_rules.specs.declared.text.rule_error.RulePart.{RulePart}
use Rattle.chrono_rules.specs.declared.text.rule_error.RulePart.TheVariants.{ByDay, ByMonth, ByMonthDay, BySetPos, ByWeekNo, ByYearDay, Count, Freq, Interval, Until, Wkst}
use Rattle.chrono_rules.specs.declared.rule.Frequency.{Frequency}
use Rattle.chrono_rules.specs.declared.rule.Frequency.TheVariants.{Daily, Monthly, Weekly, Yearly}
use Rattle.chrono_rules.specs.RuleErrors.{fault_frequency, fault_words, frequency_behind, frequency_text, in_front, part_name, rule_error_text, rule_fault_text}

-- a test that computes
abbrev pub is_low : ℕ → Bool
is_low b = nat_lt b 128

pub low_ascii : (text : List ℕ) → list_all is_low text ≡ true → IsAscii text
low_ascii [] low = IsAscii-nil
low_ascii (b ∷ text) low =
    let parts = and_parts (is_low b) (list_all is_low text) low in
    IsAscii-cons b text (ltb-true b 128 parts.0) (low_ascii text parts.1)

pub frequency_ascii : (f : Frequency) → IsAscii (frequency_text f)
unfolding frequency_text
frequency_ascii Daily = low_ascii (codes "DAILY") refl
frequency_ascii Weekly = low_ascii (codes "WEEKLY") refl
frequency_ascii Monthly = low_ascii (codes "MONTHLY") refl
frequency_ascii Yearly = low_ascii (codes "YEARLY") refl

behind_ascii : (o : Option Frequency) → IsAscii (frequency_behind o)
behind_ascii None = IsAscii-nil
behind_ascii (Some f) = frequency_ascii f

name_low : (part : RulePart) → list_all is_low (part_name part) ≡ true
unfolding part_name
name_low Freq = refl
name_low Interval = refl
name_low Count = refl
name_low Until = refl
name_low ByMonth = refl
name_low ByMonthDay = refl
name_low ByDay = refl
name_low ByYearDay = refl
name_low ByWeekNo = refl
name_low BySetPos = refl
name_low Wkst = refl

words_low : (fault : RuleFault) → list_all is_low (fault_words fault) ≡ true
unfolding fault_words
words_low Unknown = refl
words_low OfHours = refl
words_low OfMinutes = refl
words_low OfSeconds = refl
words_low Extension = refl
words_low OfCalendars = refl
words_low OfSkips = refl
words_low Blank = refl
words_low Range = refl
words_low WithTime = refl
words_low Missing = refl
words_low Twice = refl
words_low Empty = refl
words_low NotAFrequency = refl
words_low NotANumber = refl
words_low OutOfRange = refl
words_low NotADate = refl
words_low NotAWeekday = refl
words_low BesideCount = refl
words_low (NotWith f) = refl
words_low (NumbersNotWith f) = refl
words_low NumbersBesideWeeks = refl
words_low Alone = refl

front_ascii : (o : Option RulePart) → IsAscii (in_front o)
front_ascii None = IsAscii-nil
front_ascii (Some part) = IsAscii-append (part_name part) (codes ": ") (low_ascii (part_name part) (name_low part)) (low_ascii (codes ": ") refl)

pub error_ascii : (e : RuleError) → IsAscii (rule_error_text e)
unfolding rule_error_text
error_ascii e =
    IsAscii-append (in_front e.part) (rule_fault_text e.fault) (front_ascii e.part)
    (IsAscii-append (fault_words e.fault) (frequency_behind (fault_frequency e.fault)) (low_ascii (fault_words e.fault) (words_low e.fault)) (behind_ascii (fault_frequency e.fault)))
