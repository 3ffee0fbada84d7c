-- The command of a line, by its first word and the numbers behind it.
use Rattle.std.proofs.Common.{◌≡◌, ◌<◌, ◌≤◌, ℕ, ℤ, true, false, List, [], ◌∷◌, length, drop, get_or, pos, Option, Some, None, refl, ap, ◌∙◌, arith}
use Rattle.std.specs.Option.{option_map, option_and_then}
use Rattle.std.proofs.lemmas.Bool.{cond-true, cond-false}
use Rattle.std.proofs.lemmas.Bool.Decides.{nat_tests}
use Rattle.caltool_command.specs.Words.{words}
use Rattle.caltool_command.specs.Grammar.{arguments_from, arguments_of}
use Rattle.caltool_command.specs.Private.{numbers_behind}
use Rattle.chrono_units.specs.declared.weekday.Weekday.{Weekday}
use Rattle.chrono_units.specs.WeekdaySet.{DaySet}
use Rattle.caltool_command.specs.Types.{to_weekday}
use Rattle.caltool_command.specs.Commands.{is_long, weekday_set, name_of, command_from, command_named, command_of}
use Rattle.caltool_command.specs.declared.command.Command.TheVariants.{Set}
use Rattle.caltool_command.specs.declared.name.Name.{Name}
use Rattle.caltool_command.specs.declared.name.Name.TheVariants as name

long : (line : List ℕ) → 120 < length line → is_long line ≡ true
long line h = grind (arith, nat_tests)

short : (line : List ℕ) → length line ≤ 120 → is_long line ≡ false
short line h = grind (arith, nat_tests)

pub command_of-long : (line : List ℕ) → 120 < length line → command_of line ≡ None
unfolding command_of
command_of-long line h = cond-true _ _ _ (long line h)

module _ (line word rest : List ℕ) (fits : length line ≤ 120) (are : words line ≡ word ∷ drop 1 (words rest)) where
  named : (o : Option (List ℤ)) → option_and_then (λ (read : List ℕ × List ℤ). command_named read.0 read.1) (option_map (λ numbers. (word, numbers)) o) ≡ option_and_then (command_named word) o
  named None = refl
  named (Some numbers) = refl

  by_words : command_of line ≡ option_and_then (command_named word) (numbers_behind rest)
  unfolding command_of arguments_of
  by_words =
      cond-false _ _ _ (short line fits)
      ∙ ap (λ parts. option_and_then (λ (read : List ℕ × List ℤ). command_named read.0 read.1) (arguments_from parts)) are
      ∙ named (numbers_behind rest)

  pub command_of-some : (name : Name) (numbers : List ℤ) → name_of word ≡ Some name → numbers_behind rest ≡ Some numbers → command_of line ≡ command_from name numbers
  unfolding command_named
  command_of-some name numbers called read = by_words ∙ ap (option_and_then (command_named word)) read ∙ ap (option_and_then (λ n. command_from n numbers)) called

  no_name : name_of word ≡ None → (o : Option (List ℤ)) → option_and_then (command_named word) o ≡ None
  unfolding command_named
  no_name called None = refl
  no_name called (Some numbers) = ap (option_and_then (λ n. command_from n numbers)) called

  pub command_of-no_name : name_of word ≡ None → command_of line ≡ None
  command_of-no_name called = by_words ∙ no_name called (numbers_behind rest)

  pub command_of-no_numbers : numbers_behind rest ≡ None → command_of line ≡ None
  command_of-no_numbers read = by_words ∙ ap (option_and_then (command_named word)) read

pub set_named : (numbers : List ℤ) (start : Weekday) (days : DaySet) → 0 < length numbers → to_weekday (get_or numbers 0 (pos 0)) ≡ Some start
    → weekday_set (drop 1 numbers) ≡ Some days → Some (Set start days) ≡ command_from name.Set numbers
unfolding command_from
set_named [] start days some day all = absurd (omega arith)
set_named (n ∷ numbers) start days some day all = rw (day, all) refl
