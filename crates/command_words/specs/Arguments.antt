-- Which operands and options a list of words has.
use Rattle.std.specs.Prelude.{◌≡◌, ℕ, Bool, not, ◌&&◌, ◌||◌, if◌then◌else◌, nat_eq, nat_lt, List, [], ◌∷◌, ◌++◌, length, map, codes, Option, Some, None, is_some, Result, Ok, Err, MatchResult}
use Rattle.std.specs.List.{list_any, starts_with, position_or_len, before_first, after_first}
use Rattle.std.specs.Str.{bytes_eq}
use Rattle.std.specs.Option.{option_and_then, option_or}
use Rattle.command_words.specs.declared.table.Opt.{Opt}
use Rattle.command_words.specs.declared.words.Word.{Word}
use Rattle.command_words.specs.declared.words.GivenOption.{GivenOption}
use Rattle.command_words.specs.declared.words.Why.{Why}
use Rattle.command_words.specs.declared.words.Why.TheVariants as why
use Rattle.command_words.specs.declared.words.Wrong.{Wrong}
use Rattle.command_words.specs.declared.words.Mode as modes
use Rattle.command_words.specs.declared.words.Mode.TheVariants as mode

-- a word by its place and its bytes
abbrev pub Seen : Type 0
Seen = ℕ × List ℕ

-- what is seen of a word
abbrev pub seen : Word → Seen
seen w = (w.place, w.text.now)

-- an option with its value
abbrev pub pair : GivenOption → Opt × Seen
pair g = (g.option.now, seen g.value)

-- what words have: operands, and options with their values, each in their order
abbrev pub Got : Type 0
Got = List Seen × List (Opt × Seen)

-- what lists of words and of given options have
abbrev pub got : List Word → List GivenOption → Got
got operands options = (map seen operands, map pair options)

-- how the next word is read: as an option where it begins with `--`, as the value of an option that a word begins, or as an operand
pub data Mode : Type 0 where
  free : Mode
  begun : Opt → Seen → Mode
  ended : Mode

abbrev pub mode_of : modes.Mode → Mode
mode_of mode.Free = free
mode_of (mode.Begun o w) = begun o.now (seen w)
mode_of mode.Ended = ended

-- the word begins as an option does; what stands in front of its first `=`, and behind it
abbrev pub is_option : List ℕ → Bool
is_option text = starts_with nat_eq text (codes "--")

abbrev pub name_in : List ℕ → List ℕ
name_in text = before_first (λ b. nat_eq b 61) text

abbrev pub value_in : List ℕ → Option (List ℕ)
value_in text = if nat_lt (position_or_len (λ b. nat_eq b 61) text) (length text) then Some (after_first (λ b. nat_eq b 61) text) else None

-- the option of a table with this name; the value of the first option that is given by this name
abbrev pub named : List ℕ → List Opt → Option Opt
named name [] = None
named name (o ∷ os) = if bytes_eq name o.name.now then Some o else named name os

abbrev pub first_value : List ℕ → List (Opt × Seen) → Option Seen
first_value name [] = None
first_value name (p ∷ ps) = if bytes_eq name p.0.name.now then Some p.1 else first_value name ps

-- an option is given by this name
abbrev pub is_given : List ℕ → List (Opt × Seen) → Bool
is_given name options = is_some (first_value name options)

-- the option is a flag, which has no value; the option may have that value
abbrev pub is_flag : Opt → Bool
is_flag o = nat_eq (length o.value.now) 0

abbrev pub may_be : Opt → List ℕ → Bool
may_be o text = o.any || list_any (λ t. bytes_eq t.now text) o.values.now

-- what words have with one more, and how the next is read; or the word that breaks the table, and why
abbrev pub Step : Type 0
Step = Result (Got × Mode) (Seen × Why)

-- with an option and its value
abbrev pub valued : Opt → Got → Seen → Step
valued o g v = if may_be o v.1 then Ok ((g.0, g.1 ++ (o, v) ∷ []), free) else Err (v, why.Choice o.values)

-- with the word of an option, behind whose `=` a value may stand
abbrev pub with_value : Opt → Got → Seen → Option (List ℕ) → Step
with_value o g w (Some text) = if is_flag o then Err (w, why.Flag) else valued o g (w.0, text)
with_value o g w None = if is_flag o then valued o g (w.0, []) else Ok (g, begun o w)

abbrev pub attached : Opt → Got → Seen → Option (List ℕ) → Step
attached o g w value = if not o.repeated && is_given o.name.now g.1 then Err (w, why.Twice) else with_value o g w value

abbrev pub step_of_named : Option Opt → Got → Seen → Step
step_of_named None g w = Err (w, why.Unknown)
step_of_named (Some o) g w = attached o g w (value_in w.1)

-- with a word that begins with `--`
abbrev pub step_of_option : List Opt → Got → Seen → Step
step_of_option table g w = if bytes_eq w.1 (codes "--") then Ok (g, ended) else step_of_named (named (name_in w.1) table) g w

-- with a word that is read so
abbrev pub step : List Opt → Got → Mode → Seen → Step
step table g (begun o w) v = valued o g v
step table g ended w = Ok ((g.0 ++ w ∷ [], g.1), ended)
step table g free w = if is_option w.1 then step_of_option table g w else Ok ((g.0 ++ w ∷ [], g.1), free)

-- a step that the code answered, and what it has put together
abbrev pub IsStep : Step → Result modes.Mode Wrong → Got → Type 0
IsStep s answered g = MatchResult answered (λ m. s ≡ Ok (g, mode_of m)) (λ w. s ≡ Err (seen w.word, w.why))

abbrev pub Read : Type 0
Read = Result Got (Seen × Why)

abbrev pub and_then : Step → (Got → Mode → Read) → Read
and_then (Ok s) on = on s.0 s.1
and_then (Err wrong) on = Err wrong

-- what words have at their end: an option that is begun has no value
abbrev pub finished : Got → Mode → Read
finished g (begun o w) = Err (w, why.NoValue)
finished g free = Ok g
finished g ended = Ok g

-- what words have, behind others, or the first word that breaks the table and why
unfoldable pub read : List Opt → Got → Mode → List Seen → Read
read table g m [] = finished g m
read table g m (w ∷ ws) = and_then (step table g m w) (λ h k. read table h k ws)

-- the default of an option, as a word at place 0
abbrev pub default_of : Opt → Option Seen
default_of o = if nat_eq (length o.default.now) 0 then None else Some (0, o.default.now)

-- the value of the option of a name: the first that is given, or else its default in the table
abbrev pub value_named : List ℕ → List Opt → List (Opt × Seen) → Option Seen
value_named name table options = option_or (first_value name options) (option_and_then default_of (named name table))

-- the first option of a table that has to be given and is not
abbrev pub missing : List (Opt × Seen) → List Opt → Option Opt
missing options [] = None
missing options (o ∷ os) = if o.required && not (is_given o.name.now options) then Some o else missing options os
