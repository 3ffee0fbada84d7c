-- What is written so far, and the characters that are left.
use Rattle.dates_answer.proofs.Ground.{◌≡◌, ℕ, List, ◌++◌, IsUtf8, chars}
use Rattle.std.specs.Fmt.{HasWritten, IsPlainFormatter}
use Rattle.std.specs.List.{flat_map}
use Rattle.std.specs.Str.Iter.{chars_rest}
use Rattle.dates_answer.specs.Quoted.{json_char}
use Rattle.dates_answer.proofs.quoted.write_characters.Given as goal

abbrev pub invariant-loop-character : goal.invariant-loop-character
invariant-loop-character g l =
    IsUtf8 (chars_rest l.character-iterator)
    × (IsPlainFormatter l.initial.f → (done : List ℕ) × HasWritten g.W.Write.write_str_gives l.initial.f done l.f
    × (done ++ flat_map json_char (chars (chars_rest l.character-iterator)) ≡ flat_map json_char (chars l.fn.text)))
