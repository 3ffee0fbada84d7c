-- Texts as strings of JSON (RFC 8259, section 7).
use Rattle.std.specs.Prelude.{ℕ, ◌+◌, ◌/◌, ◌%◌, ◌++◌, nat_eq, nat_lt, if◌then◌else◌, List, codes}
use Rattle.std.specs.Char.{encode_utf8, is_control}
use Rattle.std.specs.Fmt.{decimal}
use Rattle.std.specs.List.{flat_map}
use Rattle.std.specs.Str.{chars}
use Rattle.dates_answer.specs.declared.form.OutputForm.{OutputForm}
use Rattle.dates_answer.specs.declared.form.OutputForm.TheVariants as forms

-- a digit of base 16
abbrev pub hex_digit : ℕ → ℕ
hex_digit k = if nat_lt k 10 then 48 + k else 87 + k

-- a character below 256 by its number
unfoldable pub escaped : ℕ → List ℕ
escaped c = codes "\\u00" ++ (encode_utf8 (hex_digit (c / 16 % 16)) ++ encode_utf8 (hex_digit (c % 16)))

-- a character within quotation marks
unfoldable pub json_char : ℕ → List ℕ
json_char c =
    if nat_eq c 34 then codes "\\\""
    else if nat_eq c 92 then codes "\\\\"
    else if is_control c then escaped c
    else encode_utf8 c

-- the characters of a text within quotation marks, and the text with them
unfoldable pub json_chars : List ℕ → List ℕ
json_chars text = flat_map json_char (chars text)

-- a text as JSON writes it, between quotes
unfoldable pub quoted : List ℕ → List ℕ
quoted text = codes "\"" ++ (json_chars text ++ codes "\"")

-- a line that is no day, by its number, its text and why it is none
unfoldable pub wrong_line : OutputForm → ℕ → List ℕ → List ℕ → List ℕ
wrong_line forms.Text number text reason = decimal number ++ (codes ": " ++ reason)
wrong_line forms.Json number text reason = codes "{\"line\":" ++ (decimal number ++ (codes ",\"text\":" ++ (quoted text ++ (codes ",\"reason\":" ++ (quoted reason ++ codes "}")))))
