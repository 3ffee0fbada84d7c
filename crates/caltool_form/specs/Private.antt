-- Words that only clauses of private functions cite: the parts of a line's beginning, the mark of a watched reader or writer, and days
-- before commas.
use Rattle.std.specs.Prelude.{◌==◌, ℕ, List, [], ◌∷◌, ◌++◌, Result, Ok, Err, codes, if◌then◌else◌}
use Rattle.chrono_units.specs.declared.weekday.Weekday.{Weekday}
use Rattle.chrono_units.specs.WeekdayText.{weekday_text}
use Rattle.caltool_form.specs.Lines.{newline_parts}
use Rattle.caltool_form.specs.declared.watch.Mark.{Mark}
use Rattle.caltool_form.specs.declared.watch.Mark.TheVariants.{Open, Ended, Failed}

-- bytes before the first part
abbrev pub onto_front : List ℕ → List (List ℕ) → List (List ℕ)
onto_front line [] = line ∷ []
onto_front line (part ∷ parts) = (line ++ part) ∷ parts

-- the parts of bytes that come after the beginning of a line
abbrev pub pieces_after : List ℕ → List ℕ → List (List ℕ)
pieces_after line bytes = onto_front line (newline_parts bytes)

-- after a read: an answer of no byte is the end
abbrev pub mark_of_read : {E : Type 0} → Result ℕ E → Mark
mark_of_read (Ok n) = if n == 0 then Ended else Open
mark_of_read (Err e) = Failed

-- after a write, or a row of them
abbrev pub mark_of_write : {T E : Type 0} → Result T E → Mark
mark_of_write (Ok x) = Open
mark_of_write (Err e) = Failed

-- after a flush, which is the last call
abbrev pub mark_of_flush : {T E : Type 0} → Result T E → Mark
mark_of_flush (Ok x) = Ended
mark_of_flush (Err e) = Failed

-- each day before a comma and a space
abbrev pub listed_days_text : List Weekday → List ℕ
listed_days_text [] = []
listed_days_text (d ∷ ds) = weekday_text d ++ codes ", " ++ listed_days_text ds
