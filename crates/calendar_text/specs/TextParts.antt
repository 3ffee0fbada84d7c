-- The parts of what was read.
use Rattle.calendar_text.specs.CalendarTexts.{CalendarParts}
use Rattle.calendar_text.specs.Lines.{text_in}
use Rattle.calendar_text.specs.declared.calendar_text.CalendarText.{CalendarText}

-- the parts that the calendar which was read has
abbrev pub parts_read : CalendarText → CalendarParts
parts_read c = record { start = c.start; zone = text_in c.zone; rule = text_in c.rule; dates = c.dates; exceptions = c.exceptions }
