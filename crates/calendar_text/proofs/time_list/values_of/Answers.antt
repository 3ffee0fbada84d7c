use Rattle.std.proofs.Common.{◌≡◌, List, ℕ, [], true, if◌then◌else◌, ap, sym, ◌∙◌}
use Rattle.calendar_text.specs.CalendarTexts.{line_times, listed_times}
use Rattle.calendar_text.specs.CalendarTimes.{time_of}
use Rattle.calendar_text.specs.Lines.{is_line_of, text_in, line_value}
use Rattle.calendar_text.specs.TimeLists.{times_listed}
use Rattle.calendar_text.specs.declared.property.Property.{Property}
use Rattle.chrono_text.proofs.PieceLemmas.{nothing_behind}
use Rattle.calendar_text.proofs.time_list.values_of.Goals as goal

no_times : (property : Property) (line : List ℕ) → is_line_of property line ≡ true → line_value line ≡ [] → line_times property line ≡ []
unfolding time_of
no_times property line is none =
    ap (λ t. if t then listed_times (line_value line) else []) is ∙ ap listed_times none

pub returns-in_err-value-clause-times : goal.returns-in_err-value-clause-times
returns-in_err-value-clause-times c =
    ap (λ r. times_listed (text_in r)) c.from_residual.ensures
    ∙ sym (no_times c.args.property c.args.line.now (sym c.is_line_of.ensures ∙ c.if-not-is_line_of.false) (nothing_behind 58 c.args.line.now c.in_err-value.ensures.none))
