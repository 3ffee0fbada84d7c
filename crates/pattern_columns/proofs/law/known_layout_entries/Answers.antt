use Rattle.std.proofs.Common.{◌∙◌, pos, refl}
use Rattle.std.specs.Str.{byte}
use Rattle.chrono_calendar.specs.Days.{date_of_day, date_of_ymd, days_before_year, days_of_months_in, days_of_years}
use Rattle.pattern_columns.specs.Layouts.{compact_text, entry_by, layout_text}
use Rattle.pattern_columns.specs.declared.layout.DateOrder.TheVariants.{DayMonthYear}
use Rattle.pattern_columns.proofs.LayoutEntries.{entry-of-name}
use Rattle.pattern_columns.proofs.law.known_layout_entries.Goals as goal

pub returns-clause-leap_day : goal.returns-clause-leap_day
unfolding date_of_day date_of_ymd days_before_year days_of_years days_of_months_in
returns-clause-leap_day c = entry-of-name 10 (layout_text (record { order = DayMonthYear; separator = byte "/" })) (pos 738_945) (pos 2_024) 2 29 refl refl ∙ refl

pub returns-clause-compact : goal.returns-clause-compact
unfolding date_of_day date_of_ymd days_before_year days_of_years days_of_months_in
returns-clause-compact c = entry-of-name 8 compact_text (pos 738_945) (pos 2_024) 2 29 refl refl ∙ refl

pub returns-clause-after_last : goal.returns-clause-after_last
unfolding date_of_day date_of_ymd days_before_year days_of_years days_of_months_in
returns-clause-after_last c = entry-of-name 8 compact_text (pos 3_652_060) (pos 10_000) 1 1 refl refl ∙ refl

pub returns-clause-none : goal.returns-clause-none
unfolding date_of_day entry_by
returns-clause-none c = refl
