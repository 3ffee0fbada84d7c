use Rattle.std.proofs.Common.{◌∙◌, pos, neg_ℤ, refl, sym}
use Rattle.chrono_calendar.specs.Days.{date_of_day, date_of_ymd, days_before_year, days_of_months_in, days_of_years}
use Rattle.chrono_columns.proofs.TextEntries.{text-of-name}
use Rattle.chrono_columns.proofs.law.known_texts.Goals as goal

pub returns-clause-leap_day : goal.returns-clause-leap_day
unfolding date_of_day date_of_ymd days_before_year days_of_years days_of_months_in
returns-clause-leap_day c = sym (text-of-name (pos 738_945) (pos 2_024) 2 29 refl refl) ∙ refl

pub returns-clause-first : goal.returns-clause-first
unfolding date_of_day date_of_ymd days_before_year days_of_years days_of_months_in
returns-clause-first c = sym (text-of-name (neg_ℤ (pos 365)) (pos 0) 1 1 refl refl) ∙ refl

pub returns-clause-before_first : goal.returns-clause-before_first
unfolding date_of_day date_of_ymd days_before_year days_of_years days_of_months_in
returns-clause-before_first c = sym (text-of-name (neg_ℤ (pos 366)) (neg_ℤ (pos 1)) 12 31 refl refl) ∙ refl

pub returns-clause-last : goal.returns-clause-last
unfolding date_of_day date_of_ymd days_before_year days_of_years days_of_months_in
returns-clause-last c = sym (text-of-name (pos 3_652_059) (pos 9_999) 12 31 refl refl) ∙ refl

pub returns-clause-after_last : goal.returns-clause-after_last
unfolding date_of_day date_of_ymd days_before_year days_of_years days_of_months_in
returns-clause-after_last c = sym (text-of-name (pos 3_652_060) (pos 10_000) 1 1 refl refl) ∙ refl
