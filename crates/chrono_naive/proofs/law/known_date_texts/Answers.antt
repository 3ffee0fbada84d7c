use Rattle.std.proofs.Common.{ap, Some, pos, negsuc, refl}
use Rattle.std.specs.Fmt.{digits}
use Rattle.chrono_calendar.specs.Days.{days_of_years, days_before_year, days_of_months_in, date_of_ymd}
use Rattle.chrono_calendar.proofs.KnownValues.{first_number, last_number}
use Rattle.chrono_naive.proofs.DateTextLemmas.{date_text-named}
use Rattle.chrono_naive.proofs.law.known_date_texts.Goals as goal

pub returns-clause-plain : goal.returns-clause-plain
unfolding date_of_ymd days_before_year days_of_years days_of_months_in
returns-clause-plain c = date_text-named (pos 735_438) (pos 2014) 7 24 refl

pub returns-clause-day_739250 : goal.returns-clause-day_739250
unfolding date_of_ymd days_before_year days_of_years days_of_months_in
returns-clause-day_739250 c = date_text-named (pos 739_250) (pos 2024) 12 30 refl

pub returns-clause-year_zero : goal.returns-clause-year_zero
unfolding date_of_ymd days_before_year days_of_years days_of_months_in
returns-clause-year_zero c = date_text-named (negsuc 364) (pos 0) 1 1 refl

pub returns-clause-before_zero : goal.returns-clause-before_zero
unfolding date_of_ymd days_before_year days_of_years days_of_months_in
returns-clause-before_zero c = date_text-named (negsuc 365) (negsuc 0) 12 31 refl

pub returns-clause-first : goal.returns-clause-first
unfolding date_of_ymd days_of_months_in digits
returns-clause-first c = date_text-named (negsuc 95_746_128) (negsuc 262_142) 1 1 (ap Some first_number)

pub returns-clause-last : goal.returns-clause-last
unfolding date_of_ymd days_of_months_in digits
returns-clause-last c = date_text-named (pos 95_745_399) (pos 262_142) 12 31 (ap Some last_number)
