use Rattle.std.proofs.Common.{pos, ap, [], ◌∷◌, ◌++◌, refl}
use Rattle.chrono_clock.specs.TimeText.{time_text}
use Rattle.chrono_clock.specs.Time.{time_at}
use Rattle.chrono_naive.specs.Days.{days_of_years, days_before_year, days_of_months_in, date_of_ymd}
use Rattle.chrono_naive.proofs.DateTextLemmas.{date_text-named}
use Rattle.chrono_datetime.proofs.law.known_moment_texts.Goals as goal

pub returns-clause-leap : goal.returns-clause-leap
unfolding date_of_ymd days_before_year days_of_years days_of_months_in
returns-clause-leap c =
    ap (λ date. date ++ 32 ∷ [] ++ time_text (time_at 23 59 59 1_500_000_000)) (date_text-named (pos 736_153) (pos 2016) 7 8 refl)

pub returns-clause-six_digits : goal.returns-clause-six_digits
unfolding date_of_ymd days_before_year days_of_years days_of_months_in
returns-clause-six_digits c =
    ap (λ date. date ++ 84 ∷ [] ++ time_text (time_at 1 2 3 1_000)) (date_text-named (pos 719_163) (pos 1970) 1 1 refl)
