-- The months of the year, in a cycle of twelve, their numbers and their English names.
use Rattle.std.specs.Prelude.{ℕ, ◌+◌, ◌%◌, ◌==◌, if◌then◌else◌, List, codes}
use Rattle.chrono_units.specs.declared.month.Month.{Month}
use Rattle.chrono_units.specs.declared.month.Month.TheVariants.{January, February, March, April, May, June, July, August, September, October, November, December}

-- January is 1 and December 12
abbrev pub number_from_month : Month → ℕ
number_from_month January = 1
number_from_month February = 2
number_from_month March = 3
number_from_month April = 4
number_from_month May = 5
number_from_month June = 6
number_from_month July = 7
number_from_month August = 8
number_from_month September = 9
number_from_month October = 10
number_from_month November = 11
number_from_month December = 12

-- the month of a number from 1 to 12
abbrev pub month_from_number : ℕ → Month
month_from_number n =
    if n == 1 then January
    else (if n == 2 then February
    else (if n == 3 then March
    else (if n == 4 then April
    else (if n == 5 then May
    else (if n == 6 then June
    else (if n == 7 then July
    else (if n == 8 then August
    else (if n == 9 then September
    else (if n == 10 then October
    else (if n == 11 then November else December))))))))))

-- the month after m, January after December
abbrev pub next_month : Month → Month
next_month m = month_from_number (number_from_month m % 12 + 1)

-- the month before m, December before January
abbrev pub previous_month : Month → Month
previous_month m = month_from_number ((number_from_month m + 10) % 12 + 1)

-- the English name of m
abbrev pub month_name : Month → List ℕ
month_name January = codes "January"
month_name February = codes "February"
month_name March = codes "March"
month_name April = codes "April"
month_name May = codes "May"
month_name June = codes "June"
month_name July = codes "July"
month_name August = codes "August"
month_name September = codes "September"
month_name October = codes "October"
month_name November = codes "November"
month_name December = codes "December"
