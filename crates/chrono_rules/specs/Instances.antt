-- Which days are instances of a recurrence rule over days (RFC 5545, section 3.3.10).
-- What stands in quotation marks here gives the sense of that section, which may say it in other words.
--
-- Read this page from its end up: `is_instance` comes last, and each word stands above those that use it.
-- Then read `Periods` (days, weeks, months, years), `ByParts` (which days pass the BY parts) and `RuleParts`.
-- `InstanceLists` lists the instances, and `RecurrenceSets` adds dates and takes exceptions away.
-- Known instances, among them examples of 3.8.5.3, are clauses of src/law.rt.
--
-- A rule is a value of the record `Rule` of src/rule.rt, with a field for each part. Days are day numbers: 1 is 1 January of
-- the year 1. `count_between p a b` counts the days from a to before b that pass the test p.
-- `chrono_calendar/specs/Recurrence.antt` defines it.
--
-- RFC 5545 applies the parts in an order: FREQ and INTERVAL, then BYMONTH, BYWEEKNO, BYYEARDAY, BYMONTHDAY, BYDAY and
-- BYSETPOS; "then COUNT and UNTIL are evaluated". So an instance lies in a period that counts and passes the BY parts.
-- It has a place that BYSETPOS names among the days of its period that pass. It lies neither past UNTIL nor past COUNT.
--
-- "Recurrence rules may generate recurrence instances with an invalid date (e.g., February 30)"; these "MUST be ignored and MUST
-- NOT be counted". Here no definition makes a date from a month and a day. Each tests a day that there is. So 30 February is
-- never tested: it is no instance, COUNT does not count it, and it takes no place that BYSETPOS counts.
use Rattle.std.specs.Prelude.{◌==◌, nat_lt, Bool, true, ◌&&◌, ◌||◌, if◌then◌else◌, ℤ, pos, ◌+ℤ◌, ◌-ℤ◌, int_le, unsigned_abs}
use Rattle.std.specs.Int.{int_rem_euclid}
use Rattle.chrono_datetime.specs.Recurrence.{count_between}
use Rattle.chrono_sets.specs.FiniteSets.{has}
use Rattle.chrono_rules.specs.ByParts.{date_passes, passes}
use Rattle.chrono_rules.specs.Periods.{period_end, period_first, period_of}
use Rattle.chrono_rules.specs.RuleParts.{lacks_positions}
use Rattle.chrono_rules.specs.declared.rule.End.{End}
use Rattle.chrono_rules.specs.declared.rule.End.TheVariants.{Never, Count, Until}
use Rattle.chrono_rules.specs.declared.rule.Rule.{Rule}

-- 3.3.10: BYSETPOS "corresponds to the nth occurrence within the set of recurrence instances" in one period. Days of the period before the start
-- count too, since the set "starts at the beginning of the interval". The last of them is -1.
-- The first count ends with the day n itself, and the second begins with it: so both give its place, from 1. An invalid date takes no place
unfoldable pub in_positions : Rule → ℤ → ℤ → Bool
in_positions r start n =
    lacks_positions r
    || (has r.positions (count_between (date_passes r start) (period_first r.frequency r.week_start n) (n +ℤ pos 1))
    || has r.positions_from_end (count_between (date_passes r start) n (period_end r.frequency r.week_start n)))

-- 3.3.10: INTERVAL says "at which intervals the recurrence rule repeats". The period of the day lies a whole number of intervals from that of the
-- start. By weeks, the period is the week of the day. By years it is the year of the day, also where BYWEEKNO names the week (see `in_week`).
-- An interval of 0, which no text has, means 1
unfoldable pub in_interval : Rule → ℤ → ℤ → Bool
in_interval r start n =
    let apart = period_of r.frequency r.week_start n -ℤ period_of r.frequency r.week_start start in
    unsigned_abs (int_rem_euclid apart (pos (if r.interval == 0 then 1 else r.interval))) == 0

-- 3.3.10: UNTIL "bounds the recurrence rule in an inclusive manner"
unfoldable pub not_after : End → ℤ → Bool
not_after Never n = true
not_after (Count c) n = true
not_after (Until u) n = int_le n u

-- the day is an instance of the rule that begins on the start, if COUNT is left out. Each test is one of a day that there is, so the rule
-- FREQ=MONTHLY from 31 January has no member in February: "such recurrence instances MUST be ignored"
unfoldable pub is_member : Rule → ℤ → ℤ → Bool
is_member r start n =
    int_le start n && (not_after r.end n && (in_interval r start n && (passes r start n && in_positions r start n)))

-- 3.3.10: COUNT is "the number of occurrences at which to range-bound the recurrence". Fewer than that have come before the day, from the start
-- on. Invalid dates "MUST NOT be counted"
unfoldable pub is_counted : End → Rule → ℤ → ℤ → Bool
is_counted Never r start n = true
is_counted (Until u) r start n = true
is_counted (Count c) r start n = nat_lt (count_between (is_member r start) start n) c

-- the day is an instance of the rule that begins on the start. So a start that passes no test is no instance, and COUNT does not count it: the
-- instances of such a start are "undefined" (3.8.5.3).
-- 3.3.10 says that DTSTART "always counts as the first occurrence". Here that holds of a start that passes.
-- Every rule has instances by this, also one with a part that its FREQ must not have: which parts go together is told by `fits` of `RuleTexts`
unfoldable pub is_instance : Rule → ℤ → ℤ → Bool
is_instance r start n = is_member r start n && is_counted r.end r start n
