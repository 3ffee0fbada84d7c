-- The lines of answers: as texts, and as objects of JSON (RFC 8259). Each is put together from the last piece on.
use Rattle.std.specs.Prelude.{Bool, ℕ, List, ◌++◌, codes, ℤ, pos, ◌-ℤ◌, ◌&&◌, if◌then◌else◌, Some, None}
use Rattle.std.specs.Fmt.{signed_decimal}
use Rattle.std.specs.Ordering.{int_eq}
use Rattle.std.specs.Str.{byte}
use Rattle.chrono_units.specs.Names.{weekday_name}
use Rattle.chrono_datetime.specs.DateText.{date_text}
use Rattle.chrono_datetime.specs.Fields.{unix_epoch_day}
use Rattle.chrono_datetime.specs.Moment.{Moment}
use Rattle.chrono_datetime.specs.MomentText.{moment_text}
use Rattle.chrono_clock.specs.TimeText.{time_text}
use Rattle.chrono_datetime.specs.Text.{duration_text}
use Rattle.chrono_datetime.specs.Weeks.{weekday_of}
use Rattle.chrono_instant.specs.Offsets.{moment_ahead}
use Rattle.chrono_zoned.specs.ZonedText.{zoned_debug_text}
use Rattle.dates_answer.specs.declared.form.OutputForm.{OutputForm}
use Rattle.dates_answer.specs.declared.form.OutputForm.TheVariants as forms
use Rattle.dates_answer.specs.DayNames.{names_text, ordinal_name, week_name}
use Rattle.dates_answer.specs.Quoted.{quoted}
use Rattle.dates_answer.specs.declared.line.Reply.{Reply}
use Rattle.dates_answer.specs.declared.line.Reply.TheVariants as replies
use Rattle.dates_answer.specs.declared.line.Key.{Key}
use Rattle.dates_answer.specs.declared.line.Key.TheVariants as keys
use Rattle.dates_answer.specs.declared.parts.Parts.{Parts}

-- the key of a value
unfoldable pub key_text : Key → List ℕ
key_text keys.Date = codes "date"
key_text keys.Moment = codes "moment"
key_text keys.Time = codes "time"
key_text keys.Duration = codes "duration"
key_text keys.Days = codes "days"
key_text keys.Weeks = codes "weeks"
key_text keys.Months = codes "months"
key_text keys.Years = codes "years"
key_text keys.Hours = codes "hours"
key_text keys.Minutes = codes "minutes"
key_text keys.Seconds = codes "seconds"
key_text keys.OpenDays = codes "open_days"
key_text keys.Open = codes "open"
key_text keys.Leap = codes "leap"
key_text keys.Weekday = codes "weekday"
key_text keys.Unix = codes "unix"
key_text keys.Rule = codes "rule"
key_text keys.Text = codes "text"

-- months and days, as `2m 3d`: one that is 0 is left out, and both are `0d`
unfoldable pub months_days_text : ℤ → ℤ → List ℕ
months_days_text months days =
    if int_eq months (pos 0) then signed_decimal days ++ codes "d"
    else if int_eq days (pos 0) then signed_decimal months ++ codes "m"
    else signed_decimal months ++ (codes "m " ++ (signed_decimal days ++ codes "d"))

-- years, months and days, as `1y 2m 3d`: those that are 0 are left out, and all are `0d`
unfoldable pub parts_text : Parts → List ℕ
parts_text p =
    if int_eq p.years (pos 0) then months_days_text p.months p.days
    else if int_eq p.months (pos 0) && int_eq p.days (pos 0) then signed_decimal p.years ++ codes "y"
    else signed_decimal p.years ++ (codes "y " ++ months_days_text p.months p.days)

-- the line of an answer as a text
unfoldable pub reply_text : Reply → List ℕ
reply_text (replies.Names n) = names_text n
reply_text (replies.Date n) = date_text n
reply_text (replies.Weekday day) = weekday_name day
reply_text (replies.Moment m) = moment_text (byte "T") m
reply_text (replies.Stamp it) = zoned_debug_text (moment_ahead it.utc it.zone) it.zone
reply_text (replies.Clock t) = time_text t
reply_text (replies.Duration x) = duration_text x
reply_text (replies.Number key z) = signed_decimal z
reply_text (replies.Whether key holds) = if holds then codes "yes" else codes "no"
reply_text (replies.Parts p) = parts_text p
reply_text (replies.Week first last) = date_text first ++ (codes " " ++ date_text last)
reply_text (replies.Nothing key) = codes "none"
reply_text replies.NoParts = codes "none"
reply_text (replies.NoWeek first) = codes "none"
reply_text replies.NoClock = codes "none"
reply_text replies.Version = codes "dates 0.2.0-dev"

-- the weekday of the day n, its number and the number of days since 1970-01-01, as they stand in an object
unfoldable pub numbers_in_object : ℤ → List ℕ
numbers_in_object n = codes "\"weekday\":\"" ++ (weekday_name (weekday_of n) ++ (codes "\",\"day_number\":" ++ (signed_decimal n ++ (codes ",\"unix_day\":" ++ signed_decimal (n -ℤ unix_epoch_day)))))

-- the day n by its names as an object: its calendar, ordinal and week date, and these
unfoldable pub names_object : ℤ → List ℕ
names_object n = codes "{\"date\":\"" ++ (date_text n ++ (codes "\",\"ordinal\":\"" ++ (ordinal_name n ++ (codes "\",\"week\":\"" ++ (week_name n ++ (codes "\"," ++ (numbers_in_object n ++ codes "}")))))))

-- years, months and days as an object
unfoldable pub parts_object : Parts → List ℕ
parts_object p = codes "{\"years\":" ++ (signed_decimal p.years ++ (codes ",\"months\":" ++ (signed_decimal p.months ++ (codes ",\"days\":" ++ (signed_decimal p.days ++ codes "}")))))

-- the line of an answer as an object
unfoldable pub reply_object : Reply → List ℕ
reply_object (replies.Names n) = names_object n
reply_object (replies.Date n) = codes "{\"date\":\"" ++ (date_text n ++ codes "\"}")
reply_object (replies.Weekday day) = codes "{\"weekday\":\"" ++ (weekday_name day ++ codes "\"}")
reply_object (replies.Moment m) = codes "{\"moment\":\"" ++ (moment_text (byte "T") m ++ codes "\"}")
reply_object (replies.Stamp it) = codes "{\"moment\":\"" ++ (zoned_debug_text (moment_ahead it.utc it.zone) it.zone ++ codes "\"}")
reply_object (replies.Clock t) = codes "{\"time\":\"" ++ (time_text t ++ codes "\"}")
reply_object (replies.Duration x) = codes "{\"duration\":\"" ++ (duration_text x ++ codes "\"}")
reply_object (replies.Number key z) = codes "{\"" ++ (key_text key ++ (codes "\":" ++ (signed_decimal z ++ codes "}")))
reply_object (replies.Whether key holds) = codes "{\"" ++ (key_text key ++ (codes "\":" ++ ((if holds then codes "true" else codes "false") ++ codes "}")))
reply_object (replies.Parts p) = parts_object p
reply_object (replies.Week first last) = codes "{\"first\":\"" ++ (date_text first ++ (codes "\",\"last\":\"" ++ (date_text last ++ codes "\"}")))
reply_object (replies.Nothing key) = codes "{\"" ++ (key_text key ++ codes "\":null}")
reply_object replies.NoParts = codes "{\"years\":null,\"months\":null,\"days\":null}"
reply_object (replies.NoWeek None) = codes "{\"first\":null,\"last\":null}"
reply_object (replies.NoWeek (Some first)) = codes "{\"first\":\"" ++ (date_text first ++ codes "\",\"last\":null}")
reply_object replies.NoClock = codes "{\"moment\":null,\"name\":null}"
reply_object replies.Version = codes "{\"version\":\"0.2.0-dev\"}"

-- the line of an answer in a form
abbrev pub line_text : OutputForm → Reply → List ℕ
line_text forms.Text reply = reply_text reply
line_text forms.Json reply = reply_object reply

-- a day of a sheet as an object: its calendar and week date, its weekday, and whether it is open
unfoldable pub day_object : ℤ → Bool → List ℕ
day_object n is_open = codes "{\"date\":\"" ++ (date_text n ++ (codes "\",\"week\":\"" ++ (week_name n ++ (codes "\",\"weekday\":\"" ++ (weekday_name (weekday_of n) ++ (codes "\",\"open\":" ++ ((if is_open then codes "true" else codes "false") ++ codes "}")))))))

-- a text under a key, in a form
unfoldable pub text_line : OutputForm → Key → List ℕ → List ℕ
text_line forms.Text key text = text
text_line forms.Json key text = codes "{\"" ++ (key_text key ++ (codes "\":" ++ (quoted text ++ codes "}")))

-- what a clock shows that is ahead of UTC by so many seconds, and the name of its time, in a form
unfoldable pub clock_line : OutputForm → Moment → ℤ → List ℕ → List ℕ
clock_line forms.Text utc ahead name = zoned_debug_text (moment_ahead utc ahead) ahead ++ (codes " " ++ name)
clock_line forms.Json utc ahead name = codes "{\"moment\":\"" ++ (zoned_debug_text (moment_ahead utc ahead) ahead ++ (codes "\",\"name\":" ++ (quoted name ++ codes "}")))
