-- Texts of schedules with the name of a time zone in front: `CRON_TZ=NAME` or `TZ=NAME`, as Go's library robfig/cron has them. In cronie's
-- crontab(5), `CRON_TZ=NAME` is a line of its own, for all lines behind it.
use Rattle.std.specs.Prelude.{◌≡◌, ℕ, ◌+◌, if◌then◌else◌, ◌==◌, List, codes, drop, take, refl}
use Rattle.std.specs.List.{position_or_len}
use Rattle.chrono_text.specs.Lists.{begins_alike, is_blank}

-- how many bytes in front say that a name follows, in letters of either case: 0 if the text does not begin so. The name may be empty
unfoldable pub mark_len : List ℕ → ℕ
mark_len text = if begins_alike (codes "CRON_TZ=") text then 8 else if begins_alike (codes "TZ=") text then 3 else 0

-- the name is what stands between them and the first blank
abbrev pub zone_name : List ℕ → List ℕ
zone_name text = let named = drop (mark_len text) text in take (position_or_len is_blank named) named

-- how many bytes the mark and the name have in front of the schedule
abbrev pub zone_len : List ℕ → ℕ
zone_len text = if mark_len text == 0 then 0 else mark_len text + position_or_len is_blank (drop (mark_len text) text)

-- and the schedule's text
abbrev pub schedule_part : List ℕ → List ℕ
schedule_part text = drop (zone_len text) text

-- known values
zone_name-known : zone_name (codes "CRON_TZ=Asia/Tokyo 0 4 * * *") ≡ codes "Asia/Tokyo"
unfolding mark_len
zone_name-known = refl

schedule_part-known : schedule_part (codes "TZ=UTC 0 4 * * *") ≡ codes " 0 4 * * *"
unfolding mark_len
schedule_part-known = refl
