-- Hours, minutes and seconds in the text of a time zone rule (POSIX.1-2017, Base Definitions, section 8.3, TZ).
use Rattle.std.specs.Prelude.{◌≡◌, ◌==◌, ℕ, ◌+◌, ◌*◌, true, false, List, [], ◌∷◌, if◌then◌else◌, codes, ℤ, pos, neg_ℤ, Option, Some, None, refl}
use Rattle.std.specs.List.{after_first, before_first}
use Rattle.std.specs.Option.{option_and_then, option_map}
use Rattle.std.specs.Str.{byte}
use Rattle.chrono_text.specs.Lists.{stands_in}
use Rattle.chrono_text.specs.Numbers.{count_of, natural_of, signed, up_to}

-- the number that one digit or more write, if it is no greater than `most`
abbrev pub count_up_to : ℕ → List ℕ → Option ℕ
count_up_to most text = option_and_then (up_to most) (count_of text)

-- the seconds of some units, of which each has so many seconds, and of what is smaller
abbrev pub seconds_together : ℕ → Option ℕ → Option ℕ → Option ℕ
seconds_together unit units smaller = option_and_then (λ n. option_map (λ s. n * unit + s) smaller) units

-- the seconds of `mm[:ss]`, where mm and ss are from 0 to 59
unfoldable pub seconds_of_minutes : List ℕ → Option ℕ
seconds_of_minutes text =
    if stands_in (byte ":") text
    then seconds_together 60 (count_up_to 59 (before_first (λ x. x == byte ":") text)) (count_up_to 59 (after_first (λ x. x == byte ":") text))
    else option_map (λ n. n * 60) (count_up_to 59 text)

-- the seconds of `hh[:mm[:ss]]`, where the hours are up to 167 (RFC 9636, section 3.3.1)
unfoldable pub seconds_of_hours : List ℕ → Option ℕ
seconds_of_hours text =
    if stands_in (byte ":") text
    then seconds_together 3_600 (count_up_to 167 (before_first (λ x. x == byte ":") text)) (seconds_of_minutes (after_first (λ x. x == byte ":") text))
    else option_map (λ n. n * 3_600) (count_up_to 167 text)

-- the same with a sign in front, or none
unfoldable pub signed_seconds : List ℕ → Option ℤ
signed_seconds [] = None
signed_seconds (first ∷ rest) =
    if first == byte "-" then option_map (signed true) (seconds_of_hours rest)
    else (if first == byte "+" then option_map (signed false) (seconds_of_hours rest)
    else option_map (signed false) (seconds_of_hours (first ∷ rest)))

-- known values: an hour of one digit, all three parts, 26 hours, an hour before midnight, the last second, and what is none
signed_seconds-two : signed_seconds (codes "2") ≡ Some (pos 7_200)
unfolding signed_seconds seconds_of_hours count_of natural_of
signed_seconds-two = refl

signed_seconds-three_parts : signed_seconds (codes "+05:30:15") ≡ Some (pos 19_815)
unfolding signed_seconds seconds_of_hours seconds_of_minutes count_of natural_of
signed_seconds-three_parts = refl

signed_seconds-next_day : signed_seconds (codes "26") ≡ Some (pos 93_600)
unfolding signed_seconds seconds_of_hours count_of natural_of
signed_seconds-next_day = refl

signed_seconds-before_midnight : signed_seconds (codes "-1") ≡ Some (neg_ℤ (pos 3_600))
unfolding signed_seconds seconds_of_hours count_of natural_of
signed_seconds-before_midnight = refl

signed_seconds-last : signed_seconds (codes "167:59:59") ≡ Some (pos 604_799)
unfolding signed_seconds seconds_of_hours seconds_of_minutes count_of natural_of
signed_seconds-last = refl

signed_seconds-past : signed_seconds (codes "168") ≡ None
unfolding signed_seconds seconds_of_hours count_of natural_of
signed_seconds-past = refl

signed_seconds-sixty_minutes : signed_seconds (codes "1:60") ≡ None
unfolding signed_seconds seconds_of_hours seconds_of_minutes count_of natural_of
signed_seconds-sixty_minutes = refl

signed_seconds-four_parts : signed_seconds (codes "1:2:3:4") ≡ None
unfolding signed_seconds seconds_of_hours seconds_of_minutes count_of natural_of
signed_seconds-four_parts = refl
