-- Values that the definitions must give.
use Rattle.std.proofs.Common.{◌≡◌, refl, pos, neg_ℤ, [], ◌∷◌}
use Rattle.std.specs.declared.cmp.Ordering.TheVariants.{Less, Greater}
use Rattle.chrono_calendar.specs.Recurrence.{dates_left}
use Rattle.chrono_naive.specs.Fields.{iso_week_cmp}
use Rattle.chrono_naive.specs.DateLists.{in_steps, days_from, weeks_from}

-- ---- week 1 of a later year comes after week 53, and in one year the later week comes after

later_year : iso_week_cmp (record { year = pos 2020; week = 53 }) (record { year = pos 2021; week = 1 }) ≡ Less
later_year = refl

later_week : iso_week_cmp (record { year = pos 2020; week = 53 }) (record { year = pos 2020; week = 52 }) ≡ Greater
later_week = refl

-- ---- the last date ends the days, and the weeks end a week before it

last_two_days : days_from (pos 95_745_398) ≡ pos 95_745_398 ∷ pos 95_745_399 ∷ []
unfolding in_steps days_from
last_two_days = refl

no_day_past_the_last : days_from (pos 95_745_400) ≡ []
unfolding in_steps days_from
no_day_past_the_last = refl

all_days : dates_left (neg_ℤ (pos 95_746_129)) ≡ 191_491_529
all_days = refl

last_week : weeks_from (pos 95_745_392) ≡ pos 95_745_392 ∷ []
unfolding in_steps weeks_from
last_week = refl

no_week_past_it : weeks_from (pos 95_745_393) ≡ []
unfolding in_steps weeks_from
no_week_past_it = refl
