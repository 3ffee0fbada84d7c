use Rattle.std.proofs.Common.{◌≡◌, ℤ, pos, Bool, true, false, if◌then◌else◌, int_le, ap, refl, subst}
use Rattle.chrono_datetime.specs.Days.{date_of_yo, days_before_year, days_of_years, year_of}
use Rattle.chrono_datetime.proofs.NamedDates.{date_of_yo-name}
use Rattle.zone_rule.specs.Changes.{change_second, day_in_year, last_by, year_of_second}
use Rattle.zone_rule.specs.Rules.{is_daylight}
use Rattle.zone_rule.specs.declared.rule.Daylight.{Daylight}
use Rattle.zone.specs.KnownRules.{northern_daylight, southern_daylight}
use Rattle.zone.proofs.law.known_offsets_of_rules.Goals as goal

-- 15 January and 15 July lie in 2024
january : pos 2_024 ≡ year_of (pos 738_900)
unfolding date_of_yo days_before_year days_of_years
january = (date_of_yo-name (pos 738_900) (pos 2_024) 15 refl).0

july : pos 2_024 ≡ year_of (pos 739_082)
unfolding date_of_yo days_before_year days_of_years
july = (date_of_yo-name (pos 739_082) (pos 2_024) 197 refl).0

-- whether daylight time holds, by the year of the second
daylight_in : (d : Daylight) (u y : ℤ) (b : Bool) → y ≡ year_of_second u → int_le (last_by (change_second d.offset d.ends) y u) (last_by (change_second (pos 0) d.begins) y u) ≡ b → is_daylight (pos 0) d u ≡ b
unfolding is_daylight
daylight_in d u y b year fact = subst (λ (z : ℤ). int_le (last_by (change_second d.offset d.ends) z u) (last_by (change_second (pos 0) d.begins) z u) ≡ b) year fact

pub returns-clause-northern_january : goal.returns-clause-northern_january
unfolding day_in_year days_before_year days_of_years
returns-clause-northern_january c = ap (λ (b : Bool). if b then pos 3_600 else pos 0) (daylight_in northern_daylight (pos 1_705_320_000) (pos 2_024) false january refl)

pub returns-clause-northern_july : goal.returns-clause-northern_july
unfolding day_in_year days_before_year days_of_years
returns-clause-northern_july c = ap (λ (b : Bool). if b then pos 3_600 else pos 0) (daylight_in northern_daylight (pos 1_721_044_800) (pos 2_024) true july refl)

pub returns-clause-southern_january : goal.returns-clause-southern_january
unfolding day_in_year days_before_year days_of_years
returns-clause-southern_january c = ap (λ (b : Bool). if b then pos 3_600 else pos 0) (daylight_in southern_daylight (pos 1_705_320_000) (pos 2_024) true january refl)

pub returns-clause-southern_july : goal.returns-clause-southern_july
unfolding day_in_year days_before_year days_of_years
returns-clause-southern_july c = ap (λ (b : Bool). if b then pos 3_600 else pos 0) (daylight_in southern_daylight (pos 1_721_044_800) (pos 2_024) false july refl)
