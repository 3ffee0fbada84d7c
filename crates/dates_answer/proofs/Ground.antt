-- The names that most proofs here cite, passed on from one place.
pub use Rattle.std.proofs.Common.{◌≡◌, inl, inr, Bool, true, false, cond, Option, Some, None, refl, arith, rules, ℤ, pos, neg_ℤ, ◌≤ℤ◌, ◌<ℤ◌, int_le, w64, ◌⊎◌, ◌+ℤ◌, ◌*ℤ◌, IsSome, IfSome, IsSomeAnd, sym, ap, ◌∙◌, ◌-ℤ◌, [], ◌∷◌, ℕ, ◌&&◌, is_some, negsuc, int_div, ◌+◌, ◌<◌, List, ◌++◌, length, take, get_or, append_assoc, subst, ◌*◌, IsUtf8, chars, append-nil, w32}
pub use Rattle.std.proofs.lemmas.Int.{by_lt_z, ints, to_z-of_z, quot_fits, quot_is}
pub use Rattle.std.proofs.lemmas.Bool.{false≢true}
pub use Rattle.std.proofs.lemmas.Option.{same_Some, cond_some}
pub use Rattle.std.specs.Option.{SomeIff, unwrap_or}
pub use Rattle.std.specs.Int.RustNames.{FitsSigned}
pub use Rattle.chrono_calendar.specs.Days.{IsDate, is_date, month_of, year_of}
unfoldable pub use Rattle.chrono_calendar.specs.Days.{date_of_day, days_of_years, days_before_year, days_of_months_in, ordinal_name_of, days_after_zero, days_before_zero, month_of_ordinal, day_of_ordinal}
unfoldable pub use Rattle.chrono_calendar.specs.MonthMoves.{month_move}
pub use Rattle.chrono_calendar.specs.MonthMoves.{month_index_of, year_of_month_index, month_first_of, month_last_of}
pub use Rattle.chrono_calendar.proofs.Signed.{signed}
pub use Rattle.chrono_calendar.proofs.Dates.{by_test, date_of_day-SomeIff}
pub use Rattle.chrono_calendar.proofs.MonthMoveLaws.{year_of-range, month_move-parts, month_move-exists, IfSome-cond}
pub use Rattle.chrono_calendar.proofs.Rising.{month_index_of-rises, year_of-rises}
pub use Rattle.chrono_datetime.proofs.MonthPlaces.{later_month}
unfoldable pub use Rattle.dates_answer.specs.Moves.{unit_move, moved_from}
pub use Rattle.dates_answer.specs.Distances.{IsMostBack, IsMostForth, IsUnitsBetween}
unfoldable pub use Rattle.dates_answer.specs.Distances.{units_apart}
pub use Rattle.dates_answer.specs.Parts.{IsPartsBetween}
pub use Rattle.dates_answer.specs.declared.span.Unit.{Unit}
pub use Rattle.dates_answer.specs.declared.span.Unit.TheVariants.{Days, Weeks, Months, Years}
