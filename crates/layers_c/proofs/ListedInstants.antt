-- A list of instants that is written place by place.
use Rattle.std.proofs.Common.{◌≡◌, ◌∙◌, ◌+◌, ◌-◌, ◌≤◌, ◌<◌, ◌++◌, ℕ, suc, ℤ, true, false, List, [], ◌∷◌, length, map, take, Some, None, refl, ap, sym, subst, arith}
use Rattle.std.specs.Prelude.{slice_set}
use Rattle.std.proofs.lemmas.List.{append-nil, append_assoc, map-append, take_more_set}
use Rattle.chrono_datetime.specs.Moment.{Moment}
use Rattle.numbers_c.specs.DateTimes.{numbers_for_c}
use Rattle.numbers_c.specs.declared.date_time_numbers.CalendarDateTime.{CalendarDateTime}
use Rattle.zoned_rules.specs.declared.zoned_recurrence.ZonedRecurrence.{ZonedRecurrence}
use Rattle.layers_c.specs.Calendars.{AreInstantsUpTo, IsNextInstant}
use Rattle.layers_c.specs.Schedules.{is_up_to}

module _ {Z : Type 0} (ahead : Z → ℤ → ℤ) (s : ZonedRecurrence Z) (start until : Moment) (room : ℕ) where
  -- some moments are written, and with those that come behind them they are all
  pub record IsBegun (last : Moment) (count : ℕ) (out : List CalendarDateTime) : Type 0 where
    pub moments : List Moment
    pub written : take count out ≡ map numbers_for_c moments
    pub goes_on : (more : List Moment) → AreInstantsUpTo ahead s last until (room - count) more → AreInstantsUpTo ahead s start until room (moments ++ more)

  pub none_written : (out : List CalendarDateTime) → IsBegun start 0 out
  none_written out = record {
    moments = [];
    written = refl;
    goes_on = λ more h. let all : room - 0 ≡ room = omega arith in subst (λ (k : ℕ). AreInstantsUpTo ahead s start until k more) all h;
  }

  left_over : (count : ℕ) → count < room → room - count ≡ suc (room - (count + 1))
  left_over count lt = omega (arith, lt)

  -- one more
  pub more_written : (last m : Moment) (count : ℕ) (out : List CalendarDateTime) → count < room → count < length out → IsBegun last count out
      → IsNextInstant ahead s last (Some m) → is_up_to until m ≡ true → IsBegun m (count + 1) (slice_set out count (numbers_for_c m))
  more_written last m count out lt inside b next passes = record {
    moments = b.moments ++ (m ∷ []);
    written =
        take_more_set out count (numbers_for_c m) inside
        ∙ ap (λ (l : List CalendarDateTime). l ++ (numbers_for_c m ∷ [])) b.written
        ∙ sym (map-append numbers_for_c b.moments (m ∷ []));
    goes_on = λ more h.
        subst (λ (ms : List Moment). AreInstantsUpTo ahead s start until room ms) (sym (append_assoc b.moments (m ∷ []) more))
        (b.goes_on (m ∷ more) (subst (λ (k : ℕ). AreInstantsUpTo ahead s last until k (m ∷ more)) (sym (left_over count lt)) (next, passes, h)));
  }

  -- all are written: there is no room, no instant, or none up to the bound
  pub all_written : (last : Moment) (count : ℕ) (out : List CalendarDateTime) → IsBegun last count out → AreInstantsUpTo ahead s last until (room - count) []
      → (ms : List Moment) × (take count out ≡ map numbers_for_c ms) × AreInstantsUpTo ahead s start until room ms
  all_written last count out b h =
      (b.moments, b.written, subst (λ (ms : List Moment). AreInstantsUpTo ahead s start until room ms) (append-nil b.moments) (b.goes_on [] h))

  pub no_room : (last : Moment) (count : ℕ) → room ≤ count → AreInstantsUpTo ahead s last until (room - count) []
  no_room last count full = let none : room - count ≡ 0 = omega (arith, full) in subst (λ (k : ℕ). AreInstantsUpTo ahead s last until k []) (sym none) refl

  pub no_instant : (last : Moment) (count : ℕ) → count < room → IsNextInstant ahead s last None → AreInstantsUpTo ahead s last until (room - count) []
  no_instant last count lt none = subst (λ (k : ℕ). AreInstantsUpTo ahead s last until k []) (sym (left_over count lt)) (None, none, tt)

  pub past_bound : (last m : Moment) (count : ℕ) → count < room → IsNextInstant ahead s last (Some m) → is_up_to until m ≡ false → AreInstantsUpTo ahead s last until (room - count) []
  past_bound last m count lt next fails = subst (λ (k : ℕ). AreInstantsUpTo ahead s last until k []) (sym (left_over count lt)) (Some m, next, fails)
