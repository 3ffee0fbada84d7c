-- The commands of so many numbers, and of another count.
use Rattle.std.proofs.Common.{◌≡◌, ◌+◌, ◌≤◌, ℕ, zero, suc, ℤ, pos, List, [], ◌∷◌, length, drop, get_or, drop-cons, Option, Some, None, refl, ap, sym, ◌∙◌, arith, to_z, of_z, to_z-of_z, SFits, w64}
use Rattle.chrono_text.specs.Numbers.{to_i64, to_i32, to_u32}
use Rattle.caltool_command.specs.Commands.{◌·◌, calendar_date, clock_time, date_and_time, weekday_set, command_from}
use Rattle.caltool_command.specs.declared.arguments.CalendarDate.{CalendarDate}
use Rattle.caltool_command.specs.declared.arguments.ClockTime.{ClockTime}
use Rattle.caltool_command.specs.declared.command.Command.TheVariants.{Days, Move, Diff, Since, On, Every}
use Rattle.caltool_command.specs.declared.name.Name.TheVariants as name

-- a number as it is read from a slice
abbrev from_slice : ℤ → ℤ
from_slice z = to_z w64 (of_z w64 z)

module _ (numbers : List ℤ) where
  -- the number at a place
  abbrev at : ℕ → ℤ
  at k = get_or numbers k (pos 0)

  -- what a call makes of numbers read from a slice, of the numbers

  pub date_at : (k : ℕ) {o : Option CalendarDate} → SFits w64 (at k) → SFits w64 (at (suc k)) → SFits w64 (at (suc (suc k)))
      → o ≡ calendar_date (from_slice (at k)) (from_slice (at (suc k))) (from_slice (at (suc (suc k)))) → calendar_date (at k) (at (suc k)) (at (suc (suc k))) ≡ o
  date_at k year month day is = sym (is ∙ rw (to_z-of_z year, to_z-of_z month, to_z-of_z day) refl)

  pub time_at : (k : ℕ) {o : Option ClockTime} → SFits w64 (at k) → SFits w64 (at (suc k)) → SFits w64 (at (suc (suc k))) → SFits w64 (at (suc (suc (suc k))))
      → o ≡ clock_time (from_slice (at k)) (from_slice (at (suc k))) (from_slice (at (suc (suc k)))) (from_slice (at (suc (suc (suc k)))))
      → clock_time (at k) (at (suc k)) (at (suc (suc k))) (at (suc (suc (suc k)))) ≡ o
  time_at k hour minute second fraction is = sym (is ∙ rw (to_z-of_z hour, to_z-of_z minute, to_z-of_z second, to_z-of_z fraction) refl)

  pub number_at : {A : Type 0} (f : ℤ → A) (k : ℕ) {o : A} → SFits w64 (at k) → o ≡ f (from_slice (at k)) → f (at k) ≡ o
  number_at f k fits is = sym (is ∙ ap f (to_z-of_z fits))

  -- so many numbers from a place on, and others behind them
  abbrev run : ℕ → ℕ → List ℤ → List ℤ
  run k zero others = others
  run k (suc n) others = at k ∷ run (suc k) n others

  run_is : (k n : ℕ) (others : List ℤ) → k + n ≤ length numbers → drop (k + n) numbers ≡ others → drop k numbers ≡ run k n others
  run_is k zero others within is = ap (λ m. drop m numbers) (omega arith) ∙ is
  run_is k (suc n) others within is =
      drop-cons numbers k (pos 0) (omega arith) ∙ ap (λ l. at k ∷ l) (run_is (suc k) n others (omega arith) (ap (λ m. drop m numbers) (omega arith) ∙ is))

  drop_all : (xs : List ℤ) → drop (length xs) xs ≡ []
  drop_all [] = refl
  drop_all (x ∷ xs) = drop_all xs

  exactly : (n : ℕ) → length numbers ≡ n → numbers ≡ run 0 n []
  exactly n is = let all : 0 + n ≡ length numbers = omega arith in run_is 0 n [] (omega arith) (ap (λ m. drop m numbers) all ∙ drop_all numbers)

  pub days_of : length numbers ≡ 4 → command_from name.Days numbers ≡ Some (λ date n. Days date n) · calendar_date (at 0) (at 1) (at 2) · to_i64 (at 3)
  unfolding command_from
  days_of is = ap (command_from name.Days) (exactly 4 is)

  pub moved_of : length numbers ≡ 9 → command_from name.Move numbers
      ≡ Some (λ from s n. Move from s n) · date_and_time (calendar_date (at 0) (at 1) (at 2)) (clock_time (at 3) (at 4) (at 5) (at 6)) · to_i64 (at 7) · to_u32 (at 8)
  unfolding command_from
  moved_of is = ap (command_from name.Move) (exactly 9 is)

  pub diff_of : length numbers ≡ 14 → command_from name.Diff numbers
      ≡ Some (λ from to. Diff from to)
      · date_and_time (calendar_date (at 0) (at 1) (at 2)) (clock_time (at 3) (at 4) (at 5) (at 6))
      · date_and_time (calendar_date (at 7) (at 8) (at 9)) (clock_time (at 10) (at 11) (at 12) (at 13))
  unfolding command_from
  diff_of is = ap (command_from name.Diff) (exactly 14 is)

  pub since_of : length numbers ≡ 6 → command_from name.Since numbers
      ≡ Some (λ date base. Since date base) · calendar_date (at 0) (at 1) (at 2) · calendar_date (at 3) (at 4) (at 5)
  unfolding command_from
  since_of is = ap (command_from name.Since) (exactly 6 is)

  pub on_of : 3 ≤ length numbers → command_from name.On numbers
      ≡ Some (λ date days. On date days) · calendar_date (at 0) (at 1) (at 2) · weekday_set (drop 3 numbers)
  unfolding command_from
  on_of within = ap (command_from name.On) (run_is 0 3 (drop 3 numbers) within refl)

  pub every_of : length numbers ≡ 5 → command_from name.Every numbers
      ≡ Some (λ date m t. Every date m t) · calendar_date (at 0) (at 1) (at 2) · to_i32 (at 3) · to_u32 (at 4)
  unfolding command_from
  every_of is = ap (command_from name.Every) (exactly 5 is)

pub no_days : (numbers : List ℤ) → (length numbers ≡ 4 → ⊥) → command_from name.Days numbers ≡ None
unfolding command_from
no_days [] other = refl
no_days (_ ∷ []) other = refl
no_days (_ ∷ _ ∷ []) other = refl
no_days (_ ∷ _ ∷ _ ∷ []) other = refl
no_days (_ ∷ _ ∷ _ ∷ _ ∷ []) other = absurd (other refl)
no_days (_ ∷ _ ∷ _ ∷ _ ∷ _ ∷ _) other = refl

pub no_moved : (numbers : List ℤ) → (length numbers ≡ 9 → ⊥) → command_from name.Move numbers ≡ None
unfolding command_from
no_moved [] other = refl
no_moved (_ ∷ []) other = refl
no_moved (_ ∷ _ ∷ []) other = refl
no_moved (_ ∷ _ ∷ _ ∷ []) other = refl
no_moved (_ ∷ _ ∷ _ ∷ _ ∷ []) other = refl
no_moved (_ ∷ _ ∷ _ ∷ _ ∷ _ ∷ []) other = refl
no_moved (_ ∷ _ ∷ _ ∷ _ ∷ _ ∷ _ ∷ []) other = refl
no_moved (_ ∷ _ ∷ _ ∷ _ ∷ _ ∷ _ ∷ _ ∷ []) other = refl
no_moved (_ ∷ _ ∷ _ ∷ _ ∷ _ ∷ _ ∷ _ ∷ _ ∷ []) other = refl
no_moved (_ ∷ _ ∷ _ ∷ _ ∷ _ ∷ _ ∷ _ ∷ _ ∷ _ ∷ []) other = absurd (other refl)
no_moved (_ ∷ _ ∷ _ ∷ _ ∷ _ ∷ _ ∷ _ ∷ _ ∷ _ ∷ _ ∷ _) other = refl

pub no_diff : (numbers : List ℤ) → (length numbers ≡ 14 → ⊥) → command_from name.Diff numbers ≡ None
unfolding command_from
no_diff [] other = refl
no_diff (_ ∷ []) other = refl
no_diff (_ ∷ _ ∷ []) other = refl
no_diff (_ ∷ _ ∷ _ ∷ []) other = refl
no_diff (_ ∷ _ ∷ _ ∷ _ ∷ []) other = refl
no_diff (_ ∷ _ ∷ _ ∷ _ ∷ _ ∷ []) other = refl
no_diff (_ ∷ _ ∷ _ ∷ _ ∷ _ ∷ _ ∷ []) other = refl
no_diff (_ ∷ _ ∷ _ ∷ _ ∷ _ ∷ _ ∷ _ ∷ []) other = refl
no_diff (_ ∷ _ ∷ _ ∷ _ ∷ _ ∷ _ ∷ _ ∷ _ ∷ []) other = refl
no_diff (_ ∷ _ ∷ _ ∷ _ ∷ _ ∷ _ ∷ _ ∷ _ ∷ _ ∷ []) other = refl
no_diff (_ ∷ _ ∷ _ ∷ _ ∷ _ ∷ _ ∷ _ ∷ _ ∷ _ ∷ _ ∷ []) other = refl
no_diff (_ ∷ _ ∷ _ ∷ _ ∷ _ ∷ _ ∷ _ ∷ _ ∷ _ ∷ _ ∷ _ ∷ []) other = refl
no_diff (_ ∷ _ ∷ _ ∷ _ ∷ _ ∷ _ ∷ _ ∷ _ ∷ _ ∷ _ ∷ _ ∷ _ ∷ []) other = refl
no_diff (_ ∷ _ ∷ _ ∷ _ ∷ _ ∷ _ ∷ _ ∷ _ ∷ _ ∷ _ ∷ _ ∷ _ ∷ _ ∷ []) other = refl
no_diff (_ ∷ _ ∷ _ ∷ _ ∷ _ ∷ _ ∷ _ ∷ _ ∷ _ ∷ _ ∷ _ ∷ _ ∷ _ ∷ _ ∷ []) other = absurd (other refl)
no_diff (_ ∷ _ ∷ _ ∷ _ ∷ _ ∷ _ ∷ _ ∷ _ ∷ _ ∷ _ ∷ _ ∷ _ ∷ _ ∷ _ ∷ _ ∷ _) other = refl

pub no_since : (numbers : List ℤ) → (length numbers ≡ 6 → ⊥) → command_from name.Since numbers ≡ None
unfolding command_from
no_since [] other = refl
no_since (_ ∷ []) other = refl
no_since (_ ∷ _ ∷ []) other = refl
no_since (_ ∷ _ ∷ _ ∷ []) other = refl
no_since (_ ∷ _ ∷ _ ∷ _ ∷ []) other = refl
no_since (_ ∷ _ ∷ _ ∷ _ ∷ _ ∷ []) other = refl
no_since (_ ∷ _ ∷ _ ∷ _ ∷ _ ∷ _ ∷ []) other = absurd (other refl)
no_since (_ ∷ _ ∷ _ ∷ _ ∷ _ ∷ _ ∷ _ ∷ _) other = refl

pub no_every : (numbers : List ℤ) → (length numbers ≡ 5 → ⊥) → command_from name.Every numbers ≡ None
unfolding command_from
no_every [] other = refl
no_every (_ ∷ []) other = refl
no_every (_ ∷ _ ∷ []) other = refl
no_every (_ ∷ _ ∷ _ ∷ []) other = refl
no_every (_ ∷ _ ∷ _ ∷ _ ∷ []) other = refl
no_every (_ ∷ _ ∷ _ ∷ _ ∷ _ ∷ []) other = absurd (other refl)
no_every (_ ∷ _ ∷ _ ∷ _ ∷ _ ∷ _ ∷ _) other = refl

pub no_on : (numbers : List ℤ) → (3 ≤ length numbers → ⊥) → command_from name.On numbers ≡ None
unfolding command_from
no_on [] other = refl
no_on (_ ∷ []) other = refl
no_on (_ ∷ _ ∷ []) other = refl
no_on (_ ∷ _ ∷ _ ∷ _) other = absurd (other (omega arith))
