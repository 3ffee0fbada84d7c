use Rattle.std.proofs.Common.{◌≡◌, ℕ, ◌+◌, ◌-◌, ◌*◌, ◌/◌, ◌%◌, ◌==◌, Bool, true, refl, ◌∙◌, arith, ℤ, ◌-ℤ◌, unsigned_abs, filter, length}
use Rattle.std.proofs.lemmas.Bool.{agree_below, agree_below_at, eqb-true}
use Rattle.chrono_datetime.specs.declared.Weekday.{Weekday}
use Rattle.chrono_datetime.specs.declared.Weekday.TheVariants.{Mon, Tue, Wed, Thu, Fri, Sat, Sun}
use Rattle.chrono_datetime.specs.Recurrence.{count_where, is_on}
use Rattle.chrono_datetime.specs.Weekday.{days_since}
use Rattle.chrono_datetime.specs.WeekdaySet.{contains, days_in_row, single}
use Rattle.chrono_datetime.specs.Weeks.{weekday_of}
use Rattle.chrono_datetime.proofs.Signed.{casts}
use Rattle.chrono_uses.proofs.questions.mondays_between.Goals as goal

-- the Mondays of fewer than seven days from the weekday d on, tried one by one
abbrev fits : Weekday → ℕ → Bool
fits d r = length (filter (contains (single Mon)) (days_in_row r d)) == (r + 6 - days_since Mon d) / 7

tried : (d : Weekday) → agree_below (fits d) (λ r. true) 7 ≡ true
tried = elim [ Mon ↦ refl | Tue ↦ refl | Wed ↦ refl | Thu ↦ refl | Fri ↦ refl | Sat ↦ refl | Sun ↦ refl ]

-- and of whole weeks and such a rest
pub returns : goal.returns
returns c = λ order.
    let n : ℤ = c.args.from in
    let k : ℕ = unsigned_abs (c.args.to -ℤ n) in
    let r : ℕ = k % 7 in
    let law = c.weekly_counts_come_again.ensures in
    let whole : 7 * (k / 7) + r ≡ k = omega arith in
    let week : count_where (is_on (single Mon)) 7 n ≡ 1 = law.members (single Mon) n in
    let weeks = rw (whole, week) at (law.weeks (is_on (single Mon)) (law.weekdays (contains (single Mon))) (k / 7) r n) in
    let rest = law.row (contains (single Mon)) r n ∙ eqb-true _ _ (agree_below_at (fits (weekday_of n)) (λ i. true) 7 r (tried (weekday_of n)) (omega arith)) in
    let to_monday : c.days_since-to_monday.result ≡ days_since Mon (weekday_of n) = rw (← c.weekday.ensures.value) c.days_since-to_monday.ensures in
    omega (arith, casts, weeks, rest, to_monday, order, c.abs_diff-days.ensures, c.num_days_from_ce.ensures, c.num_days_from_ce-2.ensures)
