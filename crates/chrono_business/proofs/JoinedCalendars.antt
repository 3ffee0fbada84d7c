-- A calendar that is closed where one of two is.
use Rattle.std.proofs.Common.{◌≡◌, Bool, true, false, not, ◌&&◌, ◌||◌, ◌⊎◌, inl, inr, [], refl, ap, ◌∙◌, ℤ}
use Rattle.std.proofs.lemmas.Bool.{false≢true}
use Rattle.chrono_datetime.specs.declared.Weekday.{Weekday}
use Rattle.chrono_datetime.specs.declared.Weekday.TheVariants.{Mon, Tue, Wed, Thu, Fri, Sat, Sun}
use Rattle.chrono_datetime.specs.WeekdaySet.{DaySet, contains, union}
use Rattle.chrono_datetime.specs.Weeks.{weekday_of}
use Rattle.chrono_business.specs.OpenDays.{Closed, is_holiday, is_open, is_workday}
use Rattle.chrono_business.specs.HolidayLists.{AreHolidaysWith}

contains-union : (a b : DaySet) (w : Weekday) → contains (union a b) w ≡ (contains a w || contains b w)
contains-union a b Mon = refl
contains-union a b Tue = refl
contains-union a b Wed = refl
contains-union a b Thu = refl
contains-union a b Fri = refl
contains-union a b Sat = refl
contains-union a b Sun = refl

not_either : (a b : Bool) → not (a || b) ≡ (not a && not b)
not_either true b = refl
not_either false b = refl

workday-union : (a b : DaySet) (d : ℤ) → is_workday (union a b) d ≡ (is_workday a d && is_workday b d)
workday-union a b d =
    ap not (contains-union a b (weekday_of d)) ∙ not_either (contains a (weekday_of d)) (contains b (weekday_of d))

-- of workdays and holidays of both, and of the holidays that are joined
both_open : (wa wb hz ha hb : Bool) → (hz ≡ true → (ha ≡ true) ⊎ (hb ≡ true)) → (ha ≡ true → (wa && wb) ≡ true → hz ≡ true) → (hb ≡ true → (wa && wb) ≡ true → hz ≡ true) → ((wa && wb) && not hz) ≡ ((wa && not ha) && (wb && not hb))
both_open false wb hz ha hb only own other = refl
both_open true false hz true hb only own other = refl
both_open true false hz false hb only own other = refl
both_open true true hz true hb only own other = ap not (own refl refl)
both_open true true hz false true only own other = ap not (other refl refl)
both_open true true true false false only own other = elim (only refl) [ inl never ↦ absurd (false≢true never) | inr never ↦ absurd (false≢true never) ]
both_open true true false false false only own other = refl

pub joined-open : (a b c : Closed) (d : ℤ) → c.weekend ≡ union a.weekend b.weekend → AreHolidaysWith (union a.weekend b.weekend) [] (λ d. (is_holiday a.holidays d ≡ true) ⊎ (is_holiday b.holidays d ≡ true)) c.holidays → is_open c d ≡ (is_open a d && is_open b d)
unfolding is_open
joined-open a b c d weekend w =
    let workday : is_workday c.weekend d ≡ (is_workday a.weekend d && is_workday b.weekend d) = ap (λ (s : DaySet). is_workday s d) weekend ∙ workday-union a.weekend b.weekend d in
    let of_union = workday-union a.weekend b.weekend d in
    ap (λ e. e && not (is_holiday c.holidays d)) workday
    ∙ both_open (is_workday a.weekend d) (is_workday b.weekend d) (is_holiday c.holidays d) (is_holiday a.holidays d) (is_holiday b.holidays d) (λ h. elim (w.only d h) [ inl none ↦ absurd (false≢true none) | inr p ↦ p.0 ]) (λ h both. w.each d (inl h) (of_union ∙ both)) (λ h both. w.each d (inr h) (of_union ∙ both))
