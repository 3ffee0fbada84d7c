-- A text of a schedule lists one family of sets.
use Rattle.std.proofs.Common.{◌≡◌, ◌&&◌, ◌||◌, ℕ, Bool, List, [], get_or, Option, sym, ap, ◌∙◌}
use Rattle.std.specs.Prelude.{not}
use Rattle.std.proofs.lemmas.Option.{same_Some}
use Rattle.chrono_sets.specs.FiniteSets.{FiniteSet, has}
use Rattle.chrono_sets.proofs.Members.{same_set}
use Rattle.chrono_cron.specs.declared.named_days.MonthDays.{MonthDays}
use Rattle.chrono_cron.specs.declared.text.number_names.Names.TheVariants.{Numbers, Months}
use Rattle.chrono_cron.specs.declared.field_sets.FieldSets.{FieldSets}
use Rattle.chrono_cron.specs.FieldTexts.{field_lists}
use Rattle.chrono_cron.specs.ScheduleTexts.{AreListed, AreNamed, IsScheduleText, an_item_is, begins_with_star, days_list, from_end_of, last_weekday_of, last_workday_of, nearest_workday_of, nth_weekday_of, weekdays_list}

-- two sets that list the same, or of which the same numbers are named
same_listed : (s t : FiniteSet) (listed : List ℕ → ℕ → Option Bool) (one other : List ℕ) → one ≡ other → AreListed s (listed one) → AreListed t (listed other) → s ≡ t
same_listed s t listed one other e here there = same_set s t (λ k. same_Some (has s k) (has t k) (sym (here k) ∙ ap (λ text. listed text k) e ∙ there k))

same_named : (s t : FiniteSet) (named : List ℕ → ℕ → Bool) (one other : List ℕ) → one ≡ other → AreNamed s (named one) → AreNamed t (named other) → s ≡ t
same_named s t named one other e here there = same_set s t (λ k. sym (here k) ∙ ap (λ text. named text k) e ∙ there k)

-- the fields of a text, each by its place
abbrev field_at : ℕ → List (List ℕ) → List ℕ
field_at n fields = get_or fields n []

abbrev days_of : FiniteSet → FiniteSet → Bool → FiniteSet → FiniteSet → MonthDays
days_of ends nearest last lasts nths = record { from_end = ends; nearest_workdays = nearest; last_workday = last; last_weekdays = lasts; nth_weekdays = nths }

abbrev sets_of : FiniteSet → FiniteSet → FiniteSet → FiniteSet → FiniteSet → MonthDays → Bool → Bool → FieldSets
sets_of minutes hours days months weekdays named either follows =
    record { minutes = minutes; hours = hours; days = days; months = months; weekdays = weekdays; month_days = named; either = either; follows_clock = follows }

-- days and sets whose parts are the same
same_days_of : (a b c d : FiniteSet) (l : Bool) (e f g h : FiniteSet) (m : Bool) → a ≡ e → b ≡ f → l ≡ m → c ≡ g → d ≡ h → days_of a b l c d ≡ days_of e f m g h
same_days_of a b c d l e f g h m p q r s t =
    ap (λ x. days_of x b l c d) p ∙ ap (λ x. days_of e x l c d) q ∙ ap (λ x. days_of e f x c d) r ∙ ap (λ x. days_of e f m x d) s ∙ ap (days_of e f m g) t

same_sets_of : (s t : FieldSets) → s.minutes ≡ t.minutes → s.hours ≡ t.hours → s.days ≡ t.days → s.months ≡ t.months → s.weekdays ≡ t.weekdays → s.month_days ≡ t.month_days → s.either ≡ t.either → s.follows_clock ≡ t.follows_clock → s ≡ t
same_sets_of s t a b c d e f g h =
    ap (λ x. sets_of x s.hours s.days s.months s.weekdays s.month_days s.either s.follows_clock) a
    ∙ ap (λ x. sets_of t.minutes x s.days s.months s.weekdays s.month_days s.either s.follows_clock) b
    ∙ ap (λ x. sets_of t.minutes t.hours x s.months s.weekdays s.month_days s.either s.follows_clock) c
    ∙ ap (λ x. sets_of t.minutes t.hours t.days x s.weekdays s.month_days s.either s.follows_clock) d
    ∙ ap (λ x. sets_of t.minutes t.hours t.days t.months x s.month_days s.either s.follows_clock) e
    ∙ ap (λ x. sets_of t.minutes t.hours t.days t.months t.weekdays x s.either s.follows_clock) f
    ∙ ap (λ x. sets_of t.minutes t.hours t.days t.months t.weekdays t.month_days x s.follows_clock) g
    ∙ ap (sets_of t.minutes t.hours t.days t.months t.weekdays t.month_days t.either) h

pub one_reading : (text : List ℕ) (s t : FieldSets) → IsScheduleText text s → IsScheduleText text t → s ≡ t
one_reading text s t one other =
    let same = sym one.written ∙ other.written in
    let minute = ap (field_at 0) same in
    let hour = ap (field_at 1) same in
    let day = ap (field_at 2) same in
    let month = ap (field_at 3) same in
    let weekday = ap (field_at 4) same in
    let m = one.month_days in
    let n = other.month_days in
    let named = same_days_of _ _ _ _ s.month_days.last_workday _ _ _ _ t.month_days.last_workday
    (same_named _ _ (an_item_is from_end_of) one.day other.day day m.from_end n.from_end)
    (same_named _ _ (an_item_is nearest_workday_of) one.day other.day day m.nearest_workdays n.nearest_workdays)
    (sym m.last_workday ∙ ap (λ text. an_item_is last_workday_of text 0) day ∙ n.last_workday)
    (same_named _ _ (an_item_is last_weekday_of) one.weekday other.weekday weekday m.last_weekdays n.last_weekdays)
    (same_named _ _ (an_item_is nth_weekday_of) one.weekday other.weekday weekday m.nth_weekdays n.nth_weekdays) in
    let either = sym one.either ∙ ap (λ text. not (begins_with_star text) && not (begins_with_star one.weekday)) day
    ∙ ap (λ text. not (begins_with_star other.day) && not (begins_with_star text)) weekday ∙ other.either in
    let follows = sym one.follows_clock ∙ ap (λ text. begins_with_star text || begins_with_star one.hour) minute
    ∙ ap (λ text. begins_with_star other.minute || begins_with_star text) hour ∙ other.follows_clock in
    same_sets_of s t
    (same_listed _ _ (field_lists Numbers 0 59) one.minute other.minute minute one.minutes other.minutes)
    (same_listed _ _ (field_lists Numbers 0 23) one.hour other.hour hour one.hours other.hours)
    (same_listed _ _ days_list one.day other.day day one.days other.days)
    (same_listed _ _ (field_lists Months 1 12) one.month other.month month one.months other.months)
    (same_listed _ _ weekdays_list one.weekday other.weekday weekday one.weekdays other.weekdays)
    named either follows
