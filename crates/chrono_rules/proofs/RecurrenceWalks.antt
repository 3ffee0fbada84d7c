-- What a step takes from the days of a recurrence that are left.
use Rattle.std.proofs.Common.{◌≡◌, ◌≤◌, ◌||◌, true, false, [], ◌∷◌, length, refl, sym, ◌∙◌, arith, ℤ, pos, ◌+ℤ◌, ◌≤ℤ◌, ◌<ℤ◌}
use Rattle.std.proofs.Math.Bool.{and-true, or-false}
use Rattle.std.proofs.lemmas.List.Elements.{filter_agree}
use Rattle.chrono_datetime.specs.Days.{IsDate}
use Rattle.chrono_datetime.specs.DateLists.{IsDayCursor, days_from}
use Rattle.chrono_datetime.specs.Recurrence.{dates_left, past_last_date}
use Rattle.chrono_datetime.proofs.CountBetween.{count_between-empty}
use Rattle.chrono_datetime.proofs.Signed.{signed}
use Rattle.chrono_rules.specs.Instances.{is_instance, is_member}
use Rattle.chrono_rules.specs.InstanceLists.{instances_from}
use Rattle.chrono_rules.specs.InstanceWalks.{IsKept, seen_before}
use Rattle.chrono_rules.specs.RecurrenceSets.{RecurrenceSet, is_in_recurrence, is_instance_or_date, recurrence_from}
use Rattle.chrono_rules.specs.declared.rule.End.{End}
use Rattle.chrono_rules.specs.declared.rule.End.TheVariants.{Count, Never, Until}
use Rattle.chrono_rules.specs.declared.rule.Rule.{Rule}
use Rattle.chrono_rules.proofs.DayLists.{days-few, days-first, days-none}
use Rattle.chrono_rules.proofs.Kept.{kept-counted}

pub recurrence-none : (s : RecurrenceSet) (a : ℤ) → IsDayCursor a → ((d : ℤ) → a ≤ℤ d → IsDate d → is_in_recurrence s d ≡ false) → recurrence_from s a ≡ []
unfolding recurrence_from
recurrence-none s a is none = days-none (is_in_recurrence s) a is none

-- no date is left
pub recurrence-past : (s : RecurrenceSet) (a : ℤ) → IsDayCursor a → past_last_date ≤ℤ a → recurrence_from s a ≡ []
recurrence-past s a is past = recurrence-none s a is (λ d low date. absurd (omega (arith, signed, low, date.1, past)))

pub recurrence-first : (s : RecurrenceSet) (a e m : ℤ) → a ≤ℤ e → IsDate e → m ≡ e +ℤ pos 1 → is_in_recurrence s e ≡ true → ((d : ℤ) → a ≤ℤ d → d <ℤ e → is_in_recurrence s d ≡ false) → recurrence_from s a ≡ e ∷ recurrence_from s m
unfolding recurrence_from
recurrence-first s a e m low date next member least = days-first (is_in_recurrence s) a e m low date next member least

pub recurrence-few : (s : RecurrenceSet) (a : ℤ) → length (recurrence_from s a) ≤ dates_left a
unfolding recurrence_from
recurrence-few s a = days-few (is_in_recurrence s) a

-- no member comes before the start, so nothing is kept there
none-seen : (f : End) (r : Rule) (s a : ℤ) → a ≤ℤ s → 0 ≡ seen_before f r s a
unfolding seen_before
none-seen Never r s a low = refl
none-seen (Until u) r s a low = refl
none-seen (Count c) r s a low = sym (count_between-empty (is_member r s) s a low)

pub kept-before_start : (r : Rule) (s a : ℤ) → a ≤ℤ s → IsKept r s a 0
kept-before_start r s a low = kept-counted r s a 0 (none-seen r.end r s a low)

-- ---- a rule alone, with neither dates nor exceptions

abbrev pub rule_alone : Rule → ℤ → RecurrenceSet
rule_alone r s = record { rule = r; start = s; dates = []; exceptions = [] }

in-alone : (r : Rule) (s d : ℤ) → is_in_recurrence (rule_alone r s) d ≡ is_instance r s d
unfolding is_in_recurrence is_instance_or_date
in-alone r s d = and-true (is_instance r s d || false) ∙ or-false (is_instance r s d)

pub recurrence-alone : (r : Rule) (s n : ℤ) → recurrence_from (rule_alone r s) n ≡ instances_from r s n
unfolding recurrence_from instances_from
recurrence-alone r s n = filter_agree (is_in_recurrence (rule_alone r s)) (is_instance r s) (in-alone r s) (days_from n)
