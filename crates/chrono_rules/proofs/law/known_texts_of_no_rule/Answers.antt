use Rattle.std.proofs.Common.{Bool, true, false, ◌&&◌, ◌||◌, Option, Some, None, ap, ap₂, ◌∙◌}
use Rattle.std.proofs.lemmas.Bool.{and_parts, false≢true}
use Rattle.std.specs.Option.{is_some}
use Rattle.chrono_sets.specs.FiniteSets.{is_empty}
use Rattle.chrono_text.specs.Numbers.{digits_of, natural_of}
use Rattle.chrono_rules.specs.NumberLists.{signed_list_of, listed_number, signed_number_of, with_signed_text}
use Rattle.chrono_rules.specs.RuleTexts.{frequency_of, has_month_days}
use Rattle.chrono_rules.specs.declared.rule.Frequency.{Frequency}
use Rattle.chrono_rules.specs.declared.text.number_list.BothEnds.{BothEnds}
use Rattle.chrono_rules.proofs.law.known_texts_of_no_rule.Goals as goal

pub returns-clause-no_frequency : goal.returns-clause-no_frequency
unfolding frequency_of
returns-clause-no_frequency c = λ r is. false≢true (ap is_some is.says.frequency)

pub returns-clause-extension : goal.returns-clause-extension
returns-clause-extension c = λ r is. false≢true is.named

-- whether rules of a frequency that was read may have days of the month, and whether none were read
may_have : Option Frequency → Bool
may_have None = false
may_have (Some f) = has_month_days f

are_none : Option BothEnds → Bool
are_none None = true
are_none (Some ends) = is_empty ends.front && is_empty ends.back

pub returns-clause-unfit : goal.returns-clause-unfit
unfolding may_have are_none frequency_of has_month_days signed_list_of with_signed_text signed_number_of listed_number digits_of natural_of
returns-clause-unfit c = λ r is.
    false≢true (ap₂ (λ a b. a || b) (ap may_have is.says.frequency) (ap are_none is.says.month_days) ∙ (and_parts _ _ is.fitting).0)

pub returns-clause-day_32 : goal.returns-clause-day_32
unfolding signed_list_of with_signed_text signed_number_of listed_number digits_of natural_of
returns-clause-day_32 c = λ r is. false≢true (ap is_some is.says.month_days)
