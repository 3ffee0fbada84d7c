use Rattle.std.proofs.Common.{[], ◌∷◌, ap, refl}
use Rattle.std.proofs.lemmas.Bool.{false≢true}
use Rattle.std.specs.Option.{is_some}
use Rattle.chrono_datetime.specs.Names.{weekday_of_letters}
use Rattle.chrono_sets.specs.FiniteSets.{numbers}
use Rattle.chrono_text.specs.Numbers.{count_of, digits_of, natural_of}
use Rattle.chrono_rules.specs.ByParts.{has_numbers}
use Rattle.chrono_rules.specs.KnownTexts.{every_other_day}
use Rattle.chrono_rules.specs.NumberLists.{listed_number, signed_number_of, with_year_text, signed_year_list_of}
use Rattle.chrono_rules.specs.RuleErrors.{is_read, name_fault, part_fault, part_name, unfit_error, unread_error, value_fault}
use Rattle.chrono_rules.specs.RuleParts.{plain}
use Rattle.chrono_rules.specs.RuleTexts.{end_of, frequency_of, has_month_days, has_year_parts, interval_of, rule_body, weekday_of_text}
use Rattle.chrono_rules.specs.declared.rule.Frequency.TheVariants.{Yearly}
use Rattle.chrono_rules.proofs.law.known_answers.Goals as goal

pub returns-clause-rule : goal.returns-clause-rule
unfolding rule_body frequency_of interval_of count_of end_of weekday_of_text has_month_days has_year_parts has_numbers natural_of
returns-clause-rule c = λ result is. is.every every_other_day (record {
  named = refl;
  says = record { frequency = refl; interval = refl; end = refl; months = refl; month_days = refl; weekdays = refl; year_days = refl; weeks = refl; positions = refl; week_start = refl };
  fitting = refl;
})

pub returns-clause-unknown : goal.returns-clause-unknown
unfolding rule_body name_fault
returns-clause-unknown c = λ result is. is.unknown refl

pub returns-clause-unread : goal.returns-clause-unread
unfolding rule_body unread_error is_read part_fault part_name value_fault frequency_of interval_of count_of end_of weekday_of_text weekday_of_letters
returns-clause-unread c = λ result is. is.unread refl (λ r says. false≢true (ap is_some says.week_start))

pub returns-clause-unfit : goal.returns-clause-unfit
unfolding rule_body unfit_error part_name frequency_of interval_of end_of signed_year_list_of with_year_text signed_number_of listed_number digits_of natural_of has_month_days has_year_parts has_numbers
returns-clause-unfit c = λ result is.
    is.unfit (record (plain Yearly) { positions = numbers (1 ∷ []) }) refl (record { frequency = refl; interval = refl; end = refl; months = refl; month_days = refl; weekdays = refl; year_days = refl; weeks = refl; positions = refl; week_start = refl }) refl
