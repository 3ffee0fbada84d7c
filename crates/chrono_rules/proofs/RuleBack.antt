-- Rules that are written are read back.
use Rattle.std.proofs.Common.{◌≡◌, ℕ, ◌≤◌, ◌==◌, nat_le, true, not, ◌&&◌, ◌||◌, if◌then◌else◌, List, [], ◌∷◌, length, replicate, Some, None, refl, sym, ap, ap₂, ◌∙◌, arith}
use Rattle.std.specs.Prelude.{codes}
use Rattle.std.specs.Fmt.{decimal}
use Rattle.std.specs.List.{list_all, list_any}
use Rattle.std.specs.Option.{option_map}
use Rattle.std.proofs.lemmas.Bool.{and_parts, false≢true, leb-true, not-false, not-true, not_from_false, or_parts}
use Rattle.chrono_text.specs.Lists.{list_text}
use Rattle.chrono_datetime.specs.Names.{weekday_of_letters}
use Rattle.chrono_datetime.specs.Weekday.{days_from_monday}
use Rattle.chrono_datetime.specs.declared.Weekday.{Weekday}
use Rattle.chrono_datetime.specs.declared.Weekday.TheVariants.{Fri, Mon, Sat, Sun, Thu, Tue, Wed}
use Rattle.chrono_sets.specs.FiniteSets.{FiniteSet, are_empty, is_empty, no_numbers}
use Rattle.chrono_sets.proofs.Members.{is_empty-is}
use Rattle.chrono_rules.specs.declared.weekday_places.WeekdayPlaces.{WeekdayPlaces}
use Rattle.chrono_rules.specs.declared.rule.End.{End}
use Rattle.chrono_rules.specs.declared.rule.End.TheVariants.{Count, Never, Until}
use Rattle.chrono_rules.specs.declared.rule.Frequency.{Frequency}
use Rattle.chrono_rules.specs.declared.rule.Frequency.TheVariants.{Daily, Monthly, Weekly, Yearly}
use Rattle.chrono_rules.specs.declared.rule.Rule.{Rule}
use Rattle.chrono_rules.specs.RuleParts.{lacks_month_days, lacks_months, lacks_positions, lacks_weekdays, lacks_weeks, lacks_year_days, no_weekdays}
use Rattle.chrono_rules.specs.NumberLists.{signed_list_of, month_list_of, no_signed, no_year_ends, listed_weekday, weekdays_of, signed_year_list_of}
use Rattle.chrono_rules.specs.RuleErrors.{frequency_text}
use Rattle.chrono_rules.specs.RuleTexts.{IsRuleText, Says, end_of, frequency_of, interval_of, is_part, parts, said, values, weekday_of_text}
use Rattle.chrono_rules.specs.WritableRules.{IsWritableRule, IsWritableEnd}
use Rattle.chrono_rules.specs.WrittenRules.{rule_text, weekday_items, letters_from_monday}
use Rattle.chrono_text.proofs.NumberLemmas.{count_back}
use Rattle.chrono_rules.proofs.EndsBack.{day_back, interval_back}
use Rattle.chrono_rules.proofs.ListsBack.{ends_back, months_back, year_ends_back}
use Rattle.chrono_rules.proofs.PartValues.{are_parts, found, said_part, values_found}
use Rattle.chrono_rules.proofs.WeekdaysBack.{blank, blank_is, weekdays_back}
use Rattle.chrono_rules.proofs.WrittenParts.{all_parts, count_text, lacks_count, lacks_until, month_days_text, months_text, parts_back, positions_text, start_text, until_text, weeks_text, year_days_text}

values_back : (r : Rule) → IsWritableRule r → (name : List ℕ) → values name (parts (rule_text r)) ≡ found name (all_parts r)
values_back r can name = ap (values name) (parts_back r can) ∙ values_found name (all_parts r)

frequency_back : (f : Frequency) → frequency_of (frequency_text f) ≡ Some f
unfolding frequency_of frequency_text
frequency_back Daily = refl
frequency_back Weekly = refl
frequency_back Monthly = refl
frequency_back Yearly = refl

end_back : (e : End) → IsWritableEnd e → end_of (if lacks_count e then [] else count_text e ∷ []) (if lacks_until e then [] else until_text e ∷ []) ≡ Some e
unfolding end_of
end_back Never can = refl
end_back (Count n) can = ap (option_map Count) (count_back n can)
end_back (Until n) can = ap (option_map Until) (day_back n can.0 can.1)

start_back : (d : Weekday) → weekday_of_text (letters_from_monday (days_from_monday d)) ≡ Some d
unfolding weekday_of_text listed_weekday weekday_of_letters letters_from_monday
start_back Mon = refl
start_back Tue = refl
start_back Wed = refl
start_back Thu = refl
start_back Fri = refl
start_back Sat = refl
start_back Sun = refl

monday_is : (d : Weekday) → (days_from_monday d == 0) ≡ true → d ≡ Mon
monday_is Mon is = refl
monday_is Tue is = absurd (false≢true is)
monday_is Wed is = absurd (false≢true is)
monday_is Thu is = absurd (false≢true is)
monday_is Fri is = absurd (false≢true is)
monday_is Sat is = absurd (false≢true is)
monday_is Sun is = absurd (false≢true is)

-- ---- a part that the rule lacks

no_sets : (sets : List FiniteSet) → are_empty sets ≡ true → blank sets ≡ sets
no_sets [] are = refl
no_sets (s ∷ sets) are =
    let other = list_any (λ t. not (is_empty t)) sets in
    let none = or_parts (not (is_empty s)) other (not-true (not (is_empty s) || other) are) in
    ap₂ (λ t ts. t ∷ ts) (sym (is_empty-is s (not-false (is_empty s) none.0))) (no_sets sets (not_from_false other none.1))

seven_empty : (sets : List FiniteSet) → length sets ≡ 7 → are_empty sets ≡ true → replicate 7 no_numbers ≡ sets
seven_empty sets seven are = ap (λ n. replicate n no_numbers) (sym seven) ∙ sym (blank_is sets) ∙ no_sets sets are

no_both : (front back : FiniteSet) → (is_empty front && is_empty back) ≡ true → Some no_signed ≡ Some (record { front = front; back = back })
no_both front back are =
    let parts = and_parts (is_empty front) (is_empty back) are in
    ap₂ (λ front back. Some (record { front = front; back = back })) (sym (is_empty-is front parts.0)) (sym (is_empty-is back parts.1))

no_days : (front back : FiniteSet) → (is_empty front && is_empty back) ≡ true → Some no_year_ends ≡ Some (record { front = front; back = back })
no_days front back are =
    let parts = and_parts (is_empty front) (is_empty back) are in
    ap₂ (λ front back. Some (record { front = front; back = back })) (sym (is_empty-is front parts.0)) (sym (is_empty-is back parts.1))

no_week : (days : WeekdayPlaces) → length days.front ≡ 7 → length days.back ≡ 7 → (is_empty days.every && (are_empty days.front && are_empty days.back)) ≡ true → Some no_weekdays ≡ Some days
no_week days seven also are =
    let parts = and_parts (is_empty days.every) (are_empty days.front && are_empty days.back) are in
    let more = and_parts (are_empty days.front) (are_empty days.back) parts.1 in
    ap (λ every. Some (record { every = every; front = no_weekdays.front; back = no_weekdays.back })) (sym (is_empty-is days.every parts.0))
    ∙ ap₂ (λ front back. Some (record { every = days.every; front = front; back = back })) (seven_empty days.front seven more.0) (seven_empty days.back also more.1)

-- a rule has two lists of seven sets
pub record HasSeven (r : Rule) : Type 0 where
  pub front : length r.weekdays.front ≡ 7
  pub back : length r.weekdays.back ≡ 7

one_interval : (n : ℕ) → 1 ≤ n → nat_le n 1 ≡ true → 1 ≡ n
one_interval n some is = let most = leb-true n 1 is in omega (arith, some, most)

says_back : (r : Rule) → HasSeven r → IsWritableRule r → Says (rule_text r) r
says_back r sizes can =
    let by = values_back r can in
    record {
      frequency = ap (said frequency_of None) (by (codes "FREQ=")) ∙ frequency_back r.frequency;
      interval = ap (said interval_of (Some 1)) (by (codes "INTERVAL="))
          ∙ said_part interval_of (Some 1) (nat_le r.interval 1) (decimal r.interval) r.interval (λ is. ap Some (one_interval r.interval can.interval.0 is)) (λ is. interval_back r.interval can.interval.0 can.interval.1);
      end = ap₂ end_of (by (codes "COUNT=")) (by (codes "UNTIL=")) ∙ end_back r.end can.end;
      months = ap (said month_list_of (Some no_numbers)) (by (codes "BYMONTH="))
          ∙ said_part month_list_of (Some no_numbers) (lacks_months r) (months_text r) r.months (λ is. ap Some (sym (is_empty-is r.months is))) (λ is. months_back r.months can.months is);
      month_days = ap (said (signed_list_of 2 31) (Some no_signed)) (by (codes "BYMONTHDAY="))
          ∙ said_part (signed_list_of 2 31) (Some no_signed) (lacks_month_days r) (month_days_text r) (record { front = r.month_days; back = r.month_days_from_end }) (no_both r.month_days r.month_days_from_end)
          (λ is. ends_back 31 r.month_days r.month_days_from_end (omega arith) can.month_days can.month_days_from_end is);
      weekdays = ap (said weekdays_of (Some no_weekdays)) (by (codes "BYDAY="))
          ∙ said_part weekdays_of (Some no_weekdays) (lacks_weekdays r) (list_text (weekday_items r)) r.weekdays (no_week r.weekdays sizes.front sizes.back)
          (λ is. weekdays_back r.weekdays.every r.weekdays.front r.weekdays.back can.weekdays sizes.front sizes.back can.numbered_weekdays can.numbered_weekdays_from_end is);
      year_days = ap (said signed_year_list_of (Some no_year_ends)) (by (codes "BYYEARDAY="))
          ∙ said_part signed_year_list_of (Some no_year_ends) (lacks_year_days r) (year_days_text r) (record { front = r.year_days; back = r.year_days_from_end }) (no_days r.year_days r.year_days_from_end)
          (λ is. year_ends_back r.year_days r.year_days_from_end can.year_days can.year_days_from_end is);
      weeks = ap (said (signed_list_of 2 53) (Some no_signed)) (by (codes "BYWEEKNO="))
          ∙ said_part (signed_list_of 2 53) (Some no_signed) (lacks_weeks r) (weeks_text r) (record { front = r.weeks; back = r.weeks_from_end }) (no_both r.weeks r.weeks_from_end)
          (λ is. ends_back 53 r.weeks r.weeks_from_end (omega arith) can.weeks can.weeks_from_end is);
      positions = ap (said signed_year_list_of (Some no_year_ends)) (by (codes "BYSETPOS="))
          ∙ said_part signed_year_list_of (Some no_year_ends) (lacks_positions r) (positions_text r) (record { front = r.positions; back = r.positions_from_end }) (no_days r.positions r.positions_from_end)
          (λ is. year_ends_back r.positions r.positions_from_end can.positions can.positions_from_end is);
      week_start = ap (said weekday_of_text (Some Mon)) (by (codes "WKST="))
          ∙ said_part weekday_of_text (Some Mon) (days_from_monday r.week_start == 0) (start_text r) r.week_start (λ is. ap Some (sym (monday_is r.week_start is))) (λ is. start_back r.week_start);
    }

pub rule_back : (r : Rule) → HasSeven r → IsWritableRule r → IsRuleText (rule_text r) r
rule_back r sizes can = record {
  named = ap (list_all is_part) (parts_back r can) ∙ are_parts (all_parts r) refl;
  says = says_back r sizes can;
  fitting = can.fitting;
}
