-- The parts of a rule that is written, in one row.
use Rattle.std.proofs.Common.{◌≡◌, ℕ, ◌<◌, ◌==◌, nat_le, Bool, true, false, List, [], ◌∷◌, ◌++◌, refl, sym, ap, ◌∙◌, arith, append_assoc, append-nil}
use Rattle.std.specs.Prelude.{codes}
use Rattle.std.specs.Fmt.{decimal}
use Rattle.std.specs.List.{list_all}
use Rattle.std.proofs.lemmas.Bool.{false≢true}
use Rattle.chrono_text.specs.Lists.{list_text}
use Rattle.chrono_datetime.specs.Weekday.{days_from_monday}
use Rattle.chrono_sets.specs.FiniteSets.{FiniteSet}
use Rattle.chrono_rules.specs.declared.text.list_writer.Naming.TheVariants.{Each, Number}
use Rattle.chrono_rules.specs.declared.rule.End.{End}
use Rattle.chrono_rules.specs.declared.rule.End.TheVariants.{Count, Never, Until}
use Rattle.chrono_rules.specs.declared.rule.Frequency.{Frequency}
use Rattle.chrono_rules.specs.declared.rule.Frequency.TheVariants.{Daily, Monthly, Weekly, Yearly}
use Rattle.chrono_rules.specs.declared.rule.Rule.{Rule}
use Rattle.chrono_rules.specs.RuleParts.{lacks_month_days, lacks_months, lacks_positions, lacks_weekdays, lacks_weeks, lacks_year_days}
use Rattle.chrono_rules.specs.RuleErrors.{frequency_text}
use Rattle.chrono_rules.specs.RuleTexts.{parts}
use Rattle.chrono_rules.specs.WritableRules.{IsWritableRule, IsWritableEnd}
use Rattle.chrono_rules.specs.WrittenRules.{basic_date_text, both_items, end_parts, items, later_parts, list_parts, numbered_items, part_unless, rule_text, some_in, weekday_items, letters_from_monday}
use Rattle.chrono_rules.proofs.EndsBack.{day_words}
use Rattle.chrono_text.proofs.ListLemmas.{lacks, pieces_joined, all_of}
use Rattle.chrono_rules.proofs.PartValues.{Part, part_texts, parts_lack}
use Rattle.chrono_rules.proofs.WordBytes.{are_word_bytes, both_words, decimal_words, items_words, letters_words, list_lacks, numbered_words, word_lacks}

abbrev pub lacks_count : End → Bool
lacks_count Never = true
lacks_count (Count n) = false
lacks_count (Until n) = true

abbrev pub count_text : End → List ℕ
count_text Never = []
count_text (Count n) = decimal n
count_text (Until n) = []

abbrev pub lacks_until : End → Bool
lacks_until Never = true
lacks_until (Count n) = true
lacks_until (Until n) = false

abbrev pub until_text : End → List ℕ
until_text Never = []
until_text (Count n) = []
until_text (Until n) = basic_date_text n

abbrev part : Bool → List ℕ → List ℕ → Part
part lacks name value = record { lacks = lacks; name = name; value = value }

abbrev pub months_text : Rule → List ℕ
months_text r = list_text (items r.months Number false 12 1)

abbrev pub month_days_text : Rule → List ℕ
month_days_text r = list_text (both_items r.month_days r.month_days_from_end 31)

abbrev pub year_days_text : Rule → List ℕ
year_days_text r = list_text (both_items r.year_days r.year_days_from_end 366)

abbrev pub weeks_text : Rule → List ℕ
weeks_text r = list_text (both_items r.weeks r.weeks_from_end 53)

abbrev pub positions_text : Rule → List ℕ
positions_text r = list_text (both_items r.positions r.positions_from_end 366)

abbrev pub start_text : Rule → List ℕ
start_text r = letters_from_monday (days_from_monday r.week_start)

abbrev pub all_parts : Rule → List Part
all_parts r =
    part false (codes "FREQ=") (frequency_text r.frequency)
    ∷ part (nat_le r.interval 1) (codes "INTERVAL=") (decimal r.interval)
    ∷ part (lacks_count r.end) (codes "COUNT=") (count_text r.end)
    ∷ part (lacks_until r.end) (codes "UNTIL=") (until_text r.end)
    ∷ part (lacks_months r) (codes "BYMONTH=") (months_text r)
    ∷ part (lacks_month_days r) (codes "BYMONTHDAY=") (month_days_text r)
    ∷ part (lacks_weekdays r) (codes "BYDAY=") (list_text (weekday_items r))
    ∷ part (lacks_year_days r) (codes "BYYEARDAY=") (year_days_text r)
    ∷ part (lacks_weeks r) (codes "BYWEEKNO=") (weeks_text r)
    ∷ part (lacks_positions r) (codes "BYSETPOS=") (positions_text r)
    ∷ part (days_from_monday r.week_start == 0) (codes "WKST=") (start_text r)
    ∷ []

abbrev Texts : Type 0
Texts = List (List ℕ)

-- one behind another, in one row
end_row : (e : End) (rest : Texts) → end_parts e ++ rest ≡ part_unless (lacks_count e) (codes "COUNT=") (count_text e) ++ (part_unless (lacks_until e) (codes "UNTIL=") (until_text e) ++ rest)
end_row Never rest = refl
end_row (Count n) rest = refl
end_row (Until n) rest = refl

list_row : (a b c d e f g : Texts) → (a ++ (b ++ (c ++ (d ++ (e ++ f))))) ++ g ≡ a ++ (b ++ (c ++ (d ++ (e ++ (f ++ (g ++ []))))))
list_row a b c d e f g =
    append_assoc a (b ++ (c ++ (d ++ (e ++ f)))) g
    ∙ ap (λ t. a ++ t) (append_assoc b (c ++ (d ++ (e ++ f))) g
    ∙ ap (λ t. b ++ t) (append_assoc c (d ++ (e ++ f)) g
    ∙ ap (λ t. c ++ t) (append_assoc d (e ++ f) g
    ∙ ap (λ t. d ++ t) (append_assoc e f g
    ∙ ap (λ t. e ++ (f ++ t)) (sym (append-nil g))))))

parts_row : (r : Rule) → (codes "FREQ=" ++ frequency_text r.frequency) ∷ later_parts r ≡ part_texts (all_parts r)
parts_row r =
    let name = codes "FREQ=" ++ frequency_text r.frequency in
    let first = part_unless (nat_le r.interval 1) (codes "INTERVAL=") (decimal r.interval) in
    let start = part_unless (days_from_monday r.week_start == 0) (codes "WKST=") (start_text r) in
    ap (λ t. name ∷ (first ++ t)) (end_row r.end (list_parts r ++ start)
    ∙ ap (λ t. part_unless (lacks_count r.end) (codes "COUNT=") (count_text r.end) ++ (part_unless (lacks_until r.end) (codes "UNTIL=") (until_text r.end) ++ t))
    (list_row (part_unless (lacks_months r) (codes "BYMONTH=") (months_text r)) (part_unless (lacks_month_days r) (codes "BYMONTHDAY=") (month_days_text r))
    (part_unless (lacks_weekdays r) (codes "BYDAY=") (list_text (weekday_items r))) (part_unless (lacks_year_days r) (codes "BYYEARDAY=") (year_days_text r))
    (part_unless (lacks_weeks r) (codes "BYWEEKNO=") (weeks_text r)) (part_unless (lacks_positions r) (codes "BYSETPOS=") (positions_text r)) start))

-- no semicolon stands in one
frequency_lacks : (f : Frequency) → lacks 59 (frequency_text f) ≡ true
unfolding frequency_text
frequency_lacks Daily = refl
frequency_lacks Weekly = refl
frequency_lacks Monthly = refl
frequency_lacks Yearly = refl

count_lacks : (e : End) → IsWritableEnd e → lacks 59 (count_text e) ≡ true
count_lacks Never can = refl
count_lacks (Count n) can = word_lacks 59 (decimal n) refl (decimal_words n (omega (arith, can)))
count_lacks (Until n) can = refl

until_lacks : (e : End) → IsWritableEnd e → lacks 59 (until_text e) ≡ true
until_lacks Never can = refl
until_lacks (Count n) can = refl
until_lacks (Until n) can = word_lacks 59 (basic_date_text n) refl (day_words n can.0 can.1)

weekdays_lack : (r : Rule) → lacks 59 (list_text (weekday_items r)) ≡ true
weekdays_lack r =
    let xs = items r.weekdays.every Each false 7 0 in
    let ys = numbered_items false r.weekdays.front 0 in
    let zs = numbered_items true r.weekdays.back 0 in
    list_lacks (xs ++ (ys ++ zs))
    (all_of are_word_bytes xs (ys ++ zs) (items_words r.weekdays.every Each false 7 0 (omega arith)) (all_of are_word_bytes ys zs (numbered_words false r.weekdays.front 0) (numbered_words true r.weekdays.back 0)))

both_lack : (front back : FiniteSet) (most : ℕ) → most < 384 → lacks 59 (list_text (both_items front back most)) ≡ true
both_lack front back most small = list_lacks (both_items front back most) (both_words front back most small)

texts_lack : (r : Rule) → IsWritableRule r → list_all (lacks 59) (part_texts (all_parts r)) ≡ true
texts_lack r can =
    parts_lack (all_parts r) (
      (refl, frequency_lacks r.frequency),
      (
        (refl, word_lacks 59 (decimal r.interval) refl (decimal_words r.interval (omega (arith, can.interval.1)))),
        (
          (refl, count_lacks r.end can.end),
          (
            (refl, until_lacks r.end can.end),
            (
              (refl, list_lacks (items r.months Number false 12 1) (items_words r.months Number false 12 1 (omega arith))),
              (
                (refl, both_lack r.month_days r.month_days_from_end 31 (omega arith)),
                (
                  (refl, weekdays_lack r),
                  (
                    (refl, both_lack r.year_days r.year_days_from_end 366 (omega arith)),
                    (
                      (refl, both_lack r.weeks r.weeks_from_end 53 (omega arith)),
                      ((refl, both_lack r.positions r.positions_from_end 366 (omega arith)), ((refl, word_lacks 59 (start_text r) refl (letters_words (days_from_monday r.week_start))), tt)),
                    ),
                  ),
                ),
              ),
            ),
          ),
        ),
      ),
    )

pub parts_back : (r : Rule) → IsWritableRule r → parts (rule_text r) ≡ part_texts (all_parts r)
unfolding rule_text
parts_back r can =
    let first = codes "FREQ=" ++ frequency_text r.frequency in
    pieces_joined 59 (first ∷ later_parts r) (λ none. false≢true (sym (ap some_in none))) (ap (list_all (lacks 59)) (parts_row r) ∙ texts_lack r can) ∙ parts_row r
