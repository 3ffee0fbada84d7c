use Rattle.std.proofs.Common.{List, ℕ, refl, sym, subst, ◌∙◌}
use Rattle.chrono_text.proofs.AnswerLemmas.{same_Ok}
use Rattle.chrono_rules.specs.RuleTexts.{IsRuleText, rule_body}
use Rattle.zoned_rules.specs.declared.day_times.DayTimes.{DayTimes}
use Rattle.calendar_rules.proofs.TimedReads.{AreRead, every_ok, fault_ok, found_ok, no_hours, no_minutes, no_seconds, read_ok}
use Rattle.calendar_rules.proofs.timed_reader.read_timed_rule.Goals as goal

pub returns-in_default-read_part-clause-every : goal.returns-in_default-read_part-clause-every
returns-in_default-read_part-clause-every c = λ r h. absurd (no_hours c.args.text.now c.read_part.result r c.read_part.ensures c.in_default-read_part.is h)

pub returns-in_default-read_part-clause-found : goal.returns-in_default-read_part-clause-found
returns-in_default-read_part-clause-found c = (λ err r h. no_hours c.args.text.now c.read_part.result r c.read_part.ensures c.in_default-read_part.is h, λ none. refl)

pub returns-in_default-read_part-2-clause-every : goal.returns-in_default-read_part-2-clause-every
returns-in_default-read_part-2-clause-every c = λ r h. absurd (no_minutes c.args.text.now c.read_part-2.result r c.read_part-2.ensures c.in_default-read_part-2.is h)

pub returns-in_default-read_part-2-clause-found : goal.returns-in_default-read_part-2-clause-found
returns-in_default-read_part-2-clause-found c = (λ err r h. no_minutes c.args.text.now c.read_part-2.result r c.read_part-2.ensures c.in_default-read_part-2.is h, λ none. refl)

pub returns-in_default-read_part-3-clause-every : goal.returns-in_default-read_part-3-clause-every
returns-in_default-read_part-3-clause-every c = λ r h. absurd (no_seconds c.args.text.now c.read_part-3.result r c.read_part-3.ensures c.in_default-read_part-3.is h)

pub returns-in_default-read_part-3-clause-found : goal.returns-in_default-read_part-3-clause-found
returns-in_default-read_part-3-clause-found c = (λ err r h. no_seconds c.args.text.now c.read_part-3.result r c.read_part-3.ensures c.in_default-read_part-3.is h, λ none. refl)

pub returns-in-Ok-clause-read : goal.returns-in-Ok-clause-read
returns-in-Ok-clause-read c =
    let text = c.args.text.now in
    let times : DayTimes = record { hours = c.in-Some-read_part.hours; minutes = c.in-Some-read_part-2.minutes; seconds = c.in-Some-read_part-3.seconds } in
    let same = c.put_text_of_days-len.ensures.text in
    let a : AreRead text c.in-Some.unit times c.in-Ok.others = record {
      frequency = sym c.read_unit.ensures ∙ c.in-Some.is;
      hours = sym c.read_part.ensures ∙ c.in-Some-read_part.is;
      minutes = sym c.read_part-2.ensures ∙ c.in-Some-read_part-2.is;
      seconds = sym c.read_part-3.ensures ∙ c.in-Some-read_part-3.is;
      written = subst (λ (t : List ℕ). IsRuleText (rule_body t) c.in-Ok.others) same c.in-Ok.ensures.read;
      only = λ q written. sym (same_Ok _ _ (sym c.in-Ok.is ∙ c.read_rule.ensures.every q (subst (λ (t : List ℕ). IsRuleText (rule_body t) q) (sym same) written)));
    } in
    let p = c.put_together in
    read_ok text p.result c.in-Some.unit times c.in-Ok.others a p.ensures.steps p.ensures.days p.ensures.times p.ensures.bound p.ensures.fitting

pub returns-in-Ok-clause-every : goal.returns-in-Ok-clause-every
returns-in-Ok-clause-every c =
    let text = c.args.text.now in
    let times : DayTimes = record { hours = c.in-Some-read_part.hours; minutes = c.in-Some-read_part-2.minutes; seconds = c.in-Some-read_part-3.seconds } in
    let same = c.put_text_of_days-len.ensures.text in
    let a : AreRead text c.in-Some.unit times c.in-Ok.others = record {
      frequency = sym c.read_unit.ensures ∙ c.in-Some.is;
      hours = sym c.read_part.ensures ∙ c.in-Some-read_part.is;
      minutes = sym c.read_part-2.ensures ∙ c.in-Some-read_part-2.is;
      seconds = sym c.read_part-3.ensures ∙ c.in-Some-read_part-3.is;
      written = subst (λ (t : List ℕ). IsRuleText (rule_body t) c.in-Ok.others) same c.in-Ok.ensures.read;
      only = λ q written. sym (same_Ok _ _ (sym c.in-Ok.is ∙ c.read_rule.ensures.every q (subst (λ (t : List ℕ). IsRuleText (rule_body t) q) (sym same) written)));
    } in
    let p = c.put_together in
    every_ok text p.result c.in-Some.unit times c.in-Ok.others a p.ensures.every

pub returns-in-Ok-clause-found : goal.returns-in-Ok-clause-found
returns-in-Ok-clause-found c =
    let text = c.args.text.now in
    let times : DayTimes = record { hours = c.in-Some-read_part.hours; minutes = c.in-Some-read_part-2.minutes; seconds = c.in-Some-read_part-3.seconds } in
    let same = c.put_text_of_days-len.ensures.text in
    let a : AreRead text c.in-Some.unit times c.in-Ok.others = record {
      frequency = sym c.read_unit.ensures ∙ c.in-Some.is;
      hours = sym c.read_part.ensures ∙ c.in-Some-read_part.is;
      minutes = sym c.read_part-2.ensures ∙ c.in-Some-read_part-2.is;
      seconds = sym c.read_part-3.ensures ∙ c.in-Some-read_part-3.is;
      written = subst (λ (t : List ℕ). IsRuleText (rule_body t) c.in-Ok.others) same c.in-Ok.ensures.read;
      only = λ q written. sym (same_Ok _ _ (sym c.in-Ok.is ∙ c.read_rule.ensures.every q (subst (λ (t : List ℕ). IsRuleText (rule_body t) q) (sym same) written)));
    } in
    let p = c.put_together in
    found_ok text p.result
    (read_ok text p.result c.in-Some.unit times c.in-Ok.others a p.ensures.steps p.ensures.days p.ensures.times p.ensures.bound p.ensures.fitting)
    (every_ok text p.result c.in-Some.unit times c.in-Ok.others a p.ensures.every)

pub returns-in-Ok-clause-fault : goal.returns-in-Ok-clause-fault
returns-in-Ok-clause-fault c =
    let text = c.args.text.now in
    let times : DayTimes = record { hours = c.in-Some-read_part.hours; minutes = c.in-Some-read_part-2.minutes; seconds = c.in-Some-read_part-3.seconds } in
    let same = c.put_text_of_days-len.ensures.text in
    let a : AreRead text c.in-Some.unit times c.in-Ok.others = record {
      frequency = sym c.read_unit.ensures ∙ c.in-Some.is;
      hours = sym c.read_part.ensures ∙ c.in-Some-read_part.is;
      minutes = sym c.read_part-2.ensures ∙ c.in-Some-read_part-2.is;
      seconds = sym c.read_part-3.ensures ∙ c.in-Some-read_part-3.is;
      written = subst (λ (t : List ℕ). IsRuleText (rule_body t) c.in-Ok.others) same c.in-Ok.ensures.read;
      only = λ q written. sym (same_Ok _ _ (sym c.in-Ok.is ∙ c.read_rule.ensures.every q (subst (λ (t : List ℕ). IsRuleText (rule_body t) q) (sym same) written)));
    } in
    let p = c.put_together in
    fault_ok text p.result c.in-Some.unit times c.in-Ok.others a p.ensures.fault
