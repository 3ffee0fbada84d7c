use Rattle.std.proofs.Common.{◌≡◌, ◌++◌, ap, sym, ◌∙◌, append_assoc}
use Rattle.std.specs.Prelude.{◌==◌, nat_le, codes}
use Rattle.std.specs.Fmt.{decimal}
use Rattle.chrono_datetime.specs.Weekday.{days_from_monday}
use Rattle.chrono_text.specs.Lists.{each_behind}
use Rattle.chrono_text.proofs.ListLemmas.{join-behind}
use Rattle.chrono_rules.specs.RuleErrors.{frequency_text}
use Rattle.chrono_rules.specs.WrittenRules.{end_parts, later_parts, list_parts, part_unless, rule_text, letters_from_monday}
use Rattle.chrono_rules.proofs.ListLemmas.{part_on, texts_on, two_put}
use Rattle.chrono_rules.proofs.RuleAscii.{rule_ascii}
use Rattle.chrono_rules.proofs.rule.Rule.put_into.Goals as goal

pub returns-clause-text : goal.returns-clause-text
unfolding rule_text
returns-clause-text g c =
    let r = c.args.self.now in
    let old = c.args.text.now in
    let first = c.push_text-2.new.self in
    let end = c.put_week_start.new.text in
    let name = codes "FREQ=" ++ frequency_text r.frequency in
    let begun : first ≡ old ++ name =
    two_put old (codes "FREQ=") c.as_bytes.result.now c.push_text.new.self first c.push_text.ensures c.push_text-2.ensures
    ∙ ap (λ word. old ++ (codes "FREQ=" ++ word)) (c.as_bytes.ensures.value ∙ c.frequency_name.ensures.name) in
    let start = part_unless (days_from_monday r.week_start == 0) (codes "WKST=") (letters_from_monday (days_from_monday r.week_start)) in
    let e1 = part_on first c.put_interval.new.text (nat_le r.interval 1) (codes "INTERVAL=") (decimal r.interval) c.put_interval.ensures.text in
    let e4 = part_on c.put_lists.new.text end (days_from_monday r.week_start == 0) (codes "WKST=") (letters_from_monday (days_from_monday r.week_start)) c.put_week_start.ensures.text in
    let later : end ≡ first ++ each_behind 59 (later_parts r) =
    texts_on first c.put_interval.new.text end (part_unless (nat_le r.interval 1) (codes "INTERVAL=") (decimal r.interval)) (end_parts r.end ++ (list_parts r ++ start)) e1
    (texts_on c.put_interval.new.text c.put_end.new.text end (end_parts r.end) (list_parts r ++ start) c.put_end.ensures.text
    (texts_on c.put_end.new.text c.put_lists.new.text end (list_parts r) start c.put_lists.ensures.text e4)) in
    later ∙ ap (λ text. text ++ each_behind 59 (later_parts r)) begun ∙ append_assoc old name (each_behind 59 (later_parts r))
    ∙ ap (λ text. old ++ text) (sym (join-behind 59 name (later_parts r)))

pub returns-clause-ascii : goal.returns-clause-ascii
returns-clause-ascii g c = rule_ascii c.args.self.now c.put_interval.ensures.ascii c.put_end.ensures.ascii
