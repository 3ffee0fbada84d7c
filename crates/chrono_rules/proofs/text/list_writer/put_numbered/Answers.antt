use Rattle.std.proofs.Common.{◌≡◌, ◌+◌, ◌<◌, ◌++◌, ◌||◌, suc, drop, get_or, length, ap, sym, ◌∙◌, arith}
use Rattle.chrono_rules.specs.declared.text.list_writer.Naming.TheVariants.{Numbered}
use Rattle.chrono_sets.specs.FiniteSets.{no_numbers}
use Rattle.chrono_rules.specs.WrittenRules.{items, listed_on, numbered_items, some_in}
use Rattle.chrono_rules.proofs.ListLemmas.{begun_next, begun_none, numbered_end, numbered_next, put_next, put_none}
use Rattle.chrono_rules.proofs.text.list_writer.put_numbered.Goals as goal

pub loop-weekday-preserved : goal.loop-weekday-preserved
loop-weekday-preserved g c =
    let w = c.loop-weekday.weekday in
    let old = c.loop-weekday.text in
    let begun = c.loop-weekday.begun in
    let sets = c.args.sets.now in
    let item = items c.numbers_of.result (Numbered w) c.args.from_end 53 1 in
    let here = items (get_or sets w no_numbers) (Numbered w) c.args.from_end 53 1 in
    let rest = numbered_items c.args.from_end (drop (w + 1) sets) (w + 1) in
    let less : w < length sets = omega (arith, c.loop-weekday-test.true) in
    let one : suc w ≡ w + 1 = omega arith in
    let read = ap (λ set. items set (Numbered w) c.args.from_end 53 1 ++ rest) c.numbers_of.ensures in
    let next = read ∙ sym (numbered_next c.args.from_end sets w w less ∙ ap (λ v. here ++ numbered_items c.args.from_end (drop v sets) (w + 1)) one) in
    let put = c.put_nth-begun.ensures in
    record {
      within = omega (arith, c.loop-weekday-test.true);
      text = put_next old c.put_nth-begun.new.text begun c.put_nth-begun.result item rest put.text put.begun ∙ ap (λ is. old ++ listed_on begun is) next ∙ c.loop-weekday.invariant.text;
      begun = begun_next begun c.put_nth-begun.result item rest put.begun ∙ ap (λ is. begun || some_in is) next ∙ c.loop-weekday.invariant.begun;
      fits = omega (arith, c.loop-weekday.invariant.fits, put.fits, c.loop-weekday-test.true);
    }

pub returns-clause-text : goal.returns-clause-text
returns-clause-text g c =
    let w = c.loop-weekday.weekday in
    let sets = c.args.sets.now in
    let none = numbered_end c.args.from_end sets w w (omega (arith, c.loop-weekday-test.false)) in
    put_none c.loop-weekday.text c.loop-weekday.begun (numbered_items c.args.from_end (drop w sets) w) none ∙ c.loop-weekday.invariant.text

pub returns-clause-begun : goal.returns-clause-begun
returns-clause-begun g c =
    let w = c.loop-weekday.weekday in
    let sets = c.args.sets.now in
    let none = numbered_end c.args.from_end sets w w (omega (arith, c.loop-weekday-test.false)) in
    begun_none c.loop-weekday.begun (numbered_items c.args.from_end (drop w sets) w) none ∙ c.loop-weekday.invariant.begun
