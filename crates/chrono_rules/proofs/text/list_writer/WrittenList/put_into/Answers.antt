use Rattle.std.proofs.Common.{◌+◌, ◌-◌, ◌++◌, ◌||◌, ap, sym, ◌∙◌, arith}
use Rattle.chrono_rules.specs.WrittenRules.{item_at, items, listed_on, members, some_in}
use Rattle.chrono_rules.proofs.ListLemmas.{begun_next, begun_none, items_end, items_next, limit_within, put_next, put_none}
use Rattle.chrono_rules.proofs.text.list_writer.WrittenList.put_into.Goals as goal

pub overflow_add-number : goal.overflow_add-number
overflow_add-number g c = omega (arith, c.loop-number-test.true, c.requires.small, limit_within c.args.self.now.listed)

pub loop-number-preserved : goal.loop-number-preserved
loop-number-preserved g c =
    let s = c.args.self.now in
    let n = c.loop-number.number in
    let old = c.loop-number.text in
    let begun = c.loop-number.begun in
    let item = item_at (members s.listed) s.naming s.from_end n in
    let rest = items (members s.listed) s.naming s.from_end (s.end - (n + 1)) (n + 1) in
    let less = c.loop-number-test.true in
    let next = sym (items_next (members s.listed) s.naming s.from_end s.end n less) in
    let put = c.put_number-begun.ensures in
    record {
      from = omega (arith, c.loop-number.invariant.from);
      within = omega (arith, less);
      text = put_next old c.put_number-begun.new.text begun c.put_number-begun.result item rest put.text put.begun ∙ ap (λ is. old ++ listed_on begun is) next ∙ c.loop-number.invariant.text;
      begun = begun_next begun c.put_number-begun.result item rest put.begun ∙ ap (λ is. begun || some_in is) next ∙ c.loop-number.invariant.begun;
      fits = omega (arith, c.loop-number.invariant.fits, put.fits, less);
    }

pub returns-clause-text : goal.returns-clause-text
returns-clause-text g c =
    let s = c.args.self.now in
    let none = items_end (members s.listed) s.naming s.from_end s.end c.loop-number.number c.loop-number-test.false in
    put_none c.loop-number.text c.loop-number.begun (items (members s.listed) s.naming s.from_end (s.end - c.loop-number.number) c.loop-number.number) none ∙ c.loop-number.invariant.text

pub returns-clause-begun : goal.returns-clause-begun
returns-clause-begun g c =
    let s = c.args.self.now in
    let none = items_end (members s.listed) s.naming s.from_end s.end c.loop-number.number c.loop-number-test.false in
    begun_none c.loop-number.begun (items (members s.listed) s.naming s.from_end (s.end - c.loop-number.number) c.loop-number.number) none ∙ c.loop-number.invariant.begun
