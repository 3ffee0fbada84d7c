use Rattle.std.proofs.Common.{ℕ, List, ◌++◌, length, length-append, refl, ap, sym, ◌∙◌, arith}
use Rattle.std.proofs.lemmas.Bool.{false≢true}
use Rattle.chrono_pattern.specs.Patterns.{text_from, text_of_item}
use Rattle.chrono_pattern.specs.declared.item.State.TheVariants.{Outside}
use Rattle.chrono_pattern.proofs.ItemLemmas.{front_grows, text_of_none}
use Rattle.chrono_pattern.proofs.PatternLemmas.{all_written, no_shorter}
use Rattle.chrono_pattern.proofs.writer.text_of.Goals as goal

pub returns-then-not-put_if_fits-clause-exists : goal.returns-then-not-put_if_fits-clause-exists
returns-then-not-put_if_fits-clause-exists g c =
    let l = c.loop-item in
    let item = c.in-Some.item in
    let grown = front_grows l.text _ _ item c.args.moment c.args.offset _ l.invariant.whole c.in-Some.ensures.item in
    let short = no_shorter l.text (text_of_item item c.args.moment c.args.offset) _ _ grown in
    (λ e. absurd (false≢true e), λ fits. absurd (false≢true (sym c.if-not-put_if_fits.true ∙ c.put_if_fits.ensures.exists.1 (omega (arith, short, fits)))))

pub loop-item-preserved : goal.loop-item-preserved
loop-item-preserved g c =
    let l = c.loop-item in
    let item = c.in-Some.item in
    let put = c.put_if_fits.ensures.text c.if-not-put_if_fits.false in
    record {
      whole = ap (λ (k : List ℕ). k ++ text_from Outside c.in-Some.behind.now c.args.moment c.args.offset) put
          ∙ front_grows l.text _ _ item c.args.moment c.args.offset _ l.invariant.whole c.in-Some.ensures.item;
      fits = omega (arith, ap (λ (k : List ℕ). length k) put, length-append l.text (text_of_item item c.args.moment c.args.offset), c.put_if_fits.ensures.exists.0 c.if-not-put_if_fits.false);
    }

pub returns-clause-text : goal.returns-clause-text
returns-clause-text g c =
    let l = c.loop-item in
    all_written l.text _ _ l.invariant.whole (text_of_none _ c.args.moment c.args.offset c.in_default.ensures.none)

pub returns-clause-exists : goal.returns-clause-exists
returns-clause-exists g c =
    let l = c.loop-item in
    let all = all_written l.text _ _ l.invariant.whole (text_of_none _ c.args.moment c.args.offset c.in_default.ensures.none) in
    (λ _. omega (arith, l.invariant.fits, ap (λ (k : List ℕ). length k) all), λ _. refl)
