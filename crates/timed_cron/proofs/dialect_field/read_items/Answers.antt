use Rattle.std.proofs.Common.{◌≡◌, ◌≤◌, ◌+◌, ◌-◌, [], ◌∷◌, length, take, drop, ap, sym, ◌∙◌, arith}
use Rattle.std.specs.Str.{byte}
use Rattle.chrono_text.specs.Lists.{pieces, pieces_behind}
use Rattle.timed_cron.specs.DialectFields.{items_read}
use Rattle.timed_cron.proofs.PieceLemmas.{ends, goes_on, stops}
use Rattle.chrono_text.proofs.PieceLemmas.{pieces_more, pieces_none, size_more}
use Rattle.timed_cron.proofs.dialect_field.read_items.Goals as goal

pub returns-in-Err-clause-read : goal.returns-in-Err-clause-read
returns-in-Err-clause-read g c =
    let with = g.S.SpanSet.with in
    let form = c.args.form in
    let rest = ap (items_read with form c.loop-span.set c.loop-span.place) c.first_piece.ensures.pieces in
    let stop = stops with form c.loop-span.set c.loop-span.place c.first_piece.result.0.now (pieces_behind (byte ",") c.first_piece.result.1.now) _ (sym c.read_span.ensures.read ∙ c.in-Err.is) in
    sym (c.loop-span.invariant.same ∙ rest ∙ stop)

pub returns-in-empty-clause-read : goal.returns-in-empty-clause-read
returns-in-empty-clause-read g c =
    let with = g.S.SpanSet.with in
    let form = c.args.form in
    let front = c.first_piece.result.0.now in
    let none = pieces_none (byte ",") c.first_piece.result.1.now (omega (arith, c.in-empty.len_below)) in
    let rest = ap (items_read with form c.loop-span.set c.loop-span.place) (c.first_piece.ensures.pieces ∙ ap (λ ps. front ∷ ps) none) in
    let on = goes_on with form c.loop-span.set c.loop-span.place front [] c.in-Ok.span (sym c.read_span.ensures.read ∙ c.in-Ok.is) in
    let set = ap (λ s. items_read with form s (c.loop-span.place + (length front + 1)) []) (sym c.with_span-set.ensures) in
    sym (c.loop-span.invariant.same ∙ rest ∙ on ∙ set ∙ ends with form c.with_span-set.result _)

pub loop-span-preserved : goal.loop-span-preserved
loop-span-preserved g c =
    let with = g.S.SpanSet.with in
    let form = c.args.form in
    let front = c.first_piece.result.0.now in
    let back = c.first_piece.result.1.now in
    let left = take (length back - 1) (drop 1 back) in
    let some : 1 ≤ length back = c.in-len1-up.len_at_least in
    let size : length left + 1 ≡ length back = size_more back some in
    let rest = ap (items_read with form c.loop-span.set c.loop-span.place) (c.first_piece.ensures.pieces ∙ ap (λ ps. front ∷ ps) (pieces_more (byte ",") back some)) in
    let on = goes_on with form c.loop-span.set c.loop-span.place front (pieces (byte ",") left) c.in-Ok.span (sym c.read_span.ensures.read ∙ c.in-Ok.is) in
    let set = ap (λ s. items_read with form s (c.loop-span.place + (length front + 1)) (pieces (byte ",") left)) (sym c.with_span-set.ensures) in
    record {
      same = c.loop-span.invariant.same ∙ rest ∙ on ∙ set;
      whole = omega (arith, size, c.first_piece.ensures.whole, c.loop-span.invariant.whole);
    }
