use Rattle.std.proofs.Common.{◌≡◌, ◌≤◌, ◌+◌, ◌-◌, [], ◌∷◌, length, take, drop, Err, ap, sym, ◌∙◌, arith}
use Rattle.chrono_text.specs.Lists.{pieces, pieces_behind}
use Rattle.calendar_text.specs.Reads.{placed_through}
use Rattle.calendar_text.proofs.PieceLemmas.{ends, goes_on, stops}
use Rattle.chrono_text.proofs.PieceLemmas.{pieces_more, pieces_none, size_more}
use Rattle.calendar_text.proofs.pieces.read_pieces.Goals as goal

pub returns-in-Err-clause-read : goal.returns-in-Err-clause-read
returns-in-Err-clause-read g c =
    let step = g.R.PieceReader.step c.args.reader.now in
    let rest = ap (placed_through step c.loop-next.read c.loop-next.place) c.first_piece.ensures.pieces in
    let stop = stops step c.loop-next.read c.loop-next.place c.first_piece.result.0.now (pieces_behind c.args.separator c.first_piece.result.1.now) c.in-Err.error (sym c.with_piece.ensures.read ∙ c.in-Err.is) in
    ap Err c.behind.ensures ∙ sym (c.loop-next.invariant.same ∙ rest ∙ stop)

pub returns-in-empty-clause-read : goal.returns-in-empty-clause-read
returns-in-empty-clause-read g c =
    let step = g.R.PieceReader.step c.args.reader.now in
    let front = c.first_piece.result.0.now in
    let none = pieces_none c.args.separator c.first_piece.result.1.now (omega (arith, c.in-empty.len_below)) in
    let rest = ap (placed_through step c.loop-next.read c.loop-next.place) (c.first_piece.ensures.pieces ∙ ap (λ ps. front ∷ ps) none) in
    let on = goes_on step c.loop-next.read c.in-Ok.next c.loop-next.place front [] (sym c.with_piece.ensures.read ∙ c.in-Ok.is) in
    sym (c.loop-next.invariant.same ∙ rest ∙ on ∙ ends step c.in-Ok.next _)

pub loop-next-preserved : goal.loop-next-preserved
loop-next-preserved g c =
    let step = g.R.PieceReader.step c.args.reader.now in
    let front = c.first_piece.result.0.now in
    let back = c.first_piece.result.1.now in
    let left = take (length back - 1) (drop 1 back) in
    let some : 1 ≤ length back = c.in-len1-up.len_at_least in
    let size : length left + 1 ≡ length back = size_more back some in
    let rest = ap (placed_through step c.loop-next.read c.loop-next.place) (c.first_piece.ensures.pieces ∙ ap (λ ps. front ∷ ps) (pieces_more c.args.separator back some)) in
    let on = goes_on step c.loop-next.read c.in-Ok.next c.loop-next.place front (pieces c.args.separator left) (sym c.with_piece.ensures.read ∙ c.in-Ok.is) in
    let e : c.loop-next.place + length front + 1 ≡ c.loop-next.place + (length front + 1) = omega arith in
    record {
      same = c.loop-next.invariant.same ∙ rest ∙ on ∙ ap (λ n. placed_through step c.in-Ok.next n (pieces c.args.separator left)) e;
      whole = omega (arith, size, c.first_piece.ensures.whole, c.loop-next.invariant.whole);
    }
