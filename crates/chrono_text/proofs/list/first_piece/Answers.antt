use Rattle.std.proofs.Common.{sym}
use Rattle.chrono_text.proofs.ListLemmas.{piece_first}
use Rattle.chrono_text.proofs.list.first_piece.Goals as goal

pub returns-clause-pieces : goal.returns-clause-pieces
returns-clause-pieces c =
    rw (c.split_at.ensures.front, c.split_at.ensures.back, sym c.byte_place.ensures.place) (piece_first c.args.separator c.args.text.now)
