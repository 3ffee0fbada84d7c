use Rattle.std.proofs.Common.{◌∙◌, arith}
use Rattle.chrono_text.proofs.ListLemmas.{one_piece, two_pieces}
use Rattle.chrono_text.proofs.list.split_at_byte.Goals as goal

pub returns-then-place-text-clause-one_piece : goal.returns-then-place-text-clause-one_piece
returns-then-place-text-clause-one_piece c = one_piece c.args.byte c.args.text.now (c.byte_place-place.ensures.place ∙ c.if-place-text.true)

pub returns-clause-pieces : goal.returns-clause-pieces
returns-clause-pieces c =
    two_pieces c.args.byte c.args.text.now c.byte_place-place.result c.byte_place-place.ensures.place (omega (arith, c.byte_place-place.ensures.within, c.if-place-text.false))
