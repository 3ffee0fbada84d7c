use Rattle.chrono_pattern.proofs.RowExact.{front_exact, text_exact}
use Rattle.chrono_pattern.proofs.law.texts_are_read_by_their_pieces.Goals as goal

pub returns : goal.returns
returns c = record { exact = text_exact; front = front_exact }
