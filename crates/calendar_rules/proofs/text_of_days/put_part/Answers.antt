use Rattle.std.proofs.Common.{[], ◌∷◌}
use Rattle.calendar_text.proofs.PutLemmas.{put_both}
use Rattle.calendar_rules.proofs.text_of_days.put_part.Goals as goal

pub returns-clause-put : goal.returns-clause-put
returns-clause-put c =
    let first = c.put_bytes-end in
    let second = c.put_bytes in
    put_both c.args.buffer.now first.new.buffer second.new.buffer c.args.len first.result second.result c.args.part.now (59 ∷ []) first.ensures.put second.ensures.put
