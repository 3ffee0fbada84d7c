use Rattle.std.proofs.Common.{IsAscii, sym, subst}
use Rattle.std.proofs.lemmas.Str.{IsAscii-append}
use Rattle.std.proofs.lemmas.Str.Ascii.{IsAscii-nil}
use Rattle.std.proofs.Common.{◌∙◌}
use Rattle.chrono_pattern.proofs.AsciiLemmas.{item_ascii}
use Rattle.chrono_pattern.proofs.delayed_format.add_item.Goals as goal
use Rattle.chrono_pattern.proofs.delayed_format.add_item.Goals.{then-room-lt-ROOM+in_ok-print, else-room-lt-ROOM}

pub returns-clause-ascii : goal.returns-clause-ascii
returns-clause-ascii g c = λ ok.
    let ranges = c.state_ranges.ensures in
    let waits : IsAscii c.if-room-lt-ROOM.piece = elim c.if-room-lt-ROOM.branch [
      | then-room-lt-ROOM+in_ok-print w ↦ subst IsAscii (sym (w.piece-is ∙ w.clear.ensures)) IsAscii-nil
      | else-room-lt-ROOM w ↦ subst IsAscii (sym w.piece-is) c.requires.waits
    ] in
    subst IsAscii (sym c.put_any_item.ensures.text)
    (IsAscii-append _ _ waits (item_ascii c.args.item c.args.moment c.args.offset ranges.offset c.requires.item ranges.moment.date ranges.moment.time))
