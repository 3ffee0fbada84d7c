use Rattle.std.proofs.Common.{length, length-append, ap, arith, rules}
use Rattle.chrono_rules.proofs.ListLemmas.{limit_within, sign_short}
use Rattle.chrono_rules.proofs.text.list_writer.WrittenList.put_number.Goals as goal

pub put_item-requires : goal.put_item-requires
put_item-requires g c =
    let put = simp length-append at (ap length c.push_if.ensures) in
    (search rules, (omega (arith, c.requires.small, limit_within c.args.self.now.listed), omega (arith, c.requires.room, put, sign_short c.args.begun 44)))
