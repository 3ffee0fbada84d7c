use Rattle.std.proofs.Common.{◌-◌, length, drop, arith, length-drop}
use Rattle.std.proofs.lemmas.List.{take_all}
use Rattle.chrono_cron.proofs.text.split_fields.text_from.Goals as goal

pub returns : goal.returns
returns c = let text = c.args.text.now in let n = c.args.place in take_all (length text - n) (drop n text) (omega (arith, length-drop n text))
