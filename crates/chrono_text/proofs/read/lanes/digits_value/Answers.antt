use Rattle.std.proofs.Common.{◌-◌, arith}
use Rattle.std.proofs.lemmas.List.{take_rest}
use Rattle.chrono_text.proofs.LaneLemmas.{below, last_eight}
use Rattle.chrono_text.proofs.read.lanes.digits_value.Goals as goal

pub few_digits_value-requires-2-clause-digits : goal.few_digits_value-requires-2-clause-digits
few_digits_value-requires-2-clause-digits c =
    (last_eight c.args.bytes.now c.args.len (omega arith) (omega arith) c.requires.digits).front

pub few_digits_value-requires-3-clause-digits : goal.few_digits_value-requires-3-clause-digits
few_digits_value-requires-3-clause-digits c =
    rw (take_rest c.args.bytes.now (c.args.len - 8)) (last_eight c.args.bytes.now c.args.len (omega arith) (omega arith) c.requires.digits).back

pub returns-clause-value : goal.returns-clause-value
returns-clause-value c =
    let parted = last_eight c.args.bytes.now c.args.len (omega arith) (omega arith) c.requires.digits in
    let back = rw (take_rest c.args.bytes.now (c.args.len - 8)) at c.few_digits_value-3.ensures in
    omega (arith, parted.value, back)

pub returns-clause-small : goal.returns-clause-small
returns-clause-small c = omega (arith, returns-clause-value c, below c.args.bytes.now c.args.len 16 (omega arith) c.requires.digits)
