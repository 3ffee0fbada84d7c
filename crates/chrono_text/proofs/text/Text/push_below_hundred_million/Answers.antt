use Rattle.std.proofs.Common.{◌++◌, ◌/◌, ◌%◌, nat_lt, [], if◌then◌else◌, append_assoc, ap, sym, ◌∙◌}
use Rattle.std.specs.Fmt.{decimal}
use Rattle.chrono_text.specs.Text.{all_digits}
use Rattle.chrono_text.proofs.Decimals.{by_fours}
use Rattle.chrono_text.proofs.text.Text.push_below_hundred_million.Goals as goal

pub returns : goal.returns
returns g c =
    let n = c.args.n in
    let before = c.args.self.now in
    let front = if nat_lt 0 (n / 10_000) then decimal (n / 10_000) else [] in
    let last = if nat_lt n 10_000 then decimal n else all_digits 4 (n % 10_000) in
    c.push_last_four.ensures.text ∙ ap (λ text. text ++ last) c.push_front.ensures.text ∙ append_assoc before front last
    ∙ ap (λ digits. before ++ digits) (sym (by_fours n c.requires.small))
