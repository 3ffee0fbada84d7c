use Rattle.std.proofs.Common.{List, ap, arith, drop, length, length-drop, take, ℕ, ◌∙◌}
use Rattle.std.proofs.lemmas.List.{drop_min, take_min}
use Rattle.chrono_stamps.proofs.rfc3339_error.split_date.Goals as goal

pub returns-clause-front : goal.returns-clause-front
returns-clause-front c = c.split_at.ensures.front ∙ ap (λ k. take k c.args.text.now) c.min.ensures ∙ take_min 10 c.args.text.now

pub returns-clause-rest : goal.returns-clause-rest
returns-clause-rest c = c.split_at.ensures.back ∙ ap (λ k. drop k c.args.text.now) c.min.ensures ∙ drop_min 10 c.args.text.now

pub returns-clause-room : goal.returns-clause-room
returns-clause-room c =
    omega (arith, ap (λ (l : List ℕ). length l) c.split_at.ensures.back, length-drop c.min.result c.args.text.now, c.min.ensures)
