use Rattle.std.proofs.Common.{ℕ, ◌*◌, ◌++◌, ap, sym, ◌∙◌}
use Rattle.zone_file.proofs.block.read_data.Goals as goal

pub returns-clause-every : goal.returns-clause-every
returns-clause-every c = λ times places kinds names rest is.
    let t = c.in_ok-times.ensures.every times (places ++ (kinds ++ (names ++ (is.trailer ++ rest)))) is.written (is.times_long ∙ ap (λ (n : ℕ). n * c.args.size) (sym c.count_in-times_count.ensures.value)) in
    let p = c.in_ok-places.ensures.every places (kinds ++ (names ++ (is.trailer ++ rest))) (sym t.1) (is.places_long ∙ sym c.count_in-times_count.ensures.value) in
    let k = c.in_ok-kinds.ensures.every kinds (names ++ (is.trailer ++ rest)) (sym p.1) (is.kinds_long ∙ ap (λ (n : ℕ). n * 6) (sym c.count_in.ensures.value)) in
    let n = c.in_ok-names.ensures.every names (is.trailer ++ rest) (sym k.1) (is.names_long ∙ sym c.count_in-2.ensures.value) in
    let r = c.in_ok-rest.ensures.every is.trailer rest (sym n.1) (is.trailer_long ∙ sym c.trailer_length.ensures) in
    (t.0, p.0, k.0, n.0, r.1)
