use Rattle.std.proofs.Common.{ℕ, ◌%◌, length, length-append, append_assoc, append-nil, ap, refl, sym, rules, arith}
use Rattle.std.proofs.lemmas.Bool.{eq-eqb, ne_eqb}
use Rattle.chrono_text.proofs.Decimals.{six_places, nine_places}
use Rattle.chrono_text.proofs.text.Text.push_subsecond.Goals as goal

pub returns-then-nanos-eq0-clause-text : goal.returns-then-nanos-eq0-clause-text
returns-then-nanos-eq0-clause-text g c = rw (eq-eqb c.args.nanos 0 c.if-nanos-eq0.true) (sym (append-nil _))

pub push_three-requires : goal.push_three-requires
push_three-requires g c = (search rules, (omega arith, omega (arith, length-append {A = ℕ}, ap length c.push.ensures)))

pub returns-then-nanos-eq0-2-clause-text : goal.returns-then-nanos-eq0-2-clause-text
returns-then-nanos-eq0-2-clause-text g c =
    let n = c.args.nanos in
    rw (c.push_three.ensures, c.push.ensures, ne_eqb n 0 c.if-nanos-eq0.false, eq-eqb (n % 1_000_000) 0 c.if-nanos-eq0-2.true) (simp append_assoc refl)

pub push_three-requires-2 : goal.push_three-requires-2
push_three-requires-2 g c = (search rules, (omega arith, omega (arith, length-append {A = ℕ}, ap length c.push.ensures, ap length c.push_three.ensures)))

pub returns-then-nanos-eq0-3-clause-text : goal.returns-then-nanos-eq0-3-clause-text
returns-then-nanos-eq0-3-clause-text g c =
    let n = c.args.nanos in
    rw (c.push_three-2.ensures, c.push_three.ensures, c.push.ensures, ne_eqb n 0 c.if-nanos-eq0.false, ne_eqb (n % 1_000_000) 0 c.if-nanos-eq0-2.false, eq-eqb (n % 1_000) 0 c.if-nanos-eq0-3.true, six_places n c.requires.nanos) (simp append_assoc refl)

pub push_three-requires-3 : goal.push_three-requires-3
push_three-requires-3 g c = (search rules, (omega arith, omega (arith, length-append {A = ℕ}, ap length c.push.ensures, ap length c.push_three.ensures, ap length c.push_three-2.ensures)))

pub returns-clause-text : goal.returns-clause-text
returns-clause-text g c =
    let n = c.args.nanos in
    rw (c.push_three-3.ensures, c.push_three-2.ensures, c.push_three.ensures, c.push.ensures, ne_eqb n 0 c.if-nanos-eq0.false, ne_eqb (n % 1_000_000) 0 c.if-nanos-eq0-2.false, ne_eqb (n % 1_000) 0 c.if-nanos-eq0-3.false, nine_places n c.requires.nanos) (simp append_assoc refl)

pub returns-clause-fits : goal.returns-clause-fits
returns-clause-fits g c = omega (arith, length-append {A = ℕ}, ap length c.push.ensures, ap length c.push_three.ensures, ap length c.push_three-2.ensures, ap length c.push_three-3.ensures)
