use Rattle.std.proofs.Common.{ℕ, ◌≡◌, ◌-◌, ◌++◌, ◌∷◌, [], length, take, append_assoc, length-append, ap, ◌∙◌, refl, rules, arith}
use Rattle.std.proofs.lemmas.Bool.{ne_eqb}
use Rattle.chrono_text.specs.Text.{all_digits}
use Rattle.chrono_text.proofs.Decimals.{nine_places, few_zeros, trimmed}
use Rattle.chrono_text.proofs.text.Text.push_fraction.Goals as goal

pub shorten-requires : goal.shorten-requires
shorten-requires g c =
    let (front, is, some) = c.zeros_behind.ensures.zeros in
    let few = few_zeros 9 c.args.nanos c.zeros_behind.result front is some c.requires.nanos in
    (search rules, omega (arith, length-append {A = ℕ}, few, ap length c.push_three.ensures, ap length c.push_three-2.ensures, ap length c.push_three-3.ensures))

pub returns-clause-text : goal.returns-clause-text
returns-clause-text g c =
    let n = c.args.nanos in
    let zeros = c.zeros_behind.result in
    let before = c.args.self.now ++ 46 ∷ [] in
    let (front, is, some) = c.zeros_behind.ensures.zeros in
    let whole : c.push_three-3.new.self ≡ before ++ all_digits 9 n =
    rw (c.push_three-3.ensures, c.push_three-2.ensures, c.push_three.ensures, c.push.ensures, nine_places n c.requires.nanos) (simp append_assoc refl) in
    c.shorten.ensures
    ∙ ap (λ l. take (length l - zeros) l) whole
    ∙ trimmed before n zeros front is some c.requires.nanos
    ∙ rw (ne_eqb n 0 c.if-nanos-eq0.false) (simp append_assoc refl)

pub push_three-requires : goal.push_three-requires
push_three-requires g c = (search rules, (omega arith, omega (arith, length-append {A = ℕ}, ap length c.push.ensures)))

pub push_three-requires-2 : goal.push_three-requires-2
push_three-requires-2 g c = (search rules, (omega arith, omega (arith, length-append {A = ℕ}, ap length c.push.ensures, ap length c.push_three.ensures)))

pub push_three-requires-3 : goal.push_three-requires-3
push_three-requires-3 g c = (search rules, (omega arith, omega (arith, length-append {A = ℕ}, ap length c.push.ensures, ap length c.push_three.ensures, ap length c.push_three-2.ensures)))
