use Rattle.std.proofs.Common.{◌≡◌, ◌∙◌, Bool, true, ◌&&◌, arith, rules, sym, refl, w32}
use Rattle.std.proofs.lemmas.Bool.{and_parts, eqb-true, eq-eqb, false≢true}
use Rattle.std.proofs.lemmas.Int.{to_z-of_z}
use Rattle.chrono_calendar.proofs.Signed.{casts}
use Rattle.chrono_columns.proofs.TextNames.{IsPairs, entry-read, pairs_of}
use Rattle.chrono_columns.proofs.read.date_of_text_entry.Goals as goal

pub returns-then-has_digits-text : goal.returns-then-has_digits-text
returns-then-has_digits-text c =
    let t = c.args.text in
    let v = c.number_of_two-centuries in
    let w = c.number_of_two-years in
    let m = c.number_of_two-month in
    let d = c.number_of_two-day in
    let front = and_parts _ _ c.if-has_digits-text.true in
    let middle = and_parts _ _ front.0 in
    let digits = and_parts _ _ middle.0 in
    let three = and_parts _ _ digits.0 in
    let two = and_parts _ _ three.0 in
    let of_v = v.ensures.read two.0 in
    let of_w = w.ensures.read two.1 in
    let of_m = m.ensures.read three.1 in
    let of_d = d.ensures.read digits.1 in
    let pairs : IsPairs t v.result.0 w.result.0 m.result.0 d.result.0 = record {
      small = (of_v.0, of_w.0, of_m.0, of_d.0);
      hundreds = of_v.1;
      years = of_w.1;
      month = of_m.1;
      day = of_d.1;
      first = eqb-true _ _ middle.1;
      second = eqb-true _ _ front.1;
    } in
    entry-read t v.result.0 w.result.0 m.result.0 d.result.0 _ _ (search rules) pairs
    (omega (arith, casts, c.from.ensures, c.from-2.ensures, of_v.0, of_w.0))
    (to_z-of_z w32 c.date_of_name-date.result (search rules) ∙ c.date_of_name-date.ensures)

-- all that is asked of a text
all_true : (a b c d e f : Bool) → a ≡ true → b ≡ true → c ≡ true → d ≡ true → e ≡ true → f ≡ true → (((((a && b) && c) && d) && e) && f) ≡ true
all_true a b c d e f p q r s t u = rw (p, q, r, s, t, u) refl

pub returns-else-has_digits-text : goal.returns-else-has_digits-text
returns-else-has_digits-text c = record {
  read = λ some. absurd (some refl);
  every = λ n is.
      let h = pairs_of c.args.text n (search rules) is in
      let p = h.pairs in
      let of_v = c.number_of_two-centuries.ensures.every h.v p.small.0 p.hundreds in
      let of_w = c.number_of_two-years.ensures.every h.w p.small.1 p.years in
      let of_m = c.number_of_two-month.ensures.every h.m p.small.2 p.month in
      let of_d = c.number_of_two-day.ensures.every h.d p.small.3 p.day in
      absurd (false≢true (sym c.if-has_digits-text.false ∙ all_true _ _ _ _ _ _ of_v.1 of_w.1 of_m.1 of_d.1 (eq-eqb _ _ p.first) (eq-eqb _ _ p.second)));
}
