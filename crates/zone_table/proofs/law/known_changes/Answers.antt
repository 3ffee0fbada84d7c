use Rattle.std.proofs.Common.{◌≡◌, ◌∙◌, sym, pos, ◌-ℤ◌, arith}
use Rattle.std.proofs.lemmas.Int.{ints}
use Rattle.chrono_zoned.proofs.OneChangeLemmas.{ChangesOnce-set_ahead}
use Rattle.zone_table.proofs.law.known_changes.Goals as goal

differ : pos 3_600 ≡ pos 0 → ⊥
differ same = omega (arith, ints, same)

pub returns-clause-next : goal.returns-clause-next
returns-clause-next c = record {
  later = omega (arith, ints);
  changes = differ;
  same = λ u since until. ChangesOnce-set_ahead.early u until;
}

pub returns-clause-none_after : goal.returns-clause-none_after
returns-clause-none_after c = λ t h.
    h.changes (ChangesOnce-set_ahead.late t (omega (arith, ints, h.later)) ∙ sym (ChangesOnce-set_ahead.late (t -ℤ pos 1) (omega (arith, ints, h.later))))

pub returns-clause-previous : goal.returns-clause-previous
returns-clause-previous c = record {
  earlier = omega (arith, ints);
  changes = differ;
  same = λ u since until. ChangesOnce-set_ahead.late u since;
}

pub returns-clause-none_before : goal.returns-clause-none_before
returns-clause-none_before c = λ t h.
    h.changes (ChangesOnce-set_ahead.early t (omega (arith, ints, h.earlier)) ∙ sym (ChangesOnce-set_ahead.early (t -ℤ pos 1) (omega (arith, ints, h.earlier))))

pub returns-clause-steady_from : goal.returns-clause-steady_from
returns-clause-steady_from c = λ u since. ChangesOnce-set_ahead.late u since

pub returns-clause-not_from : goal.returns-clause-not_from
returns-clause-not_from c = λ steady. differ (steady (pos 1_000) (omega (arith, ints)))

pub returns-clause-steady_to : goal.returns-clause-steady_to
returns-clause-steady_to c = λ u until. ChangesOnce-set_ahead.early u (omega (arith, ints, until))

pub returns-clause-not_to : goal.returns-clause-not_to
returns-clause-not_to c = λ steady. differ (sym (steady (pos 999) (omega (arith, ints))))
