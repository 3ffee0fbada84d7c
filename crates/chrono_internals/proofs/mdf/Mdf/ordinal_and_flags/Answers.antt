use Rattle.std.proofs.Common.{inl, inr, arith}
use Rattle.chrono_internals.proofs.MonthDays.{mdl_adjustment-stored}
use Rattle.chrono_internals.proofs.mdf.Mdf.ordinal_and_flags.Goals as goal

pub returns-then-above-eq0-clause-value : goal.returns-then-above-eq0-clause-value
returns-then-above-eq0-clause-value c =
    rw (← c.self.view_is) (elim (mdl_adjustment-stored c.self.inside.bits) [ inl real ↦ absurd (omega arith) | inr none ↦ none.1 ])

pub overflow_sub-result : goal.overflow_sub-result
overflow_sub-result c =
    elim (mdl_adjustment-stored c.self.inside.bits) [ inl real ↦ omega arith | inr none ↦ absurd (omega arith) ]

pub returns-clause-value : goal.returns-clause-value
returns-clause-value c =
    rw (← c.self.view_is) (elim (mdl_adjustment-stored c.self.inside.bits) [ inl real ↦ (real.1, omega arith) | inr none ↦ absurd (omega arith) ])
