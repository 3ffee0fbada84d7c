use Rattle.std.proofs.Common.{sym, ap, subst, ◌∙◌}
use Rattle.chrono_clock.specs.Time.{IsPlain, Landing, TimeOfDay}
use Rattle.chrono_clock.proofs.LandingLemmas.{IsPlain-land, TimeMovesAddUp-land}
use Rattle.chrono_clock.proofs.OrderLemmas.{land-forward, land-backward}
use Rattle.chrono_clock.proofs.TimeLemmas.{land-plain, land-leap, IsPlain-is_leap, IsLeap-is_leap}
use Rattle.chrono_clock.proofs.naive_time.NaiveTime.landing.Goals as goal

pub returns-then-is_leap-clause-time : goal.returns-then-is_leap-clause-time
returns-then-is_leap-clause-time c =
    let leap = IsLeap-is_leap c.args.self.now (sym c.is_leap.ensures.leap ∙ c.if-is_leap.true) in
    c.moved_from_leap.ensures.time ∙ ap (λ (l : Landing). l.time) (sym (land-leap c.args.self.now c.args.rhs leap))

pub returns-then-is_leap-clause-days : goal.returns-then-is_leap-clause-days
returns-then-is_leap-clause-days c =
    let leap = IsLeap-is_leap c.args.self.now (sym c.is_leap.ensures.leap ∙ c.if-is_leap.true) in
    c.moved_from_leap.ensures.days ∙ ap (λ (l : Landing). l.day) (sym (land-leap c.args.self.now c.args.rhs leap))

pub returns-else-is_leap-clause-time : goal.returns-else-is_leap-clause-time
returns-else-is_leap-clause-time c =
    let plain = IsPlain-is_leap c.args.self.now (sym c.is_leap.ensures.leap ∙ c.if-is_leap.false) in
    c.moved_plainly.ensures.time ∙ ap (λ (l : Landing). l.time) (sym (land-plain c.args.self.now c.args.rhs plain))

pub returns-else-is_leap-clause-days : goal.returns-else-is_leap-clause-days
returns-else-is_leap-clause-days c =
    let plain = IsPlain-is_leap c.args.self.now (sym c.is_leap.ensures.leap ∙ c.if-is_leap.false) in
    c.moved_plainly.ensures.days ∙ ap (λ (l : Landing). l.day) (sym (land-plain c.args.self.now c.args.rhs plain))

pub returns-then-is_leap-clause-plain : goal.returns-then-is_leap-clause-plain
returns-then-is_leap-clause-plain c = λ plain. let P : TimeOfDay → Type 0 = IsPlain in subst P (sym (returns-then-is_leap-clause-time c)) (IsPlain-land c.args.self.now c.args.rhs plain)

pub returns-then-is_leap-clause-adds_up : goal.returns-then-is_leap-clause-adds_up
returns-then-is_leap-clause-adds_up c = λ y w. TimeMovesAddUp-land c.args.self.now c.args.rhs y c.is_leap.ensures.time w

pub returns-then-is_leap-clause-forward : goal.returns-then-is_leap-clause-forward
returns-then-is_leap-clause-forward c = land-forward c.args.self.now c.args.rhs c.is_leap.ensures.time

pub returns-then-is_leap-clause-backward : goal.returns-then-is_leap-clause-backward
returns-then-is_leap-clause-backward c = land-backward c.args.self.now c.args.rhs c.is_leap.ensures.time

pub returns-else-is_leap-clause-plain : goal.returns-else-is_leap-clause-plain
returns-else-is_leap-clause-plain c = λ plain. let P : TimeOfDay → Type 0 = IsPlain in subst P (sym (returns-else-is_leap-clause-time c)) (IsPlain-land c.args.self.now c.args.rhs plain)

pub returns-else-is_leap-clause-adds_up : goal.returns-else-is_leap-clause-adds_up
returns-else-is_leap-clause-adds_up c = λ y w. TimeMovesAddUp-land c.args.self.now c.args.rhs y c.is_leap.ensures.time w

pub returns-else-is_leap-clause-forward : goal.returns-else-is_leap-clause-forward
returns-else-is_leap-clause-forward c = land-forward c.args.self.now c.args.rhs c.is_leap.ensures.time

pub returns-else-is_leap-clause-backward : goal.returns-else-is_leap-clause-backward
returns-else-is_leap-clause-backward c = land-backward c.args.self.now c.args.rhs c.is_leap.ensures.time
