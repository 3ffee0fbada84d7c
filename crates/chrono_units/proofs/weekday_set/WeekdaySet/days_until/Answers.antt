use Rattle.std.proofs.Common.{◌≢◌, ◌∙◌, ap, sym}
use Rattle.std.proofs.lemmas.Bool.{false≢true}
use Rattle.chrono_units.specs.SetDigits.{set_at}
use Rattle.chrono_units.specs.WeekdaySet.{days_until}
use Rattle.chrono_units.proofs.SetAhead.{days_until-none, set_at-zero, days_until-ahead, ahead-within, ahead-member, ahead-least}
use Rattle.chrono_units.proofs.weekday_set.WeekdaySet.days_until.Goals as goal

pub returns-then-is_empty-clause-days : goal.returns-then-is_empty-clause-days
returns-then-is_empty-clause-days c =
    days_until-none c.args.from ∙ ap (λ s. days_until s c.args.from) (sym (c.is_empty.ensures.0 c.if-is_empty.true))

-- ---- a set with a member has a digit

some_digit : (c : goal.After-num_days_from_monday) → c.self.inside.digits ≢ 0
some_digit c = λ e. false≢true (sym c.if-is_empty.false ∙ c.is_empty.ensures.1 (sym c.self.view_is ∙ ap set_at e ∙ set_at-zero))

pub returns-clause-days : goal.returns-clause-days
returns-clause-days c =
    rw (c.from.ensures, c.num_days_from_monday.ensures, ← c.self.view_is) (days_until-ahead c.self.inside.digits c.self.invariant (some_digit c) c.args.from)

pub returns-clause-within : goal.returns-clause-within
returns-clause-within c =
    rw (c.from.ensures, c.num_days_from_monday.ensures) (ahead-within c.self.inside.digits c.self.invariant (some_digit c) c.args.from)

pub returns-clause-member : goal.returns-clause-member
returns-clause-member c =
    rw (c.from.ensures, c.num_days_from_monday.ensures, ← c.self.view_is) (ahead-member c.self.inside.digits c.self.invariant (some_digit c) c.args.from)

pub returns-clause-least : goal.returns-clause-least
returns-clause-least c =
    rw (c.from.ensures, c.num_days_from_monday.ensures, ← c.self.view_is) (ahead-least c.self.inside.digits c.self.invariant (some_digit c) c.args.from)
