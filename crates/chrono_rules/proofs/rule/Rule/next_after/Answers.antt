use Rattle.std.proofs.Common.{sym, ◌∙◌, arith}
use Rattle.std.proofs.lemmas.Int.{by_lt_z}
use Rattle.chrono_datetime.proofs.Signed.{signed}
use Rattle.chrono_rules.proofs.Counts.{ended-later, no_member, not_counted}
use Rattle.chrono_rules.proofs.Repeated.{count_none}
use Rattle.chrono_rules.proofs.rule.Rule.next_after.Goals as goal

pub returns-in_err-next-clause-none : goal.returns-in_err-next-clause-none
returns-in_err-next-clause-none c =
    rw c.from_residual-in_err-next.ensures
    (λ d later is. no_member c.args.self.now c.args.start d (c.in_err-next.ensures.none d (omega (arith, signed, c.in_ok-succ_opt.ensures.moved, later)) is))

pub returns-then-is_counted-clause-least : goal.returns-then-is_counted-clause-least
returns-then-is_counted-clause-least c = λ d later before.
    no_member c.args.self.now c.args.start d (c.in_ok-next.ensures.least d (omega (arith, signed, c.in_ok-succ_opt.ensures.moved, later)) before)

pub returns-else-is_counted-clause-none : goal.returns-else-is_counted-clause-none
returns-else-is_counted-clause-none c = λ d later is.
    by_lt_z d c.in_ok-next.next
    (λ lt. no_member c.args.self.now c.args.start d (c.in_ok-next.ensures.least d (omega (arith, signed, c.in_ok-succ_opt.ensures.moved, later)) lt))
    (λ ge. not_counted c.args.self.now c.args.start d (ended-later c.args.self.now.end c.args.self.now c.args.start c.in_ok-next.next d ge (sym c.is_counted.ensures ∙ c.if-is_counted.false)))

pub returns-then-not-may_follow-clause-none : goal.returns-then-not-may_follow-clause-none
returns-then-not-may_follow-clause-none c = λ d later is.
    not_counted c.args.self.now c.args.start d (count_none c.args.self.now.end c.args.self.now c.args.start d (sym c.may_follow.ensures ∙ c.if-not-may_follow.true))
