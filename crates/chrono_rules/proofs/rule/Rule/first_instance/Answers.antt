use Rattle.std.proofs.Common.{sym, ◌∙◌, arith}
use Rattle.chrono_datetime.proofs.Signed.{signed}
use Rattle.chrono_rules.proofs.Counts.{no_member}
use Rattle.chrono_rules.proofs.Kept.{kept-behind, kept-instance, kept-later}
use Rattle.chrono_rules.proofs.rule.Rule.first_instance.Goals as goal

pub returns-in_err-day-clause-none : goal.returns-in_err-day-clause-none
returns-in_err-day-clause-none c =
    rw c.from_residual.ensures (λ d low date. no_member c.args.self.now c.args.start d (c.in_err-day.ensures.none d low date))

pub returns-in_err-day-clause-ended : goal.returns-in_err-day-clause-ended
returns-in_err-day-clause-ended c =
    rw c.from_residual.ensures
    (λ d low high.
    kept-later c.args.self.now c.args.start c.args.date d c.args.seen c.requires.kept low
    (λ e from to. c.in_err-day.ensures.none e from (omega (arith, signed, c.requires.date.0, from), omega (arith, signed, to, high))))

pub returns-clause-member : goal.returns-clause-member
returns-clause-member c =
    kept-instance c.args.self.now c.args.start c.args.date c.in_ok-day.day c.args.seen c.requires.kept (sym c.may_follow.ensures ∙ c.if-not-may_follow.false) c.in_ok-day.ensures.not_before c.in_ok-day.ensures.member c.in_ok-day.ensures.least

pub returns-clause-least : goal.returns-clause-least
returns-clause-least c = λ d low high. no_member c.args.self.now c.args.start d (c.in_ok-day.ensures.least d low high)

pub returns-clause-up_to : goal.returns-clause-up_to
returns-clause-up_to c = λ d low high.
    kept-later c.args.self.now c.args.start c.args.date d c.args.seen c.requires.kept low
    (λ e from to. c.in_ok-day.ensures.least e from (omega (arith, signed, to, high)))

pub returns-clause-behind : goal.returns-clause-behind
returns-clause-behind c =
    kept-behind c.args.self.now c.args.start c.args.date c.in_ok-day.day c.args.seen c.requires.kept (sym c.may_follow.ensures ∙ c.if-not-may_follow.false) c.in_ok-day.ensures.not_before c.in_ok-day.ensures.member c.in_ok-day.ensures.least
