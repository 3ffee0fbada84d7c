use Rattle.std.proofs.Common.{◌≡◌, sym, ◌∙◌, rules}
use Rattle.std.specs.Ordering.{int_cmp}
use Rattle.chrono_calendar.proofs.Order.{calendar_cmp-numbers, ordinal_cmp-numbers}
use Rattle.chrono_calendar.proofs.IsoOrder.{iso_cmp-numbers}
use Rattle.chrono_naive.proofs.naive_date.order.NaiveDateOrd.cmp.Goals as goal

by_number : (c : goal.After-cmp) → c.cmp.result ≡ int_cmp c.args.self.now c.args.other.now
by_number c = search rules

pub returns-clause-calendar : goal.returns-clause-calendar
returns-clause-calendar c = by_number c ∙ sym (calendar_cmp-numbers c.args.self.now c.args.other.now)

pub returns-clause-ordinal : goal.returns-clause-ordinal
returns-clause-ordinal c = by_number c ∙ sym (ordinal_cmp-numbers c.args.self.now c.args.other.now)

pub returns-clause-iso : goal.returns-clause-iso
returns-clause-iso c = by_number c ∙ sym (iso_cmp-numbers c.args.self.now c.args.other.now)
