use Rattle.chrono_units.specs.WeekdayText.{digit_text}
use Rattle.chrono_units.proofs.text.put_digit.Goals as goal

pub returns-then-member-clause-text : goal.returns-then-member-clause-text
unfolding digit_text
returns-then-member-clause-text g c = rw c.if-member.true c.push.ensures

pub returns-else-member-clause-text : goal.returns-else-member-clause-text
unfolding digit_text
returns-else-member-clause-text g c = rw c.if-member.false c.push-else-member.ensures
