use Rattle.std.proofs.Common.{sym, ap, codes, arith, rules}
use Rattle.std.proofs.lemmas.Slice.Eq.{text_from_reads}
use Rattle.caltool_command.specs.Commands.{name_of}
use Rattle.caltool_command.proofs.name.name_of.Goals as goal

pub returns-in-ymd : goal.returns-in-ymd
unfolding name_of
returns-in-ymd c = sym (ap name_of (text_from_reads c.args.word.now (codes "ymd") (omega arith) (search rules)))

pub returns-in-yo : goal.returns-in-yo
unfolding name_of
returns-in-yo c = sym (ap name_of (text_from_reads c.args.word.now (codes "yo") (omega arith) (search rules)))

pub returns-in-iwd : goal.returns-in-iwd
unfolding name_of
returns-in-iwd c = sym (ap name_of (text_from_reads c.args.word.now (codes "iwd") (omega arith) (search rules)))

pub returns-in-day : goal.returns-in-day
unfolding name_of
returns-in-day c = sym (ap name_of (text_from_reads c.args.word.now (codes "day") (omega arith) (search rules)))

pub returns-in-wom : goal.returns-in-wom
unfolding name_of
returns-in-wom c = sym (ap name_of (text_from_reads c.args.word.now (codes "wom") (omega arith) (search rules)))

pub returns-in-days : goal.returns-in-days
unfolding name_of
returns-in-days c = sym (ap name_of (text_from_reads c.args.word.now (codes "days") (omega arith) (search rules)))

pub returns-in-months : goal.returns-in-months
unfolding name_of
returns-in-months c = sym (ap name_of (text_from_reads c.args.word.now (codes "months") (omega arith) (search rules)))

pub returns-in-week : goal.returns-in-week
unfolding name_of
returns-in-week c = sym (ap name_of (text_from_reads c.args.word.now (codes "week") (omega arith) (search rules)))

pub returns-in-move : goal.returns-in-move
unfolding name_of
returns-in-move c = sym (ap name_of (text_from_reads c.args.word.now (codes "move") (omega arith) (search rules)))

pub returns-in-diff : goal.returns-in-diff
unfolding name_of
returns-in-diff c = sym (ap name_of (text_from_reads c.args.word.now (codes "diff") (omega arith) (search rules)))

pub returns-in-since : goal.returns-in-since
unfolding name_of
returns-in-since c = sym (ap name_of (text_from_reads c.args.word.now (codes "since") (omega arith) (search rules)))

pub returns-in-set : goal.returns-in-set
unfolding name_of
returns-in-set c = sym (ap name_of (text_from_reads c.args.word.now (codes "set") (omega arith) (search rules)))

pub returns-in-on : goal.returns-in-on
unfolding name_of
returns-in-on c = sym (ap name_of (text_from_reads c.args.word.now (codes "on") (omega arith) (search rules)))

pub returns-in-every : goal.returns-in-every
unfolding name_of
returns-in-every c = sym (ap name_of (text_from_reads c.args.word.now (codes "every") (omega arith) (search rules)))
