use Rattle.std.proofs.Common.{◌∙◌, arith, w32}
use Rattle.std.proofs.lemmas.Int.{to_z-of_z}
use Rattle.chrono_datetime.proofs.Signed.{signed}
use Rattle.timed_cron.proofs.YearSteps.{first_in_year, from_first, ordinal_is, past_zero, year_is}
use Rattle.timed_cron.proofs.year_search.first_of_year.Goals as goal

pub returns-clause-large : goal.returns-clause-large
returns-clause-large c =
    let first = c.unwrap-date in
    let year = year_is c.from_yo_opt.result first.result _ first.ensures c.from_yo_opt.ensures.year ∙ to_z-of_z w32 c.args.year c.ranges.year in
    past_zero first.result c.args.year year c.requires.first

pub returns-clause-from : goal.returns-clause-from
returns-clause-from c = λ n le.
    let first = c.unwrap-date in
    let year = year_is c.from_yo_opt.result first.result _ first.ensures c.from_yo_opt.ensures.year ∙ to_z-of_z w32 c.args.year c.ranges.year in
    from_first first.result n c.args.year year le

pub returns-clause-all : goal.returns-clause-all
returns-clause-all c = λ n le.
    let first = c.unwrap-date in
    let year = year_is c.from_yo_opt.result first.result _ first.ensures c.from_yo_opt.ensures.year ∙ to_z-of_z w32 c.args.year c.ranges.year in
    first_in_year first.result n (ordinal_is c.from_yo_opt.result first.result first.ensures c.from_yo_opt.ensures.ordinal) (omega (arith, signed, year, le))
