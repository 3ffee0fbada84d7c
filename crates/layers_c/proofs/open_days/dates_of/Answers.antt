use Rattle.std.proofs.Common.{◌∙◌, ◌++◌, ◌∷◌, [], ap, sym, arith, get_or, take, pos, FitsSigned, rules, w32}
use Rattle.std.proofs.lemmas.Int.{to_z-of_z}
use Rattle.std.proofs.lemmas.List.{length-set, take_more, take_more_set}
use Rattle.chrono_calendar.proofs.NamedDates.{date_of_day-number, none-date_of_day}
use Rattle.layers_c.proofs.open_days.dates_of.Goals as goal

pub returns-in_default-clause-none : goal.returns-in_default-clause-none
returns-in_default-clause-none c = λ dates.
    let number = get_or c.args.numbers.now c.loop-count.count (pos 0) in
    let fits : FitsSigned w32 (get_or c.args.numbers.now c.loop-count.count (pos 0)) = search rules in
    let found = rw (to_z-of_z w32 number fits) at c.in_default.ensures.date in
    absurd (none-date_of_day number found (dates c.loop-count.count (pos 0) c.loop-count-test.true))

pub loop-count-preserved : goal.loop-count-preserved
loop-count-preserved c =
    let numbers = c.args.numbers.now in
    let count = c.loop-count.count in
    let date = c.in-Some.date in
    let number = get_or c.args.numbers.now c.loop-count.count (pos 0) in
    let fits : FitsSigned w32 (get_or c.args.numbers.now c.loop-count.count (pos 0)) = search rules in
    let found = rw (to_z-of_z w32 number fits) at c.in-Some.ensures.date in
    let same = date_of_day-number date number (sym found) in
    let room = length-set c.loop-count.room count date in (
      omega (arith, c.loop-count-test.true),
      omega (arith, room, c.loop-count.invariant.1, c.loop-count.invariant.2, c.if-count-room.false),
      room ∙ c.loop-count.invariant.2,
      take_more_set c.loop-count.room count date (omega (arith, c.loop-count.invariant.1, c.if-count-room.false))
          ∙ ap (λ front. front ++ date ∷ []) c.loop-count.invariant.3
          ∙ ap (λ n. take count numbers ++ n ∷ []) (sym same.1)
          ∙ sym (take_more numbers count (pos 0) c.loop-count-test.true),
    )
