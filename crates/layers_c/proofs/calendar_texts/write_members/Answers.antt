use Rattle.std.proofs.Common.{◌≡◌, ◌∙◌, ◌<◌, length, Some, None, ap, refl, sym, true, false, arith}
use Rattle.std.proofs.lemmas.List.{length-set}
use Rattle.numbers_c.specs.DateTimes.{numbers_for_c}
use Rattle.layers_c.specs.Calendars.{IsNextInstant}
use Rattle.layers_c.specs.Schedules.{is_up_to}
use Rattle.layers_c.proofs.FilledLists.{rest-kept}
use Rattle.layers_c.proofs.ListedInstants.{all_written, more_written, no_instant, no_room, none_written, past_bound}
use Rattle.layers_c.proofs.calendar_texts.write_members.Goals as goal

pub returns-in_default-clause-instants : goal.returns-in_default-clause-instants
returns-in_default-clause-instants g c =
    let l = c.loop-count in
    let lt : l.count < length c.args.out.now = omega (arith, c.loop-count-test.true, l.invariant.size) in
    let none : IsNextInstant g.Z.TimeZone.ahead c.args.set.now l.last.utc None = record { member = tt; later = tt; least = tt; none = c.in_default.ensures.none } in
    all_written g.Z.TimeZone.ahead c.args.set.now c.args.start.utc c.args.until (length c.args.out.now) l.last.utc l.count l.out l.invariant.begun
    (no_instant g.Z.TimeZone.ahead c.args.set.now c.args.start.utc c.args.until (length c.args.out.now) l.last.utc l.count lt none)

pub returns-else-is_up_to-clause-instants : goal.returns-else-is_up_to-clause-instants
returns-else-is_up_to-clause-instants g c =
    let l = c.loop-count in
    let lt : l.count < length c.args.out.now = omega (arith, c.loop-count-test.true, l.invariant.size) in
    let found = c.in-Some.ensures in
    let next : IsNextInstant g.Z.TimeZone.ahead c.args.set.now l.last.utc (Some c.in-Some.instant.utc) = record { member = found.member; later = found.later; least = found.least; none = tt } in
    let fails : is_up_to c.args.until c.in-Some.instant.utc ≡ false = sym (c.is_up_to.ensures ∙ ap (is_up_to c.args.until) c.naive_utc-moment.ensures) ∙ c.if-is_up_to.false in
    all_written g.Z.TimeZone.ahead c.args.set.now c.args.start.utc c.args.until (length c.args.out.now) l.last.utc l.count l.out l.invariant.begun
    (past_bound g.Z.TimeZone.ahead c.args.set.now c.args.start.utc c.args.until (length c.args.out.now) l.last.utc c.in-Some.instant.utc l.count lt next fails)

pub returns-clause-instants : goal.returns-clause-instants
returns-clause-instants g c =
    let l = c.loop-count in
    all_written g.Z.TimeZone.ahead c.args.set.now c.args.start.utc c.args.until (length c.args.out.now) l.last.utc l.count l.out l.invariant.begun
    (no_room g.Z.TimeZone.ahead c.args.set.now c.args.start.utc c.args.until (length c.args.out.now) l.last.utc l.count (omega (arith, c.loop-count-test.false, l.invariant.size)))

pub loop-count-preserved : goal.loop-count-preserved
loop-count-preserved g c =
    let l = c.loop-count in
    let lt : l.count < length c.args.out.now = omega (arith, c.loop-count-test.true, l.invariant.size) in
    let found = c.in-Some.ensures in
    let next : IsNextInstant g.Z.TimeZone.ahead c.args.set.now l.last.utc (Some c.in-Some.instant.utc) = record { member = found.member; later = found.later; least = found.least; none = tt } in
    let passes : is_up_to c.args.until c.in-Some.instant.utc ≡ true = sym (c.is_up_to.ensures ∙ ap (is_up_to c.args.until) c.naive_utc-moment.ensures) ∙ c.if-is_up_to.true in
    let number : c.numbers_or_none.result ≡ numbers_for_c c.in-Some.instant.utc = c.numbers_or_none.ensures ∙ ap numbers_for_c c.naive_utc-moment.ensures in
    rw number (record {
      within = omega (arith, lt);
      size = length-set l.out l.count (numbers_for_c c.in-Some.instant.utc) ∙ l.invariant.size;
      rest = rest-kept l.out c.args.out.now l.count (numbers_for_c c.in-Some.instant.utc) l.invariant.rest;
      begun = more_written g.Z.TimeZone.ahead c.args.set.now c.args.start.utc c.args.until (length c.args.out.now) l.last.utc c.in-Some.instant.utc l.count l.out lt c.loop-count-test.true l.invariant.begun next passes;
    })

pub loop-count-init : goal.loop-count-init
loop-count-init g c = record {
  within = omega arith;
  size = refl;
  rest = refl;
  begun = none_written g.Z.TimeZone.ahead c.args.set.now c.args.start.utc c.args.until (length c.args.out.now) c.args.out.now;
}
