use Rattle.std.proofs.Common.{◌≡◌, ◌++◌, length, length-append, append_assoc, ap, ◌∙◌, refl, rules, arith}
use Rattle.chrono_units.specs.WeekdayText.{further_days_text}
use Rattle.chrono_units.proofs.DayNames.{length-weekday_text}
use Rattle.chrono_units.proofs.text.put_days.Goals as goal

pub put_into-requires : goal.put_into-requires
put_into-requires g c =
    let days = ap length c.in-Some.ensures.steps in
    (search rules, omega (arith, days))

pub loop-day-init : goal.loop-day-init
loop-day-init g c =
    let days = ap length c.in-Some.ensures.steps in
    let name = simp length-append at (ap length c.put_into.ensures) in
    record {
      text = rw (c.put_into.ensures, c.in-Some.ensures.steps) (simp append_assoc refl);
      fits = omega (arith, days, name, length-weekday_text c.in-Some.first);
    }

pub push_text-requires : goal.push_text-requires
push_text-requires g c =
    let days = ap length c.in-Some-next.ensures.steps in
    (search rules, omega (arith, c.loop-day.invariant.fits, days))

pub put_into-requires-in-Some-next : goal.put_into-requires-in-Some-next
put_into-requires-in-Some-next g c =
    let days = ap length c.in-Some-next.ensures.steps in
    let comma = simp length-append at (ap length c.push_text.ensures) in
    (search rules, omega (arith, c.loop-day.invariant.fits, days, comma))

pub loop-day-smaller : goal.loop-day-smaller
loop-day-smaller g c =
    let days = ap length c.in-Some-next.ensures.steps in
    omega (arith, days)

pub loop-day-preserved : goal.loop-day-preserved
loop-day-preserved g c =
    let days = ap length c.in-Some-next.ensures.steps in
    let comma = simp length-append at (ap length c.push_text.ensures) in
    let name = simp length-append at (ap length c.put_into-in-Some-next.ensures) in
    let same : c.put_into-in-Some-next.new.text ++ further_days_text c.next-in-loop-day.new.self ≡ c.loop-day.text ++ further_days_text c.loop-day.days = rw (c.put_into-in-Some-next.ensures, c.push_text.ensures, c.in-Some-next.ensures.steps) (simp append_assoc refl) in
    record {
      text = same ∙ c.loop-day.invariant.text;
      fits = omega (arith, c.loop-day.invariant.fits, days, comma, name, length-weekday_text c.in-Some-next.day);
    }

pub returns-in_default-next-clause-fits : goal.returns-in_default-next-clause-fits
returns-in_default-next-clause-fits g c = omega (arith, c.loop-day.invariant.fits)
