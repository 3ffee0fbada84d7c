use Rattle.std.proofs.Common.{◌≡◌, ◌-◌, ◌++◌, ℕ, length, length-append, append_assoc, ap, ◌∙◌, refl, arith}
use Rattle.chrono_units.proofs.DayNames.{length-weekday_text}
use Rattle.caltool_form.specs.SpacedDays.{spaced_days_text}
use Rattle.caltool_form.proofs.Days.{members, spaced-first, put-le}
use Rattle.caltool_form.proofs.texts.push_spaced_days.Goals as goal

pub loop-left-preserved : goal.loop-left-preserved
loop-left-preserved g c =
    let days = c.args.days in
    let left = c.loop-left.left in
    let day = c.loop-left.day in
    let same : c.push_text_if.new.self ++ spaced_days_text (members days (left - 1) c.succ-day.result) ≡ c.loop-left.out ++ spaced_days_text (members days left day) =
    rw (spaced-first days left day (omega arith), c.push_text_if.ensures, c.contains.ensures, c.spaced_name.ensures, c.succ-day.ensures) (simp append_assoc refl) in
    record {
      text = same ∙ c.loop-left.invariant.text;
      fits = omega (arith, length-append {A = ℕ}, c.loop-left.invariant.fits, ap length c.push_text_if.ensures, put-le c.contains.result c.loop-left.out c.spaced_name.result, ap length c.spaced_name.ensures, length-weekday_text day);
    }
