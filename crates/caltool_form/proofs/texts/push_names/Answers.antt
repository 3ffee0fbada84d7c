use Rattle.std.proofs.Common.{append_assoc, refl, ap, length, arith, rules}
use Rattle.chrono_calendar.specs.Days.{year_of, month_of, day_of}
use Rattle.caltool_form.specs.Answers.{names_of}
use Rattle.caltool_form.proofs.Years.{year_again}
use Rattle.caltool_form.proofs.texts.push_names.Goals as goal

pub push_week_and_ordinal-requires : goal.push_week_and_ordinal-requires
push_week_and_ordinal-requires g c =
    let n = g.A.CommandAnswers.number c.args.date in
    let old = c.args.out.now in
    let first = c.push_date.new.out in
    let second = c.push_day_and_weekday.new.out in
    let date = c.push_date.ensures in
    let others = c.push_day_and_weekday.ensures in (
      search rules,
      (
        omega (arith, date.fits, others.fits),
        (
          omega (arith, ap length c.as_bytes-start.ensures.value, ap length c.as_bytes.ensures.value, date.fits),
          rw (c.as_bytes-start.ensures.value, c.as_bytes.ensures.value, c.as_bytes-2.ensures.value)
              (year_again old first second _ _ _ _ (year_of n) (month_of n) (day_of n) date.text others.text date.fits),
        ),
      ),
    )

pub returns-clause-text : goal.returns-clause-text
unfolding names_of
returns-clause-text g c = rw (c.push_week_and_ordinal.ensures.text, c.push_day_and_weekday.ensures.text, c.push_date.ensures.text) (simp append_assoc refl)
