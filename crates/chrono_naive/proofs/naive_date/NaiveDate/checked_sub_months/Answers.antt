use Rattle.std.proofs.Common.{◌≡◌, pos, neg_ℤ, to_z, of_z, ◌-ℤ◌, w64, arith, ap, ◌∙◌}
use Rattle.chrono_calendar.specs.MonthMoves.{month_move}
use Rattle.chrono_calendar.proofs.MonthMoveLaws.{if_month, if_moved, month_move-exists}
use Rattle.chrono_calendar.proofs.Signed.{casts, signed}
use Rattle.chrono_naive.proofs.LaterMonths.{if_earlier}
use Rattle.chrono_naive.proofs.naive_date.NaiveDate.checked_sub_months.Goals as goal

moved : (c : goal.After-moved_by_months) → c.moved_by_months.result ≡ month_move c.args.self (neg_ℤ (pos c.args.months))
moved c =
    let months : to_z w64 (of_z w64 (pos 0 -ℤ to_z w64 (of_z w64 c.from.result))) ≡ neg_ℤ (pos c.args.months) = omega (arith, casts, c.from.ensures, c.as_u32.ensures) in
    c.moved_by_months.ensures.date ∙ ap (month_move c.args.self) months

pub returns : goal.returns
returns c =
    let laws = if_moved c.moved_by_months.result c.args.self (neg_ℤ (pos c.args.months)) (pos c.args.months) (omega (arith, casts)) c.moved_by_months.ensures.in_range (moved c) in
    record {
      date = moved c;
      exists = month_move-exists c.moved_by_months.result c.args.self (neg_ℤ (pos c.args.months)) (moved c);
      month = (if_month c.moved_by_months.result c.args.self (neg_ℤ (pos c.args.months)) (moved c)).0;
      day = (if_month c.moved_by_months.result c.args.self (neg_ℤ (pos c.args.months)) (moved c)).1;
      order = laws.0;
      back = laws.1;
      sum = laws.2;
      earlier = λ some. if_earlier c.moved_by_months.result c.args.self (neg_ℤ (pos c.args.months)) (moved c) (omega (arith, signed, some));
    }
