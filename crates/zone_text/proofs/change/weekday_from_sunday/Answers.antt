use Rattle.std.proofs.Common.{◌≡◌, ◌<◌, ℕ, zero, suc, refl, ap, ◌∙◌, arith}
use Rattle.chrono_units.specs.Weekday.{previous_weekday, weekday_from_monday, weekday_from_sunday}
use Rattle.chrono_units.specs.declared.weekday.Weekday.{Weekday}
use Rattle.zone_text.proofs.change.weekday_from_sunday.Goals as goal

-- counted from Sunday, a weekday is the one before that of the same number counted from Monday
day_before : (n : ℕ) → n < 7 → previous_weekday (weekday_from_monday n) ≡ weekday_from_sunday n
day_before zero few = refl
day_before (suc zero) few = refl
day_before (suc (suc zero)) few = refl
day_before (suc (suc (suc zero))) few = refl
day_before (suc (suc (suc (suc zero)))) few = refl
day_before (suc (suc (suc (suc (suc zero))))) few = refl
day_before (suc (suc (suc (suc (suc (suc zero)))))) few = refl
day_before (suc (suc (suc (suc (suc (suc (suc n))))))) few = absurd (omega (arith, few))

pub returns : goal.returns
returns c =
    let found = rw c.unwrap.ensures at c.from_u32.ensures in
    c.pred.ensures ∙ ap (λ (d : Weekday). previous_weekday d) found.1 ∙ day_before c.args.days c.requires
