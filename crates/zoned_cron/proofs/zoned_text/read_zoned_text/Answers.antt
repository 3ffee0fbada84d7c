use Rattle.std.proofs.Common.{◌≡◌, ◌↔◌, true, false, ℕ, List, subst, sym}
use Rattle.chrono_cron.specs.declared.field_sets.FieldSets.{FieldSets}
use Rattle.chrono_cron.specs.ScheduleTexts.{IsScheduleText}
use Rattle.zoned_cron.specs.ZonedTexts.{schedule_part}
use Rattle.zoned_cron.proofs.ZonedTexts.{part_is, part_whole}
use Rattle.zoned_cron.proofs.zoned_text.read_zoned_text.Goals as goal

pub returns-in-Ok-clause-found : goal.returns-in-Ok-clause-found
returns-in-Ok-clause-found c =
    let part = part_whole c.args.text.now c.mark_len-mark.result c.mark_len-mark.ensures.value c.if-mark-eq0.true in
    subst (λ (t : List ℕ). (false ≡ true) ↔ ((s : FieldSets) → ¬ IsScheduleText t s)) (sym part) c.in-Ok.ensures.found

pub returns-in-Err-clause-found : goal.returns-in-Err-clause-found
returns-in-Err-clause-found c =
    let part = part_whole c.args.text.now c.mark_len-mark.result c.mark_len-mark.ensures.value c.if-mark-eq0.true in
    subst (λ (t : List ℕ). (true ≡ true) ↔ ((s : FieldSets) → ¬ IsScheduleText t s)) (sym part) c.in-Err.ensures.found

pub returns-in-Ok-read_schedule-clause-found : goal.returns-in-Ok-read_schedule-clause-found
returns-in-Ok-read_schedule-clause-found c =
    let part : schedule_part c.args.text.now ≡ c.split_at-2.result.1.now
    = part_is c.args.text.now c.split_at.result.1.now c.split_at-2.result.1.now c.mark_len-mark.result c.name_len.result c.mark_len-mark.ensures.value c.if-mark-eq0.false c.split_at.ensures.back c.name_len.ensures.value c.split_at-2.ensures.back in
    subst (λ (t : List ℕ). (false ≡ true) ↔ ((s : FieldSets) → ¬ IsScheduleText t s)) (sym part) c.in-Ok-read_schedule.ensures.found

pub returns-in-Err-read_schedule-clause-found : goal.returns-in-Err-read_schedule-clause-found
returns-in-Err-read_schedule-clause-found c =
    let part : schedule_part c.args.text.now ≡ c.split_at-2.result.1.now
    = part_is c.args.text.now c.split_at.result.1.now c.split_at-2.result.1.now c.mark_len-mark.result c.name_len.result c.mark_len-mark.ensures.value c.if-mark-eq0.false c.split_at.ensures.back c.name_len.ensures.value c.split_at-2.ensures.back in
    subst (λ (t : List ℕ). (true ≡ true) ↔ ((s : FieldSets) → ¬ IsScheduleText t s)) (sym part) c.in-Err-read_schedule.ensures.found

pub returns-in-Ok-clause-every : goal.returns-in-Ok-clause-every
returns-in-Ok-clause-every c =
    let part = part_whole c.args.text.now c.mark_len-mark.result c.mark_len-mark.ensures.value c.if-mark-eq0.true in
    subst (λ (t : List ℕ). (s : FieldSets) → IsScheduleText t s → c.in-Ok.schedule.sets ≡ s) (sym part) c.in-Ok.ensures.sets

pub returns-in-Ok-read_schedule-clause-every : goal.returns-in-Ok-read_schedule-clause-every
returns-in-Ok-read_schedule-clause-every c =
    let part : schedule_part c.args.text.now ≡ c.split_at-2.result.1.now
    = part_is c.args.text.now c.split_at.result.1.now c.split_at-2.result.1.now c.mark_len-mark.result c.name_len.result c.mark_len-mark.ensures.value c.if-mark-eq0.false c.split_at.ensures.back c.name_len.ensures.value c.split_at-2.ensures.back in
    subst (λ (t : List ℕ). (s : FieldSets) → IsScheduleText t s → c.in-Ok-read_schedule.schedule.sets ≡ s) (sym part) c.in-Ok-read_schedule.ensures.sets
