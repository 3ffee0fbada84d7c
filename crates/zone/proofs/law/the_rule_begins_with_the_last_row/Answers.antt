use Rattle.std.proofs.Common.{◌≡◌, ◌<◌, ℤ, ◌<ℤ◌, List, length, refl, sym, ap, ◌∙◌}
use Rattle.std.specs.Prelude.{Option, Some, None}
use Rattle.zone_rule.specs.declared.rule.ZoneRule.{ZoneRule}
use Rattle.zone_table.specs.Table.{offset_after, row_second, table_offset}
use Rattle.zone_table.specs.Sequence.{IsRising}
use Rattle.zone_table.specs.declared.row.Row.{Row}
use Rattle.zone_table.proofs.LocalTimes.{seconds_rise}
use Rattle.zone.specs.Parts.{last_row, offset_with}
use Rattle.zone.proofs.ZoneLemmas.{by_rows, by_rule, is_behind-come, is_behind-later}
use Rattle.zone.proofs.law.the_rule_begins_with_the_last_row.Goals as goal

before : (first : ℤ) (rows : List Row) (rule : Option ZoneRule) → IsRising (row_second rows) (length rows) → 0 < length rows → (u : ℤ) → u <ℤ (last_row rows).second → offset_with first rows rule u ≡ table_offset first rows u
before first rows None up some u early = refl
before first rows (Some r) up some u early = sym (by_rows first rows r u (is_behind-later rows up u some early))

pub returns-clause-before : goal.returns-clause-before
returns-clause-before c = λ z is some u early.
    before z.first z.rows z.rule (seconds_rise (row_second z.rows) (offset_after z.first z.rows) (length z.rows) is.table) some u early

pub returns-clause-after : goal.returns-clause-after
returns-clause-after c = λ z is r ruled u come.
    ap (λ (o : Option ZoneRule). offset_with z.first z.rows o u) ruled
    ∙ sym (by_rule z.first z.rows r u (is_behind-come z.rows (seconds_rise (row_second z.rows) (offset_after z.first z.rows) (length z.rows) is.table) u (λ _. come)))
