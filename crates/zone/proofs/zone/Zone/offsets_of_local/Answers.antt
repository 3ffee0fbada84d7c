use Rattle.std.proofs.Common.{sym, subst, refl, ℤ, w64}
use Rattle.std.specs.Prelude.{Option, Some}
use Rattle.std.proofs.lemmas.Int.{to_z-of_z}
use Rattle.chrono_zoned.specs.Zones.{IsMapped}
use Rattle.zone_rule.specs.Rules.{rule_offset}
use Rattle.zone_rule.specs.declared.rule.ZoneRule.{ZoneRule}
use Rattle.zone_table.specs.Table.{table_offset}
use Rattle.zone.specs.Parts.{ZoneParts, offset_with, zone_offset}
use Rattle.zone.specs.Private.{ShowAlike}
use Rattle.zone.proofs.ZoneLemmas.{mapped_alike}
use Rattle.zone.proofs.zone.Zone.offsets_of_local.Goals as goal
use Rattle.zone.proofs.zone.Zone.offsets_of_local.Goals.{in-Some+else-is_local_behind, in_default}

pub returns-then-is_local_behind : goal.returns-then-is_local_behind
returns-then-is_local_behind c =
    let z = c.self.inside in
    let r = c.in-Some.rule in
    let here = to_z-of_z w64 c.args.local c.ranges.local in
    let alike : ShowAlike (rule_offset r) (offset_with z.first z.rows.now (Some r)) c.args.local =
    subst (λ (l : ℤ). ShowAlike (rule_offset r) (offset_with z.first z.rows.now (Some r)) l) here (c.if-is_local_behind.ensures.rule refl) in
    let mapped = subst (λ (l : ℤ). IsMapped (rule_offset r) l c.offsets_by_rule.result) here c.offsets_by_rule.ensures in
    subst (λ (p : ZoneParts). IsMapped (zone_offset p) c.args.local c.offsets_by_rule.result) c.self.view_is
    (subst (λ (o : Option ZoneRule). IsMapped (offset_with z.first z.rows.now o) c.args.local c.offsets_by_rule.result) (sym c.in-Some.is)
    (mapped_alike (rule_offset r) (offset_with z.first z.rows.now (Some r)) c.args.local c.offsets_by_rule.result alike mapped))

pub returns : goal.returns
returns c =
    let z = c.self.inside in
    let here = to_z-of_z w64 c.args.local c.ranges.local in
    let mapped = subst (λ (l : ℤ). IsMapped (table_offset z.first z.rows.now) l c.offsets_of_local.result) here c.offsets_of_local.ensures in
    subst (λ (p : ZoneParts). IsMapped (zone_offset p) c.args.local c.offsets_of_local.result) c.self.view_is (elim c.match-self.branch [
      | in-Some+else-is_local_behind w ↦
          let r = w.in-Some.rule in
          let alike : ShowAlike (table_offset z.first z.rows.now) (offset_with z.first z.rows.now (Some r)) c.args.local =
          subst (λ (l : ℤ). ShowAlike (table_offset z.first z.rows.now) (offset_with z.first z.rows.now (Some r)) l) here (w.if-is_local_behind.ensures.rows refl) in
          subst (λ (o : Option ZoneRule). IsMapped (offset_with z.first z.rows.now o) c.args.local c.offsets_of_local.result) (sym w.in-Some.is)
          (mapped_alike (table_offset z.first z.rows.now) (offset_with z.first z.rows.now (Some r)) c.args.local c.offsets_of_local.result alike mapped)
      | in_default w ↦ subst (λ (o : Option ZoneRule). IsMapped (offset_with z.first z.rows.now o) c.args.local c.offsets_of_local.result) (sym w.in_default.is) mapped
    ])
