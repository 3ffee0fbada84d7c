use Rattle.std.proofs.Common.{◌≡◌, ℤ, of_z, to_z, w64, ◌-ℤ◌, arith, refl, subst, sym, Option, IfNone, ◌∙◌}
use Rattle.std.proofs.lemmas.Int.{ints, to_z-of_z}
use Rattle.chrono_instant.specs.Instants.{epoch_second}
use Rattle.zoned_rules.specs.Private.{IsOffsetBefore}
use Rattle.zoned_rules.proofs.Standing.{IsNever, by_offset, none_found}
use Rattle.zoned_rules.proofs.local_instant.offset_of.Goals as goal

pub offset_before-requires : goal.offset_before-requires
offset_before-requires g c =
    let ahead = g.Z.TimeZone.ahead c.args.zone in
    let l = epoch_second c.args.local in
    let back : to_z w64 (of_z w64 c.timestamp.result) ≡ c.timestamp.result = to_z-of_z w64 c.timestamp.result (record { sfits = c.timestamp.type_inv }) in
    let at : to_z w64 (of_z w64 c.timestamp.result) ≡ l = back ∙ c.timestamp.ensures.value in
    let skipped : IsNever ahead l = subst (λ (o : Option ℤ). IfNone o (IsNever ahead l)) (sym c.earliest.ensures ∙ c.in-None.is) (none_found ahead l c.offset_from_local_datetime.result c.offset_from_local_datetime.ensures) in
    record {
      date = (omega (arith, ints, back, c.timestamp.ensures.in_range.0), omega (arith, ints, back, c.timestamp.ensures.in_range.1));
      skipped = subst (λ (x : ℤ). IsNever ahead x) (sym at) skipped;
    }

pub returns-in-None : goal.returns-in-None
returns-in-None g c =
    let ahead = g.Z.TimeZone.ahead c.args.zone in
    let l = epoch_second c.args.local in
    let at : to_z w64 (of_z w64 c.timestamp.result) ≡ l = to_z-of_z w64 c.timestamp.result (record { sfits = c.timestamp.type_inv }) ∙ c.timestamp.ensures.value in
    let skipped : IsNever ahead l = subst (λ (o : Option ℤ). IfNone o (IsNever ahead l)) (sym c.earliest.ensures ∙ c.in-None.is) (none_found ahead l c.offset_from_local_datetime.result c.offset_from_local_datetime.ensures) in
    by_offset ahead l c.offset_before.result (l -ℤ c.offset_before.result) skipped (subst (λ (x : ℤ). IsOffsetBefore ahead x c.offset_before.result) at c.offset_before.ensures) refl
