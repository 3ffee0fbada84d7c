-- Rows that are written one after another.
use Rattle.std.proofs.Common.{◌+◌, ◌<◌, ℕ, inl, inr, List, length, slice_set, subst, sym, arith}
use Rattle.std.proofs.lemmas.Bool.{cases_eq}
use Rattle.std.proofs.lemmas.Grind.{get_or-set_at}
use Rattle.std.proofs.lemmas.List.{get_or-set_other}
use Rattle.zone_table.specs.Table.{no_row}
use Rattle.zone_table.specs.declared.row.Row.{Row}
use Rattle.zone_file.specs.Kinds.{IsFileRow}
use Rattle.zone_file.specs.Tables.{AreFileRows}

pub one_more : (version : ℕ) (times places kinds : List ℕ) (n : ℕ) (rows : List Row) (row : Row) → n < length rows → AreFileRows version times places kinds n rows
    → IsFileRow version times places kinds n row → AreFileRows version times places kinds (n + 1) (slice_set rows n row)
one_more version times places kinds n rows row inside before next = λ k less.
    elim (cases_eq k n) [
      | inl same ↦ subst (λ (r : Row). IsFileRow version times places kinds k r) (sym (get_or-set_at rows n k row no_row same inside)) (subst (λ (j : ℕ). IsFileRow version times places kinds j row) (sym same) next)
      | inr other ↦ subst (λ (r : Row). IsFileRow version times places kinds k r) (sym (get_or-set_other rows n k row no_row other)) (before k (omega (arith, less, other)))
    ]
