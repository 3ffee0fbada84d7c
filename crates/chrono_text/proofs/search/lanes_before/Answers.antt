use Rattle.std.proofs.Common.{◌≡◌, ◌≢◌, ◌+◌, ◌<◌, ◌≤◌, ℕ, Bool, List, length, get_or, cond, map, sym, ap, ◌∙◌, arith, w8, eqb}
use lib.Count.{count_trailing_zeros}
use lib.Lanes.{chunk, mask_l}
use Rattle.std.proofs.lemmas.Bool.{eqb-true, eqb-false, eq-eqb, ne_eqb, cond-true, cond-false}
use Rattle.std.proofs.lemmas.Simd.{length-chunk, bitmask_splat, first_set_mask_l, run_in_chunk_le, run_in_chunk_fails, run_in_chunk_stops}
use Rattle.chrono_text.proofs.search.lanes_before.Goals as goal

abbrev is_stop : ℕ → ℕ → Bool
is_stop stop x = eqb x stop

-- a bit for each lane, set where it is the byte looked for
abbrev bits : ℕ → List ℕ → ℕ → ℕ
bits stop bytes at = mask_l (map (is_stop stop) (chunk at 16 bytes))

-- so many of the bytes from a place on stand before that byte
record StandBefore (stop : ℕ) (bytes : List ℕ) (at run : ℕ) : Type 0 where
  within : run ≤ 16
  before : (k : ℕ) → at ≤ k → k < at + run → get_or bytes k 0 ≢ stop
  here : run < 16 → get_or bytes (at + run) 0 ≡ stop

lowest_bit : (stop : ℕ) (bytes : List ℕ) (at run : ℕ) → at + 16 ≤ length bytes → run ≡ cond (eqb (bits stop bytes at) 0) 16 (count_trailing_zeros 64 (bits stop bytes at)) → StandBefore stop bytes at run
lowest_bit stop bytes at run room is =
    let counted = is ∙ first_set_mask_l (is_stop stop) (chunk at 16 bytes) 16 (length-chunk at 16 bytes room) (omega arith) in
    record {
      within = run_in_chunk_le (is_stop stop) bytes at 16 run 0 room counted;
      before = λ k from to. eqb-false _ stop (run_in_chunk_fails (is_stop stop) bytes at 16 run 0 room counted k from to);
      here = λ short. eqb-true _ stop (run_in_chunk_stops (is_stop stop) bytes at 16 run 0 room counted short);
    }

pub returns-then-stops-eq0 : goal.returns-then-stops-eq0
returns-then-stops-eq0 c =
    let bytes = c.args.bytes.now in
    let at = c.args.at in
    let stop = c.args.stop in
    let masked = bitmask_splat w8 eqb (chunk at 16 bytes) 16 stop (length-chunk at 16 bytes c.requires) (omega arith) in
    let all = lowest_bit stop bytes at 16 c.requires (sym (cond-true _ _ _ (eq-eqb _ 0 (sym masked ∙ c.if-stops-eq0.true)))) in
    record { within = all.within; before = all.before; here = all.here }

pub returns-else-stops-eq0 : goal.returns-else-stops-eq0
returns-else-stops-eq0 c =
    let bytes = c.args.bytes.now in
    let at = c.args.at in
    let stop = c.args.stop in
    let masked = bitmask_splat w8 eqb (chunk at 16 bytes) 16 stop (length-chunk at 16 bytes c.requires) (omega arith) in
    let some : bits stop bytes at ≢ 0 = λ none. c.if-stops-eq0.false (masked ∙ none) in
    let few = lowest_bit stop bytes at _ c.requires (ap (count_trailing_zeros 64) masked ∙ sym (cond-false _ _ _ (ne_eqb _ 0 some))) in
    record { within = few.within; before = few.before; here = few.here }
