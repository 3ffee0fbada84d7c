use Rattle.std.proofs.Common.{◌≡◌, ◌≢◌, ◌+◌, ◌*◌, ◌<◌, ◌≤◌, ◌^◌, ℕ, All, List, inl, inr, length, get_or, take, drop, min, ap, sym, ◌∙◌, arith, length-take}
use Prim.Native.Nat.{◌%◌}
use Rattle.std.proofs.Math.Nat.{pow-le-pow_right}
use Rattle.std.proofs.lemmas.Bool.{cases_lt}
use Rattle.std.proofs.lemmas.List.{get_or-take, get_or_default}
use Rattle.chrono_text.specs.Marks.{marks_of}
use Rattle.chrono_text.proofs.LaneLemmas.{more_marks, marks_below}
use Rattle.chrono_text.proofs.search.first_at.Goals as goal
use Rattle.chrono_text.proofs.search.first_at.Goals.{then-at-lt-MARKED, else-at-lt-MARKED}

-- sixteen more bytes are marked
marked_more : (bytes : List ℕ) (at marks m : ℕ) → at + 16 ≤ length bytes → at < 64 → at % 16 ≡ 0 → marks ≡ marks_of (min at 64) bytes → m ≡ marks_of 16 (drop at bytes)
    → (marks + m * 2 ^ at % 18446744073709551616 ≡ marks_of (at + 16) bytes) × (marks + m * 2 ^ at % 18446744073709551616 < 18446744073709551616)
marked_more bytes at marks m room inside whole so_far is =
    let here : min at 64 ≡ at = omega arith in
    let start : marks ≡ marks_of at bytes = so_far ∙ ap (λ n. marks_of n bytes) here in
    let next = more_marks bytes at (omega arith) in
    let shifted : m * 2 ^ at ≡ marks_of 16 (drop at bytes) * 2 ^ at = ap (λ x. x * 2 ^ at) is in
    let few : at + 16 ≤ 64 = omega arith in
    let power : 2 ^ (at + 16) ≤ 18446744073709551616 = pow-le-pow_right {n = 2} (omega arith) few in
    let below : marks_of (at + 16) bytes < 18446744073709551616 = omega (arith, marks_below (at + 16) bytes, power) in
    (omega (arith, start, next, shifted, below), omega (arith, start, next, shifted, below))

-- no byte of the next ones before the stop is the stop
more_before : (stop : ℕ) (bytes : List ℕ) (at run : ℕ) → at + run ≤ length bytes → All (λ x. x ≢ stop) (take at bytes) → ((k : ℕ) → at ≤ k → k < at + run → get_or bytes k 0 ≢ stop)
    → All (λ x. x ≢ stop) (take (at + run) bytes)
more_before stop bytes at run within so_far next k d lt e =
    let inside : k < at + run = omega (arith, lt, length-take (at + run) bytes) in
    let here : get_or bytes k d ≡ stop = sym (get_or-take (at + run) bytes k d inside) ∙ e in
    elim (cases_lt k at) [
      | inl less ↦ so_far k d (omega (arith, less, length-take at bytes)) (get_or-take at bytes k d less ∙ here)
      | inr more ↦ next k more inside (get_or_default bytes k 0 d (omega arith) ∙ here)
    ]

pub overflow_add-marks : goal.overflow_add-marks
overflow_add-marks c =
    let l = c.loop-at in
    record { fits = (marked_more c.args.bytes.now l.at l.marks c.marks_at.result (omega arith) c.if-at-lt-MARKED.true l.invariant.whole l.invariant.marked c.marks_at.ensures).1 }

pub returns-then-run-lt-LANES-clause-before : goal.returns-then-run-lt-LANES-clause-before
returns-then-run-lt-LANES-clause-before c =
    more_before c.args.stop c.args.bytes.now c.loop-at.at c.lanes_before-run.result (omega (arith, c.lanes_before-run.ensures.within)) c.loop-at.invariant.before c.lanes_before-run.ensures.before

pub returns-then-run-lt-LANES-clause-marks : goal.returns-then-run-lt-LANES-clause-marks
returns-then-run-lt-LANES-clause-marks c =
    let l = c.loop-at in
    elim c.if-at-lt-MARKED.branch [
      | then-at-lt-MARKED w ↦
          let more = marked_more c.args.bytes.now l.at l.marks w.marks_at.result (omega arith) w.if-at-lt-MARKED.true l.invariant.whole l.invariant.marked w.marks_at.ensures in
          (l.at + 16, omega (arith, w.if-at-lt-MARKED.true, l.invariant.whole), omega arith, w.marks-is ∙ more.0)
      | else-at-lt-MARKED w ↦ (min l.at 64, omega arith, omega (arith, l.invariant.within), w.marks-is ∙ l.invariant.marked)
    ]

pub loop-at-preserved : goal.loop-at-preserved
loop-at-preserved c =
    let l = c.loop-at in
    let bytes = c.args.bytes.now in
    record {
      within = omega arith;
      before = more_before c.args.stop bytes l.at 16 (omega arith) l.invariant.before (λ k from to. c.lanes_before-run.ensures.before k from (omega (arith, to, c.if-run-lt-LANES.false)));
      whole = omega (arith, l.invariant.whole);
      marked = elim c.if-at-lt-MARKED.branch [
        | then-at-lt-MARKED w ↦
            let more = marked_more bytes l.at l.marks w.marks_at.result (omega arith) w.if-at-lt-MARKED.true l.invariant.whole l.invariant.marked w.marks_at.ensures in
            let few : l.at + 16 ≡ min (l.at + 16) 64 = omega (arith, w.if-at-lt-MARKED.true, l.invariant.whole) in
            w.marks-is ∙ more.0 ∙ ap (λ n. marks_of n bytes) few
        | else-at-lt-MARKED w ↦
            let all : min l.at 64 ≡ min (l.at + 16) 64 = omega (arith, w.if-at-lt-MARKED.false) in
            w.marks-is ∙ l.invariant.marked ∙ ap (λ n. marks_of n bytes) all
      ];
    }
