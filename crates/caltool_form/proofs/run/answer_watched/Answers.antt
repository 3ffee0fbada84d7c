use Rattle.std.proofs.Common.{◌≡◌, ◌≤◌, ◌^◌, ◌-◌, take, ap, arith, rules, inl, inr, true, false}
use Rattle.std.proofs.lemmas.Bool.{cases_lt}
use Rattle.std.proofs.lemmas.Result.{on_ok_weaker}
use Rattle.caltool_form.proofs.Pieces.{from_err_of}
use Rattle.caltool_form.proofs.Progress.{ran_more, ran_all, ran_part, ran_part_last}
use Rattle.caltool_form.proofs.run.answer_watched.Goals as goal

pub returns-then-n-eq0-clause-ok : goal.returns-then-n-eq0-clause-ok
returns-then-n-eq0-clause-ok g c = on_ok_weaker c.finish.result (λ wrote.
    let read = c.in_ok-n.ensures.bytes in
    ran_all _ _ _ _ _ _ _ (take c.in_ok-n.n c.read_piece.new.piece) c.loop-piece.invariant.ran read.0 (ap (λ n. take n c.read_piece.new.piece) c.if-n-eq0.true)
    (read.1 c.if-n-eq0.true (omega arith)) wrote) c.finish.ensures.ok

pub returns-then-n-eq0-clause-write : goal.returns-then-n-eq0-clause-write
returns-then-n-eq0-clause-write g c = λ is.
    ran_part_last _ _ _ _ _ _ _ (take c.in_ok-n.n c.read_piece.new.piece) c.loop-piece.invariant.ran c.in_ok-n.ensures.bytes.0 (ap (λ n. take n c.read_piece.new.piece) c.if-n-eq0.true)
    (from_err_of c.finish.result _ _ is c.finish.ensures.err)

pub returns-in_err-answer_piece-clause-write : goal.returns-in_err-answer_piece-clause-write
returns-in_err-answer_piece-clause-write g c = λ _.
    ran_part _ _ _ _ _ _ _ (take c.in_ok-n.n c.read_piece.new.piece) c.loop-piece.invariant.ran c.in_ok-n.ensures.bytes.0 c.in_err-answer_piece.ensures.err

pub loop-piece-preserved : goal.loop-piece-preserved
loop-piece-preserved g c = record {
  nothing = c.in_ok-answer_piece.ensures.nothing;
  ran =
      ran_more _ _ _ _ _ _ _ _ (take c.in_ok-n.n c.read_piece.new.piece) c.loop-piece.invariant.ran c.in_ok-n.ensures.bytes.0
      c.in_ok-answer_piece.ensures.ok c.in_ok-answer_piece.ensures.carries;
  reader = search rules;
  writer = search rules;
  same_reader = search rules;
  same_writer = search rules;
}

pub returns-clause-read_cause : goal.returns-clause-read_cause
returns-clause-read_cause g c = λ is.
    let all : 2 ^ 64 - 1 ≤ c.loop-piece.r.reads = elim (cases_lt c.loop-piece.r.reads (2 ^ 64 - 1)) as (λ _. 2 ^ 64 - 1 ≤ c.loop-piece.r.reads) [
      | inl more ↦ let yes = c.may_read.ensures.1 more in let wrong : false ≡ true = cc in let no_way : ⊥ = cc in absurd no_way
      | inr done ↦ done
    ] in (inr all, c.loop-piece.invariant.writer)
