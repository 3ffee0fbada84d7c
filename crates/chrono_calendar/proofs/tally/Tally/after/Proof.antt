-- `after` makes the number after the one behind the reference.
use Rattle.std.proofs.Common.{List, [], ◌∷◌, ◌+◌, refl}
use Rattle.std.proofs.raw_atomic.Walks.{proved}
use types.Kit.{raw, ‵, ◌⊛◌, ◌$◌, ◌∵◌, !, qed, done, move, keep, split, join, fjoin, fpack, feq_i, suffices}
use types.Part.{agg}
use types.Run.{enter, no_more, returns}
use types.ByLocal.{alloc_all, pass_all, free_all, look_at, sets}
use base.Fml.{ftrue}
use mir.Syntax.{named}
use mir.Val.{Val}
use denote.Builtin.{RefOf}
use denote.Exit.{yes}
use denote.Ref.{shr_vals, shr_Tells}
use denote.RattleType.{owns, Valss}
use denote.Signature.{plain, types_at}
use denote.Steps.{nothing}
use denote.Struct.Struct.{within}
use denote.Triple.Entry.{alive}
use denote.Triple.Walked.{says, Stays, stay_dropped, Goes-dropped, walk_of, ends_at}
use Rattle.chrono_calendar.proofs.GhostWalks.{no_bytes, fieldless}
use Rattle.chrono_calendar.specs.contracts.tally.Tally as Tally
use Rattle.chrono_calendar.specs.contracts.tally.Tally.after as f
use Rattle.chrono_calendar.proofs.tally.Tally.after.Statement.{statement}
use Rattle.chrono_calendar.proofs.tally.Tally.after.Code as code

abbrev stayed : Stays f.ended.signature.params f.ended.kept
stayed = (stay_dropped _ yes, tt)

pub after_spec : {M : Type 1} → statement M
after_spec 𝓤 𝓛 𝓜 𝓡 wired =
    let c = f.clauses 𝓛 𝓜.mem 𝓡.returns in let W = walk_of 𝓛 f.ended stayed c in
    let goes = Goes-dropped 𝓛 1 (RefOf (0 ∷ []) tt (plain (λ _. Tally.the_row)) (λ _. tt)) yes (λ κs x w. refl) in
    proved 𝓛 f.ended stayed c 𝓜 𝓡 (goes, tt) f.Key.name code.function (code.unfolded 𝓤 𝓛.H 𝓜 𝓡 wired)
    (λ κs. (shr_vals, tt)) (λ κs. (shr_Tells (named 0) κs.0 Tally.the_row, tt)) (λ κs qs bounds a _ are.
    let next : (Tally.the_row).Denot = record { count = a.0.now.count + 1 } in
    let y : W.Ghost = ((κs, qs, bounds, a, (shr_vals a.0, tt)), tt) in
    let owned = owns (types_at f.signature.params κs) a y.0.4 in
    qed 𝓛 ((raw (alive 𝓛 f.signature κs qs) ⊛ ‵ owned) ∷ ‵ ftrue ∷ []) ∵ keep ! (0 ∷ []) $ split ! $ keep ! (0 ∷ []) $
    enter ! _ _ _ _ _ $ alloc_all ! (λ l. pass_all ! refl ((tt, tt), tt) $
    sets ! (agg ! (no_more !)) refl (tt, tt) $
    returns ! (look_at ! 0 refl) $ free_all ! refl $
    suffices ! _ (ends_at 𝓛 f.ended stayed c y no_bytes next (tt, tt) (tt, tt)) $ says ! refl $
    nothing ! $ nothing ! $ feq_i ! (List Val) (no_bytes ∷ []) (no_bytes ∷ []) refl $
    fjoin ! $ fpack ! (Valss []) (within fieldless tt (no_bytes ∷ [])) tt $ fjoin ! $ nothing ! $ nothing ! $ join ! $ move ! (2 ∷ 0 ∷ 1 ∷ []) $ done !))
