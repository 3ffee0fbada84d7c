-- `new` makes the number 0.
use Rattle.std.proofs.Common.{List, [], ◌∷◌, refl}
use Rattle.std.proofs.raw_atomic.Walks.{proved}
use types.Kit.{raw, ‵, ◌$◌, ◌∵◌, !, qed, done, drop, fjoin, fpack, feq_i, suffices}
use types.Part.{agg}
use types.Run.{enter, no_more, returns}
use types.ByLocal.{alloc_all, pass_all, free_all, look_at, sets}
use base.Fml.{ftrue}
use mir.Val.{Val}
use denote.RattleType.{Valss}
use denote.Steps.{nothing}
use denote.Struct.Struct.{within}
use denote.Triple.Entry.{on_entry}
use denote.Triple.Walked.{says, ends_at}
use Rattle.chrono_calendar.proofs.GhostWalks.{no_bytes, fieldless}
use Rattle.chrono_calendar.specs.contracts.tally.Tally as Tally
use Rattle.chrono_calendar.specs.contracts.tally.Tally.new as f
use Rattle.chrono_calendar.proofs.tally.Tally.new.Statement.{statement}
use Rattle.chrono_calendar.proofs.tally.Tally.new.Code as code

pub new_spec : {M : Type 1} → statement M
new_spec 𝓤 𝓛 𝓜 𝓡 wired =
    let c = f.clauses 𝓛 𝓜.mem 𝓡.returns in
    proved 𝓛 f.ended tt c 𝓜 𝓡 tt f.Key.name code.function (code.unfolded 𝓤 𝓛.H 𝓜 𝓡 wired)
    (λ κs. tt) (λ κs. tt) (λ κs qs bounds a _ are.
    let none : (Tally.the_row).Denot = record { count = 0 } in
    qed 𝓛 (raw (on_entry 𝓛 f.signature κs qs a tt) ∷ ‵ ftrue ∷ []) ∵ drop ! $ drop ! $
    enter ! _ _ _ _ _ $ alloc_all ! (λ l. pass_all ! refl tt $
    sets ! (agg ! (no_more !)) refl (tt, tt) $
    returns ! (look_at ! 0 refl) $ free_all ! refl $
    suffices ! _ (ends_at 𝓛 f.ended tt c ((κs, qs, bounds, a, tt), tt) no_bytes none tt tt) $ says ! refl $
    nothing ! $ nothing ! $ feq_i ! (List Val) (no_bytes ∷ []) (no_bytes ∷ []) refl $
    fjoin ! $ fpack ! (Valss []) (within fieldless tt (no_bytes ∷ [])) tt $ fjoin ! $ nothing ! $ nothing ! $ done !))
