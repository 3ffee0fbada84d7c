use Rattle.chrono_text.proofs.duration_text.+zeros_behind.Given as goal

abbrev pub decreases-zeros_behind : goal.decreases-zeros_behind
decreases-zeros_behind l = l.n
