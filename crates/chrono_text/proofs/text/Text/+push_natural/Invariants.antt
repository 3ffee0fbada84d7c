use Rattle.chrono_text.proofs.text.Text.+push_natural.Given as goal

abbrev pub decreases-push_natural : goal.decreases-push_natural
decreases-push_natural g l = l.n
