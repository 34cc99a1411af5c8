use Rattle.states.proofs.+redraw.Given as goal

abbrev pub decreases-redraw : goal.decreases-redraw
decreases-redraw l = l.i
