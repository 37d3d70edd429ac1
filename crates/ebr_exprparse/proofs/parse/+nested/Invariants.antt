use Rattle.ebr_exprparse.proofs.parse.+nested.Given as goal

abbrev pub decreases-nested : goal.decreases-nested
decreases-nested l = l.depth
