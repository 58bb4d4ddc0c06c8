use Rattle.generate.proofs.draft.Draft.+test.Given as goal

abbrev pub decreases-test : goal.decreases-test
decreases-test l = l.depth
