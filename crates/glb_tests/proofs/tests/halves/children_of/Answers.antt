use Rattle.glb_tests.proofs.tests.halves.children_of.Goals as goal

pub returns-in-Ok : goal.returns-in-Ok
returns-in-Ok c =
    c.process.ensures.fits.kept _ (c.add.ensures.fits.kept _ c.empty-bag.ensures.fits)
