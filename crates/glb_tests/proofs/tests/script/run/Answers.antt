use Rattle.glb_tests.proofs.tests.script.run.Goals as goal

pub play-requires : goal.play-requires
play-requires g c = c.in-Ok.ensures.fits c.args.program.now c.requires.fits
