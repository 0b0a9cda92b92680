use Rattle.glb_tests.proofs.tests.script.step.Goals as goal

pub returns : goal.returns
returns g c = c.step.ensures.fits.kept c.args.program.now c.requires
