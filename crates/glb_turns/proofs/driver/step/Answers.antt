use Rattle.std.proofs.Common.{◌==◌, ap}
use Rattle.glb_turns.proofs.driver.step.Goals as goal

pub returns-in-Ok-clause-watches : goal.returns-in-Ok-clause-watches
returns-in-Ok-clause-watches g c =
    let s = c.requires.in_play.played.0 in
    let w = c.requires.in_play.played.1 in
    let stands = c.requires.in_play.played.2 in
    let leads = (c.in-Ok.ensures.step s w stands).0 in
    c.notice.ensures c.args.world.now c.requires.in_play.watched
    (ap (λ l. l == 0) c.live-ended.ensures.live) c.stop-stop.ensures.stop
    (g.P.Program.children c.args.program.now) (record {
      setup = s;
      before = w;
      next = leads.next;
      step = leads.step;
      stood = stands;
      stands = leads.stands;
      cube = c.in-Ok.ensures.graph;
      params = c.in-Ok.ensures.params;
    })
