use Rattle.std.proofs.Common.{◌≡◌, length, sym, subst, map}
use Rattle.glb_core.specs.Counters.{all_awake, all_degrees}
use Rattle.glb_place.specs.Close.{Closes as PlacesClose}
use Rattle.glb_inbox.specs.Posts.{AreDesksOf, AreNumbered, roots_at, setup_at}
use Rattle.glb_inbox.specs.inner.Begins.{job_of}
use Rattle.glb_inbox.specs.inner.Close.{Closes}
use Rattle.glb_inbox.proofs.Balancing.{many, post_closes, post_numbered}
use Rattle.glb_inbox.proofs.post.Post.close.Goals as goal

pub returns-clause-closes : goal.returns-clause-closes
returns-clause-closes g c =
    let s = c.self.inside.words.value.shared in
    let ds = c.args.desks.items in
    let D = subst (λ v. AreDesksOf v ds) (sym c.self.view_is) c.requires.desks in
    let G = c.gather_all-all.ensures.places in
    let N = c.gather_all-all.ensures.numbers in
    let some = c.self.invariant.some in
    let r = c.read_all.result in
    let all = many g.P.Program.children g.B.Bag.items s.key s.table_id ds D N G.0 G.2 some in
    let C = subst (λ t. (length G.0 ≡ t.shared.key.lines.value.places
    → Closes (job_of g.P.Program.children g.B.Bag.items t.shared.key) G.0 r.live r.items
    r.stop)) c.deref-table.ensures
    (c.read_all.ensures.closes G.0 G.1) all in
    subst (λ v. PlacesClose (g.P.Program.children v.program) (all_degrees (setup_at v))
    (all_awake (setup_at v)) v.params.limit (roots_at v) (map (λ d. d.kept) ds) r.live r.items
    r.stop) c.self.view_is
    (post_closes g.P.Program.children g.B.Bag.items s.key s.table_id ds D N G.0 G.2 some r.live
    r.items r.stop C)

pub returns-clause-records : goal.returns-clause-records
returns-clause-records g c =
    let s = c.self.inside.words.value.shared in
    let ds = c.args.desks.items in
    let D = subst (λ v. AreDesksOf v ds) (sym c.self.view_is) c.requires.desks in
    let G = c.gather_all-all.ensures.places in
    let N = c.gather_all-all.ensures.numbers in
    let some = c.self.invariant.some in
    let r = c.read_all.result in
    let all = many g.P.Program.children g.B.Bag.items s.key s.table_id ds D N G.0 G.2 some in
    let C = subst (λ t. (length G.0 ≡ t.shared.key.lines.value.places
    → Closes (job_of g.P.Program.children g.B.Bag.items t.shared.key) G.0 r.live r.items
    r.stop)) c.deref-table.ensures
    (c.read_all.ensures.closes G.0 G.1) all in
    subst (λ v. AreNumbered v.lines v.params (map (λ d. d.kept) ds)) c.self.view_is
    (post_numbered g.P.Program.children g.B.Bag.items s.key s.table_id ds D N G.0 G.2 some r.live
    r.items r.stop C)
