use Rattle.std.proofs.Common.{◌∙◌, arith, refl}
use Rattle.glb_knap.proofs.Adding.{heavy_cap, decided_cap, room_cap}
use Rattle.glb_knap.proofs.knap.KnapSearch.cap.Goals as goal
use Rattle.glb_knap.proofs.knap.KnapSearch.cap.Goals.{then-pack-self-via-then-pack-self}
use Rattle.glb_knap.proofs.knap.KnapSearch.cap.Goals.{then-pack-self-via-else-pack-self+then-next-len}

pub returns-then-pack-self : goal.returns-then-pack-self
returns-then-pack-self c =
    let i = c.self.invariant in
    let range = c.worth-value.type_inv in let same = c.worth-value.ensures in
    c.worth-value.ensures ∙ elim c.then-pack-self.branch [
      | then-pack-self-via-then-pack-self w ↦
          heavy_cap _ _ _ _ c.args.pack.now _ c.self.view_is refl i.0 i.1 w.if-pack-self.true
          (omega arith)
      | then-pack-self-via-else-pack-self+then-next-len w ↦
          let test = w.if-next-len.true in let len = w.len.ensures in
          let ok = c.self.inside.ranked.ok.0 in
          decided_cap _ _ _ _ c.args.pack.now _ c.self.view_is refl i.0 i.1 w.if-pack-self.false
          (omega arith) (omega arith)
    ]

pub returns : goal.returns
returns c =
    let i = c.self.invariant in
    room_cap _ _ _ _ c.args.pack.now _ c.self.view_is refl i.0 i.1 _ _ c.if-pack-self.false
    c.deref.ensures.value
    (c.add_most.ensures ∙ omega (arith, c.worth-value.ensures))
