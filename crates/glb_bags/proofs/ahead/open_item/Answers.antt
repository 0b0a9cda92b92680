use Rattle.std.proofs.Common.{◌+◌, ◌++◌, ◌∷◌, ◌∙◌, ap, sym, refl, arith, take, drop, append-nil}
use Rattle.glb_bags.specs.inner.Entries.{opened_item}
use Rattle.glb_bags.proofs.OpenedItems.{set_split}
use Rattle.glb_bags.proofs.ahead.open_item.Goals as goal

pub loop-i-init : goal.loop-i-init
loop-i-init g c =
    let old = c.args.made.now.items in
    let place = c.args.place in
    record {
      made = set_split old place (opened_item c.args.item)
          (omega (arith, c.requires.place, c.args.made.now.ok.0))
          ∙ ap (λ l. l ++ opened_item c.args.item ∷ drop (place + 1) old)
          (sym (append-nil (take place old)));
      len = omega arith;
      capacity = refl;
    }
