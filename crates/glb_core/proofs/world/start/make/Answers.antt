use Rattle.std.proofs.Common.{arith, refl, sym, subst}
use Rattle.glb_cube.specs.Lines.{IsDimension}
use Rattle.glb_core.proofs.world.start.make.Goals as goal

pub returns-clause-tables : goal.returns-clause-tables
returns-clause-tables g c =
    let q = c.args.params.now in
    let l = c.in_ok-lines.lines in
    let e = c.in_ok-lines.ensures in
    let p = e.places in
    let b = e.base in
    let limits = c.requires.limits in
    record {
      cube = record {
        some = let a = limits.places.0 in omega arith;
        base = let a = limits.base.0 in omega arith;
        dimension = subst (λ n. IsDimension n l.base l.dimension) (sym p)
            (subst (λ m. IsDimension q.places m l.dimension) (sym b) e.dimension);
      };
      places = p;
      base = b;
      params_are = refl;
      place_rows = c.in_ok-place_rows.ensures;
      edge_rows = c.in_ok-edge_rows.ensures;
      live = c.count_awake.ensures;
      stop = refl;
      total = refl;
      value = c.unit.ensures;
    }
