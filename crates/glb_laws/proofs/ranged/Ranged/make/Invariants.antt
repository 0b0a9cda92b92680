use Rattle.std.proofs.Common.{◌≡◌, Some, length, map, slice_get}
use Rattle.std.specs.Prelude.{take}
use Rattle.glb_laws.proofs.ranged.Ranged.make.Given as goal

abbrev pub invariant-loop-i : goal.invariant-loop-i
invariant-loop-i g l =
    (length l.into ≡ length l.asked)
    × (map Some (take l.i l.into) ≡ map (λ a. slice_get (g.Self.Program.children l.self a.0) a.1) (take l.i l.asked))
