use Rattle.std.proofs.Common.{◌≡◌, ◌++◌, ◌∷◌, [], drop, length, string_bytes}
use Rattle.std.specs.Prelude.{codes, decimal}
use Rattle.glb_stats.specs.Text.{places_text}
use Rattle.glb_stats.proofs.text.write_all.Given as goal

abbrev pub invariant-loop-counters : goal.invariant-loop-counters
invariant-loop-counters l = record {
  number : l.place ≡ l.counters-index;
  told : string_bytes l.out ++ places_text l.place (drop l.counters-index l.all)
      ≡ string_bytes l.fn.out ++ codes "places " ++ decimal (length l.all) ++ 10 ∷ []
      ++ places_text 0 l.all;
}
