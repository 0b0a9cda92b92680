use Rattle.std.proofs.Common.{◌≡◌, ◌++◌, ◌∷◌, [], drop, length, string_bytes}
use Rattle.std.specs.Prelude.{codes, decimal}
use Rattle.glb_stats.specs.Text.{rooted_places_text}
use Rattle.glb_stats.proofs.text.write_all_rooted.Given as goal

abbrev pub invariant-loop-place : goal.invariant-loop-place
invariant-loop-place l =
    string_bytes l.out ++ rooted_places_text l.place (drop l.place l.all) (drop l.place l.roots)
    ≡ string_bytes l.fn.out ++ codes "places " ++ decimal (length l.all) ++ 10 ∷ []
    ++ rooted_places_text 0 l.all l.roots
