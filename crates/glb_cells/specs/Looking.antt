-- How often a place looked, as lists of numbers.
use Rattle.std.specs.Prelude.{ℕ, cond, ◌==◌, List, get_or}
use Rattle.glb_rules.specs.declared.kinds.Kind.{Kind}
use Rattle.glb_rules.specs.declared.kinds.Kind.TheVariants as kind
use Rattle.glb_place.specs.Looks.{Looks}

-- for each edge of a place, by its kind, its side and the other place, how often it was looked at;
-- and how often live and stop were
pub record LookTable : Type 0 where
  pub steals_in : List ℕ
  pub lines_in : List ℕ
  pub steals_out : List ℕ
  pub lines_out : List ℕ
  pub live : ℕ
  pub stop : ℕ

abbrev pub looks_inward : LookTable → Kind → ℕ → ℕ
looks_inward c kind.Steal t = get_or c.steals_in t 0
looks_inward c kind.Line t = get_or c.lines_in t 0

abbrev pub looks_outward : LookTable → Kind → ℕ → ℕ
looks_outward c kind.Steal v = get_or c.steals_out v 0
looks_outward c kind.Line v = get_or c.lines_out v 0

-- how often the place p looked
abbrev pub looks_of : ℕ → LookTable → Looks
looks_of p c = record {
  edge = λ n. cond (n.victim == p) (looks_inward c n.kind n.thief)
      (cond (n.thief == p) (looks_outward c n.kind n.victim) 0);
  live = c.live;
  stop = c.stop;
}
