-- What the events that move or expand items do to the rows of their place and of their edge.
use Rattle.std.specs.Prelude.{◌≡◌, ℕ, ◌+◌, ◌-◌, ◌^◌, ◌<◌, List, ◌++◌, length, min, replicate}
use Rattle.std.specs.Prelude.{get_or, IsPermutation}
use Rattle.std.specs.Vec.{with_item}
use Rattle.glb_stats.specs.declared.counters.Counters.{Counters}
use Rattle.glb_rules.specs.Effects.{credit_after_take, wake_count, phase_after_batch, tries_after}
use Rattle.glb_rules.specs.declared.kinds.Kind.{Kind}
use Rattle.glb_rules.specs.declared.kinds.Kind.TheVariants as kind
use Rattle.glb_rules.specs.declared.kinds.Phase.TheVariants as phase
use Rattle.glb_rules.specs.declared.kinds.Credit.TheVariants as credit
use Rattle.glb_rules.specs.declared.kinds.Mark.TheVariants as mark
use Rattle.glb_core.specs.declared.world.rows.PlaceRow.{PlaceRow}
use Rattle.glb_core.specs.declared.world.rows.EdgeRow.{EdgeRow}
use Rattle.glb_core.specs.declared.world.rows.EdgeRow.TheVariants as edge_row
use Rattle.glb_core.specs.Tables.{edge_in}
use Rattle.glb_core.specs.inner.Effects.{capped, capped_wide}

abbrev pub count_given : Kind → ℕ → Counters → Counters
count_given kind.Steal units c =
    record c { given = capped (c.given + 1); sent_units = capped_wide (c.sent_units + units) }
count_given kind.Line units c =
    record c {
      line_given = capped (c.line_given + 1);
      sent_units = capped_wide
          (c.sent_units + units);
    }

abbrev pub count_got : Kind → ℕ → ℕ → Counters → Counters
count_got kind.Steal units woken c =
    record c {
      got = capped (c.got + 1);
      got_units = capped_wide (c.got_units + units);
      wakes =
          capped (c.wakes + woken);
    }
count_got kind.Line units woken c =
    record c {
      line_got = capped (c.line_got + 1);
      got_units = capped_wide (c.got_units + units);
      wakes =
          capped (c.wakes + woken);
    }

-- the units of a bag
abbrev pub units_in : {B I : Type 0} → (B → List I) → B → ℕ
units_in items b = min (length (items b)) (2 ^ 64 - 1)

-- a part of the bag in the row of a place goes into the row of an edge, whose mark is at this index
pub record GivesPart {B I : Type 0} (items : B → List I) (k : Kind) (at : ℕ) (old new : PlaceRow B)
    (z : EdgeRow B) : Type 0 where
  pub part : B
  pub edge_row_is : z ≡ edge_row.Loot part
  pub some : 0 < length (items part)
  pub left : 0 < length (items new.bag)
  pub same : IsPermutation (items old.bag) (items part ++ items new.bag)
  pub place_row :
      new
      ≡ record old {
        credit = credit.One;
        bag = new.bag;
        marks = with_item old.marks at mark.Clear;
        counters = count_given k (units_in items part) old.counters;
      }

-- the part in the row of an edge goes into the bag in the row of a place
pub record TakesPart {B I : Type 0} (items : B → List I) (k : Kind) (old new : PlaceRow B)
    (z : EdgeRow B) : Type 0 where
  pub part : B
  pub edge_row_is : z ≡ edge_row.Loot part
  pub merged : IsPermutation (items old.bag ++ items part) (items new.bag)
  pub place_row :
      new
      ≡ record old {
        phase = phase.Working;
        credit = credit_after_take old.credit;
        bag = new.bag;
        counters = count_got k (units_in items part) (wake_count old.phase) old.counters;
      }

-- the row of a place after a batch of so many expansions
pub record AfterBatch {B I : Type 0} (items : B → List I) (most count : ℕ)
    (old new : PlaceRow B) : Type 0 where
  pub marks : new.marks.items ≡ replicate (length old.marks.items) mark.Unseen
  pub place_row :
      new
      ≡ record old {
        phase = phase_after_batch (items new.bag);
        tries = tries_after most old.tries (items new.bag);
        bag = new.bag;
        marks = new.marks;
        counters = record (old.counters) { items = capped (old.counters.items + count) };
      }

-- the rows show the same edge
abbrev pub SameEdge : {B I : Type 0} → (B → List I) → EdgeRow B → EdgeRow B → Type 0
SameEdge items old new = edge_in items new ≡ edge_in items old
