-- What a berth says of itself, and what is left of it when a look is noted.
use Rattle.std.proofs.Common.{◌≡◌, ◌≢◌, ℕ, Bool, true, false, not, ◌==◌, List, refl, sym, ap, ◌∙◌, subst, true≢false}
use Rattle.atomic_table.specs.Seated.{TableId}
use Rattle.glb_stats.specs.declared.counters.Counters.{Counters}
use Rattle.glb_rules.specs.World.{has_edge}
use Rattle.glb_rules.proofs.EdgeLemmas.Marks.{eq_self}
use Rattle.glb_rules.specs.declared.place_state.PlaceState.{PlaceState}
use Rattle.glb_rules.specs.declared.kinds.Kind.{Kind}
use Rattle.glb_rules.specs.declared.kinds.Kind.TheVariants as kind
use Rattle.glb_rules.specs.declared.kinds.Side.{Side}
use Rattle.glb_rules.specs.declared.kinds.Side.TheVariants as side
use Rattle.glb_place.specs.Records.{setup_in}
use Rattle.glb_place.specs.Calls.{IsOwn}
use Rattle.glb_place.specs.Looks.{SameLooks}
use Rattle.glb_place.specs.declared.record.Record.{Record}
use Rattle.glb_cells.specs.Looking.{LookTable, looks_of}
use Rattle.glb_cells.specs.Plays.{Seated}
use Rattle.glb_cells.specs.Berths.{BerthView}
use Rattle.glb_cells.specs.inner.Keeping.{IsKept, berth_view, kept_in, HasRoom}

module _ {B Q I : Type 0} (me : Seated B Q I) (a : PlaceState) (c : Counters) (held : List Bool)
    (looks : LookTable) (sid : TableId)
    (old : BerthView Q I) (old_is : berth_view sid me.0 a c looks ≡ old)
    (o : IsKept me a c held looks) where
  pub own_is : o.view.own ≡ old.kept
  own_is = sym (ap (λ (m : Seated B Q I). kept_in m.0) o.me_is) ∙ ap (λ b. b.kept) old_is

  pub looks_are : looks ≡ old.looks
  looks_are = ap (λ b. b.looks) old_is

  -- what is kept with another table of looks
  pub with_looks : (looks' : LookTable) → HasRoom o.view.own.lines.places looks'
      → IsKept me a c held looks'
  with_looks looks' room = record {
    view = o.view;
    me_is = o.me_is;
    beside = record {
      state = o.beside.state;
      counters = o.beside.counters;
      listed = o.beside.listed;
      no_loop = o.beside.no_loop;
      held_long = o.beside.held_long;
      holds = o.beside.holds;
      room = room;
    };
  }

-- no edge leads from a place to itself
module _ {I : Type 0} (r : Record I) (no_loop : has_edge (setup_in r) kind.Line r.place r.place ≡
    false) where
  no_edge : (k : Kind) → has_edge (setup_in r) k r.place r.place ≡ true → ⊥
  no_edge kind.Steal h = let e : not (r.place == r.place) ≡ false = rw (eq_self r.place) refl in
      true≢false (sym h ∙ e)
  no_edge kind.Line h = true≢false (sym h ∙ no_loop)

  pub own_apart : (other : ℕ) (k : Kind) (s : Side) → IsOwn r other k s → other ≢ r.place
  own_apart other k side.Inward own e = no_edge k
      (subst (λ p. has_edge (setup_in r) k p r.place ≡ true) e own.1)
  own_apart other k side.Outward own e = no_edge k
      (subst (λ p. has_edge (setup_in r) k r.place p ≡ true) e own.1)

-- nothing was looked at
pub same_looks : {Q I : Type 0} (old new : BerthView Q I) → new.kept.place ≡ old.kept.place
    → new.looks ≡ old.looks
    → SameLooks (looks_of old.kept.place old.looks) (looks_of new.kept.place new.looks)
same_looks old new place looks = record {
  edge = λ n. λ i. (looks_of (place i) (looks i)).edge n;
  live = ap (λ (t : LookTable). t.live) looks;
  stop = ap (λ (t : LookTable). t.stop) looks;
}
