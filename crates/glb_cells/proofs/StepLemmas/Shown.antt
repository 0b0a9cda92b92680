-- The world that a table shows, where one view and one cell are replaced.
use Rattle.std.proofs.Common.{◌≡◌, ◌≢◌, ℕ, List, map, set, get_or, refl, sym, ap, ◌∙◌, subst, get_or-set_other}
use mathlib.Core.Option.{some}
use lib.ListN.{get_elem?}
use Rattle.atomic_table.proofs.Lists.{at_map}
use Rattle.glb_rules.specs.World.{World, WorldEdge, state_of}
use Rattle.glb_rules.specs.Events.{actor, edge_of as edge_named, IsInRange}
use Rattle.glb_rules.specs.Effects.{touched, after, place_after, edge_after, live_after, stop_after}
use Rattle.glb_rules.specs.Steps.{Becomes, Step, IsAble, Choice}
use Rattle.glb_cells.specs.EdgeNames.{at_name, NamesOnce}
use Rattle.glb_cells.proofs.StepLemmas.EdgeFacts.{named, named_else}
use Rattle.glb_rules.specs.declared.event.Event.{Event}
use Rattle.glb_rules.specs.declared.local.EdgeName.{EdgeName}
use Rattle.glb_cells.specs.declared.view.View.{View}
use Rattle.glb_cells.specs.Words.{Cell, edge_of}
use Rattle.glb_cells.specs.Shows.{part_of, Fixed, nobody, shown}
use Rattle.glb_cells.proofs.StepLemmas.ListFacts.{set_at, map_set, map_same, member}
use Rattle.std.proofs.Common.{◌+◌, ◌≤◌, ⊎_elim}
use Rattle.atomic_table.proofs.Lists.{at_set}
use Rattle.glb_cells.specs.Shows.{total, items_of, above, Told, Numbers}
use Rattle.glb_cells.proofs.StepLemmas.ListFacts.{total_same}

module _ {B Q I : Type 0} (Γ : Fixed B Q I) where
  -- the world that is shown, at a place and at an edge
  pub shown_place : (live stop : ℕ) (cells : List (Cell B)) (recs : List (View Q I)) (p : ℕ)
      (r : View Q I) → get_elem? recs p ≡ some r
      → (shown Γ live stop cells recs).place p ≡ part_of r
  shown_place live stop cells recs p r at = member (map part_of recs) p (part_of r)
      (nobody Γ.lines.tries) (at_map part_of recs p r at)

  pub shown_edge : NamesOnce Γ.names → (live stop : ℕ) (cells : List (Cell B))
      (recs : List (View Q I)) (e : ℕ) (n : EdgeName) (c : Cell B) → get_elem? Γ.names e ≡ some n
      → get_elem? cells e ≡ some c
      → (shown Γ live stop cells recs).edge n.kind n.thief n.victim ≡ edge_of Γ.items c
  shown_edge one live stop cells recs e n c a b =
      named Γ.names (map (edge_of Γ.items) cells) e n (edge_of Γ.items c) one a
      (at_map (edge_of Γ.items) cells e c b)

  -- one view set, and one cell or none: the world becomes the one with that part replaced
  module _ (live stop live2 stop2 : ℕ) (cells : List (Cell B)) (recs : List (View Q I)) (p : ℕ)
      (r r' : View Q I) (at : get_elem? recs p ≡ some r) where
    places_else : (q : ℕ) → q ≢ p → (shown Γ live2 stop2 cells (set recs p r')).place q ≡
        (shown Γ live stop cells recs).place q
    places_else q d =
        ap (λ l. get_or l q (nobody Γ.lines.tries)) (map_set part_of recs p r')
        ∙ get_or-set_other (map part_of recs) p q (part_of r') (nobody Γ.lines.tries) d

    shown_becomes : NamesOnce Γ.names → (e : ℕ) (n : EdgeName) (c c' : Cell B)
        → get_elem? Γ.names e ≡ some n → get_elem? cells e ≡ some c
        → Becomes (shown Γ live stop cells recs)
        (shown Γ live2 stop2 (set cells e c') (set recs p r')) p n
        (record { place = part_of r'; edge = edge_of Γ.items c'; live = live2; stop = stop2 })
    shown_becomes one e n c c' name was = record {
      place = shown_place live2 stop2 (set cells e c') (set recs p r') p r' (set_at recs p r r' at);
      edge = shown_edge one live2 stop2 (set cells e c') (set recs p r') e n c' name
          (set_at cells e c c' was);
      live = refl;
      stop = refl;
      other_places = places_else;
      other_edges = λ k t v d. ap (λ l. at_name Γ.names l k t v)
          (map_set (edge_of Γ.items) cells e c')
          ∙ named_else Γ.names (map (edge_of Γ.items) cells) e n (edge_of Γ.items c') k t v name d;
    }

    shown_becomes_alone : (n : EdgeName)
        → Becomes (shown Γ live stop cells recs) (shown Γ live2 stop2 cells (set recs p r')) p n
        (record {
          place = part_of r';
          edge =
              (shown Γ live stop cells recs).edge n.kind n.thief n.victim;
          live = live2;
          stop =
              stop2;
        })
    shown_becomes_alone n = record {
      place = shown_place live2 stop2 cells (set recs p r') p r' (set_at recs p r r' at);
      edge = refl;
      live = refl;
      stop = refl;
      other_places = places_else;
      other_edges = λ k t v d. refl;
    }

  -- a view that moves by its event's row, beside a cell that moves by it, is the event's step
  pub steps_to : NamesOnce Γ.names → (ev : Event) (live stop : ℕ) (cells : List (Cell B))
      (recs : List (View Q I)) (r r' : View Q I) (e : ℕ) (c c' : Cell B)
      → get_elem? recs (actor ev) ≡ some r → get_elem? Γ.names e ≡ some (edge_named ev)
      → get_elem? cells e ≡ some c
      → IsInRange Γ.lines ev → IsAble Γ.lines (shown Γ live stop cells recs) (part_of r) ev
      → (taken rest : List I) → Choice (Γ.children Γ.program) Γ.lines ev taken rest
      (record { place = part_of r; edge = edge_of Γ.items c; live = live; stop = stop })
      → part_of r' ≡ place_after Γ.lines.tries ev taken rest (state_of (edge_of Γ.items c))
      (part_of r) → edge_of Γ.items c' ≡ edge_after ev taken (edge_of Γ.items c)
      → Step (Γ.children Γ.program) Γ.lines (shown Γ live stop cells recs) ev
      (shown Γ (live_after ev live) (stop_after ev stop) (set cells e c')
      (set recs (actor ev) r'))
  steps_to one ev live stop cells recs r r' e c c' at name was within able taken rest choice moved
      turned = record {
        in_range = within;
        enabled = subst (λ a. IsAble Γ.lines w a ev) (sym here) able;
        taken = taken;
        rest = rest;
        choice = subst (λ x. Choice (Γ.children Γ.program) Γ.lines ev taken rest x) (sym is) choice;
        becomes = subst (λ x. Becomes w (shown Γ (live_after ev live) (stop_after ev stop)
            (set cells e c') (set recs (actor ev) r')) (actor ev) (edge_named ev) x)
            (same ∙ ap (after Γ.lines ev taken rest) (sym is))
            (shown_becomes live stop (live_after ev live) (stop_after ev stop) cells recs (actor ev) r
            r' at one e (edge_named ev) c c' name was);
      }
    where
      w : World I
      w = shown Γ live stop cells recs

      here : (shown Γ live stop cells recs).place (actor ev) ≡ part_of r
      here = shown_place live stop cells recs (actor ev) r at

      is : touched (shown Γ live stop cells recs) ev ≡ record
          { place = part_of r; edge = edge_of Γ.items c; live = live; stop = stop }
      is = λ i. record {
        place = shown_place live stop cells recs (actor ev) r at i;
        edge =
            shown_edge one live stop cells recs e (edge_named ev) c name was i;
        live = live;
        stop =
            stop;
      }

      same : record {
        place = part_of r';
        edge = edge_of Γ.items c';
        live =
            live_after ev live;
        stop = stop_after ev stop;
      }
          ≡ after Γ.lines ev taken rest (record
          { place = part_of r; edge = edge_of Γ.items c; live = live; stop = stop })
      same = λ i. record {
        place = moved i;
        edge = turned i;
        live = live_after ev live;
        stop =
            stop_after ev stop;
      }

  -- the same for an event that leaves all edges
  pub steps_alone : (ev : Event) (live stop : ℕ) (cells : List (Cell B)) (recs : List (View Q I))
      (r r' : View Q I)
      → get_elem? recs (actor ev) ≡ some r
      → IsInRange Γ.lines ev → IsAble Γ.lines (shown Γ live stop cells recs) (part_of r) ev
      → (taken rest : List I) → ((x : WorldEdge I)
      → Choice (Γ.children Γ.program) Γ.lines ev taken rest
      (record { place = part_of r; edge = x; live = live; stop = stop }))
      → ((x : WorldEdge I) → part_of r' ≡ place_after Γ.lines.tries ev taken rest (state_of x)
      (part_of r)) → ((x : WorldEdge I) → x ≡ edge_after ev taken x)
      → Step (Γ.children Γ.program) Γ.lines (shown Γ live stop cells recs) ev
      (shown Γ (live_after ev live) (stop_after ev stop) cells (set recs (actor ev) r'))
  steps_alone ev live stop cells recs r r' at within able taken rest choice moved turned = record {
    in_range = within;
    enabled = subst (λ a. IsAble Γ.lines w a ev) (sym here) able;
    taken = taken;
    rest = rest;
    choice = subst (λ x. Choice (Γ.children Γ.program) Γ.lines ev taken rest x) (sym is)
        (choice edge);
    becomes = subst (λ x. Becomes w (shown Γ (live_after ev live) (stop_after ev stop) cells
        (set recs (actor ev) r')) (actor ev) (edge_named ev) x)
        (same ∙ ap (after Γ.lines ev taken rest) (sym is))
        (shown_becomes_alone live stop (live_after ev live) (stop_after ev stop) cells recs
        (actor ev) r r' at (edge_named ev));
  }
    where
      w : World I
      w = shown Γ live stop cells recs

      edge : WorldEdge I
      edge = (shown Γ live stop cells recs).edge (edge_named ev).kind (edge_named ev).thief
          (edge_named ev).victim

      here : (shown Γ live stop cells recs).place (actor ev) ≡ part_of r
      here = shown_place live stop cells recs (actor ev) r at

      is : touched (shown Γ live stop cells recs) ev ≡ record {
        place = part_of r;
        edge = (shown Γ live stop cells recs).edge (edge_named ev).kind
            (edge_named ev).thief (edge_named ev).victim;
        live = live;
        stop = stop;
      }
      is = λ i. record {
        place = shown_place live stop cells recs (actor ev) r at i;
        edge =
            (shown Γ live stop cells recs).edge (edge_named ev).kind (edge_named ev).thief
            (edge_named ev).victim;
        live = live;
        stop = stop;
      }

      same : record {
        place = part_of r';
        edge =
            (shown Γ live stop cells recs).edge (edge_named ev).kind (edge_named ev).thief
            (edge_named ev).victim;
        live = live_after ev live;
        stop = stop_after ev stop;
      }
          ≡ after Γ.lines ev taken rest (record {
            place = part_of r;
            edge = (shown Γ live stop cells recs).edge (edge_named ev).kind
                (edge_named ev).thief (edge_named ev).victim;
            live = live;
            stop = stop;
          })
      same = λ i. record {
        place = moved ((shown Γ live stop cells recs).edge (edge_named ev).kind
            (edge_named ev).thief (edge_named ev).victim) i;
        edge = turned ((shown Γ live stop cells recs).edge (edge_named ev).kind
            (edge_named ev).thief (edge_named ev).victim) i;
        live = live_after ev live;
        stop = stop_after ev stop;
      }

  -- a step that moves nothing of the world
  pub shown_same : (live stop : ℕ) (cells : List (Cell B)) (recs : List (View Q I)) (p : ℕ)
      (r r' : View Q I) (e : ℕ) (c c' : Cell B) → get_elem? recs p ≡ some r
      → get_elem? cells e ≡ some c
      → part_of r' ≡ part_of r → edge_of Γ.items c' ≡ edge_of Γ.items c
      → shown Γ live stop cells recs ≡ shown Γ live stop (set cells e c') (set recs p r')
  shown_same live stop cells recs p r r' e c c' at was moved turned = λ i. record {
    place = λ q. get_or (sym (map_same part_of recs p r r' at moved) i) q (nobody Γ.lines.tries);
    edge = at_name Γ.names (sym (map_same (edge_of Γ.items) cells e c c' was turned) i);
    live = live;
    stop = stop;
  }

  pub shown_alone : (live stop : ℕ) (cells : List (Cell B)) (recs : List (View Q I)) (p : ℕ)
      (r r' : View Q I) → get_elem? recs p ≡ some r
      → part_of r' ≡ part_of r → shown Γ live stop cells recs ≡ shown Γ live stop cells
      (set recs p r')
  shown_alone live stop cells recs p r r' at moved = λ i. record {
    place = λ q. get_or (sym (map_same part_of recs p r r' at moved) i) q (nobody Γ.lines.tries);
    edge = at_name Γ.names (map (edge_of Γ.items) cells);
    live = live;
    stop = stop;
  }

  -- what a step of an edge leaves as it was in its seat's record
  pub record Steady (r r' : View Q I) : Type 0 where
    pub place : r'.own.place ≡ r.own.place
    pub told : Told Γ r → Told Γ r'
    pub items : items_of r' ≡ items_of r
    pub last : r'.own.last ≡ r.own.last
    pub over : r'.own.over ≡ r.own.over
    pub code : r'.own.code ≡ r.own.code
    pub steps : r'.steps ≡ r.steps + 1

  pub same_numbers : (stop : ℕ) (recs : List (View Q I)) (p : ℕ) (r r' : View Q I)
      → get_elem? recs p ≡ some r → items_of r' ≡ items_of r → r'.own.last ≡ r.own.last
      → Numbers Γ stop recs → Numbers Γ stop (set recs p r')
  same_numbers stop recs p r r' at items last n =
      let i : total items_of (set recs p r') ≡ total items_of recs =
      total_same items_of recs p r r' at items in
      let o : total (above Γ.limit) (set recs p r') ≡ total (above Γ.limit) recs =
      total_same (above Γ.limit) recs p r r' at
      (ap (λ (k : ℕ). above Γ.limit (record r { own = record r.own { last = k } })) last) in
      record {
        small = rw (i, o) n.small;
        cause = λ e. rw i (n.cause e);
        codes = n.codes;
        seen_last = λ q u e. rw i (⊎_elim
            (λ (t : (q ≡ p) × (r' ≡ u)). let z : r'.own.last ≤ total items_of recs =
            rw last (n.seen_last p r at) in
            subst (λ (x : View Q I). x.own.last ≤ total items_of recs) t.1 z)
            (λ (t : (q ≢ p) × (get_elem? recs q ≡ some u)). n.seen_last q u t.1)
            (at_set recs p q r' u e));
      }
