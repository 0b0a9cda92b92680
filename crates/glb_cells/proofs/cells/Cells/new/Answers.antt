use Rattle.std.proofs.Common.{◌≡◌, ◌+◌, ◌-◌, ℕ, [], ◌∷◌, length, map, get_or, arith, sym, ap, ◌∙◌, subst}
use Rattle.glb_cube.specs.Lines.{Cube, IsCube}
use Rattle.glb_rules.specs.Setups.{tries_of, has_items}
use Rattle.glb_cells.specs.declared.key.Start.{Start}
use Rattle.glb_cells.specs.Shows.{Sound}
use Rattle.glb_cells.specs.Starts.{setup_from, names_from}
use Rattle.glb_cells.specs.inner.Numbers.{HasNumbers, edge_words}
use Rattle.glb_cells.specs.inner.Keeping.{cells_view}
use Rattle.glb_cells.proofs.StartLemmas.Rows.{map_of_map}
use Rattle.glb_cells.proofs.BerthLemmas.First.{first_berth}
use Rattle.glb_cells.proofs.StartLemmas.Making.{sound_is, starts_as, count_is, numbers_are, tries_one, tries_more}
use Rattle.glb_cells.proofs.cells.Cells.new.Goals as goal
use Rattle.glb_cells.proofs.cells.Cells.new.Goals.{then-places-eq1, else-places-eq1}

pub vacant-requires : goal.vacant-requires
vacant-requires g c =
    let key : Start g.row.P.Denot g.row.B.Denot =
    record {
      program = c.of.result;
      bags = c.in_ok-snapshots.field-0;
      params =
          c.args.params.now;
      lines = c.of-2.result;
    } in
    let is : c.of-2.result.value ≡ c.args.lines.now = c.of-2.ensures in
    starts_as g.B.Bag.items g.B.Bag.fits g.P.Program.children key
    (subst IsCube (sym is) c.places-places.ensures.graph) c.requires.limits
    (c.requires.places.0 ∙ ap (λ (l : Cube). l.places) (sym is)) c.args.bags.now
    c.in_ok-snapshots.ensures (c.requires.places.1 ∙ ap (λ (l : Cube). l.places) (sym is))
    c.count_awake-live.result c.count_awake-live.ensures c.as_slice.result.now
    (c.as_slice.ensures.value ∙ c.in_ok-words.ensures
    ∙ ap (λ (l : Cube). c.count_awake-live.result ∷ 0 ∷ 0 ∷ edge_words l
    (λ p. has_items (get_or (map g.B.Bag.items c.args.bags.now) p []))) (sym is))
    (c.len-edges.result - 3) (ap (λ (n : ℕ). n - 3) (c.len-edges.ensures
    ∙ sym c.as_slice.ensures.len))

pub deal_all-requires-clause-sound : goal.deal_all-requires-clause-sound
deal_all-requires-clause-sound g c =
    let key : Start g.row.P.Denot g.row.B.Denot =
    record {
      program = c.of.result;
      bags = c.in_ok-snapshots.field-0;
      params =
          c.args.params.now;
      lines = c.of-2.result;
    } in
    let is : c.of-2.result.value ≡ c.args.lines.now = c.of-2.ensures in
    subst (λ (k : Start g.row.P.Denot g.row.B.Denot). Sound
    (setup_from g.B.Bag.items g.B.Bag.fits g.P.Program.children k))
    (sym c.in_ok-table.ensures.5)
    (sound_is g.B.Bag.items g.B.Bag.fits g.P.Program.children key
    (subst IsCube (sym is) c.places-places.ensures.graph) c.requires.limits
    (c.requires.places.0 ∙ ap (λ (l : Cube). l.places) (sym is)) c.args.bags.now
    c.in_ok-snapshots.ensures (c.requires.places.1 ∙ ap (λ (l : Cube). l.places) (sym is)))

pub invariant_of-result : goal.invariant_of-result
invariant_of-result g c =
    let key : Start g.row.P.Denot g.row.B.Denot =
    record {
      program = c.of.result;
      bags = c.in_ok-snapshots.field-0;
      params =
          c.args.params.now;
      lines = c.of-2.result;
    } in
    let is : c.of-2.result.value ≡ c.args.lines.now = c.of-2.ensures in
    let key_is : c.in_ok-table.table.shared.key ≡ key = c.in_ok-table.ensures.5 in
    let at : c.places-places.result ≡ c.args.params.now.places = c.places-places.ensures.places
    ∙ sym c.requires.places.0 in
    record {
      tried = elim c.if-places-eq1.branch [
        | then-places-eq1 w ↦ w.tries-is ∙ sym
            (tries_one c.args.params.now (sym at ∙ w.if-places-eq1.true))
            ∙ ap (λ (k : Start g.row.P.Denot g.row.B.Denot). tries_of k.params) (sym key_is)
        | else-places-eq1 w ↦ w.tries-is ∙ sym
            (tries_more c.args.params.now (λ e. w.if-places-eq1.false (at ∙ e)))
            ∙ ap (λ (k : Start g.row.P.Denot g.row.B.Denot). tries_of k.params) (sym key_is)
      ];
      few = (
        let l = c.requires.limits.places.1 in omega arith,
        let l =
            c.requires.limits.places.0 in omega arith,
      );
      placed = c.places-places.ensures.places ∙ ap (λ (l : Cube). l.places) (sym is)
          ∙ ap (λ (k : Start g.row.P.Denot g.row.B.Denot). k.lines.value.places) (sym key_is);
      sized = c.in_ok-table.ensures.0
          ∙ count_is g.B.Bag.items g.B.Bag.fits g.P.Program.children key
          (subst IsCube (sym is) c.places-places.ensures.graph) c.requires.limits
          (c.requires.places.0 ∙ ap (λ (l : Cube). l.places) (sym is)) c.args.bags.now
          c.in_ok-snapshots.ensures (c.requires.places.1
          ∙ ap (λ (l : Cube). l.places) (sym is))
          c.count_awake-live.result c.as_slice.result.now
          (c.as_slice.ensures.value ∙ c.in_ok-words.ensures
          ∙ ap (λ (l : Cube). c.count_awake-live.result ∷ 0 ∷ 0 ∷ edge_words l
          (λ p. has_items (get_or (map g.B.Bag.items c.args.bags.now) p []))) (sym is))
          ∙ ap (λ (k : Start g.row.P.Denot g.row.B.Denot). 3 + length (names_from k)) (sym key_is);
      numbered = subst (λ (k : Start g.row.P.Denot g.row.B.Denot). HasNumbers k.lines.value
          c.in_ok-line_numbers.line_numbers.items) (sym key_is)
          (subst (λ (l : Cube). HasNumbers l c.in_ok-line_numbers.line_numbers.items) (sym is)
          (numbers_are c.args.lines.now c.places-places.ensures.graph
          c.in_ok-line_numbers.line_numbers.items c.in_ok-line_numbers.ensures));
    }

pub returns-clause-made : goal.returns-clause-made
returns-clause-made g c =
    let key : Start g.row.P.Denot g.row.B.Denot =
    record {
      program = c.of.result;
      bags = c.in_ok-snapshots.field-0;
      params =
          c.args.params.now;
      lines = c.of-2.result;
    } in
    let is : c.of-2.result.value ≡ c.args.lines.now = c.of-2.ensures in
    let id = c.in_ok-table.table.shared.table_id in
    ap (λ (k : Start g.row.P.Denot g.row.B.Denot). cells_view g.B.Bag.items id k)
    c.in_ok-table.ensures.5
    ∙ (λ i. record {
      object = id;
      program = c.of.ensures i;
      params = c.args.params.now;
      lines = is i;
      bags = (map_of_map g.B.Bag.items (λ s. s.value) key.bags.items
          ∙ ap (map g.B.Bag.items) c.in_ok-snapshots.ensures) i;
    })

pub returns-clause-berths : goal.returns-clause-berths
returns-clause-berths g c =
    let key : Start g.row.P.Denot g.row.B.Denot =
    record {
      program = c.of.result;
      bags = c.in_ok-snapshots.field-0;
      params =
          c.args.params.now;
      lines = c.of-2.result;
    } in
    let is : c.of-2.result.value ≡ c.args.lines.now = c.of-2.ensures in
    let has = c.in_ok-table.table.shared.key in
    let sound = subst (λ (k : Start g.row.P.Denot g.row.B.Denot). Sound
    (setup_from g.B.Bag.items g.B.Bag.fits g.P.Program.children k))
    (sym c.in_ok-table.ensures.5)
    (sound_is g.B.Bag.items g.B.Bag.fits g.P.Program.children key
    (subst IsCube (sym is) c.places-places.ensures.graph) c.requires.limits
    (c.requires.places.0 ∙ ap (λ (l : Cube). l.places) (sym is)) c.args.bags.now
    c.in_ok-snapshots.ensures (c.requires.places.1
    ∙ ap (λ (l : Cube). l.places) (sym is))) in
    let wide : has.lines.value.places ≡ c.args.lines.now.places =
    ap (λ (k : Start g.row.P.Denot g.row.B.Denot). k.lines.value.places) c.in_ok-table.ensures.5
    ∙ ap (λ (l : Cube). l.places) is in
    λ p d l. first_berth g.B.Bag.items g.B.Bag.fits g.P.Program.children has sound
    c.in_ok-table.table.shared.table_id p _
    (let m = c.in_ok-berths.ensures.many in let n = c.requires.places.1 in
    omega (arith, l, m, n, wide)) (c.in_ok-berths.ensures.first p d l)
