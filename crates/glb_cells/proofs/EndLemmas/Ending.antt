-- What the end of a table tells.
use Rattle.std.proofs.Common.{◌≡◌, ℕ, zero, suc, ◌+◌, ◌*◌, ◌<◌, ◌≤◌, Bool, true, false, List, [], ◌∷◌, map, length, get_or, Option, refl, sym, ap, ◌∙◌, subst, arith}
use Rattle.std.proofs.Math.Nat.{mul-le-mul}
use Rattle.std.specs.Prelude.{nat_lt, if◌then◌else◌}
use mathlib.Core.Option.{some, some-injective}
use lib.ListN.{get_elem?}
use Rattle.atomic_table.specs.Table.{Final, Seen}
use Rattle.glb_rules.specs.World.{Idle, has_line}
use Rattle.glb_laws.specs.Sums.{sum_to}
use Rattle.glb_rules.proofs.Finish.Histories.{past_lawful}
use Rattle.glb_rules.specs.Events.{name_of}
use Rattle.glb_rules.specs.declared.local.Local.{Local}
use Rattle.glb_rules.specs.declared.kinds.Kind.TheVariants as kind
use Rattle.glb_rules.specs.declared.kinds.Edge.TheVariants as seen
use Rattle.glb_place.specs.Records.{known_at}
use Rattle.glb_cells.specs.declared.view.View.{View}
use Rattle.glb_cells.specs.Words.{Cell, empty, wanted, denied, wanted_gift, denied_gift, full, emptied, cell_state, edge_of, Out}
use Rattle.glb_cells.specs.Shows.{Fixed, Shows, shown, part_of, items_of, above, total, nobody}
use Rattle.glb_cells.specs.inner.Seats.{Ended}
use Rattle.glb_cells.proofs.StepLemmas.Shown.{shown_place, shown_edge}
use Rattle.glb_cells.proofs.StepLemmas.ListFacts.{matched, below}

-- a list's numbers, summed up by index from below
sum_from : {A : Type 0} (g : A → ℕ) (d : A) (xs : List A)
    → sum_to (length xs) (λ p. g (get_or xs p d)) ≡ total g xs
sum_from g d [] = refl
sum_from g d (x ∷ xs) = shift (λ p. g (get_or (x ∷ xs) p d)) (length xs)
    ∙ (let e = sum_from g d xs in omega arith)
  where
    shift : (f : ℕ → ℕ) (n : ℕ) → sum_to (suc n) f ≡ f 0 + sum_to n (λ p. f (suc p))
    shift f zero = omega arith
    shift f (suc n) = let e = shift f n in omega arith

total_map : {A C : Type 0} (f : C → ℕ) (g : A → C) (l : List A)
    → total (λ a. f (g a)) l ≡ total f (map g l)
total_map f g [] = refl
total_map f g (x ∷ l) = ap (λ n. f (g x) + n) (total_map f g l)

long_map : {A C : Type 0} (f : A → C) (l : List A) → length (map f l) ≡ length l
long_map f [] = refl
long_map f (x ∷ l) = ap suc (long_map f l)

-- at most one for each place
above_few : {Q I : Type 0} (limit : ℕ) (rs : List (View Q I)) → total (above limit) rs ≤ length rs
above_few limit [] = omega arith
above_few limit (r ∷ rs) = let a = one (nat_lt limit r.own.last) in let b = above_few limit rs in
    omega arith
  where
    one : (b : Bool) → (if b then 1 else 0) ≤ 1
    one true = omega arith
    one false = omega arith

-- an edge that its thief knows as Idle is Idle
idle_edge : {B I : Type 0} (items : B → List I) (c : Cell B) → cell_state c ≡ seen.Idle
    → edge_of items c ≡ Idle
idle_edge items empty e = refl
idle_edge items wanted e = absurd (cc)
idle_edge items denied e = absurd (cc)
idle_edge items wanted_gift e = absurd (cc)
idle_edge items denied_gift e = absurd (cc)
idle_edge items (full b) e = absurd (cc)
idle_edge items emptied e = refl

module _ {B Q I : Type 0} (Γ : Fixed B Q I) where
  idle_line : (t : _) (h : Shows Γ t) (p : ℕ) (r : View Q I) → get_elem? h.recs p ≡ some r → (v : ℕ)
      → v < Γ.lines.places
      → known_at r.own.known kind.Line p v ≡ seen.Idle
      → (shown Γ h.live h.stop h.cells h.recs).edge kind.Line p v ≡ Idle
  idle_line t h p r at v l known = by (has_line Γ.lines p v) refl
    where
      near : p < Γ.lines.places
      near = let b = below h.recs p r at in let m = h.many in omega arith

      by : (b : Bool) → has_line Γ.lines p v ≡ b
          → (shown Γ h.live h.stop h.cells h.recs).edge kind.Line p v ≡ Idle
      by true there =
          let i = h.grounded.named.all kind.Line p v near l there in
          let m = matched Γ.names h.cells i.0 (name_of kind.Line p v) (sym h.wide) i.1 in
          let a = (h.apt p r at).each i.0 (name_of kind.Line p v) m.0 i.1 m.1 in
          let o : Out kind.Line seen.Idle (cell_state m.0) =
          subst (λ z. Out kind.Line z (cell_state m.0)) known (a.out refl) in
          shown_edge Γ h.grounded.named.once h.live h.stop h.cells h.recs i.0
          (name_of kind.Line p v) m.0 i.1 m.1 ∙ idle_edge Γ.items m.0 o
      by false none =
          let L = past_lawful (Γ.children Γ.program) Γ.lines Γ.bags
          (shown Γ h.live h.stop h.cells h.recs) h.grounded.proper h.grounded.awake h.history in
          (L.thief kind.Line p v near l).there none

  pub ends : (ws : List ℕ) (xs : List (Option B)) (id live items stop : ℕ) (v : List (View Q I))
      → Final (Seen (Shows Γ) id v) ws xs
      → get_elem? ws 0 ≡ some live → get_elem? ws 1 ≡ some items → get_elem? ws 2 ≡ some stop
      → Ended Γ live items stop v
  ends ws xs id live items stop v f a b c =
      let h = f.1.0 in
      let words = sym f.2 ∙ h.words in
      let live_is : live ≡ h.live = some-injective live h.live (sym a
      ∙ ap (λ l. get_elem? l 0) words) in
      let items_is : items ≡ total items_of h.recs =
      some-injective items (total items_of h.recs) (sym b ∙ ap (λ l. get_elem? l 1) words) in
      let stop_is : stop ≡ h.stop = some-injective stop h.stop (sym c
      ∙ ap (λ l. get_elem? l 2) words) in
      let counted : (Local I → ℕ) = λ x. x.count.items in
      let sums : sum_to (length (map part_of h.recs))
      (λ p. counted (get_or (map part_of h.recs) p (nobody Γ.lines.tries))) ≡ total counted
      (map part_of h.recs) = sum_from counted (nobody Γ.lines.tries) (map part_of h.recs) in
      let long : length (map part_of h.recs) ≡ Γ.lines.places = long_map part_of h.recs
      ∙ h.many in record {
        sound = h.grounded;
        world = shown Γ h.live h.stop h.cells h.recs;
        history = h.history;
        live_is = live_is;
        stop_is = stop_is;
        items_are = items_is ∙ total_map counted part_of h.recs ∙ sym sums
            ∙ ap (λ (n : ℕ). sum_to n (λ p. counted
            (get_or (map part_of h.recs) p (nobody Γ.lines.tries)))) long;
        few_items =
            let s = h.numbers.small in
            let t : total (above Γ.limit) h.recs ≤ 64 = let x = above_few Γ.limit h.recs in let m =
            h.many in let y = h.grounded.few in omega arith in
            let m : Γ.lines.batch * total (above Γ.limit) h.recs ≤ 65536 * 64 =
            mul-le-mul h.grounded.batch t in
            let k = h.grounded.limit in
            omega arith;
        cause = λ one. rw items_is (h.numbers.cause (sym stop_is ∙ one));
        codes = (let z : h.stop ≤ 2 = h.numbers.codes in omega arith);
        locals = λ k r e. shown_place Γ h.live h.stop h.cells h.recs r.own.place r
            (h.seats id v k r f.1.1 e);
        idle_lines = λ k r e u l known. idle_line f.0 h r.own.place r (h.seats id v k r f.1.1 e) u l
            known;
      }
