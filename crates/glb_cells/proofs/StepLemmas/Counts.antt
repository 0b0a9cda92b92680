-- What a step on live, items or stop can use.
use Rattle.std.proofs.Common.{◌≡◌, ℕ, ◌+◌, ◌-◌, ◌*◌, ◌%◌, ◌<◌, ◌≤◌, List, [], ◌∷◌, set, length, true, refl, ap, ◌∙◌, subst, arith}
use Rattle.std.specs.Prelude.{slice_index}
use Rattle.std.proofs.lemmas.Bool.Decides.{nat_tests}
use Rattle.std.proofs.lemmas.Nat.{mod-mul-add}
use mathlib.Core.Option.{some}
use lib.ListN.{get_elem?}
use Rattle.glb_rules.specs.World.{credit_count}
use Rattle.glb_rules.specs.Lawful.{IsLawful}
use Rattle.glb_rules.proofs.Finish.Histories.{past_lawful}
use Rattle.glb_rules.proofs.Invariant.PlaceEvents.{worth_le}
use Rattle.glb_rules.specs.declared.local.Local.{Local}
use Rattle.glb_rules.specs.declared.local.EdgeName.{EdgeName}
use Rattle.glb_cells.specs.declared.view.View.{View}
use Rattle.glb_cells.specs.Words.{Cell}
use Rattle.glb_cells.specs.Shows.{part_of, Fixed, total, items_of, above, Apt, AptAt, Told, Holds, Shows, Table, world_of}
use Rattle.glb_cells.proofs.StepLemmas.ListFacts.{total_same, below}
use Rattle.glb_cells.proofs.StepLemmas.Keeps.{Count}
use Rattle.glb_cells.proofs.StepLemmas.Shown.{same_numbers}
use Rattle.glb_cells.proofs.StepLemmas.Shown.{shown_place}

pub less_one : (n live : ℕ) → n ≡ live → 1 ≤ live → n < 18446744073709551616
    → (n + 18446744073709551615) % 18446744073709551616 ≡ live - 1
less_one n live is one lt =
    let m : n + 18446744073709551615 ≡ 1 * 18446744073709551616 + (n - 1) = omega arith in
    ap (λ (x : ℕ). x % 18446744073709551616) m
    ∙ mod-mul-add 1 18446744073709551616 (n - 1) (omega arith) ∙ ap (λ (x : ℕ). x - 1) is

pub above_none : {Q I : Type 0} (limit : ℕ) (r : View Q I) → r.own.last ≤ limit → above limit r ≡ 0
above_none limit r h = grind (arith, nat_tests)

pub above_one : {Q I : Type 0} (limit : ℕ) (r : View Q I) → limit < r.own.last → above limit r ≡ 1
above_one limit r h = grind (arith, nat_tests)

pub above_most : {Q I : Type 0} (limit : ℕ) (recs : List (View Q I))
    → total (above limit) recs ≤ length recs
above_most limit [] = omega arith
above_most limit (r ∷ recs) = let q : total (above limit) recs ≤ length recs =
    above_most limit recs in let m : above limit r ≤ 1 = grind (arith, nat_tests) in omega arith

module _ {B Q I : Type 0} (Γ : Fixed B Q I) (s : Table Γ) (h : Shows Γ s) (id : ℕ) (r : View Q I)
    (at : get_elem? s.views id ≡ some (r ∷ [])) where
  pub here : get_elem? h.recs r.own.place ≡ some r
  here = h.seats id (r ∷ []) 0 r at refl

  abbrev pub word_set : ℕ → ℕ → View Q I → Table Γ
  word_set i k r' = record {
    words = set s.words i k;
    homes = s.homes;
    views =
        set s.views id (r' ∷ []);
  }

  pub apt : Apt Γ h.live h.stop h.cells r.own.place r
  apt = h.apt r.own.place r here

  pub lawful : IsLawful Γ.lines (world_of Γ s h)
  lawful = past_lawful (Γ.children Γ.program) Γ.lines Γ.bags (world_of Γ s h) h.grounded.proper
      h.grounded.awake h.history

  pub within : r.own.place < Γ.lines.places
  within = let b = below h.recs r.own.place r here in let q = h.many in omega arith

  pub live_word : slice_index s.words 0 ≡ h.live
  live_word = ap (λ (ws : List ℕ). slice_index ws 0) h.words

  pub shown_part : (world_of Γ s h).place r.own.place ≡ part_of r
  shown_part = shown_place Γ h.live h.stop h.cells h.recs r.own.place r here

  -- a place's credit counts
  pub credited : credit_count r.own.local.credit ≤ h.live
  credited = subst (λ (x : Local I). credit_count x.credit ≤ h.live) shown_part
      (worth_le lawful r.own.place within)

  -- a view that differs in nothing that the words say
  pub same_count : (r' : View Q I) → r'.own.place ≡ r.own.place → (Told Γ r → Told Γ r')
      → items_of r' ≡ items_of r → r'.own.last ≡ r.own.last
      → r'.steps ≡ r.steps + 1 → (live : ℕ) → (h.live ≡ 0 → live ≡ 0)
      → (r'.own.over ≡ true → live ≡ 0) → r'.own.code ≤ h.stop
      → ((j : ℕ) (m : EdgeName) (d : Cell B) → AptAt Γ r.own.place r j m d
      → AptAt Γ r.own.place r' j m d) → (Holds Γ r → Holds Γ r')
      → Count Γ s h r r' live h.stop
  same_count r' place told items last steps live none over code edges holds = record {
    place = place;
    told = told;
    steps = steps;
    others = λ u x. record { over = λ o. none (x.over o); code = x.code };
    mine = λ x. record { over = over; code = code };
    edges = edges;
    holds = holds;
    numbers = same_numbers Γ h.stop h.recs r.own.place r r' here items last h.numbers;
  }

  pub sum_same : (r' : View Q I) → items_of r' ≡ items_of r
      → total items_of (set h.recs r.own.place r') ≡ total items_of h.recs
  sum_same r' e = total_same items_of h.recs r.own.place r r' here e
