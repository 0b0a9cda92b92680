-- What keeps the rule of some members keeps the rule of the table.
use Rattle.std.proofs.Common.{◌≡◌, ℕ, List, [], ◌∷◌, ◌++◌, refl, sym, subst, ◌∙◌, append_assoc}
use Rattle.std.specs.Prelude.{slice_index, slice_set}
use Rattle.std.proofs.lemmas.List.Sorted.{IsPermutation-sym}
use Rattle.atomic_table.specs.Table.{Me, keeps, Allows, Splits, Joins}
use Rattle.atomic_table.proofs.Lists.{set_else}
use Rattle.glb_inbox.specs.declared.view.Seated.{Seated}
use Rattle.glb_inbox.specs.declared.view.Member.{Member}
use Rattle.glb_inbox.specs.inner.Rule.{Job, Ruled, Holds}
use Rattle.glb_inbox.specs.inner.Views.{one}
use Rattle.glb_inbox.proofs.Totals.{any_replaced, split_up, two_replaced}
use Rattle.glb_inbox.proofs.Exchange.{ruled_permutation}

abbrev pub three : ℕ → ℕ → ℕ → List ℕ
three live items stop = live ∷ items ∷ stop ∷ []

module _ {I : Type 0} (j : Job I) where
  -- what a step of a place on the word i gives: its view and the words after it
  pub record Turned (i : ℕ) (f : ℕ → ℕ) (then : ℕ → Me ℕ (List (Member I)) → Type 0)
      (live items stop : ℕ) (rest : List (Member I)) : Type 0 where
    pub view : List (Member I)
    pub live2 : ℕ
    pub items2 : ℕ
    pub stop2 : ℕ
    pub words : slice_set (three live items stop) i (f (slice_index (three live items stop) i))
        ≡ three live2 items2 stop2
    pub ruled : Ruled j live2 items2 stop2 (view ++ rest)
    pub told : then (slice_index (three live items stop) i) (view, [])

  abbrev pub Turns : ℕ → (ℕ → ℕ) → Seated I → (ℕ → Me ℕ (List (Member I)) → Type 0) → Type 0
  Turns i f x then =
      (live items stop : ℕ) (rest : List (Member I)) → Ruled j live items stop (one x ++ rest)
      → Turned i f then live items stop rest

  pub word_step : (slots id i : ℕ) (f : ℕ → ℕ) (x : Seated I) (then : ℕ → Me ℕ (List (Member I))
      → Type 0)
      → Turns i f x then → Allows (Holds j) slots id (one x, []) i f then
  word_step slots id i f x then turns s h len at bound =
      let n = any_replaced s.views id (one x) at in
      let t = turns h.live h.items h.stop n.0
      (ruled_permutation j h.live h.items h.stop _ _ n.1 h.ruled) in (
        t.view,
        keeps,
        tt,
        record {
          live = t.live2;
          items = t.items2;
          stop = t.stop2;
          words = subst (λ ws. slice_set ws i (f (slice_index ws i))
              ≡ three t.live2 t.items2 t.stop2) (sym h.words) t.words;
          ruled = ruled_permutation j t.live2 t.items2 t.stop2 _ _
              (IsPermutation-sym _ _ (n.2 t.view)) t.ruled;
        },
        subst (λ ws. then (slice_index ws i) (t.view, [])) (sym h.words) t.told,
      )

  pub split_step : (id : ℕ) (v left right : List (Member I))
      → ((live items stop : ℕ) (rest : List (Member I)) → Ruled j live items stop (v ++ rest)
      → Ruled j live items stop ((left ++ right) ++ rest))
      → Splits {S = ℕ} (Holds j) id v left right
  split_step id v left right keep s h at =
      let n = split_up s.views id v left right at in
      record {
        live = h.live;
        items = h.items;
        stop = h.stop;
        words = h.words;
        ruled = ruled_permutation j h.live h.items h.stop _ _ (IsPermutation-sym _ _ n.2)
            (keep h.live h.items h.stop n.0
            (ruled_permutation j h.live h.items h.stop _ _ n.1 h.ruled));
      }

  pub join_step : (id other : ℕ) (v w both spent : List (Member I))
      → ((live items stop : ℕ) (rest : List (Member I)) → Ruled j live items stop (v ++ (w ++ rest))
      → Ruled j live items stop (both ++ (spent ++ rest)))
      → Joins {S = ℕ} (Holds j) id v other w both spent
  join_step id other v w both spent keep s h at differ there =
      let n = two_replaced s.views id other v w both spent (λ e. differ (sym e)) at
      (sym (set_else s.views id other both differ) ∙ there) in
      record {
        live = h.live;
        items = h.items;
        stop = h.stop;
        words = h.words;
        ruled = ruled_permutation j h.live h.items h.stop _ _ (IsPermutation-sym _ _ n.2)
            (keep h.live h.items h.stop n.0
            (ruled_permutation j h.live h.items h.stop _ _ n.1 h.ruled));
      }

  -- a load that changes no view tells what the rule gives
  pub read_step : (slots id i : ℕ) (me : Me ℕ (List (Member I))) (fact : ℕ → Type 0)
      → ((live items stop : ℕ) (rest : List (Member I)) → Ruled j live items stop (me.0 ++ rest)
      → (slice_set (three live items stop) i (slice_index (three live items stop) i)
      ≡ three live items stop) × fact (slice_index (three live items stop) i))
      → Allows (Holds j) slots id me i (λ n. n) (λ n m'. (m' ≡ me) × fact n)
  read_step slots id i me fact tells s h len at bound =
      let n = any_replaced s.views id me.0 at in
      let R = ruled_permutation j h.live h.items h.stop _ _ n.1 h.ruled in
      let t = tells h.live h.items h.stop n.0 R in (
        me.0,
        keeps,
        tt,
        record {
          live = h.live;
          items = h.items;
          stop = h.stop;
          words = subst (λ ws. slice_set ws i (slice_index ws i) ≡ three h.live h.items h.stop)
              (sym h.words) t.0;
          ruled = ruled_permutation j h.live h.items h.stop _ _ (IsPermutation-sym _ _ (n.2 me.0))
              R;
        },
        (refl, subst (λ ws. fact (slice_index ws i)) (sym h.words) t.1),
      )

  -- two views become one, in their order
  pub gather_step : (id other : ℕ) (v w : List (Member I))
      → Joins {S = ℕ} (Holds j) id v other w (v ++ w) []
  gather_step id other v w =
      join_step id other v w (v ++ w) [] (λ live items stop rest R.
      subst (λ l. Ruled j live items stop l) (sym (append_assoc v w rest)) R)
