-- Ways in a list.
use Rattle.std.proofs.Common.{◌≡◌, ◌≢◌, ℕ, ◌+◌, List, [], ◌∷◌, ◌++◌, length, set, Option, Some}
use Rattle.std.proofs.Common.{get_or-set_same, get_or-set_other, ◌∙◌, ⊎_elim, arith, length-append}
use Rattle.std.proofs.Math.ListN.{length-set, get_or-append}
use Rattle.std.proofs.Math.Seq.{get_or-append_seam}
use Rattle.std.proofs.lemmas.Bool.{cases_eq}
use Rattle.atomic_table.specs.Seated.{TableId}
use Rattle.glb_inbox.specs.declared.message.Tie.{Tie}
use Rattle.glb_inbox.specs.inner.Books.{AreWays}
use Rattle.glb_inbox.specs.inner.Posted.{tie}

module _ {P : Type 0} {id : TableId} {q : P} where
  pub ways_put : (n : ℕ) (ws : List (Option (Tie P))) → AreWays id q n ws
      → (i : ℕ) (w : Option (Tie P)) → w ≡ Some (tie q id) → AreWays id q n (set ws i w)
  ways_put n ws W i w is = record {
    all = length-set ws i w ∙ W.all;
    tied = λ j d l. ⊎_elim
        (λ (e : j ≡ i). rw e (get_or-set_same ws i w d (let a = W.all in omega arith) ∙ is))
        (λ (e : j ≢ i). get_or-set_other ws i j w d e ∙ W.tied j d l)
        (cases_eq j i);
  }

  pub ways_more : (n : ℕ) (ws : List (Option (Tie P))) → AreWays id q n ws → (w : Option (Tie P))
      → w ≡ Some (tie q id) → AreWays id q (n + 1) (ws ++ w ∷ [])
  ways_more n ws W w is = record {
    all = (let a = W.all in omega (arith, length-append ws (w ∷ [])));
    tied = λ j d l. ⊎_elim
        (λ (e : j ≡ length ws). rw e (get_or-append_seam ws w [] d ∙ is))
        (λ (e : j ≢ length ws). get_or-append ws (w ∷ []) d j (let a = W.all in omega arith)
        ∙ W.tied j d (let a = W.all in omega arith))
        (cases_eq j (length ws));
  }
