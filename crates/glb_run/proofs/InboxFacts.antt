-- A run over inboxes: what the post and its desks say of the places at the start and at the close.
use Rattle.std.proofs.Common.{◌≡◌, ℕ, ◌<◌, List, [], length, map, get_or, sym, ap, subst, ◌∙◌}
use Rattle.std.proofs.Common.{arith}
use Rattle.std.proofs.lemmas.List.{get_or-map, length-map}
use Rattle.std.specs.Prelude.{All, Bool, IsPermutation}
use Rattle.glb_cube.specs.Lines.{Cube}
use Rattle.glb_stats.specs.declared.counters.Counters.{Counters}
use Rattle.glb_rules.specs.Joins.{join_to}
use Rattle.glb_rules.specs.declared.params.Params.{Params}
use Rattle.glb_core.specs.Counters.{all_awake, all_degrees}
use Rattle.glb_core.specs.Lifelines.{IsGraphOf, setup_for}
use Rattle.glb_place.specs.declared.record.Record.{Record}
use Rattle.glb_place.specs.Close.{Closes}
use Rattle.glb_place.specs.Records.{IsFirst}
use Rattle.glb_inbox.specs.Posts.{AreDesksOf, AreFirstDesks, DeskView, PostView, roots_at, setup_at}
use Rattle.glb_inbox.specs.Posts.{AreNumbered as AreNumberedDesks}
use Rattle.glb_run.specs.inner.Plays.{AreFirst, AreLeft, AreSameObjects, IsClosed}
use Rattle.glb_run.proofs.PlayedFacts.{some_member}

module _ {Q I : Type 0} (post : PostView Q I) (desks : List (DeskView Q I))
    (first : AreFirstDesks post desks) (program : Q) (params : Params) (lines : Cube)
    (bags : List (List I)) (programs : post.program ≡ program) (params_are : post.params ≡ params)
    (lines_are : post.lines ≡ lines) (bags_are : post.bags ≡ bags) where
  -- there is a desk for each place
  pub desks_many : length desks ≡ lines.places
  desks_many = first.all.many ∙ ap (λ (x : Cube). x.places) lines_are

  -- the records of the desks are those of the places at the start
  pub desks_first : AreFirst lines params bags (map (λ d. d.kept) desks)
  desks_first = record {
    each = λ p d l.
        let here : p < length desks = omega (arith, length-map desks (λ d. d.kept)) in
        let x = some_member desks p here in
        let own : IsFirst post.lines post.params p (get_or post.bags p []) (get_or desks p x).kept =
        first.firsts p x here
        in
        subst (λ r. IsFirst lines params p (get_or bags p []) r)
        (sym (get_or-map (λ (y : DeskView Q I). y.kept) desks p x d here))
        (subst (λ (c : Cube). IsFirst c params p (get_or bags p []) (get_or desks p x).kept)
        lines_are
        (subst (λ (q : Params). IsFirst post.lines q p (get_or bags p []) (get_or desks p x).kept)
        params_are
        (subst
        (λ (b : List (List I)).
        IsFirst post.lines post.params p (get_or b p []) (get_or desks p x).kept)
        bags_are own)));
  }

  -- and their program is that of the run
  pub desks_programs : All (λ d. program ≡ d.program) desks
  desks_programs p d l = sym (first.programs p d l ∙ programs)

  -- desks that are the same as these are all desks of the post
  pub desks_again : (refuses : DeskView Q I → Bool) (left : List (DeskView Q I))
      → AreSameObjects (λ d. d.program) (λ d. d.home) refuses desks left
      → AreDesksOf post left
  desks_again refuses left same = record {
    many = same.many ∙ first.all.many;
    homes = λ p d l.
        let here : p < length desks = omega (arith, same.many) in
        (same.each p d here).home_stays ∙ first.all.homes p d here;
  }

  -- a run has closed whose desks tell so
  pub inboxes_close : {V : Type 0} (children : Q → I → List I) (value : I → V)
      (combine : V → V → V) (unit : V) (roots : ℕ → List I) (rs : List (Record I))
      (live items stop : ℕ) (total : V) (counters : List Counters)
      → IsGraphOf lines params
      → ((p : ℕ) → IsPermutation (roots p) (get_or bags p []))
      → Closes (children post.program) (all_degrees (setup_at post)) (all_awake (setup_at post))
      post.params.limit (roots_at post) rs live items stop
      → AreNumberedDesks post.lines post.params rs
      → AreLeft value combine unit rs total counters
      → IsClosed (children program) value combine unit params roots items stop total counters
  inboxes_close children value combine unit roots rs live items stop total counters graph same
      closes numbered left =
      let of_program =
      subst
      (λ (q : Q). Closes (children q) (all_degrees (setup_at post)) (all_awake (setup_at post))
      post.params.limit (roots_at post) rs live items stop)
      programs closes
      in
      let of_bags =
      subst
      (λ (b : List (List I)). Closes (children program)
      (all_degrees (setup_for post.lines post.params (λ p. get_or b p [])))
      (all_awake (setup_for post.lines post.params (λ p. get_or b p [])))
      post.params.limit (join_to post.lines.places (λ p. get_or b p [])) rs live items stop)
      bags_are of_program
      in
      let of_params =
      subst
      (λ (q : Params). Closes (children program)
      (all_degrees (setup_for post.lines q (λ p. get_or bags p [])))
      (all_awake (setup_for post.lines q (λ p. get_or bags p [])))
      q.limit (join_to post.lines.places (λ p. get_or bags p [])) rs live items stop)
      params_are of_bags
      in
      let of_lines =
      subst
      (λ (c : Cube). Closes (children program)
      (all_degrees (setup_for c params (λ p. get_or bags p [])))
      (all_awake (setup_for c params (λ p. get_or bags p [])))
      params.limit (join_to c.places (λ p. get_or bags p [])) rs live items stop)
      lines_are of_params
      in
      record {
        cube = lines;
        graph = graph;
        bags = λ p. get_or bags p [];
        same = same;
        records = rs;
        live = live;
        closes = of_lines;
        numbered = record {
          many = numbered.many ∙ ap (λ (x : Cube). x.places) lines_are ∙ graph.places;
          place = numbered.places;
          params_are = λ p d l. numbered.params_are p d l ∙ params_are;
          lines_are = λ p d l. numbered.lines_are p d l ∙ lines_are;
        };
        left = left;
      }
