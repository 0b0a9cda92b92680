-- Some members become others: what that has to keep, so that the rule stays.
use Rattle.std.proofs.Common.{◌≡◌, ℕ, ◌+◌, ◌*◌, ◌<◌, ◌≤◌, List, ◌++◌, sym, subst, ◌∙◌, arith}
use Rattle.std.proofs.Common.{IsPermutation}
use Rattle.std.specs.List.{flat_map}
use Rattle.std.proofs.lemmas.Grind.{flat_map-append}
use Rattle.glb_laws.specs.Expansion.{Expansion}
use Rattle.glb_laws.proofs.Expansions.{expansion_order}
use Rattle.glb_laws.proofs.Shuffles.{IsPermutation-flat_map}
use Rattle.glb_rules.specs.Lawful.{armed_at_start}
use Rattle.glb_rules.specs.declared.kinds.Kind.TheVariants as kind
use Rattle.glb_inbox.specs.declared.view.Member.{Member}
use Rattle.glb_inbox.specs.inner.Members.{total, Each, tally, places_in, requests, refusals}
use Rattle.glb_inbox.specs.inner.Members.{parcels, units_in, credits, by_place, above, done_in}
use Rattle.glb_inbox.specs.inner.Members.{left_in}
use Rattle.glb_inbox.specs.inner.Rule.{Job, setup, Fine, Sums, Ruled}
use Rattle.glb_inbox.proofs.Totals.{total_permutation, total_append, each_permutation, each_append}
use Rattle.glb_inbox.proofs.Totals.{each_right, each_map}

module _ {I : Type 0} (j : Job I) where
  -- the order of the members does not matter
  pub ruled_permutation : (live items stop : ℕ) (ms ns : List (Member I)) → IsPermutation ms ns
      → Ruled j live items stop ms → Ruled j live items stop ns
  ruled_permutation live items stop ms ns p R =
      let same : (f : Member I → ℕ) → total f ms ≡ total f ns = λ f. total_permutation f ms ns p in
      let S = R.sums in
      record {
        good = R.good;
        sums = record {
          places = sym (same places_in) ∙ S.places;
          asks = omega (
            arith,
            same (tally (λ c. c.asks)),
            same (requests kind.Steal),
            same (tally (λ c. c.denied)),
            same (tally (λ c. c.given)),
            S.asks,
          );
          lines = omega (
            arith,
            same (by_place (armed_at_start (setup j))),
            same (tally (λ c. c.line_asks)),
            same (requests kind.Line),
            same (tally (λ c. c.line_given)),
            S.lines,
          );
          denied = omega (
            arith,
            same (tally (λ c. c.denied)),
            same refusals,
            same (tally (λ c. c.shrugs)),
            S.denied,
          );
          given = omega (
            arith,
            same (tally (λ c. c.given)),
            same (parcels kind.Steal),
            same (tally (λ c. c.got)),
            S.given,
          );
          line_given = omega (
            arith,
            same (tally (λ c. c.line_given)),
            same (parcels kind.Line),
            same (tally (λ c. c.line_got)),
            S.line_given,
          );
          units = omega (
            arith,
            same (tally (λ c. c.sent_units)),
            same units_in,
            same (tally (λ c. c.got_units)),
            S.units,
          );
          live_is = S.live_is ∙ same credits;
          items_are = S.items_are ∙ same (tally (λ c. c.items));
        };
        each = each_permutation (Fine j live items stop) ms ns p R.each;
        expansion = expansion_order j.children j.roots _ _ _ _
            (IsPermutation-flat_map done_in ms ns p)
            (IsPermutation-flat_map left_in ms ns p) R.expansion;
        small = subst (λ n. items ≤ j.params.limit + j.params.batch * n)
            (same (above j.params.limit)) R.small;
        cause = R.cause;
        codes = R.codes;
      }

  -- what the change of some members owes to each sum
  pub record Fair (live items live2 items2 : ℕ) (olds news : List (Member I)) : Type 0 where
    pub places : total places_in news ≡ total places_in olds
    pub asks : total (tally (λ c. c.asks)) news
        + (total (requests kind.Steal) olds + total (tally (λ c. c.denied)) olds + total
        (tally (λ c. c.given)) olds)
        ≡ total (tally (λ c. c.asks)) olds
        + (total (requests kind.Steal) news + total (tally (λ c. c.denied)) news + total
        (tally (λ c. c.given)) news)
    pub lines : total (by_place (armed_at_start (setup j))) news + total (tally (λ c. c.line_asks))
        news + (total (requests kind.Line) olds + total (tally (λ c. c.line_given)) olds)
        ≡ total (by_place (armed_at_start (setup j))) olds + total (tally (λ c. c.line_asks)) olds
        + (total (requests kind.Line) news + total (tally (λ c. c.line_given)) news)
    pub denied : total (tally (λ c. c.denied)) news
        + (total refusals olds + total (tally (λ c. c.shrugs)) olds)
        ≡ total (tally (λ c. c.denied)) olds
        + (total refusals news + total (tally (λ c. c.shrugs)) news)
    pub given : total (tally (λ c. c.given)) news
        + (total (parcels kind.Steal) olds + total (tally (λ c. c.got)) olds)
        ≡ total (tally (λ c. c.given)) olds
        + (total (parcels kind.Steal) news + total (tally (λ c. c.got)) news)
    pub line_given : total (tally (λ c. c.line_given)) news
        + (total (parcels kind.Line) olds + total (tally (λ c. c.line_got)) olds)
        ≡ total (tally (λ c. c.line_given)) olds
        + (total (parcels kind.Line) news + total (tally (λ c. c.line_got)) news)
    pub units : total (tally (λ c. c.sent_units)) news
        + (total units_in olds + total (tally (λ c. c.got_units)) olds)
        ≡ total (tally (λ c. c.sent_units)) olds
        + (total units_in news + total (tally (λ c. c.got_units)) news)
    pub live_is : live2 + total credits olds ≡ live + total credits news
    pub items_are : items2 + total (tally (λ c. c.items)) olds ≡ items + total
        (tally (λ c. c.items)) news

  pub sums_exchanged : (live items live2 items2 : ℕ) (olds news rest : List (Member I))
      → Fair live items live2 items2 olds news → Sums j live items (olds ++ rest)
      → Sums j live2 items2 (news ++ rest)
  sums_exchanged live items live2 items2 olds news rest F S =
      let o : (f : Member I → ℕ) → total f (olds ++ rest) ≡ total f olds + total f rest = λ f.
      total_append f olds rest in
      let n : (f : Member I → ℕ) → total f (news ++ rest) ≡ total f news + total f rest = λ f.
      total_append f news rest in
      record {
        places = omega (arith, o places_in, n places_in, F.places, S.places);
        asks = omega (
          arith,
          o (tally (λ c. c.asks)),
          n (tally (λ c. c.asks)),
          o (requests kind.Steal),
          n (requests kind.Steal),
          o (tally (λ c. c.denied)),
          n (tally (λ c. c.denied)),
          o (tally (λ c. c.given)),
          n (tally (λ c. c.given)),
          F.asks,
          S.asks,
        );
        lines = omega (
          arith,
          o (by_place (armed_at_start (setup j))),
          n (by_place (armed_at_start (setup j))),
          o (tally (λ c. c.line_asks)),
          n (tally (λ c. c.line_asks)),
          o (requests kind.Line),
          n (requests kind.Line),
          o (tally (λ c. c.line_given)),
          n (tally (λ c. c.line_given)),
          F.lines,
          S.lines,
        );
        denied = omega (
          arith,
          o (tally (λ c. c.denied)),
          n (tally (λ c. c.denied)),
          o refusals,
          n refusals,
          o (tally (λ c. c.shrugs)),
          n (tally (λ c. c.shrugs)),
          F.denied,
          S.denied,
        );
        given = omega (
          arith,
          o (tally (λ c. c.given)),
          n (tally (λ c. c.given)),
          o (parcels kind.Steal),
          n (parcels kind.Steal),
          o (tally (λ c. c.got)),
          n (tally (λ c. c.got)),
          F.given,
          S.given,
        );
        line_given = omega (
          arith,
          o (tally (λ c. c.line_given)),
          n (tally (λ c. c.line_given)),
          o (parcels kind.Line),
          n (parcels kind.Line),
          o (tally (λ c. c.line_got)),
          n (tally (λ c. c.line_got)),
          F.line_given,
          S.line_given,
        );
        units = omega (
          arith,
          o (tally (λ c. c.sent_units)),
          n (tally (λ c. c.sent_units)),
          o units_in,
          n units_in,
          o (tally (λ c. c.got_units)),
          n (tally (λ c. c.got_units)),
          F.units,
          S.units,
        );
        live_is = omega (arith, o credits, n credits, F.live_is, S.live_is);
        items_are = omega (
          arith,
          o (tally (λ c. c.items)),
          n (tally (λ c. c.items)),
          F.items_are,
          S.items_are,
        );
      }

  -- what it owes besides: the facts of each, the expansion, and the bound on items
  pub record Owes (live items stop live2 items2 stop2 : ℕ) (olds news : List (Member I)) : Type 0
    where
      pub fair : Fair live items live2 items2 olds news
      pub fine : Each (Fine j live2 items2 stop2) news
      pub others : (m : Member I) → Fine j live items stop m → Fine j live2 items2 stop2 m
      pub expansion : (done left : List I)
          → Expansion j.children j.roots (flat_map done_in olds ++ done)
          (flat_map left_in olds ++ left)
          → Expansion j.children j.roots (flat_map done_in news ++ done)
          (flat_map left_in news ++ left)
      pub small : (n : ℕ) → items ≤ j.params.limit + j.params.batch *
          (total (above j.params.limit) olds + n)
          → items2 ≤ j.params.limit + j.params.batch * (total (above j.params.limit) news + n)
      pub cause : (stop ≡ 1 → j.params.limit < items) → stop2 ≡ 1 → j.params.limit < items2
      pub codes : stop ≤ 2 → stop2 ≤ 2

  pub exchanged : (live items stop live2 items2 stop2 : ℕ) (olds news rest : List (Member I))
      → Owes live items stop live2 items2 stop2 olds news
      → Ruled j live items stop (olds ++ rest) → Ruled j live2 items2 stop2 (news ++ rest)
  exchanged live items stop live2 items2 stop2 olds news rest O R = record {
    good = R.good;
    sums = sums_exchanged live items live2 items2 olds news rest O.fair R.sums;
    each = each_append _ news rest O.fine
        (each_map _ _ O.others rest (each_right (Fine j live items stop) olds rest R.each));
    expansion =
        rw (flat_map-append done_in news rest, flat_map-append left_in news rest)
        (O.expansion (flat_map done_in rest) (flat_map left_in rest)
        (rw (flat_map-append done_in olds rest, flat_map-append left_in olds rest) at R.expansion));
    small =
        rw (total_append (above j.params.limit) news rest)
        (O.small (total (above j.params.limit) rest)
        (rw (total_append (above j.params.limit) olds rest) at R.small));
    cause = O.cause R.cause;
    codes = O.codes R.codes;
  }
