-- The close: a seat that has all places knows all that the rule says of them.
use Rattle.std.proofs.Common.{◌≡◌, ◌≢◌, ℕ, ◌+◌, ◌*◌, ◌^◌, ◌<◌, ◌≤◌, ◌⊎◌, true, false, cond, subst}
use Rattle.std.proofs.Common.{List, [], ◌∷◌, ◌++◌, length, refl, sym, ap, ◌∙◌, inl, inr, ⊎_elim}
use Rattle.std.proofs.Common.{arith, append-nil, length-append}
use Rattle.std.specs.List.{flat_map}
use Rattle.std.proofs.lemmas.Grind.{flat_map-append}
use Rattle.glb_rules.specs.declared.kinds.Phase.TheVariants as phase
use Rattle.glb_rules.specs.declared.local.Counts.{Counts}
use Rattle.glb_core.specs.Counters.{HasSmallCounts}
use Rattle.glb_rules.specs.Setups.{bit, degree}
use Rattle.glb_rules.specs.Lawful.{armed_at_start, at_rest, idle_lines_of}
use Rattle.glb_rules.specs.World.{idle_count}
use Rattle.glb_rules.specs.declared.kinds.Edge.{Edge}
use Rattle.glb_rules.specs.declared.kinds.Edge.TheVariants as seen
use Rattle.glb_rules.specs.declared.kinds.Kind.TheVariants as kind
use Rattle.glb_rules.proofs.CallerLemmas.{sum_same, no_credit_le}
use Rattle.glb_place.specs.declared.record.Record.{Record}
use Rattle.glb_place.specs.Records.{edge_like, known_at, setup_in, world_in}
use Rattle.glb_place.specs.Close.{IsBounded}
use Rattle.glb_inbox.specs.declared.view.Seated.{Seated}
use Rattle.glb_inbox.specs.declared.view.Member.{Member}
use Rattle.glb_inbox.specs.declared.view.Member.TheVariants.{Place, Request, Refusal, Parcel}
use Rattle.glb_inbox.specs.inner.Members.{total, Each, tally, idle_when, places_in, done_in}
use Rattle.glb_inbox.specs.inner.Members.{left_in}
use Rattle.glb_inbox.specs.inner.Rule.{Job, Fits, Fine, Ruled, own_free, own_setup, setup}
use Rattle.glb_inbox.specs.inner.Ends.{PlaceEnded, MemberEnded}
use Rattle.glb_inbox.specs.inner.Close.{as_places, done_of, bag_of_place, count_of, LiveTells}
use Rattle.glb_inbox.specs.inner.Close.{ItemsTell, StopTells, Closes}
use Rattle.glb_inbox.proofs.Totals.{total_append, total_le, each_left, each_map}
use Rattle.glb_inbox.proofs.Consequences.{ended, items_small, total_times, total_plus, Shares}
use Rattle.glb_inbox.proofs.Consequences.{all_shares}
use Rattle.glb_inbox.proofs.SoundAlone.{line_alike}

module _ {I : Type 0} where
  places_count : (xs : List (Seated I)) → total places_in (as_places xs) ≡ length xs
  places_count [] = refl
  places_count (x ∷ xs) = let e = places_count xs in omega arith

  tallies : (f : Counts → ℕ) (xs : List (Seated I)) → total (tally f) (as_places xs)
      ≡ total (count_of f) xs
  tallies f [] = refl
  tallies f (x ∷ xs) = ap (λ n. f x.kept.local.count + n) (tallies f xs)

  -- where no place is among the others, they count nothing of a place
  no_tally : (f : Counts → ℕ) (ms : List (Member I)) → total places_in ms ≡ 0
      → total (tally f) ms ≡ 0
  no_tally f [] e = refl
  no_tally f (Place x ∷ ms) e = absurd (omega arith)
  no_tally f (Request k ∷ ms) e = let q = no_tally f ms (omega arith) in omega arith
  no_tally f (Refusal ∷ ms) e = let q = no_tally f ms (omega arith) in omega arith
  no_tally f (Parcel k ys ∷ ms) e = let q = no_tally f ms (omega arith) in omega arith

  no_done : (ms : List (Member I)) → total places_in ms ≡ 0 → flat_map done_in ms ≡ []
  no_done [] e = refl
  no_done (Place x ∷ ms) e = absurd (omega arith)
  no_done (Request k ∷ ms) e = no_done ms (omega arith)
  no_done (Refusal ∷ ms) e = no_done ms (omega arith)
  no_done (Parcel k ys ∷ ms) e = no_done ms (omega arith)

  done_places : (xs : List (Seated I)) → flat_map done_in (as_places xs) ≡ flat_map done_of xs
  done_places [] = refl
  done_places (x ∷ xs) = ap (λ l. x.kept.local.done ++ l) (done_places xs)

  left_places : (xs : List (Seated I)) → flat_map left_in (as_places xs) ≡ flat_map bag_of_place xs
  left_places [] = refl
  left_places (x ∷ xs) = ap (λ l. x.kept.local.bag ++ l) (left_places xs)

  both_none : (a b : List I) → a ++ b ≡ [] → (a ≡ []) × (b ≡ [])
  both_none [] b e = (refl, e)
  both_none (x ∷ a) b e = absurd (cc)

module _ {I : Type 0} (j : Job I) (live items stop : ℕ) (xs : List (Seated I))
    (rest : List (Member I)) (all : length xs ≡ j.lines.places)
    (R : Ruled j live items stop (as_places xs ++ rest)) where
  abbrev xs_all : List (Member I)
  xs_all = as_places xs ++ rest

  none : total places_in rest ≡ 0
  none = let a = R.sums.places in let b = total_append places_in (as_places xs) rest in let c =
      places_count xs in omega arith

  whole : (f : Counts → ℕ) → total (tally f) (as_places xs ++ rest) ≡ total (count_of f) xs
  whole f = let a = total_append (tally f) (as_places xs) rest in let b =
      no_tally f rest none in let c = tallies f xs in omega arith

  done_all : flat_map done_in (as_places xs ++ rest) ≡ flat_map done_of xs
  done_all = flat_map-append done_in (as_places xs) rest
      ∙ (λ i. done_places xs i ++ no_done rest none i) ∙ append-nil (flat_map done_of xs)

  left_all : flat_map left_in (as_places xs ++ rest) ≡ flat_map bag_of_place xs ++ flat_map left_in
      rest
  left_all = flat_map-append left_in (as_places xs) rest ∙ ap (λ l. l ++ flat_map left_in rest)
      (left_places xs)

  fits_each : (ys : List (Seated I)) → Each (Fine j live items stop) (as_places ys)
      → Each (λ x. Fits j live items stop x.kept) ys
  fits_each [] h = tt
  fits_each (y ∷ ys) h = (h.0.0, fits_each ys h.1)

  ended_each : (ys : List (Seated I)) → Each (MemberEnded j.awake) (as_places ys)
      → Each (λ x. PlaceEnded j.awake x.kept) ys
  ended_each [] h = tt
  ended_each (y ∷ ys) h = (h.0, ended_each ys h.1)

  fits_all : Each (λ x. Fits j live items stop x.kept) xs
  fits_all = fits_each xs (each_left (Fine j live items stop) (as_places xs) rest R.each)

  idle_like : (x : Edge) → idle_when x ≡ idle_count (edge_like {I = I} x)
  idle_like seen.Idle = refl
  idle_like seen.Asked = refl
  idle_like seen.Refused = refl
  idle_like seen.Loot = refl

  -- how many lines are known as Idle, and how many there are, does not hang on who was awake
  free_is : (r : Record I) → own_free j.awake r ≡ idle_lines_of (setup_in r) (world_in r) r.place
  free_is r = sum_same r.lines.places _ _
      (λ v l. (λ i. cond (line_alike r.lines r.params j.awake (λ p. false) r.place v i)
      (idle_like (known_at r.known kind.Line r.place v) i) 0))

  degree_is : (r : Record I) → degree (own_setup j.awake r) r.place ≡ degree (setup_in r) r.place
  degree_is r = sum_same r.lines.places _ _
      (λ v l. ap bit (line_alike r.lines r.params j.awake (λ p. false) r.place v))

  bounded : (x : Seated I) → Fits j live items stop x.kept → IsBounded x.kept
  bounded x F = record {
    items = F.sound.inner.items;
    asks = F.sound.inner.asks;
    line_asks = subst (λ n. x.kept.local.count.line_asks + at_rest x.kept.local.phase n ≤ degree
        (setup_in x.kept) x.kept.place * x.kept.local.count.items) (free_is x.kept)
        (subst (λ n. x.kept.local.count.line_asks + at_rest x.kept.local.phase
        (own_free j.awake x.kept) ≤ n * x.kept.local.count.items) (degree_is x.kept)
        F.sound.counted.line_asks);
    sent = F.sound.inner.sent;
    wakes = F.sound.inner.wakes;
  }

  lengths : (ys : List (Seated I)) → Each (λ x. Fits j live items stop x.kept) ys
      → total (count_of (λ c. c.items)) ys ≡ length (flat_map done_of ys)
  lengths [] h = refl
  lengths (y ∷ ys) h = let e = lengths ys h.1 in let a = h.0.sound.inner.items in
      omega (arith, length-append y.kept.local.done (flat_map done_of ys))

  items_tell_sum : items ≡ total (count_of (λ c. c.items)) xs
  items_tell_sum = R.sums.items_are ∙ whole (λ c. c.items)

  pub items_tell : ItemsTell xs items
  items_tell = R.sums.items_are ∙ whole (λ c. c.items) ∙ lengths xs fits_all

  shares_all : Each (λ x. Shares j live items stop xs_all R (Place x)) xs
  shares_all = shares_each xs
      (each_left (Shares j live items stop xs_all R) (as_places xs) rest
      (all_shares j live items stop xs_all R))
    where
      shares_each : (ys : List (Seated I)) → Each (Shares j live items stop xs_all R) (as_places ys)
          → Each (λ x. Shares j live items stop xs_all R (Place x)) ys
      shares_each [] h = tt
      shares_each (y ∷ ys) h = (h.0, shares_each ys h.1)

  -- a term is no more than its sum
  terms : (f : Seated I → ℕ) (k : ℕ) (ys : List (Seated I)) → total f ys ≤ k
      → Each (λ x. f x ≤ k) ys
  terms f k [] h = tt
  terms f k (y ∷ ys) h = (omega arith, terms f k ys (omega arith))

  both : (F G : Seated I → Type 0) (ys : List (Seated I)) → Each F ys → Each G ys
      → Each (λ x. F x × G x) ys
  both F G [] a b = tt
  both F G (y ∷ ys) a b = ((a.0, b.0), both F G ys a.1 b.1)

  constant : (k : ℕ) (ys : List (Seated I)) → total (λ x. k) ys ≡ length ys * k
  constant k [] = omega arith
  constant k (y ∷ ys) = let e = constant k ys in grind arith

  line_got_le : (x : Seated I)
      → (Fits j live items stop x.kept × Shares j live items stop xs_all R (Place x))
      → x.kept.local.count.line_got ≤ 64 + 64 * x.kept.local.count.items
  line_got_le x h =
      let a = h.0.sound.counted.lines in
      let b = h.1.line_asks in
      let c : armed_at_start (own_setup j.awake x.kept) x.kept.place ≤ 64 =
      (let s : armed_at_start (setup j) x.kept.place ≤ 64 * 1 = h.1.armed in
      rw (h.0.lines_are, h.0.params_are) (omega arith)) in
      omega arith

  pub record Bounds : Type 0 where
    pub few_items : total (count_of (λ c. c.items)) xs ≤ 2 ^ 41
    pub few_asks : total (count_of (λ c. c.asks)) xs ≤ 2 ^ 47
    pub few_line_got : total (count_of (λ c. c.line_got)) xs ≤ 2 ^ 48
    pub few_sent : total (count_of (λ c. c.sent_units)) xs ≤ 2 ^ 64 *
        (total (count_of (λ c. c.given)) xs + total (count_of (λ c. c.line_given)) xs)

  bounds : Bounds
  bounds =
      let i = items_small j live items stop xs_all R in
      let n = items_tell_sum in
      let f = both _ _ xs fits_all shares_all in
      let p : length xs ≤ 64 =
      (let a = R.good.limits.places.1 in let b = R.good.places in omega arith) in
      let t1 = total_le (count_of (λ c. c.asks)) (λ x. 64 * count_of (λ c. c.items) x)
      (λ x. Shares j live items stop xs_all R (Place x)) (λ x s. s.asks) xs shares_all in
      let e1 = total_times 64 (count_of (λ c. c.items)) xs in
      let t2 = total_le (count_of (λ c. c.line_got)) (λ x. 64 + 64 * count_of (λ c. c.items) x) _
      line_got_le xs f in
      let e2 = total_plus (λ x. 64) (λ x. 64 * count_of (λ c. c.items) x) xs in
      let e3 = constant 64 xs in
      let t3 = total_le (count_of (λ c. c.sent_units))
      (λ x. 2 ^ 64 * (count_of (λ c. c.given) x + count_of (λ c. c.line_given) x))
      (λ x. Fits j live items stop x.kept) (λ x F. F.sound.inner.sent) xs fits_all in
      let e4 = total_times (2 ^ 64)
      (λ x. count_of (λ c. c.given) x + count_of (λ c. c.line_given) x) xs in
      let e5 = total_plus (count_of (λ c. c.given)) (count_of (λ c. c.line_given)) xs in
      record {
        few_items = omega arith;
        few_asks = omega arith;
        few_line_got = omega arith;
        few_sent = omega arith;
      }

  smalls : live ≡ 0 → Each (λ x. HasSmallCounts x.kept.local.count) xs
  smalls z =
      let B = bounds in
      let b1 = B.few_items in let b2 = B.few_asks in let b3 = B.few_line_got in let b4 =
      B.few_sent in
      let E = ended j live items stop xs_all R z in
      let w : (f : Counts → ℕ) → total (tally f) xs_all ≡ total (count_of f) xs = whole in
      let a1 = E.asks in let a2 = E.line_given in let a3 = E.units in
      let l : (total (count_of (λ c. c.denied)) xs + total (count_of (λ c. c.given)) xs ≤ 2 ^ 47) =
      omega (arith, w (λ c. c.asks), w (λ c. c.denied), w (λ c. c.given)) in
      let m : total (count_of (λ c. c.line_given)) xs ≤ 2 ^ 48 = omega
      (arith, w (λ c. c.line_given), w (λ c. c.line_got)) in
      let s : total (count_of (λ c. c.sent_units)) xs ≤ 2 ^ 114 = omega arith in
      let u : total (count_of (λ c. c.got_units)) xs ≤ 2 ^ 114 = omega
      (arith, w (λ c. c.sent_units), w (λ c. c.got_units)) in
      each_map _ _ small_place xs
      (both _ _ xs (both _ _ xs (both _ _ xs fits_all shares_all)
      (terms (count_of (λ c. c.items)) (2 ^ 41) xs b1))
      (both _ _ xs (both _ _ xs (terms (count_of (λ c. c.denied)) (2 ^ 47) xs (omega arith))
      (terms (count_of (λ c. c.given)) (2 ^ 47) xs (omega arith)))
      (both _ _ xs (terms (count_of (λ c. c.line_given)) (2 ^ 48) xs m)
      (both _ _ xs (terms (count_of (λ c. c.sent_units)) (2 ^ 114) xs s)
      (terms (count_of (λ c. c.got_units)) (2 ^ 114) xs u)))))
    where
      small_place : (x : Seated I)
          → (((Fits j live items stop x.kept × Shares j live items stop xs_all R (Place x))
          × (x.kept.local.count.items ≤ 2 ^ 41))
          × (((x.kept.local.count.denied ≤ 2 ^ 47) × (x.kept.local.count.given ≤ 2 ^ 47))
          × ((x.kept.local.count.line_given ≤ 2 ^ 48)
          × ((x.kept.local.count.sent_units ≤ 2 ^ 114)
          × (x.kept.local.count.got_units ≤ 2 ^ 114)))))
          → HasSmallCounts x.kept.local.count
      small_place x h =
          let F = h.0.0.0 in
          let S = h.0.0.1 in
          let i = h.0.1 in
          let a = S.asks in
          let b = S.line_asks in
          let c = F.sound.counted.asks in
          let d = line_got_le x (F, S) in
          let n = F.sound.inner.naps in
          let w = F.sound.inner.wakes in
          let z = no_credit_le x.kept.local.credit in
          let e = h.1.0.0 in let f = h.1.0.1 in let g = h.1.1.0 in let s = h.1.1.1.0 in let u =
          h.1.1.1.1 in
          record {
            items = omega arith;
            asks = omega arith;
            shrugs = omega arith;
            denied = omega arith;
            given = omega arith;
            got = omega arith;
            line_asks = omega arith;
            line_given = omega arith;
            line_got = omega arith;
            sent_units = omega arith;
            got_units = omega arith;
            sleeps = omega arith;
            wakes = omega arith;
          }

  pub live_tells : LiveTells j xs live
  live_tells = record {
    way = flat_map left_in rest;
    expansion = rw (done_all, left_all) at R.expansion;
    nothing_left = λ z. both_none _ _
        (sym left_all ∙ (ended j live items stop (as_places xs ++ rest) R z).nothing_left);
    balanced = λ z.
        let E = ended j live items stop (as_places xs ++ rest) R z in
        record {
          places = ended_each xs (each_left (MemberEnded j.awake) (as_places xs) rest E.each);
          given = sym (whole (λ c. c.given)) ∙ E.given ∙ whole (λ c. c.got);
          line_given = sym (whole (λ c. c.line_given)) ∙ E.line_given ∙ whole (λ c. c.line_got);
          units = sym (whole (λ c. c.sent_units)) ∙ E.units ∙ whole (λ c. c.got_units);
          asks = omega (
            arith,
            whole (λ c. c.asks),
            whole (λ c. c.denied),
            whole (λ c. c.given),
            E.asks,
          );
        };
    bounded = each_map _ _ bounded xs fits_all;
    small = λ z. smalls z;
    jobs = each_map _ _ (λ x F. (F.params_are, F.lines_are)) xs fits_all;
    over = each_map _ _ (λ x F. F.meets.over) xs fits_all;
    gone = each_map _ _ (λ x F. F.sound.gone) xs fits_all;
  }

  pub stop_tells : StopTells j xs stop
  stop_tells = record {
    cause = λ e. (let a = R.cause e in let b = items_tell in omega arith);
    codes = R.codes;
    each = each_map _ _ (λ x F. F.meets.code) xs fits_all;
  }

module _ {I : Type 0} where
  -- the three loads together
  pub closes : (j : Job I) (xs : List (Seated I)) (live items stop : ℕ) → LiveTells j xs live
      → ItemsTell xs items → StopTells j xs stop → Closes j xs live items stop
  closes j xs live items stop L N S = record {
    way = L.way;
    expansion = L.expansion;
    nothing_left = L.nothing_left;
    balanced = L.balanced;
    bounded = L.bounded;
    small = L.small;
    jobs = L.jobs;
    count = N;
    cause = λ e. (let a = S.cause e in omega arith);
    codes = S.codes;
    ended = λ g some. go xs g L.gone L.over S.each some;
  }
    where
      go : (ys : List (Seated I)) → Each (λ x. x.kept.local.phase ≡ phase.Gone) ys
          → Each (λ x. x.kept.local.phase ≡ phase.Gone → (x.kept.over ≡ true) ⊎ (x.kept.code ≢ 0))
          ys
          → Each (λ x. x.kept.over ≡ true → live ≡ 0) ys → Each (λ x. x.kept.code ≤ stop) ys
          → 0 < length ys → (live ≡ 0) ⊎ (stop ≢ 0)
      go [] g a b c some = absurd (omega arith)
      go (y ∷ ys) g a b c some =
          ⊎_elim (λ o. inl (b.0 o)) (λ n. inr (λ z. n (let q = c.0 in omega arith))) (a.0 g.0)
