-- What follows from the rule: live stays small, and where it is 0 nothing is left and all balances
-- hold.
use Rattle.std.proofs.Common.{◌≡◌, ℕ, ◌+◌, ◌*◌, ◌^◌, ◌<◌, ◌≤◌, Bool, true, false, not, cond, ◌==◌}
use Rattle.std.proofs.Common.{nat_lt, List, [], ◌∷◌, length, refl, arith, ap}
use Rattle.std.proofs.Math.Nat.{mul-add, mul-le-mul_right}
use Rattle.std.specs.List.{flat_map}
use Rattle.glb_rules.specs.World.{has_line, credit_count}
use Rattle.glb_rules.specs.Setups.{bit, degree, tries_of}
use Rattle.glb_rules.specs.Lawful.{PhaseFits, armed_at_start}
use Rattle.glb_rules.specs.declared.kinds.Kind.TheVariants as kind
use Rattle.glb_rules.specs.declared.kinds.Edge.{Edge}
use Rattle.glb_rules.specs.declared.kinds.Edge.TheVariants as seen
use Rattle.glb_rules.specs.declared.kinds.Phase.{Phase}
use Rattle.glb_rules.specs.declared.kinds.Phase.TheVariants as phase
use Rattle.glb_rules.specs.declared.kinds.Credit.{Credit}
use Rattle.glb_rules.specs.declared.kinds.Credit.TheVariants as credit
use Rattle.glb_rules.proofs.CallerLemmas.{sum_same, sum_most, sum_zero}
use Rattle.glb_place.specs.declared.record.Record.{Record}
use Rattle.glb_place.specs.Records.{known_at}
use Rattle.glb_inbox.specs.declared.view.Member.{Member}
use Rattle.glb_inbox.specs.declared.view.Member.TheVariants.{Place, Request, Refusal, Parcel}
use Rattle.glb_inbox.specs.inner.Members.{total, Each, busy_when, tally, places_in, parcels}
use Rattle.glb_inbox.specs.inner.Members.{units_in, credits, by_place, above, left_in}
use Rattle.glb_inbox.specs.inner.Rule.{Job, Sound, Fine, Ruled, own_setup, own_busy, setup}
use Rattle.glb_inbox.specs.inner.Rule.{IsArmedWhen}
use Rattle.glb_inbox.specs.inner.Ends.{PlaceEnded, MemberEnded, Ended}
use Rattle.glb_inbox.proofs.Totals.{total_le, each_map}

module _ {A : Type 0} where
  pub total_times : (c : ℕ) (f : A → ℕ) (xs : List A) → total (λ x. c * f x) xs ≡ c * total f xs
  total_times c f [] = omega arith
  total_times c f (x ∷ xs) = let e = total_times c f xs in let m =
      mul-add c (f x) (total f xs) in omega arith

  pub total_plus : (f g : A → ℕ) (xs : List A) → total (λ x. f x + g x) xs ≡ total f xs + total g xs
  total_plus f g [] = omega arith
  total_plus f g (x ∷ xs) = let e = total_plus f g xs in omega arith

  each_zero : (f : A → ℕ) (xs : List A) → total f xs ≡ 0 → Each (λ x. f x ≡ 0) xs
  each_zero f [] e = tt
  each_zero f (x ∷ xs) e = (omega arith, each_zero f xs (omega arith))

  each_both : (F G : A → Type 0) (xs : List A) → Each F xs → Each G xs → Each (λ x. F x × G x) xs
  each_both F G [] a b = tt
  each_both F G (x ∷ xs) a b = ((a.0, b.0), each_both F G xs a.1 b.1)

  pub total_same : (f g : A → ℕ) (F : A → Type 0) → ((x : A) → F x → f x ≡ g x) → (xs : List A)
      → Each F xs → total f xs ≡ total g xs
  total_same f g F e [] h = refl
  total_same f g F e (x ∷ xs) h = let a = e x h.0 in let b = total_same f g F e xs h.1 in
      omega arith

bit_le : (b : Bool) → bit b ≤ 1
bit_le true = omega arith
bit_le false = omega arith

worth_most : (c : Credit) → credit_count c ≤ 2
worth_most credit.Zero = omega arith
worth_most credit.One = omega arith
worth_most credit.Minted = omega arith
worth_most credit.Taken = omega arith

worth_none : (c : Credit) → credit_count c ≡ 0 → c ≡ credit.Zero
worth_none credit.Zero e = refl
worth_none credit.One e = absurd (omega arith)
worth_none credit.Minted e = absurd (omega arith)
worth_none credit.Taken e = absurd (omega arith)

module _ {I : Type 0} (j : Job I) (live items stop : ℕ) (ms : List (Member I))
    (R : Ruled j live items stop ms) where
  places_most : j.lines.places ≤ 64
  places_most = let a = R.good.limits.places.1 in let b = R.good.places in omega arith

  degree_most : (r : Record I) → r.lines.places ≤ 64 → degree (own_setup j.awake r) r.place ≤ 64
  degree_most r l = let a =
      sum_most r.lines.places 1 (λ v. bit (has_line (own_setup j.awake r) r.place v))
      (λ v m. bit_le (has_line (own_setup j.awake r) r.place v)) in omega arith

  armed_most : (p : ℕ) → armed_at_start (setup j) p ≤ 64
  armed_most p = go (j.awake p)
    where
      go : (b : Bool) → cond b 0 (degree (setup j) p) ≤ 64
      go true = omega arith
      go false = let a = sum_most j.lines.places 1 (λ v. bit (has_line (setup j) p v))
          (λ v m. bit_le (has_line (setup j) p v)) in let b = places_most in omega arith

  tries_most : (r : Record I) → r.params ≡ j.params → tries_of r.params ≤ 64
  tries_most r e = go (r.params.places == 1)
    where
      go : (b : Bool) → cond b 0 r.params.tries ≤ 64
      go true = omega arith
      go false = let a = R.good.limits.tries in let t : r.params.tries ≡ j.params.tries =
          ap (λ q. q.tries) e in omega arith

  -- what each member keeps below its share
  pub record Shares (m : Member I) : Type 0 where
    pub above : above j.params.limit m ≤ places_in m
    pub asks : tally (λ c. c.asks) m ≤ 64 * tally (λ c. c.items) m
    pub line_asks : tally (λ c. c.line_asks) m ≤ 64 * tally (λ c. c.items) m
    pub armed : by_place (armed_at_start (setup j)) m ≤ 64 * places_in m
    pub credits : credits m ≤ 2 * places_in m + (parcels kind.Steal m + parcels kind.Line m)

  shares : (m : Member I) → Fine j live items stop m → Shares m
  shares (Place x) h =
      let F = h.0 in
      let r = x.kept in
      let n = r.local.count.items in
      let i = F.sound.inner in
      let l : r.lines.places ≤ 64 = rw F.lines_are places_most in
      record {
        above = bit_le (nat_lt j.params.limit r.last);
        asks = (let a = i.asks in let t = tries_most r F.params_are in
            let m : tries_of r.params * n ≤ 64 * n = mul-le-mul_right n t in omega arith);
        line_asks = (let a = F.sound.counted.line_asks in let d =
            degree_most r l in let m : degree (own_setup j.awake r) r.place * n ≤ 64 * n =
            mul-le-mul_right n d in omega arith);
        armed = (let a = armed_most r.place in omega arith);
        credits = (let a = worth_most r.local.credit in omega arith);
      }
  shares (Request k) h = record {
    above = omega arith;
    asks = omega arith;
    line_asks = omega arith;
    armed = omega arith;
    credits = omega arith;
  }
  shares Refusal h = record {
    above = omega arith;
    asks = omega arith;
    line_asks = omega arith;
    armed = omega arith;
    credits = omega arith;
  }
  shares (Parcel kind.Steal xs) h =
      record {
        above = omega arith;
        asks = omega arith;
        line_asks = omega arith;
        armed = omega arith;
        credits = omega arith;
      }
  shares (Parcel kind.Line xs) h =
      record {
        above = omega arith;
        asks = omega arith;
        line_asks = omega arith;
        armed = omega arith;
        credits = omega arith;
      }

  pub all_shares : Each Shares ms
  all_shares = each_map (Fine j live items stop) Shares shares ms R.each

  -- the word of items does not wrap
  pub items_small : items ≤ 2 ^ 40 + 2 ^ 22
  items_small =
      let a = total_le (above j.params.limit) places_in Shares (λ m s. s.above) ms all_shares in
      let p = R.sums.places in
      let l = places_most in
      let s = R.small in
      let n : total (above j.params.limit) ms ≤ 64 = omega arith in
      let b : j.params.batch ≤ 65536 = R.good.limits.batch.1 in
      let c : j.params.limit ≤ 2 ^ 40 = R.good.limits.limit.1 in
      let d : j.params.batch * total (above j.params.limit) ms ≤ 65536 * total
      (above j.params.limit) ms = mul-le-mul_right (total (above j.params.limit) ms) b in
      omega arith

  -- nor does the word of live
  pub live_small : live < 2 ^ 57
  live_small =
      let p = R.sums.places in
      let l = places_most in
      let i = items_small in
      let it = R.sums.items_are in
      let a1 = total_le (tally (λ c. c.asks)) (λ m. 64 * tally (λ c. c.items) m) Shares
      (λ m s. s.asks) ms all_shares in
      let a2 = total_times 64 (tally (λ c. c.items)) ms in
      let b1 = total_le (tally (λ c. c.line_asks)) (λ m. 64 * tally (λ c. c.items) m) Shares
      (λ m s. s.line_asks) ms all_shares in
      let c1 = total_le (by_place (armed_at_start (setup j))) (λ m. 64 * places_in m) Shares
      (λ m s. s.armed) ms all_shares in
      let c2 = total_times 64 places_in ms in
      let d1 = total_le credits
      (λ m. 2 * places_in m + (parcels kind.Steal m + parcels kind.Line m)) Shares
      (λ m s. s.credits) ms all_shares in
      let d2 = total_plus (λ m. 2 * places_in m) (λ m. parcels kind.Steal m + parcels kind.Line m)
      ms in
      let d3 = total_times 2 places_in ms in
      let d4 = total_plus (parcels kind.Steal) (parcels kind.Line) ms in
      let e1 = R.sums.asks in let e2 = R.sums.given in let e3 = R.sums.lines in let e4 =
      R.sums.line_given in let e5 = R.sums.live_is in
      omega arith

  empty_bag : (f : Phase) (c : Credit) (n : ℕ) → PhaseFits f c n → c ≡ credit.Zero → n ≡ 0
  empty_bag phase.Working c n h z = absurd (h.1 z)
  empty_bag phase.Idle c n h z = h.0
  empty_bag (phase.Waiting v k) c n h z = h.0
  empty_bag phase.Asleep c n h z = h.0
  empty_bag phase.Gone c n h z = h z

  no_items : (xs : List I) → length xs ≡ 0 → xs ≡ []
  no_items [] e = refl
  no_items (x ∷ xs) e = absurd (omega arith)

  armed_busy : (x : Edge) → IsArmedWhen x → busy_when x ≡ 1
  armed_busy seen.Idle h = absurd h
  armed_busy seen.Asked h = absurd h
  armed_busy seen.Refused h = refl
  armed_busy seen.Loot h = refl

  place_ended : (r : Record I) → Sound j.awake r → r.local.credit ≡ credit.Zero
      → PlaceEnded j.awake r
  place_ended r S z =
      let n : own_busy kind.Steal r ≡ 0 = sum_zero r.lines.places
      (λ v. busy_when (known_at r.known kind.Steal r.place v))
      (λ v l. rw (S.quiet v l z) refl) in
      let l : own_busy kind.Line r ≡ degree (own_setup j.awake r) r.place =
      sum_same r.lines.places (λ v. bit (has_line (own_setup j.awake r) r.place v))
      (λ v. busy_when (known_at r.known kind.Line r.place v))
      (λ v l. line v l (has_line (own_setup j.awake r) r.place v) refl) in
      record {
        no_credit = z;
        empty = no_items r.local.bag
            (empty_bag r.local.phase r.local.credit (length r.local.bag) S.inner.fits z);
        own = n;
        asks = (let a = S.counted.asks in omega arith);
        lines = (let a = S.counted.lines in omega arith);
        naps = nap (j.awake r.place) (rw z at S.inner.naps);
      }
    where
      line : (v : ℕ) → v < r.lines.places → (b : Bool) → has_line (own_setup j.awake r) r.place v
          ≡ b
          → busy_when (known_at r.known kind.Line r.place v) ≡ bit
          (has_line (own_setup j.awake r) r.place v)
      line v l true e = rw e (armed_busy _ (S.armed v l z e))
      line v l false e = rw e (rw (S.there kind.Line v l e) refl)

      nap : (b : Bool) → r.local.count.sleeps + bit (not b) ≡ r.local.count.wakes + 1
          → r.local.count.sleeps ≡ r.local.count.wakes + bit b
      nap true e = omega arith
      nap false e = omega arith

  member_ended : (m : Member I) → Fine j live items stop m × (credits m ≡ 0) → MemberEnded j.awake m
  member_ended (Place x) h = place_ended x.kept h.0.0.sound (worth_none x.kept.local.credit h.1)
  member_ended (Request k) h = tt
  member_ended Refusal h = tt
  member_ended (Parcel k xs) h = absurd (let e = h.1 in omega arith)

  left_none : (xs : List (Member I)) → Each (MemberEnded j.awake) xs → flat_map left_in xs ≡ []
  left_none [] h = refl
  left_none (Place x ∷ xs) h = rw (h.0.empty) (left_none xs h.1)
  left_none (Request k ∷ xs) h = left_none xs h.1
  left_none (Refusal ∷ xs) h = left_none xs h.1
  left_none (Parcel k ys ∷ xs) h = absurd h.0

  none_of : (f : Member I → ℕ) → ((m : Member I) → MemberEnded j.awake m → f m ≡ 0)
      → (xs : List (Member I)) → Each (MemberEnded j.awake) xs → total f xs ≡ 0
  none_of f z [] h = refl
  none_of f z (x ∷ xs) h = let a = z x h.0 in let b = none_of f z xs h.1 in omega arith

  pub ended : live ≡ 0 → Ended j.awake ms
  ended z =
      let zero : total credits ms ≡ 0 = (let e = R.sums.live_is in omega arith) in
      let each : Each (MemberEnded j.awake) ms =
      each_map _ (MemberEnded j.awake) member_ended ms
      (each_both (Fine j live items stop) (λ m. credits m ≡ 0) ms R.each
      (each_zero credits ms zero)) in
      let p1 = none_of (parcels kind.Steal) no_parcel_steal ms each in
      let p2 = none_of (parcels kind.Line) no_parcel_line ms each in
      let p3 = none_of units_in no_units ms each in
      let a1 = total_same (tally (λ c. c.asks))
      (λ m. tally (λ c. c.shrugs) m + tally (λ c. c.got) m) (MemberEnded j.awake) asks_are ms
      each in
      let a2 = total_plus (tally (λ c. c.shrugs)) (tally (λ c. c.got)) ms in
      let e1 = R.sums.asks in let e2 = R.sums.denied in let e3 = R.sums.given in let e4 =
      R.sums.line_given in let e5 = R.sums.units in
      record {
        each = each;
        nothing_left = left_none ms each;
        no_requests = omega arith;
        no_refusals = omega arith;
        no_parcels = (p1, p2);
        given = omega arith;
        line_given = omega arith;
        units = omega arith;
        asks = omega arith;
      }
    where
      no_parcel_steal : (m : Member I) → MemberEnded j.awake m → parcels kind.Steal m ≡ 0
      no_parcel_steal (Place x) h = refl
      no_parcel_steal (Request k) h = refl
      no_parcel_steal Refusal h = refl
      no_parcel_steal (Parcel k xs) h = absurd h

      no_parcel_line : (m : Member I) → MemberEnded j.awake m → parcels kind.Line m ≡ 0
      no_parcel_line (Place x) h = refl
      no_parcel_line (Request k) h = refl
      no_parcel_line Refusal h = refl
      no_parcel_line (Parcel k xs) h = absurd h

      no_units : (m : Member I) → MemberEnded j.awake m → units_in m ≡ 0
      no_units (Place x) h = refl
      no_units (Request k) h = refl
      no_units Refusal h = refl
      no_units (Parcel k xs) h = absurd h

      asks_are : (m : Member I) → MemberEnded j.awake m → tally (λ c. c.asks) m
          ≡ tally (λ c. c.shrugs) m + tally (λ c. c.got) m
      asks_are (Place x) h = h.asks
      asks_are (Request k) h = omega arith
      asks_are Refusal h = omega arith
      asks_are (Parcel k xs) h = absurd h
