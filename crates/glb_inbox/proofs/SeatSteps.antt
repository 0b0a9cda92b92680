-- Each split and each join of a seat, and each step that moves the record alone, keeps the rule.
use Rattle.std.proofs.Common.{◌≡◌, ◌≢◌, ℕ, ◌+◌, ◌<◌, ◌⊎◌, Bool, true, false, cond, ◌&&◌, List, []}
use Rattle.std.proofs.Common.{◌∷◌, ◌++◌, length, Some, None, refl, sym, ⊎_elim, arith, ◌∙◌, ap}
use Rattle.std.proofs.Common.{append-nil, IsPermutation}
use Rattle.std.specs.List.{flat_map}
use Rattle.std.proofs.lemmas.List.Sorted.{IsPermutation-refl, IsPermutation-trans}
use Rattle.std.proofs.lemmas.List.Sorted.{IsPermutation-append_left, IsPermutation-append_comm}
use Rattle.glb_laws.proofs.Expansions.{expansion_order}
use Rattle.glb_rules.specs.World.{has_edge, mark_at, credit_count}
use Rattle.glb_rules.specs.Effects.{credit_after_take}
use Rattle.glb_rules.specs.Steps.{IsReady}
use Rattle.glb_rules.specs.Setups.{IsProper}
use Rattle.glb_rules.specs.Decision.{is_mark}
use Rattle.glb_rules.specs.declared.kinds.Kind.{Kind}
use Rattle.glb_rules.specs.declared.kinds.Kind.TheVariants as kind
use Rattle.glb_rules.specs.declared.kinds.Edge.{Edge}
use Rattle.glb_rules.specs.declared.kinds.Edge.TheVariants as seen
use Rattle.glb_rules.specs.declared.kinds.Mark.TheVariants as mark
use Rattle.glb_rules.specs.declared.kinds.Phase.TheVariants as phase
use Rattle.glb_rules.specs.declared.kinds.Credit.{Credit}
use Rattle.glb_rules.specs.declared.kinds.Credit.TheVariants as credit
use Rattle.glb_rules.specs.declared.kinds.Side.{Side}
use Rattle.glb_rules.specs.declared.kinds.Side.TheVariants as side
use Rattle.glb_rules.proofs.CallerLemmas.{apart, eq_self}
use Rattle.glb_place.specs.declared.record.Record.{Record}
use Rattle.glb_place.specs.Records.{known_at}
use Rattle.glb_place.specs.Rows.{known_row, mark_row, ask_row, deny_row, give_row, shrug_row}
use Rattle.glb_place.specs.Rows.{take_row as takes_in}
use Rattle.glb_place.specs.Calls.{look_row, is_working, is_inward, edge_with}
use Rattle.glb_inbox.specs.declared.view.Seated.{Seated}
use Rattle.glb_inbox.specs.declared.view.Member.{Member}
use Rattle.glb_inbox.specs.declared.view.Member.TheVariants.{Place, Request, Refusal, Parcel}
use Rattle.glb_inbox.specs.inner.Members.{held, wanted, left_in, done_in, total, Each, above}
use Rattle.glb_inbox.specs.inner.Rule.{Job, IsGoodJob, Sound, Fits, Fine, Ruled, own_setup}
use Rattle.glb_inbox.specs.inner.Views.{stepped, parted, joined, one}
use Rattle.glb_inbox.proofs.Exchange.{Fair, exchanged}
use Rattle.glb_inbox.proofs.Fairness.{ask_fair, deny_fair, give_fair, take_fair, shrug_fair}
use Rattle.glb_inbox.proofs.Fairness.{hold_fair, alike_fair}
use Rattle.glb_inbox.proofs.SoundThief.{sound_shrugged_steal, sound_took, is_there, taker}
use Rattle.glb_inbox.proofs.SoundVictim.{sound_denied, sound_gave, sound_looked_in}
use Rattle.glb_inbox.proofs.WordSteps.{first_fits}

-- a record that is another but for its phase, its marks and what it knows
pub record LooksLike {I : Type 0} (r q : Record I) : Type 0 where
  pub place : q.place ≡ r.place
  pub params : q.params ≡ r.params
  pub lines : q.lines ≡ r.lines
  pub count : q.local.count ≡ r.local.count
  pub credit_is : q.local.credit ≡ r.local.credit
  pub part_done : q.local.done ≡ r.local.done
  pub part_bag : q.local.bag ≡ r.local.bag
  pub last : q.last ≡ r.last
  pub over : q.over ≡ r.over
  pub code : q.code ≡ r.code

abbrev pub like_itself : {I : Type 0} (r : Record I) → LooksLike r r
like_itself r = record {
  place = refl;
  params = refl;
  lines = refl;
  count = refl;
  credit_is = refl;
  part_done = refl;
  part_bag = refl;
  last = refl;
  over = refl;
  code = refl;
}

pub looked_same : {I : Type 0} (other : ℕ) (k : Kind) (s : Side) (x : Edge) (r : Record I)
    → LooksLike r (look_row other k s x r)
looked_same other k s x r =
    go (is_inward s && (is_working r.local.phase && is_mark mark.Unseen
    (mark_at r.local.marks k other)))
  where
    go : (b : Bool) → LooksLike r
        (cond b (mark_row other k x r) (known_row (edge_with r.place other k s) x r))
    go true = record {
      place = refl;
      params = refl;
      lines = refl;
      count = refl;
      credit_is = refl;
      part_done = refl;
      part_bag = refl;
      last = refl;
      over = refl;
      code = refl;
    }
    go false = record {
      place = refl;
      params = refl;
      lines = refl;
      count = refl;
      credit_is = refl;
      part_done = refl;
      part_bag = refl;
      last = refl;
      over = refl;
      code = refl;
    }

given_items : {I : Type 0} (bag part left : List I) → IsPermutation bag (part ++ left)
    → IsPermutation (bag ++ []) (left ++ (part ++ []))
given_items bag part left p = rw (append-nil bag, append-nil part)
    (IsPermutation-trans _ _ _ p (IsPermutation-append_comm part left))

taken_items : {I : Type 0} (bag part : List I)
    → IsPermutation (bag ++ (part ++ [])) ((part ++ bag) ++ [])
taken_items bag part = rw (append-nil part, append-nil (part ++ bag))
    (IsPermutation-append_comm bag part)

took_worth : {k : Kind} {f : ℕ} (c : Credit) → ((c ≡ credit.One) × (f ≡ 0))
    ⊎ ((c ≡ credit.Zero) × (f ≡ 1) × (k ≡ kind.Line)) → credit_count (credit_after_take c)
    ≡ credit_count c + 1
took_worth c d = ⊎_elim (λ a. let e : c ≡ credit.One = a.0 in rw e refl)
    (λ a. let e : c ≡ credit.Zero = a.0 in rw e refl) d

fair_back : {I : Type 0} (j : Job I) (live items : ℕ) (olds news : List (Member I))
    → Fair j live items live items olds news → Fair j live items live items news olds
fair_back j live items olds news F = record {
  places = sym F.places;
  asks = (let e = F.asks in omega arith);
  lines = (let e = F.lines in omega arith);
  denied = (let e = F.denied in omega arith);
  given = (let e = F.given in omega arith);
  line_given = (let e = F.line_given in omega arith);
  units = (let e = F.units in omega arith);
  live_is = (let e = F.live_is in omega arith);
  items_are = (let e = F.items_are in omega arith);
}

module _ {I : Type 0} (j : Job I) where
  pub proper_of : (live items stop : ℕ) (r : Record I) → IsGoodJob j → Fits j live items stop r
      → IsProper (own_setup j.awake r)
  proper_of live items stop r G F = rw (F.lines_are, F.params_are) G.proper

  -- an in-edge that is known as other than Idle comes from another place
  pub apart_in : (live items stop : ℕ) (r : Record I) → IsGoodJob j → Fits j live items stop r
      → (k : Kind) (t : ℕ)
      → known_at r.known k t r.place ≢ seen.Idle → r.place ≢ t
  apart_in live items stop r G F k t n e =
      n (ap (λ u. known_at r.known k u r.place) (sym e) ∙ F.sound.there k r.place F.sound.near
      (absent k))
    where
      absent : (k : Kind) → has_edge (own_setup j.awake r) k r.place r.place ≡ false
      absent kind.Steal = rw (eq_self r.place) refl
      absent kind.Line = (proper_of live items stop r G F).no_loop r.place

  -- a row that changes neither the parameters nor what the record keeps with the words
  fits_row : (live items stop : ℕ) (r q : Record I) → Fits j live items stop r → Sound j.awake q
      → q.params ≡ r.params → q.lines ≡ r.lines → q.over ≡ r.over → q.code ≡ r.code
      → q.last ≡ r.last
      → Fits j live items stop q
  fits_row live items stop r q F S a b c d e = record {
    params_are = a ∙ F.params_are;
    lines_are = b ∙ F.lines_are;
    sound = S;
    meets = record { over = rw c F.meets.over; code = rw d F.meets.code; last = rw e F.meets.last };
  }

  -- members become others, and no word changes
  pub moved_keeps : (live items stop : ℕ) (olds news rest : List (Member I))
      → Fair j live items live items olds news
      → Each (Fine j live items stop) news
      → IsPermutation (flat_map done_in olds) (flat_map done_in news)
      → IsPermutation (flat_map left_in olds) (flat_map left_in news)
      → total (above j.params.limit) news ≡ total (above j.params.limit) olds
      → Ruled j live items stop (olds ++ rest) → Ruled j live items stop (news ++ rest)
  moved_keeps live items stop olds news rest fair fine d l same R =
      exchanged j live items stop live items stop olds news rest (record {
        fair = fair;
        fine = fine;
        others = λ m h. h;
        expansion = λ ds ls e. expansion_order j.children j.roots _ _ _ _
            (IsPermutation-append_left ds _ _ d)
            (IsPermutation-append_left ls _ _ l) e;
        small = λ m h. rw same h;
        cause = λ h. h;
        codes = λ h. h;
      }) R

  -- a request is split off
  pub asked_keeps : (live items stop : ℕ) (x : Seated I) (k : Kind) (v : ℕ) (rest : List (Member I))
      → x.kept.place ≢ v
      → Sound j.awake (ask_row v k x.kept) → Ruled j live items stop (one x ++ rest)
      → Ruled j live items stop ((one (parted (ask_row v k x.kept) x) ++ Request k ∷ []) ++ rest)
  asked_keeps live items stop x k v rest d S R =
      let F = first_fits j live items stop x rest R in
      moved_keeps live items stop (one x) (Place (parted (ask_row v k x.kept) x) ∷ Request k ∷ [])
      rest
      (ask_fair j live items x.kept x.before (Some x.kept) x.rest [] x.steps x.found (x.steps + 1)
      x.found k v d) (
        (fits_row live items stop x.kept (ask_row v k x.kept) F S refl refl refl refl refl, F),
        (tt, tt),
      )
      (IsPermutation-refl _) (IsPermutation-refl _) refl R

  -- a refusal is split off
  pub denied_keeps : (live items stop : ℕ) (x : Seated I) (t : ℕ) (rest : List (Member I))
      → x.kept.place ≢ t → t < x.kept.lines.places
      → known_at x.kept.known kind.Steal t x.kept.place ≡ seen.Asked
      → Ruled j live items stop (one x ++ rest)
      → Ruled j live items stop
      ((one (parted (deny_row t kind.Steal x.kept) x) ++ Refusal ∷ []) ++ rest)
  denied_keeps live items stop x t rest d l was R =
      let F = first_fits j live items stop x rest R in
      let S = sound_denied j.awake x.kept F.sound t kind.Steal d in
      moved_keeps live items stop (one x)
      (Place (parted (deny_row t kind.Steal x.kept) x) ∷ Refusal ∷ []) rest
      (deny_fair j live items x.kept x.before (Some x.kept) x.rest [] x.steps x.found (x.steps + 1)
      x.found t l was) (
        (
          fits_row live items stop x.kept (deny_row t kind.Steal x.kept) F S refl refl refl refl
              refl,
          F,
        ),
        (tt, tt),
      )
      (IsPermutation-refl _) (IsPermutation-refl _) refl R

  -- a part is split off
  pub gave_keeps : (live items stop : ℕ) (x : Seated I) (k : Kind) (t : ℕ) (part left : List I)
      (rest : List (Member I))
      → x.kept.place ≢ t → t < x.kept.lines.places
      → wanted k (known_at x.kept.known k t x.kept.place) ≡ 1
      → x.kept.local.phase ≡ phase.Working → x.kept.local.credit ≡ credit.Minted → 0 < length part
      → 0 < length left
      → IsPermutation x.kept.local.bag (part ++ left) → Ruled j live items stop (one x ++ rest)
      → Ruled j live items stop
      ((one (parted (give_row t k part left x.kept) x) ++ Parcel k part ∷ []) ++ rest)
  gave_keeps live items stop x k t part left rest d l was working minted some more perm R =
      let F = first_fits j live items stop x rest R in
      let S = sound_gave j.awake x.kept F.sound t k part left d working minted more in
      moved_keeps live items stop (one x)
      (Place (parted (give_row t k part left x.kept) x) ∷ Parcel k part ∷ []) rest
      (give_fair j live items x.kept x.before (Some x.kept) x.rest [] x.steps x.found (x.steps + 1)
      x.found k t part left l was minted) (
        (
          fits_row live items stop x.kept (give_row t k part left x.kept) F S refl refl refl refl
              refl,
          F,
        ),
        (some, tt),
      )
      (IsPermutation-refl _) (given_items x.kept.local.bag part left perm) refl R

  -- a request is joined
  pub held_keeps : (live items stop : ℕ) (x : Seated I) (k : Kind) (t : ℕ) (rest : List (Member I))
      → x.kept.place ≢ t
      → t < x.kept.lines.places → wanted k (known_at x.kept.known k t x.kept.place) ≡ 0
      → Ruled j live items stop (one x ++ (Request k ∷ [] ++ rest))
      → Ruled j live items stop
      (one (joined (look_row t k side.Inward seen.Asked x.kept) x) ++ ([] ++ rest))
  held_keeps live items stop x k t rest d l was R =
      let F = first_fits j live items stop x (Request k ∷ rest) R in
      let S = sound_looked_in j.awake x.kept F.sound t k seen.Asked d in
      let q = look_row t k side.Inward seen.Asked x.kept in
      let same = looked_same t k side.Inward seen.Asked x.kept in
      moved_keeps live items stop (Place x ∷ Request k ∷ []) (one (joined q x)) rest
      (hold_fair j live items x.kept x.before None x.rest [] x.steps x.found (x.steps + 1) x.found k
      t l was) (
        (
          fits_row live items stop x.kept q F S same.params same.lines same.over same.code
              same.last,
          tt,
        ),
        tt,
      )
      (rw same.part_done (IsPermutation-refl _)) (rw same.part_bag (IsPermutation-refl _))
      (rw same.last refl) R

  -- a refusal is joined
  pub shrugged_keeps : (live items stop : ℕ) (x : Seated I) (v : ℕ) (rest : List (Member I))
      → v < x.kept.lines.places
      → x.kept.local.phase ≡ phase.Waiting v kind.Steal
      → known_at x.kept.known kind.Steal x.kept.place v ≡ seen.Refused
      → Ruled j live items stop (one x ++ (Refusal ∷ [] ++ rest))
      → Ruled j live items stop (one (joined (shrug_row v kind.Steal x.kept) x) ++ ([] ++ rest))
  shrugged_keeps live items stop x v rest l waits was R =
      let F = first_fits j live items stop x (Refusal ∷ rest) R in
      let d = apart (own_setup j.awake x.kept) (proper_of live items stop x.kept R.good F)
      kind.Steal x.kept.place v
      (is_there j.awake x.kept F.sound kind.Steal v l (rw was (λ e. cc))) in
      let S = sound_shrugged_steal j.awake x.kept F.sound v l waits was in
      moved_keeps live items stop (Place x ∷ Refusal ∷ [])
      (one (joined (shrug_row v kind.Steal x.kept) x)) rest
      (shrug_fair j live items x.kept x.before None x.rest [] x.steps x.found (x.steps + 1) x.found
      v d) (
        (
          fits_row live items stop x.kept (shrug_row v kind.Steal x.kept) F S refl refl refl refl
              refl,
          tt,
        ),
        tt,
      )
      (IsPermutation-refl _) (IsPermutation-refl _) refl R

  -- a part is joined
  pub took_keeps : (live items stop : ℕ) (x : Seated I) (k : Kind) (v : ℕ) (part : List I)
      (rest : List (Member I))
      → v < x.kept.lines.places → known_at x.kept.known k x.kept.place v ≡ seen.Loot
      → ((x.kept.local.phase ≡ phase.Waiting v k) × (x.kept.local.credit ≡ credit.One))
      ⊎ ((k ≡ kind.Line) × IsReady x.kept.local)
      → 0 < length part → Ruled j live items stop (one x ++ (Parcel k part ∷ [] ++ rest))
      → Ruled j live items stop
      (one (joined (takes_in v k part (part ++ x.kept.local.bag) x.kept) x) ++ ([] ++ rest))
  took_keeps live items stop x k v part rest l was ready some R =
      let F = first_fits j live items stop x (Parcel k part ∷ rest) R in
      let d = apart (own_setup j.awake x.kept) (proper_of live items stop x.kept R.good F) k
      x.kept.place v
      (is_there j.awake x.kept F.sound k v l (rw was (λ e. cc))) in
      let S = sound_took j.awake x.kept F.sound k v part l was ready some in
      let q = takes_in v k part (part ++ x.kept.local.bag) x.kept in
      moved_keeps live items stop (Place x ∷ Parcel k part ∷ []) (one (joined q x)) rest
      (take_fair j live items x.kept x.before None x.rest [] x.steps x.found (x.steps + 1) x.found k
      v part (part ++ x.kept.local.bag) d
      (took_worth x.kept.local.credit (taker j.awake x.kept F.sound k v ready)))
      ((fits_row live items stop x.kept q F S refl refl refl refl refl, tt), tt)
      (IsPermutation-refl _) (taken_items x.kept.local.bag part) refl R

  -- the record alone moves: a look without a message, a line that is denied or given up
  pub alike_keeps : (live items stop : ℕ) (x : Seated I) (q : Record I) (n : ℕ)
      (rest : List (Member I)) → Sound j.awake q
      → LooksLike x.kept q → ((k : Kind) → held k q ≡ held k x.kept)
      → Ruled j live items stop (one x ++ rest)
      → Ruled j live items stop (one (stepped q n x) ++ rest)
  alike_keeps live items stop x q n rest S same held R =
      let F = first_fits j live items stop x rest R in
      moved_keeps live items stop (one x) (one (stepped q n x)) rest
      (alike_fair j live items x.kept x.before None x.rest [] x.steps x.found (x.steps + 1) n q
      (record {
        place = same.place;
        count = same.count;
        credit = same.credit_is;
        done = same.part_done;
        bag = same.part_bag;
        last = same.last;
        held_is = held;
      })) (
        (
          fits_row live items stop x.kept q F S same.params same.lines same.over same.code
              same.last,
          tt,
        ),
        tt,
      )
      (rw same.part_done (IsPermutation-refl _)) (rw same.part_bag (IsPermutation-refl _))
      (rw same.last refl) R

  -- a message that was not sent is joined again, and the record is the one before
  pub undone_keeps : (live items stop : ℕ) (x : Seated I) (r : Record I) (m : Member I)
      (rest : List (Member I)) → x.before ≡ Some r
      → Fair j live items live items (one (joined r x)) (Place x ∷ m ∷ [])
      → r.last ≡ x.kept.last → total (above j.params.limit) (m ∷ []) ≡ 0
      → IsPermutation (flat_map done_in (Place x ∷ m ∷ [])) (r.local.done ++ [])
      → IsPermutation (flat_map left_in (Place x ∷ m ∷ [])) (r.local.bag ++ [])
      → Ruled j live items stop (one x ++ (m ∷ [] ++ rest))
      → Ruled j live items stop (one (joined r x) ++ ([] ++ rest))
  undone_keeps live items stop x r m rest was fair last none d l R =
      let E = R.each.0.1 in
      let F : Fits j live items stop r = rw was at E in
      moved_keeps live items stop (Place x ∷ m ∷ []) (one (joined r x)) rest
      (fair_back j live items (one (joined r x)) (Place x ∷ m ∷ []) fair)
      ((F, tt), tt) d l (back_above last none) R
    where
      back_above : r.last ≡ x.kept.last → total (above j.params.limit) (m ∷ []) ≡ 0
          → total (above j.params.limit) (one (joined r x)) ≡ total (above j.params.limit)
          (Place x ∷ m ∷ [])
      back_above last none = rw last (omega arith)
