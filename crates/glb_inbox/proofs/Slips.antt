-- What each split and each join owes to the table, at a view that is read.
use Rattle.std.proofs.Common.{◌≡◌, ℕ, ◌+◌, ◌<◌, ◌⊎◌, ⊎_elim, true, false, List, [], ◌∷◌, ◌++◌}
use Rattle.std.proofs.Common.{length, Some, None, arith, refl, sym, ◌∙◌, subst, IsPermutation}
use Rattle.std.proofs.Common.{append-nil}
use Rattle.std.proofs.lemmas.List.Sorted.{IsPermutation-refl, IsPermutation-sym}
use Rattle.std.proofs.lemmas.List.Sorted.{IsPermutation-trans, IsPermutation-append_comm}
use Rattle.std.specs.List.{flat_map}
use Rattle.atomic_table.specs.Table.{Me, Splits, Joins}
use Rattle.glb_rules.specs.World.{Asked, Refused, has_edge}
use Rattle.glb_rules.specs.declared.kinds.Kind.{Kind}
use Rattle.glb_rules.specs.declared.kinds.Kind.TheVariants as kind
use Rattle.glb_rules.specs.declared.kinds.Edge.{Edge}
use Rattle.glb_rules.specs.declared.kinds.Edge.TheVariants as seen
use Rattle.glb_rules.specs.declared.kinds.Side.TheVariants as side
use Rattle.glb_rules.specs.declared.event.Event.TheVariants as event
use Rattle.glb_rules.proofs.CallerLemmas.{apart}
use Rattle.glb_place.specs.declared.record.Record.{Record}
use Rattle.glb_place.specs.Records.{May, edge_like, known_at, setup_in}
use Rattle.glb_place.specs.Rows.{ask_row, deny_row, give_row, shrug_row, take_row as takes_in}
use Rattle.glb_place.specs.Calls.{look_row}
use Rattle.glb_inbox.specs.declared.view.Seated.{Seated}
use Rattle.glb_inbox.specs.declared.view.Member.{Member}
use Rattle.glb_inbox.specs.declared.view.Member.TheVariants.{Place, Request, Refusal, Parcel}
use Rattle.glb_inbox.specs.declared.acts.Sent.{Sent}
use Rattle.glb_inbox.specs.declared.acts.Sent.TheVariants.{Ask, Refuse}
use Rattle.glb_inbox.specs.declared.acts.Got.{Got}
use Rattle.glb_inbox.specs.declared.acts.Got.TheVariants.{Hold, Shrug, Take}
use Rattle.glb_inbox.specs.inner.Acts.{sender, sent, MaySend, MayGive, got, Carries, MayGet}
use Rattle.glb_inbox.specs.inner.Acts.{items_in, Undoes, WasSent, WasGiven}
use Rattle.glb_inbox.specs.inner.Members.{wanted, left_in, done_in, total, above}
use Rattle.glb_inbox.specs.inner.Rule.{Job, Sound, Fits, Ruled, Holds, own_setup}
use Rattle.glb_inbox.specs.inner.Views.{one, parted, joined, on_one, undone, record_before, Reads}
use Rattle.glb_inbox.proofs.Exchange.{Fair}
use Rattle.glb_inbox.proofs.Fairness.{ask_fair, deny_fair, give_fair}
use Rattle.glb_inbox.proofs.Tabled.{split_step, join_step}
use Rattle.glb_inbox.proofs.WordSteps.{first_fits}
use Rattle.glb_inbox.proofs.SoundAlone.{line_alike}
use Rattle.glb_inbox.proofs.SoundThief.{sound_asked_steal, sound_asked_line, like_idle, like_asked}
use Rattle.glb_inbox.proofs.SoundThief.{like_refused, like_loot}
use Rattle.glb_inbox.proofs.SeatSteps.{proper_of, asked_keeps, denied_keeps, gave_keeps, held_keeps}
use Rattle.glb_inbox.proofs.SeatSteps.{shrugged_keeps, took_keeps, undone_keeps, apart_in}

pub wanted_now : {I : Type 0} (k : Kind) (x : Edge)
    → ((edge_like {I = I} x ≡ Asked) ⊎ ((k ≡ kind.Line) × (edge_like {I = I} x ≡ Refused)))
    → wanted k x ≡ 1
wanted_now {I = I} k x d = ⊎_elim
    (λ (e : edge_like {I = I} x ≡ Asked). rw (like_asked x e) (asked_wanted k))
    (λ (e : (k ≡ kind.Line) × (edge_like {I = I} x ≡ Refused)). rw (like_refused x e.1, e.0) refl) d
  where
    asked_wanted : (k : Kind) → wanted k seen.Asked ≡ 1
    asked_wanted kind.Steal = refl
    asked_wanted kind.Line = refl

never : (k : Kind) → wanted k seen.Idle ≡ 1 → ⊥
never kind.Steal e = omega arith
never kind.Line e = omega arith

module _ {I : Type 0} (j : Job I) where
  abbrev View : Type 0
  View = Me ℕ (List (Member I))

  -- an edge of the record's setup is one of the job's
  pub edge_alike : (r : Record I) (k : Kind) (t v : ℕ) → has_edge (setup_in r) k t v ≡ true
      → has_edge (own_setup j.awake r) k t v ≡ true
  edge_alike r kind.Steal t v e = e
  edge_alike r kind.Line t v e = line_alike r.lines r.params j.awake (λ p. false) t v ∙ e

  ask_there : (r : Record I) (k : Kind) (v : ℕ) → May r (event.Ask r.place v k)
      → has_edge (own_setup j.awake r) k r.place v ≡ true
  ask_there r kind.Steal v m = edge_alike r kind.Steal r.place v m.2.2
  ask_there r kind.Line v m = edge_alike r kind.Line r.place v m.2.2

  ask_sound : (r : Record I) (k : Kind) (v : ℕ) → May r (event.Ask r.place v k) → Sound j.awake r
      → Sound j.awake (ask_row v k r)
  ask_sound r kind.Steal v m S = sound_asked_steal j.awake r S v m.1.2 m.2.0 m.2.1
      (ask_there r kind.Steal v m) (like_idle _ m.2.3)
  ask_sound r kind.Line v m S = sound_asked_line j.awake r S v m.1.2 m.2.0 m.2.1
      (ask_there r kind.Line v m) (like_idle _ m.2.3)

  split_at : (id : ℕ) (f : List (Member I) → List (Member I)) (right : List (Member I))
      (F : Seated I → Type 0)
      → ((x : Seated I) → F x → (live items stop : ℕ) (rest : List (Member I))
      → Ruled j live items stop (one x ++ rest)
      → Ruled j live items stop ((f (one x) ++ right) ++ rest))
      → (me : View) → Reads me F → Splits {S = ℕ} (Holds j) id me.0 (f me.0) right
  split_at id f right F keep me reads =
      subst (λ (m : View). Splits {S = ℕ} (Holds j) id m.0 (f m.0) right) (sym reads.1)
      (split_step j id (one reads.0) (f (one reads.0)) right (keep reads.0 reads.2))

  pub may_ask : (id v : ℕ) (k : Kind) (me : View)
      → Reads me (λ x. May x.kept (event.Ask x.kept.place v k))
      → Splits {S = ℕ} (Holds j) id me.0 (on_one (λ x. parted (ask_row v k x.kept) x) me.0)
      (Request k ∷ [])
  may_ask id v k = split_at id (on_one (λ x. parted (ask_row v k x.kept) x)) (Request k ∷ []) _
      (λ x m live items stop rest R.
      let F = first_fits j live items stop x rest R in
      asked_keeps j live items stop x k v rest
      (apart (own_setup j.awake x.kept) (proper_of j live items stop x.kept R.good F) k x.kept.place
      v (ask_there x.kept k v m))
      (ask_sound x.kept k v m F.sound) R)

  pub may_deny : (id t : ℕ) (me : View)
      → Reads me (λ x. May x.kept (event.Deny x.kept.place t kind.Steal))
      → Splits {S = ℕ} (Holds j) id me.0
      (on_one (λ x. parted (deny_row t kind.Steal x.kept) x) me.0) (Refusal ∷ [])
  may_deny id t = split_at id (on_one (λ x. parted (deny_row t kind.Steal x.kept) x)) (Refusal ∷ [])
      _
      (λ x m live items stop rest R.
      let F = first_fits j live items stop x rest R in
      let was : known_at x.kept.known kind.Steal t x.kept.place ≡ seen.Asked = like_asked _ m.2.0 in
      denied_keeps j live items stop x t rest
      (apart_in j live items stop x.kept R.good F kind.Steal t (rw was (λ e. cc))) m.1.1 was R)

  pub may_give : (id t : ℕ) (k : Kind) (part : List I) (me : View)
      → Reads me (λ x. MayGive t k part x.rest x.kept)
      → Splits {S = ℕ} (Holds j) id me.0
      (on_one (λ x. parted (give_row t k part x.rest x.kept) x) me.0) (Parcel k part ∷ [])
  may_give id t k part = split_at id (on_one (λ x. parted (give_row t k part x.rest x.kept) x))
      (Parcel k part ∷ []) _
      (λ x m live items stop rest R.
      let f = m.may.2 in
      let l = m.may.1.1 in
      let w = wanted_now k _ f.2 in
      let d = apart_in j live items stop x.kept R.good (first_fits j live items stop x rest R) k t
      (λ e. (let z : wanted k seen.Idle ≡ 1 = rw e at w in never k z)) in
      gave_keeps j live items stop x k t part x.rest rest d l w f.0 f.1 m.some m.more m.perm R)

  join_at : (id other : ℕ) (f : List (Member I) → List (Member I)) (slip : List (Member I))
      (F : Seated I → Type 0)
      → ((x : Seated I) → F x → (live items stop : ℕ) (rest : List (Member I))
      → Ruled j live items stop (one x ++ (slip ++ rest))
      → Ruled j live items stop (f (one x) ++ ([] ++ rest)))
      → (me : View) (w : View) → Reads me F → w ≡ (slip, [])
      → Joins {S = ℕ} (Holds j) id me.0 other w.0 (f me.0) []
  join_at id other f slip F keep me w reads is =
      subst (λ (n : View). Joins {S = ℕ} (Holds j) id me.0 other n.0 (f me.0) []) (sym is)
      (subst (λ (m : View). Joins {S = ℕ} (Holds j) id m.0 other slip (f m.0) []) (sym reads.1)
      (join_step j id other (one reads.0) slip (f (one reads.0)) [] (keep reads.0 reads.2)))

  -- what a place owes that comes to know that it is asked
  pub record MayHold (t : ℕ) (k : Kind) (r : Record I) : Type 0 where
    pub near : t < r.lines.places
    pub there : has_edge (setup_in r) k t r.place ≡ true
    pub new : wanted k (known_at r.known k t r.place) ≡ 0

  pub may_hold : (id other t : ℕ) (k : Kind) (me w : View) → Reads me (λ x. MayHold t k x.kept)
      → w ≡ (Request k ∷ [], [])
      → Joins {S = ℕ} (Holds j) id me.0 other w.0
      (on_one (λ x. joined (look_row t k side.Inward seen.Asked x.kept) x) me.0) []
  may_hold id other t k = join_at id other
      (on_one (λ x. joined (look_row t k side.Inward seen.Asked x.kept) x)) (Request k ∷ []) _
      (λ x m live items stop rest R.
      let F = first_fits j live items stop x _ R in
      held_keeps j live items stop x k t rest
      (λ e. apart (own_setup j.awake x.kept) (proper_of j live items stop x.kept R.good F) k t
      x.kept.place (edge_alike x.kept k t x.kept.place m.there) (sym e))
      m.near m.new R)

  pub may_shrug : (id other v : ℕ) (me w : View)
      → Reads me (λ x. May x.kept (event.Shrug x.kept.place v kind.Steal)) → w ≡ (Refusal ∷ [], [])
      → Joins {S = ℕ} (Holds j) id me.0 other w.0
      (on_one (λ x. joined (shrug_row v kind.Steal x.kept) x) me.0) []
  may_shrug id other v = join_at id other (on_one (λ x. joined (shrug_row v kind.Steal x.kept) x))
      (Refusal ∷ []) _
      (λ x m live items stop rest R. shrugged_keeps j live items stop x v rest m.1.2 m.2.0
      (like_refused _ m.2.1) R)

  pub may_take : (id other v : ℕ) (k : Kind) (part : List I) (me w : View) → 0 < length part
      → Reads me (λ x. May x.kept (event.Take x.kept.place v k)) → w ≡ (Parcel k part ∷ [], [])
      → Joins {S = ℕ} (Holds j) id me.0 other w.0
      (on_one (λ x. joined (takes_in v k part (part ++ x.kept.local.bag) x.kept) x) me.0) []
  may_take id other v k part me w some =
      join_at id other (on_one
      (λ x. joined (takes_in v k part (part ++ x.kept.local.bag) x.kept) x)) (Parcel k part ∷ []) _
      (λ x m live items stop rest R. took_keeps j live items stop x k v part rest m.1.2
      (like_loot _ m.2.0.0 m.2.0.1) m.2.1 some R) me w

  undo_with : (live items stop : ℕ) (x : Seated I) (row : Record I → Record I) (r : Record I)
      (m : Member I) (rest : List (Member I))
      → x.before ≡ Some r → x.kept ≡ row r
      → Fair j live items live items (one (joined r x))
      (Place (record {
        kept = row r;
        before = x.before;
        rest = x.rest;
        steps = x.steps;
        found = x.found;
      }) ∷ m ∷ [])
      → (row r).last ≡ r.last → total (above j.params.limit) (m ∷ []) ≡ 0
      → (row r).local.done ≡ r.local.done → flat_map done_in (m ∷ []) ≡ []
      → IsPermutation ((row r).local.bag ++ (left_in m ++ [])) (r.local.bag ++ [])
      → Ruled j live items stop (one x ++ (m ∷ [] ++ rest))
      → Ruled j live items stop (one (undone x) ++ ([] ++ rest))
  undo_with live items stop x row r m rest was is fair last none done none_done left R =
      subst (λ b. Ruled j live items stop (one (joined (record_before b x.kept) x) ++ ([] ++ rest)))
      (sym was)
      (undone_keeps j live items stop x r m rest was
      (subst (λ q. Fair j live items live items (one (joined r x))
      (Place (record {
        kept = q;
        before = x.before;
        rest = x.rest;
        steps = x.steps;
        found = x.found;
      }) ∷ m ∷ [])) (sym is) fair)
      (rw is (sym last)) none
      (rw (is, none_done, done) (IsPermutation-refl _))
      (rw is left) R)

  pub may_undo_ask : (id other v : ℕ) (k : Kind) (me w : View)
      → Reads me (Undoes (ask_row v k) (λ r. has_edge (setup_in r) k r.place v ≡ true))
      → w ≡ (Request k ∷ [], []) → Joins {S = ℕ} (Holds j) id me.0 other w.0 (on_one undone me.0) []
  may_undo_ask id other v k = join_at id other (on_one undone) (Request k ∷ []) _
      (λ x u live items stop rest R.
      let E : Fits j live items stop u.old = rw (u.before) at (R.each.0.1) in
      undo_with live items stop x (ask_row v k) u.old (Request k) rest u.before u.is
      (ask_fair j live items u.old None x.before [] x.rest (x.steps + 1) x.found x.steps x.found k v
      (apart (own_setup j.awake u.old) (proper_of j live items stop u.old R.good E) k u.old.place v
      (edge_alike u.old k u.old.place v u.may)))
      refl refl refl refl (IsPermutation-refl _) R)

  pub may_undo_deny : (id other t : ℕ) (me w : View)
      → Reads me (Undoes (deny_row t kind.Steal) (λ r. (t < r.lines.places)
      × (known_at r.known kind.Steal t r.place ≡ seen.Asked)))
      → w ≡ (Refusal ∷ [], []) → Joins {S = ℕ} (Holds j) id me.0 other w.0 (on_one undone me.0) []
  may_undo_deny id other t = join_at id other (on_one undone) (Refusal ∷ []) _
      (λ x u live items stop rest R.
      undo_with live items stop x (deny_row t kind.Steal) u.old Refusal rest u.before u.is
      (deny_fair j live items u.old None x.before [] x.rest (x.steps + 1) x.found x.steps x.found t
      u.may.0 u.may.1)
      refl refl refl refl (IsPermutation-refl _) R)

  pub may_undo_give : (id other t : ℕ) (k : Kind) (part left : List I) (me w : View)
      → Reads me (Undoes (give_row t k part left) (WasGiven t k part left))
      → w ≡ (Parcel k part ∷ [], [])
      → Joins {S = ℕ} (Holds j) id me.0 other w.0 (on_one undone me.0) []
  may_undo_give id other t k part left = join_at id other (on_one undone) (Parcel k part ∷ []) _
      (λ x u live items stop rest R.
      undo_with live items stop x (give_row t k part left) u.old (Parcel k part) rest u.before u.is
      (give_fair j live items u.old None x.before [] x.rest (x.steps + 1) x.found x.steps x.found k
      t part left u.may.near u.may.asked_for u.may.minted)
      refl refl refl refl
      (rw (append-nil part, append-nil u.old.local.bag)
      (IsPermutation-trans _ _ _ (IsPermutation-append_comm left part)
      (IsPermutation-sym _ _ u.may.perm)))
      R)

  pub may_send : (id : ℕ) (act : Sent) (me : View) → Reads me (λ x. MaySend act x.kept)
      → Splits {S = ℕ} (Holds j) id me.0 (on_one (λ x. parted (sender act x.kept) x) me.0)
      (sent act)
  may_send id (Ask v k) me reads = may_ask id v k me reads
  may_send id (Refuse t) me reads = may_deny id t me reads

  whole : (me : View) (v : List (Member I)) → me.1 ≡ [] → me.0 ≡ v → me ≡ (v, [])
  whole me v a b = λ i. (b i, a i)

  pub may_get : (id other : ℕ) (act : Got) (me w : View) → Reads me (λ x. MayGet act x.kept)
      → w.1 ≡ [] → Carries act w.0
      → Joins {S = ℕ} (Holds j) id me.0 other w.0 (on_one (λ x. joined (got act w.0 x.kept) x) me.0)
      []
  may_get id other (Hold t k) me w reads free is =
      may_hold id other t k me w
      (reads.0, reads.1, record { near = reads.2.0; there = reads.2.1; new = reads.2.2 })
      (whole w (Request k ∷ []) free is)
  may_get id other (Shrug v) me w reads free is = may_shrug id other v me w reads
      (whole w (Refusal ∷ []) free is)
  may_get id other (Take v k) me w reads free is =
      subst (λ l. Joins {S = ℕ} (Holds j) id me.0 other w.0
      (on_one (λ x. joined (takes_in v k (items_in l) (items_in l ++ x.kept.local.bag) x.kept)
      x) me.0) [])
      (sym is.2) (may_take id other v k is.0 me w is.1 reads
      (whole w (Parcel k is.0 ∷ []) free is.2))

  pub may_take_back : (id other : ℕ) (act : Sent) (me w : View)
      → Reads me (Undoes (sender act) (WasSent act)) → w ≡ (sent act, [])
      → Joins {S = ℕ} (Holds j) id me.0 other w.0 (on_one undone me.0) []
  may_take_back id other (Ask v k) me w reads is = may_undo_ask id other v k me w reads is
  may_take_back id other (Refuse t) me w reads is = may_undo_deny id other t me w reads is
