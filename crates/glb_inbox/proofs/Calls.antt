-- What each step on a word owes to the table, at a view that is read.
use mathlib.Core.Option as maybe
use Rattle.std.proofs.Common.{◌≡◌, ◌≢◌, ℕ, ◌+◌, ◌-◌, ◌*◌, ◌%◌, ◌<◌, ◌≤◌, ◌⊎◌, Bool, true, false}
use Rattle.std.proofs.Common.{cond, ◌==◌, List, [], ◌∷◌, ◌++◌, length, max, refl, sym, ap, ◌∙◌}
use Rattle.std.proofs.Common.{subst, arith}
use Rattle.std.proofs.Math.Nat.{mod-eq_of_lt}
use Rattle.std.proofs.lemmas.Nat.{mod-mul-add}
use Rattle.std.proofs.lemmas.Bool.Decides.{nat_tests}
use Rattle.atomic_table.specs.Table.{Me, Allows, step}
use Rattle.glb_rules.specs.Lawful.{PhaseFits}
use Rattle.glb_rules.specs.declared.kinds.Phase.TheVariants as phase
use Rattle.glb_rules.specs.declared.kinds.Credit.TheVariants as credit
use Rattle.glb_rules.specs.declared.event.Event.TheVariants as event
use Rattle.glb_place.specs.declared.record.Record.{Record}
use Rattle.glb_place.specs.Records.{May}
use Rattle.glb_place.specs.Calls.{HasMore}
use Rattle.glb_place.specs.Rows.{batch_row, mint_row, burn_row, sleep_row, over_row, halt_row}
use Rattle.glb_place.specs.Rows.{halted_row}
use Rattle.glb_inbox.specs.declared.view.Seated.{Seated}
use Rattle.glb_inbox.specs.declared.view.Member.{Member}
use Rattle.glb_inbox.specs.declared.view.Member.TheVariants.{Place, Request, Refusal, Parcel}
use Rattle.glb_inbox.specs.inner.Acts.{MayBatch, Takes}
use Rattle.glb_inbox.specs.inner.Members.{held}
use Rattle.glb_inbox.specs.inner.Rule.{Job, IsGoodJob, Fits, Sound, Ruled, Holds}
use Rattle.glb_inbox.specs.inner.Views.{stepped, spared, one, Reads}
use Rattle.glb_inbox.specs.inner.Plays.{Notes, Mints, Burns, Sleeps, ended_at, Ends, Halts, Stops}
use Rattle.glb_inbox.specs.inner.Plays.{Settling, Sparing, ReadsLive, ReadsItems, ReadsStop}
use Rattle.glb_inbox.specs.inner.Close.{as_places, LiveTells, ItemsTell, StopTells}
use Rattle.glb_inbox.proofs.Tabled.{three, Turns, word_step, read_step}
use Rattle.glb_inbox.proofs.Closing.{live_tells, items_tell, stop_tells}
use Rattle.glb_inbox.proofs.Consequences.{live_small, items_small}
use Rattle.glb_inbox.proofs.WordSteps.{paid, first_fits, minted_keeps, burnt_keeps, slept_keeps}
use Rattle.glb_inbox.proofs.WordSteps.{left_over_keeps, seen_keeps, spared_keeps, halted_keeps}
use Rattle.glb_inbox.proofs.WordSteps.{read_keeps, settled_keeps}
use Rattle.glb_inbox.proofs.SeatSteps.{LooksLike, alike_keeps}

module _ {I : Type 0} (j : Job I) where
  abbrev View : Type 0
  View = Me ℕ (List (Member I))

  lift : (slots id w : ℕ) (f : ℕ → ℕ) (T : View → ℕ → View → Type 0) (F : Seated I → Type 0)
      → ((x : Seated I) → F x → Turns j w f x (T (one x, [])))
      → (me : View) → Reads me F → Allows (Holds j) slots id me w f (T me)
  lift slots id w f T F turns me reads =
      subst (λ (m : View). Allows (Holds j) slots id m w f (T m)) (sym reads.1)
      (word_step j slots id w f reads.0 (T (one reads.0, [])) (turns reads.0 reads.2))

  pub may_mint : (slots id : ℕ) (me : View) → Reads me (λ x. May x.kept (event.Mint x.kept.place))
      → Allows (Holds j) slots id me 0 (λ n. (n + 1) % 18446744073709551616)
      (Mints (step slots 0 1 0 maybe.none) me)
  may_mint slots id = lift slots id 0 (λ n. (n + 1) % 18446744073709551616)
      (Mints (step slots 0 1 0 maybe.none)) _
      (λ x m live items stop rest R. record {
        view = one (stepped (mint_row x.kept) live x);
        live2 = live + 1;
        items2 = items;
        stop2 = stop;
        words = ap (λ n. three n items stop)
            (mod-eq_of_lt (let s = live_small j live items stop _ R in omega arith));
        ruled = minted_keeps j live items stop x live rest m.2.0 m.2.1 R;
        told = refl;
      })

  below : (live : ℕ) → 1 ≤ live → live < 18446744073709551616
      → (live + 18446744073709551615) % 18446744073709551616 ≡ live - 1
  below live some lt =
      let m : live + 18446744073709551615 ≡ 1 * 18446744073709551616 + (live - 1) = omega arith in
      ap (λ (x : ℕ). x % 18446744073709551616) m ∙ mod-mul-add 1 18446744073709551616 (live - 1)
      (omega arith)

  pub may_burn : (slots id : ℕ) (me : View) → Reads me (λ x. May x.kept (event.Burn x.kept.place))
      → Allows (Holds j) slots id me 0 (λ n. (n + 18446744073709551615) % 18446744073709551616)
      (Burns (step slots 0 1 0 maybe.none) me)
  may_burn slots id = lift slots id 0 (λ n. (n + 18446744073709551615) % 18446744073709551616)
      (Burns (step slots 0 1 0 maybe.none)) _
      (λ x m live items stop rest R.
      let taken : x.kept.local.credit ≡ credit.Taken = m.2 in
      let some : 2 ≤ live = rw taken at (paid j live items stop x rest R) in
      let s = live_small j live items stop _ R in
      record {
        view = one (stepped (burn_row x.kept) live x);
        live2 = live - 1;
        items2 = items;
        stop2 = stop;
        words = ap (λ n. three n items stop) (below live (omega arith) (omega arith));
        ruled = burnt_keeps j live items stop x live rest taken R;
        told = refl;
      })

  pub may_sleep : (slots id : ℕ) (me : View) → Reads me (λ x. May x.kept (event.Sleep x.kept.place))
      → Allows (Holds j) slots id me 0 (λ n. (n + 18446744073709551615) % 18446744073709551616)
      (Sleeps (step slots 0 1 0 maybe.none) me)
  may_sleep slots id = lift slots id 0 (λ n. (n + 18446744073709551615) % 18446744073709551616)
      (Sleeps (step slots 0 1 0 maybe.none)) _
      (λ x m live items stop rest R.
      let ruled = slept_keeps j live items stop x live rest m.2.0 m.2.2 R in
      let F = first_fits j live items stop x rest R in
      let fits : PhaseFits phase.Idle x.kept.local.credit (length x.kept.local.bag) =
      rw m.2.0 at F.sound.inner.fits in
      let paid_one : x.kept.local.credit ≡ credit.One = fits.1 in
      let some : 1 ≤ live = rw paid_one at (paid j live items stop x rest R) in
      let s = live_small j live items stop _ R in
      record {
        view = one (stepped (sleep_row x.kept) live x);
        live2 = live - 1;
        items2 = items;
        stop2 = stop;
        words = ap (λ n. three n items stop) (below live some (omega arith));
        ruled = ruled;
        told = refl;
      })

  pub may_end : (slots id : ℕ) (me : View) → Reads me (λ x. x.kept.local.phase ≢ phase.Gone)
      → Allows (Holds j) slots id me 0 (λ n. n) (Ends (step slots 0 0 0 maybe.none) me)
  may_end slots id = lift slots id 0 (λ n. n) (Ends (step slots 0 0 0 maybe.none)) _
      (λ x m live items stop rest R. record {
        view = one (stepped (ended_at live x.kept) live x);
        live2 = live;
        items2 = items;
        stop2 = stop;
        words = refl;
        ruled = go x live items stop rest R (live == 0) refl;
        told = refl;
      })
    where
      go : (x : Seated I) (live items stop : ℕ) (rest : List (Member I))
          → Ruled j live items stop (one x ++ rest) → (b : Bool) → (live == 0) ≡ b
          → Ruled j live items stop (one (stepped (cond b (over_row x.kept) x.kept) live x) ++ rest)
      go x live items stop rest R true e = left_over_keeps j live items stop x rest
          (grind (arith, nat_tests)) R
      go x live items stop rest R false e = seen_keeps j live items stop x live rest R

  pub may_halt : (slots id c : ℕ) (me : View)
      → Reads me (λ x. (x.kept.local.phase ≢ phase.Gone) × ((c ≡ 1) ⊎ (c ≡ 2))
      × (c ≡ 1 → x.kept.params.limit < x.kept.last))
      → Allows (Holds j) slots id me 2 (λ n. max n c) (Halts (step slots 2 c 0 maybe.none) me)
  may_halt slots id c = lift slots id 2 (λ n. max n c) (Halts (step slots 2 c 0 maybe.none)) _
      (λ x m live items stop rest R. record {
        view = one (stepped (halt_row c x.kept) stop x);
        live2 = live;
        items2 = items;
        stop2 = max stop c;
        words = refl;
        ruled = halted_keeps j live items stop x stop c rest m.1 m.2 R;
        told = refl;
      })

  -- the code in the record of a view's place
  abbrev code_of : List (Member I) → ℕ
  code_of [] = 0
  code_of (Place x ∷ v) = x.kept.code
  code_of (Request k ∷ v) = 0
  code_of (Refusal ∷ v) = 0
  code_of (Parcel k xs ∷ v) = 0

  pub may_stop : (slots id : ℕ) (me : View) → Reads me (λ x. x.kept.local.phase ≢ phase.Gone)
      → Allows (Holds j) slots id me 2 (λ n. n) (Stops (step slots 2 0 0 maybe.none) me)
  may_stop slots id = lift slots id 2 (λ n. n) (Stops (step slots 2 0 0 maybe.none)) _
      (λ x m live items stop rest R. record {
        view = one (stepped (halted_row stop x.kept) stop x);
        live2 = live;
        items2 = items;
        stop2 = stop;
        words = refl;
        ruled = read_keeps j live items stop x rest R;
        told = (refl, λ y e. code_le x y live items stop rest R e);
      })
    where
      code_le : (x y : Seated I) (live items stop : ℕ) (rest : List (Member I))
          → Ruled j live items stop (one x ++ rest) → one x ≡ one y → y.kept.code ≤ stop
      code_le x y live items stop rest R e =
          let c = (first_fits j live items stop x rest R).meets.code in
          let q : x.kept.code ≡ y.kept.code = ap code_of e in
          omega arith

  -- what a step that moves the record alone owes
  pub record Noting (row : Record I → Record I) (r : Record I) : Type 0 where
    pub like : LooksLike r (row r)
    pub sound : (live items stop : ℕ) → IsGoodJob j → Fits j live items stop r
        → Sound j.awake (row r)
    pub held_is : (live items stop : ℕ) → IsGoodJob j → Fits j live items stop r → (k : _)
        → held k (row r) ≡ held k r

  pub may_note : (slots id : ℕ) (row : Record I → Record I) (me : View)
      → Reads me (λ x. Noting row x.kept)
      → Allows (Holds j) slots id me 2 (λ n. n) (Notes row (step slots 2 0 0 maybe.none) me)
  may_note slots id row = lift slots id 2 (λ n. n) (Notes row (step slots 2 0 0 maybe.none)) _
      (λ x m live items stop rest R. record {
        view = one (stepped (row x.kept) stop x);
        live2 = live;
        items2 = items;
        stop2 = stop;
        words = refl;
        ruled = alike_keeps j live items stop x (row x.kept) stop rest
            (m.sound live items stop R.good (first_fits j live items stop x rest R)) m.like
            (m.held_is live items stop R.good (first_fits j live items stop x rest R)) R;
        told = refl;
      })

  -- which items a batch may have taken
  pub record Settles {V : Type 0} (value : I → V) (unit : V) (combine : V → V → V) (done : ℕ)
      (takes : List I → List I → Type 0) (left : List I) (gain : V) : Type 0 where
    pub tells : (bag taken : List I) → Takes j.children value unit combine done left gain bag taken
        → takes bag taken

  pub may_settle : {V : Type 0} (value : I → V) (unit : V) (combine : V → V → V) (slots id done : ℕ)
      (takes : List I → List I → Type 0) (left : List I) (gain : V) (me : View)
      → Settles value unit combine done takes left gain
      → Reads me (λ x. MayBatch j.children value unit combine done left gain x.kept)
      → Allows (Holds j) slots id me 1 (λ n. (n + done) % 18446744073709551616)
      (Settling takes left (step slots 1 done 0 maybe.none) me)
  may_settle value unit combine slots id done takes left gain me T =
      lift slots id 1 (λ n. (n + done) % 18446744073709551616)
      (Settling takes left (step slots 1 done 0 maybe.none)) _
      (λ x m live items stop rest R.
      let i = items_small j live items stop _ R in
      let b : x.kept.params.batch ≤ 65536 =
      (let F = first_fits j live items stop x rest R in rw F.params_are
      (R.good.limits.batch.1)) in
      let e = m.moves in
      let n = e.number in
      let most = m.most in
      let f = m.may.2 in
      record {
        view = one (stepped (batch_row (items + done) e.taken left x.kept) items x);
        live2 = live;
        items2 = items + done;
        stop2 = stop;
        words = ap (λ k. three live k stop) (mod-eq_of_lt (omega arith));
        ruled = rw (← n) (settled_keeps j live items stop x e.taken left rest f.0 f.1
            (let s = m.some in omega arith) (omega arith) m.last e.moves R);
        told = (
          e.taken,
          T.tells x.kept.local.bag e.taken (n, e.moves, e.value_is),
          omega arith,
          refl,
        );
      }) me

  pub may_spare : (slots id : ℕ) (part : List I) (me : View) → Reads me (λ x. HasMore part x.kept)
      → Allows (Holds j) slots id me 2 (λ n. n) (Sparing part (step slots 2 0 0 maybe.none) me)
  may_spare slots id part = lift slots id 2 (λ n. n) (Sparing part (step slots 2 0 0 maybe.none)) _
      (λ x m live items stop rest R. record {
        view = one (spared m.0 stop x);
        live2 = live;
        items2 = items;
        stop2 = stop;
        words = refl;
        ruled = spared_keeps j live items stop x m.0 stop rest R;
        told = (m.0, m.1, m.2, refl);
      })

  pub may_read_live : (slots id : ℕ) (me : View)
      → Allows (Holds j) slots id me 0 (λ n. n) (ReadsLive j (step slots 0 0 0 maybe.none) me)
  may_read_live slots id me = read_step j slots id 0 me
      (λ n. (xs : List (Seated I)) → me.0 ≡ as_places xs → length xs ≡ j.lines.places
      → LiveTells j xs n)
      (λ live items stop rest R. (
        refl,
        λ xs is all. live_tells j live items stop xs rest all
            (subst (λ l. Ruled j live items stop (l ++ rest)) is R),
      ))

  pub may_read_items : (slots id : ℕ) (me : View)
      → Allows (Holds j) slots id me 1 (λ n. n) (ReadsItems j (step slots 1 0 0 maybe.none) me)
  may_read_items slots id me = read_step j slots id 1 me
      (λ n. (xs : List (Seated I)) → me.0 ≡ as_places xs → length xs ≡ j.lines.places
      → ItemsTell xs n)
      (λ live items stop rest R. (
        refl,
        λ xs is all. items_tell j live items stop xs rest all
            (subst (λ l. Ruled j live items stop (l ++ rest)) is R),
      ))

  pub may_read_stop : (slots id : ℕ) (me : View)
      → Allows (Holds j) slots id me 2 (λ n. n) (ReadsStop j (step slots 2 0 0 maybe.none) me)
  may_read_stop slots id me = read_step j slots id 2 me
      (λ n. (xs : List (Seated I)) → me.0 ≡ as_places xs → length xs ≡ j.lines.places
      → StopTells j xs n)
      (λ live items stop rest R. (
        refl,
        λ xs is all. stop_tells j live items stop xs rest all
            (subst (λ l. Ruled j live items stop (l ++ rest)) is R),
      ))
