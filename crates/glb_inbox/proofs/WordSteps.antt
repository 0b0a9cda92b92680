-- Each step on a word keeps the rule.
use Rattle.std.proofs.Common.{◌≡◌, ◌≢◌, ℕ, ◌+◌, ◌-◌, ◌*◌, ◌<◌, ◌≤◌, ◌⊎◌, Bool, true, false, cond}
use Rattle.std.proofs.Common.{◌==◌, nat_lt, List, ◌∷◌, ◌++◌, length, max, Option, Some, None, refl}
use Rattle.std.proofs.Common.{sym, ap, subst, inl, inr, ⊎_elim, arith, append-nil, append_assoc}
use Rattle.std.proofs.Common.{IsPermutation}
use Rattle.std.proofs.lemmas.Bool.{cases_eq}
use Rattle.std.proofs.lemmas.Bool.Decides.{nat_tests}
use Rattle.std.proofs.lemmas.List.Sorted.{IsPermutation-refl, IsPermutation-append_comm}
use Rattle.std.proofs.lemmas.List.Sorted.{IsPermutation-append_left}
use Rattle.glb_laws.specs.Expansion.{Expansion, Moves as MovesTo}
use Rattle.glb_laws.proofs.Expansions.{expansion_order}
use Rattle.glb_rules.specs.World.{IsArmed, has_line, credit_count}
use Rattle.glb_rules.specs.Setups.{bit}
use Rattle.glb_rules.specs.Lawful.{PhaseFits}
use Rattle.glb_rules.specs.declared.kinds.Kind.TheVariants as kind
use Rattle.glb_rules.specs.declared.kinds.Phase.TheVariants as phase
use Rattle.glb_rules.specs.declared.kinds.Credit.TheVariants as credit
use Rattle.glb_rules.proofs.Expansion.Kept.{moved}
use Rattle.glb_place.specs.declared.record.Record.{Record}
use Rattle.glb_place.specs.Records.{edge_like, known_at, setup_in}
use Rattle.glb_place.specs.Rows.{batch_row, mint_row, burn_row, sleep_row, leave_row, over_row}
use Rattle.glb_place.specs.Rows.{halt_row, halted_row}
use Rattle.glb_inbox.specs.declared.view.Seated.{Seated}
use Rattle.glb_inbox.specs.declared.view.Member.{Member}
use Rattle.glb_inbox.specs.declared.view.Member.TheVariants.{Place, Request, Refusal, Parcel}
use Rattle.glb_inbox.specs.inner.Rule.{Job, Meets, Fits, Fine, IfBefore, Ruled}
use Rattle.glb_inbox.specs.inner.Views.{stepped, spared, one}
use Rattle.glb_inbox.proofs.Exchange.{Fair, exchanged}
use Rattle.glb_inbox.proofs.SoundAlone.{sound_minted, sound_burnt, sound_slept, sound_left}
use Rattle.glb_inbox.proofs.SoundAlone.{sound_halted, sound_settled}

module _ {I : Type 0} (j : Job I) where
  -- what the first member of the rule's list keeps
  pub first_fits : (live items stop : ℕ) (x : Seated I) (rest : List (Member I))
      → Ruled j live items stop (Place x ∷ rest)
      → Fits j live items stop x.kept
  first_fits live items stop x rest R = R.each.0.0

  pub paid : (live items stop : ℕ) (x : Seated I) (rest : List (Member I))
      → Ruled j live items stop (Place x ∷ rest)
      → credit_count x.kept.local.credit ≤ live
  paid live items stop x rest R = let e = R.sums.live_is in omega arith

  -- where each record meets the new numbers, each member does
  pub others_meet : (live items stop live2 items2 stop2 : ℕ)
      → ((r : Record I) → Meets live items stop r → Meets live2 items2 stop2 r)
      → (m : Member I) → Fine j live items stop m → Fine j live2 items2 stop2 m
  others_meet live items stop live2 items2 stop2 f (Place x) h = (fits h.0, before x.before h.1)
    where
      fits : {r : Record I} → Fits j live items stop r → Fits j live2 items2 stop2 r
      fits F = record {
        params_are = F.params_are;
        lines_are = F.lines_are;
        sound = F.sound;
        meets = f _ F.meets;
      }

      before : (b : Option (Record I)) → IfBefore (Fits j live items stop) b
          → IfBefore (Fits j live2 items2 stop2) b
      before None h = tt
      before (Some r) h = fits h
  others_meet live items stop live2 items2 stop2 f (Request k) h = h
  others_meet live items stop live2 items2 stop2 f Refusal h = h
  others_meet live items stop live2 items2 stop2 f (Parcel k xs) h = h

  pub minted_keeps : (live items stop : ℕ) (x : Seated I) (n : ℕ) (rest : List (Member I))
      → x.kept.local.phase ≡ phase.Working
      → x.kept.local.credit ≡ credit.One → Ruled j live items stop (one x ++ rest)
      → Ruled j (live + 1) items stop (one (stepped (mint_row x.kept) n x) ++ rest)
  minted_keeps live items stop x n rest working credit_one R =
      let F = first_fits live items stop x rest R in
      let some : 1 ≤ live = rw credit_one at (paid live items stop x rest R) in
      exchanged j live items stop (live + 1) items stop (one x)
      (one (stepped (mint_row x.kept) n x)) rest (record {
        fair = record {
          places = refl;
          asks = refl;
          lines = refl;
          denied = refl;
          given = refl;
          line_given = refl;
          units = refl;
          live_is = rw credit_one (omega arith);
          items_are = refl;
        };
        fine = (
          (
            record {
              params_are = F.params_are;
              lines_are = F.lines_are;
              sound = sound_minted j.awake x.kept F.sound working credit_one;
              meets = record {
                over = λ o. absurd (let z = F.meets.over o in omega arith);
                code = F.meets.code;
                last = F.meets.last;
              };
            },
            tt,
          ),
          tt,
        );
        others = others_meet live items stop (live + 1) items stop
            (λ r M. record {
              over = λ o. absurd (let z = M.over o in omega arith);
              code = M.code;
              last = M.last;
            });
        expansion = λ d l e. e;
        small = λ m h. h;
        cause = λ h. h;
        codes = λ h. h;
      }) R

  pub burnt_keeps : (live items stop : ℕ) (x : Seated I) (n : ℕ) (rest : List (Member I))
      → x.kept.local.credit ≡ credit.Taken
      → Ruled j live items stop (one x ++ rest)
      → Ruled j (live - 1) items stop (one (stepped (burn_row x.kept) n x) ++ rest)
  burnt_keeps live items stop x n rest taken R =
      let F = first_fits live items stop x rest R in
      let some : 2 ≤ live = rw taken at (paid live items stop x rest R) in
      exchanged j live items stop (live - 1) items stop (one x)
      (one (stepped (burn_row x.kept) n x)) rest (record {
        fair = record {
          places = refl;
          asks = refl;
          lines = refl;
          denied = refl;
          given = refl;
          line_given = refl;
          units = refl;
          live_is = rw taken (omega arith);
          items_are = refl;
        };
        fine = (
          (
            record {
              params_are = F.params_are;
              lines_are = F.lines_are;
              sound = sound_burnt j.awake x.kept F.sound taken;
              meets = record {
                over = λ o. absurd (let z = F.meets.over o in omega arith);
                code = F.meets.code;
                last = F.meets.last;
              };
            },
            tt,
          ),
          tt,
        );
        others = others_meet live items stop (live - 1) items stop
            (λ r M. record {
              over = λ o. absurd (let z = M.over o in omega arith);
              code = M.code;
              last = M.last;
            });
        expansion = λ d l e. e;
        small = λ m h. h;
        cause = λ h. h;
        codes = λ h. h;
      }) R

  pub slept_keeps : (live items stop : ℕ) (x : Seated I) (n : ℕ) (rest : List (Member I))
      → x.kept.local.phase ≡ phase.Idle
      → ((v : ℕ) → v < x.kept.lines.places → has_line (setup_in x.kept) x.kept.place v ≡ true
      → IsArmed {I = I} (edge_like (known_at x.kept.known kind.Line x.kept.place v)))
      → Ruled j live items stop (one x ++ rest)
      → Ruled j (live - 1) items stop (one (stepped (sleep_row x.kept) n x) ++ rest)
  slept_keeps live items stop x n rest idle ready R =
      let F = first_fits live items stop x rest R in
      let fits : PhaseFits phase.Idle x.kept.local.credit (length x.kept.local.bag) =
      rw idle at F.sound.inner.fits in
      let credit_one : x.kept.local.credit ≡ credit.One = fits.1 in
      let some : 1 ≤ live = rw credit_one at (paid live items stop x rest R) in
      exchanged j live items stop (live - 1) items stop (one x)
      (one (stepped (sleep_row x.kept) n x)) rest (record {
        fair = record {
          places = refl;
          asks = refl;
          lines = refl;
          denied = refl;
          given = refl;
          line_given = refl;
          units = refl;
          live_is = rw credit_one (omega arith);
          items_are = refl;
        };
        fine = (
          (
            record {
              params_are = F.params_are;
              lines_are = F.lines_are;
              sound = sound_slept j.awake x.kept F.sound idle ready;
              meets = record {
                over = λ o. absurd (let z = F.meets.over o in omega arith);
                code = F.meets.code;
                last = F.meets.last;
              };
            },
            tt,
          ),
          tt,
        );
        others = others_meet live items stop (live - 1) items stop
            (λ r M. record {
              over = λ o. absurd (let z = M.over o in omega arith);
              code = M.code;
              last = M.last;
            });
        expansion = λ d l e. e;
        small = λ m h. h;
        cause = λ h. h;
        codes = λ h. h;
      }) R

  -- a load of live that found 0
  pub left_over_keeps : (live items stop : ℕ) (x : Seated I) (rest : List (Member I)) → live ≡ 0
      → Ruled j live items stop (one x ++ rest)
      → Ruled j live items stop (one (stepped (over_row x.kept) live x) ++ rest)
  left_over_keeps live items stop x rest none R =
      let F = first_fits live items stop x rest R in
      exchanged j live items stop live items stop (one x) (one (stepped (over_row x.kept) live x))
      rest (record {
        fair = record {
          places = refl;
          asks = refl;
          lines = refl;
          denied = refl;
          given = refl;
          line_given = refl;
          units = refl;
          live_is = refl;
          items_are = refl;
        };
        fine = (
          (
            record {
              params_are = F.params_are;
              lines_are = F.lines_are;
              sound = sound_left j.awake x.kept F.sound true x.kept.code (inl refl);
              meets = record { over = λ o. none; code = F.meets.code; last = F.meets.last };
            },
            tt,
          ),
          tt,
        );
        others = λ m h. h;
        expansion = λ d l e. e;
        small = λ m h. h;
        cause = λ h. h;
        codes = λ h. h;
      }) R

  -- a load that moves nothing
  pub seen_keeps : (live items stop : ℕ) (x : Seated I) (n : ℕ) (rest : List (Member I))
      → Ruled j live items stop (one x ++ rest)
      → Ruled j live items stop (one (stepped x.kept n x) ++ rest)
  seen_keeps live items stop x n rest R =
      exchanged j live items stop live items stop (one x) (one (stepped x.kept n x)) rest (record {
        fair = record {
          places = refl;
          asks = refl;
          lines = refl;
          denied = refl;
          given = refl;
          line_given = refl;
          units = refl;
          live_is = refl;
          items_are = refl;
        };
        fine = ((first_fits live items stop x rest R, tt), tt);
        others = λ m h. h;
        expansion = λ d l e. e;
        small = λ m h. h;
        cause = λ h. h;
        codes = λ h. h;
      }) R

  -- a load at which the rest of the bag becomes known
  pub spared_keeps : (live items stop : ℕ) (x : Seated I) (left : List I) (n : ℕ)
      (rest : List (Member I)) → Ruled j live items stop (one x ++ rest)
      → Ruled j live items stop (one (spared left n x) ++ rest)
  spared_keeps live items stop x left n rest R =
      exchanged j live items stop live items stop (one x) (one (spared left n x)) rest (record {
        fair = record {
          places = refl;
          asks = refl;
          lines = refl;
          denied = refl;
          given = refl;
          line_given = refl;
          units = refl;
          live_is = refl;
          items_are = refl;
        };
        fine = ((first_fits live items stop x rest R, tt), tt);
        others = λ m h. h;
        expansion = λ d l e. e;
        small = λ m h. h;
        cause = λ h. h;
        codes = λ h. h;
      }) R

  pub halted_keeps : (live items stop : ℕ) (x : Seated I) (n c : ℕ) (rest : List (Member I))
      → (c ≡ 1) ⊎ (c ≡ 2)
      → (c ≡ 1 → x.kept.params.limit < x.kept.last) → Ruled j live items stop (one x ++ rest)
      → Ruled j live items (max stop c) (one (stepped (halt_row c x.kept) n x) ++ rest)
  halted_keeps live items stop x n c rest is why R =
      let F = first_fits live items stop x rest R in
      let most : c ≤ 2 = ⊎_elim (λ a. omega arith) (λ a. omega arith) is in
      exchanged j live items stop live items (max stop c) (one x)
      (one (stepped (halt_row c x.kept) n x)) rest (record {
        fair = record {
          places = refl;
          asks = refl;
          lines = refl;
          denied = refl;
          given = refl;
          line_given = refl;
          units = refl;
          live_is = refl;
          items_are = refl;
        };
        fine = (
          (
            record {
              params_are = F.params_are;
              lines_are = F.lines_are;
              sound = sound_halted j.awake x.kept F.sound c;
              meets = record {
                over = F.meets.over;
                code = (let z = F.meets.code in omega arith);
                last = F.meets.last;
              };
            },
            tt,
          ),
          tt,
        );
        others = others_meet live items stop live items (max stop c)
            (λ r M. record {
              over = M.over;
              code = (let z = M.code in omega arith);
              last = M.last;
            });
        expansion = λ d l e. e;
        small = λ m h. h;
        cause = λ h e. ⊎_elim
            (λ (a : stop ≡ 1). h a)
            (λ (a : stop ≢ 1).
            let d : c ≡ 1 = omega arith in
            let l : x.kept.params.limit < x.kept.last = why d in
            let q : x.kept.params.limit ≡ j.params.limit = ap (λ y. y.limit) F.params_are in
            let m = F.meets.last in omega arith)
            (cases_eq stop 1);
        codes = λ h. omega arith;
      }) R

  -- a load of stop
  pub read_keeps : (live items stop : ℕ) (x : Seated I) (rest : List (Member I))
      → Ruled j live items stop (one x ++ rest)
      → Ruled j live items stop (one (stepped (halted_row stop x.kept) stop x) ++ rest)
  read_keeps live items stop x rest R = go (stop == 0) refl
    where
      F : Fits j live items stop x.kept
      F = first_fits live items stop x rest R

      put : (r : Record I) → Fits j live items stop r
          → Fair j live items live items (one x) (one (stepped r stop x))
          → r.local.done ≡ x.kept.local.done → r.local.bag ≡ x.kept.local.bag → r.last ≡ x.kept.last
          → Ruled j live items stop (one (stepped r stop x) ++ rest)
      put r f fair d b l =
          exchanged j live items stop live items stop (one x) (one (stepped r stop x)) rest
          (record {
            fair = fair;
            fine = ((f, tt), tt);
            others = λ m h. h;
            expansion = λ ds ls e. rw (d, b) e;
            small = λ m h. rw l h;
            cause = λ h. h;
            codes = λ h. h;
          }) R

      go : (b : Bool) → (stop == 0) ≡ b
          → Ruled j live items stop (one (stepped (halted_row stop x.kept) stop x) ++ rest)
      go true e = subst (λ b. Ruled j live items stop
          (one (stepped (cond b (halt_row stop x.kept) (leave_row (halt_row stop x.kept))) stop x)
          ++ rest)) (sym e)
          (put (halt_row stop x.kept)
          (record {
            params_are = F.params_are;
            lines_are = F.lines_are;
            sound = sound_halted j.awake x.kept F.sound stop;
            meets = record {
              over = F.meets.over;
              code = (let z = F.meets.code in omega arith);
              last = F.meets.last;
            };
          })
          (record {
            places = refl;
            asks = refl;
            lines = refl;
            denied = refl;
            given = refl;
            line_given = refl;
            units = refl;
            live_is = refl;
            items_are = refl;
          })
          refl refl refl)
      go false e = subst (λ b.
          Ruled j live items stop (one
          (stepped (cond b (halt_row stop x.kept) (leave_row (halt_row stop x.kept))) stop x)
          ++ rest)) (sym e)
          (put (leave_row (halt_row stop x.kept))
          (record {
            params_are = F.params_are;
            lines_are = F.lines_are;
            sound = sound_left j.awake x.kept F.sound x.kept.over (max x.kept.code stop)
                (inr (λ z. (let n : stop ≢ 0 = (λ q. let t : (0 == 0) ≡ false = rw q at e in cc) in
                n (omega arith))));
            meets = record {
              over = F.meets.over;
              code = (let z = F.meets.code in omega arith);
              last = F.meets.last;
            };
          })
          (record {
            places = refl;
            asks = refl;
            lines = refl;
            denied = refl;
            given = refl;
            line_given = refl;
            units = refl;
            live_is = refl;
            items_are = refl;
          })
          refl refl refl)

  -- 1 exactly where the total is above the limit
  above_is : (limit n : ℕ) → ((limit < n) × (bit (nat_lt limit n) ≡ 1))
      ⊎ ((n ≤ limit) × (bit (nat_lt limit n) ≡ 0))
  above_is limit n = go (nat_lt limit n) refl
    where
      go : (b : Bool) → nat_lt limit n ≡ b → ((limit < n) × (bit b ≡ 1))
          ⊎ ((n ≤ limit) × (bit b ≡ 0))
      go true e = inl (grind (arith, nat_tests), refl)
      go false e = inr (grind (arith, nat_tests), refl)

  pub settled_keeps : (live items stop : ℕ) (x : Seated I) (taken left : List I)
      (rest : List (Member I))
      → x.kept.local.phase ≡ phase.Working → x.kept.local.credit ≡ credit.One → 0 < length taken
      → length taken ≤ x.kept.params.batch → x.kept.last ≤ x.kept.params.limit
      → MovesTo j.children x.kept.local.bag taken left → Ruled j live items stop (one x ++ rest)
      → Ruled j live (items + length taken) stop
      (one (stepped (batch_row (items + length taken) taken left x.kept) items x) ++ rest)
  settled_keeps live items stop x taken left rest working credit_one some most small moves R =
      let F = first_fits live items stop x rest R in
      let more = items + length taken in
      exchanged j live items stop live more stop (one x)
      (one (stepped (batch_row more taken left x.kept) items x)) rest (record {
        fair = record {
          places = refl;
          asks = refl;
          lines = refl;
          denied = refl;
          given = refl;
          line_given = refl;
          units = refl;
          live_is = refl;
          items_are = omega arith;
        };
        fine = (
          (
            record {
              params_are = F.params_are;
              lines_are = F.lines_are;
              sound = sound_settled j.awake x.kept F.sound more taken left working credit_one some;
              meets = record { over = F.meets.over; code = F.meets.code; last = omega arith };
            },
            tt,
          ),
          tt,
        );
        others = others_meet live items stop live more stop (λ r M.
            record { over = M.over; code = M.code; last = (let z = M.last in omega arith) });
        expansion = λ done rest e.
            let old : Expansion j.children j.roots (x.kept.local.done ++ done)
            (x.kept.local.bag ++ rest) =
            rw (append-nil x.kept.local.done, append-nil x.kept.local.bag) at e in
            let new = moved j.children j.roots taken x.kept.local.bag left
            (x.kept.local.done ++ done) rest moves old in
            rw (append-nil (x.kept.local.done ++ taken), append-nil left)
            (expansion_order j.children j.roots _ _ _ _
            (subst (λ l. IsPermutation l ((x.kept.local.done ++ taken) ++ done))
            (append_assoc taken x.kept.local.done done)
            (IsPermutation-append_left done _ _
            (IsPermutation-append_comm taken x.kept.local.done)))
            (IsPermutation-refl (left ++ rest)) new);
        small = λ m h.
            let q : x.kept.params.limit ≡ j.params.limit = ap (λ y. y.limit) F.params_are in
            let b : x.kept.params.batch ≡ j.params.batch = ap (λ y. y.batch) F.params_are in
            let c : bit (nat_lt j.params.limit x.kept.last) ≡ 0 =
            ⊎_elim (λ a. absurd (let a0 = a.0 in omega arith)) (λ a. a.1)
            (above_is j.params.limit x.kept.last) in
            let h2 : items ≤ j.params.limit + j.params.batch * (0 + 0 + m) = rw c at h in
            ⊎_elim
            (λ a. rw a.1 (let a0 = a.0 in grown j.params.batch m items j.params.limit (length taken)
            h2 (omega arith)))
            (λ a. let a0 = a.0 in omega arith)
            (above_is j.params.limit more);
        cause = λ h e. (let z = h e in omega arith);
        codes = λ h. h;
      }) R
    where
      grown : (b m items limit k : ℕ) → items ≤ limit + b * (0 + 0 + m) → k ≤ b
          → items + k ≤ limit + b * (1 + 0 + m)
      grown b m items limit k h l = grind arith
