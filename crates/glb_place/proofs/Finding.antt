-- What looks one after the other may find, and what is known of the edges afterwards.
use Rattle.std.proofs.Common.{◌≡◌, ◌≢◌, ℕ, ◌⊎◌, inl, inr, Bool, true, false, cond, ◌&&◌, ◌==◌, refl, sym, ap, ◌∙◌, subst}
use Rattle.glb_rules.specs.World.{mark_at, same_kind}
use Rattle.glb_rules.specs.Events.{name_of}
use Rattle.glb_rules.specs.declared.kinds.Kind.{Kind}
use Rattle.glb_rules.specs.declared.kinds.Kind.TheVariants as kind
use Rattle.glb_rules.specs.declared.kinds.Edge.{Edge}
use Rattle.glb_rules.specs.declared.kinds.Edge.TheVariants as seen
use Rattle.glb_rules.specs.declared.kinds.Mark.{Mark}
use Rattle.glb_rules.specs.declared.kinds.Side.{Side}
use Rattle.glb_rules.specs.declared.kinds.Side.TheVariants as side
use Rattle.glb_place.specs.declared.record.Record.{Record}
use Rattle.glb_place.specs.Records.{known_at}
use Rattle.glb_place.specs.Rows.{known_row}
use Rattle.glb_place.specs.Calls.{CanFind, MayFind}
use Rattle.glb_place.specs.Turns.{Learns}
use Rattle.glb_place.proofs.KnownFacts.{in_known, in_known_out, out_known, out_known_in, other_known}
use Rattle.glb_place.proofs.TellsFacts.{names_cases}

-- a look may find what was known
pub finds_same : (m : Mark) (k : Kind) (s : Side) (x : Edge) → CanFind m k s x x
finds_same m kind.Steal side.Inward seen.Idle = tt
finds_same m kind.Steal side.Inward seen.Asked = tt
finds_same m kind.Steal side.Inward seen.Refused = tt
finds_same m kind.Steal side.Inward seen.Loot = tt
finds_same m kind.Steal side.Outward seen.Idle = tt
finds_same m kind.Steal side.Outward seen.Asked = tt
finds_same m kind.Steal side.Outward seen.Refused = tt
finds_same m kind.Steal side.Outward seen.Loot = tt
finds_same m kind.Line side.Inward seen.Idle = tt
finds_same m kind.Line side.Inward seen.Asked = tt
finds_same m kind.Line side.Inward seen.Refused = tt
finds_same m kind.Line side.Inward seen.Loot = tt
finds_same m kind.Line side.Outward seen.Idle = tt
finds_same m kind.Line side.Outward seen.Asked = tt
finds_same m kind.Line side.Outward seen.Refused = tt
finds_same m kind.Line side.Outward seen.Loot = tt

-- what a second look may find after the first, a look may find at once
pub finds_on : (m : Mark) (k : Kind) (s : Side) (x y z : Edge) → CanFind m k s x y
    → CanFind m k s y z
    → CanFind m k s x z
finds_on m kind.Steal side.Inward seen.Idle seen.Idle c p q = q
finds_on m kind.Steal side.Inward seen.Idle seen.Asked seen.Idle p q = absurd q
finds_on m kind.Steal side.Inward seen.Idle seen.Asked seen.Asked p q = tt
finds_on m kind.Steal side.Inward seen.Idle seen.Asked seen.Refused p q = absurd q
finds_on m kind.Steal side.Inward seen.Idle seen.Asked seen.Loot p q = absurd q
finds_on m kind.Steal side.Inward seen.Idle seen.Refused c p q = absurd p
finds_on m kind.Steal side.Inward seen.Idle seen.Loot c p q = absurd p
finds_on m kind.Steal side.Inward seen.Asked seen.Idle c p q = absurd p
finds_on m kind.Steal side.Inward seen.Asked seen.Asked c p q = q
finds_on m kind.Steal side.Inward seen.Asked seen.Refused c p q = absurd p
finds_on m kind.Steal side.Inward seen.Asked seen.Loot c p q = absurd p
finds_on m kind.Steal side.Inward seen.Refused seen.Idle seen.Idle p q = tt
finds_on m kind.Steal side.Inward seen.Refused seen.Idle seen.Asked p q = tt
finds_on m kind.Steal side.Inward seen.Refused seen.Idle seen.Refused p q = absurd q
finds_on m kind.Steal side.Inward seen.Refused seen.Idle seen.Loot p q = absurd q
finds_on m kind.Steal side.Inward seen.Refused seen.Asked seen.Idle p q = absurd q
finds_on m kind.Steal side.Inward seen.Refused seen.Asked seen.Asked p q = tt
finds_on m kind.Steal side.Inward seen.Refused seen.Asked seen.Refused p q = absurd q
finds_on m kind.Steal side.Inward seen.Refused seen.Asked seen.Loot p q = absurd q
finds_on m kind.Steal side.Inward seen.Refused seen.Refused c p q = q
finds_on m kind.Steal side.Inward seen.Refused seen.Loot c p q = absurd p
finds_on m kind.Steal side.Inward seen.Loot seen.Idle seen.Idle p q = tt
finds_on m kind.Steal side.Inward seen.Loot seen.Idle seen.Asked p q = tt
finds_on m kind.Steal side.Inward seen.Loot seen.Idle seen.Refused p q = absurd q
finds_on m kind.Steal side.Inward seen.Loot seen.Idle seen.Loot p q = absurd q
finds_on m kind.Steal side.Inward seen.Loot seen.Asked seen.Idle p q = absurd q
finds_on m kind.Steal side.Inward seen.Loot seen.Asked seen.Asked p q = tt
finds_on m kind.Steal side.Inward seen.Loot seen.Asked seen.Refused p q = absurd q
finds_on m kind.Steal side.Inward seen.Loot seen.Asked seen.Loot p q = absurd q
finds_on m kind.Steal side.Inward seen.Loot seen.Refused c p q = absurd p
finds_on m kind.Steal side.Inward seen.Loot seen.Loot c p q = q
finds_on m kind.Steal side.Outward seen.Idle seen.Idle c p q = q
finds_on m kind.Steal side.Outward seen.Idle seen.Asked c p q = absurd p
finds_on m kind.Steal side.Outward seen.Idle seen.Refused c p q = absurd p
finds_on m kind.Steal side.Outward seen.Idle seen.Loot c p q = absurd p
finds_on m kind.Steal side.Outward seen.Asked seen.Idle c p q = absurd p
finds_on m kind.Steal side.Outward seen.Asked seen.Asked c p q = q
finds_on m kind.Steal side.Outward seen.Asked seen.Refused seen.Idle p q = absurd q
finds_on m kind.Steal side.Outward seen.Asked seen.Refused seen.Asked p q = absurd q
finds_on m kind.Steal side.Outward seen.Asked seen.Refused seen.Refused p q = tt
finds_on m kind.Steal side.Outward seen.Asked seen.Refused seen.Loot p q = absurd q
finds_on m kind.Steal side.Outward seen.Asked seen.Loot seen.Idle p q = absurd q
finds_on m kind.Steal side.Outward seen.Asked seen.Loot seen.Asked p q = absurd q
finds_on m kind.Steal side.Outward seen.Asked seen.Loot seen.Refused p q = absurd q
finds_on m kind.Steal side.Outward seen.Asked seen.Loot seen.Loot p q = tt
finds_on m kind.Steal side.Outward seen.Refused seen.Idle c p q = absurd p
finds_on m kind.Steal side.Outward seen.Refused seen.Asked c p q = absurd p
finds_on m kind.Steal side.Outward seen.Refused seen.Refused c p q = q
finds_on m kind.Steal side.Outward seen.Refused seen.Loot c p q = absurd p
finds_on m kind.Steal side.Outward seen.Loot seen.Idle c p q = absurd p
finds_on m kind.Steal side.Outward seen.Loot seen.Asked c p q = absurd p
finds_on m kind.Steal side.Outward seen.Loot seen.Refused c p q = absurd p
finds_on m kind.Steal side.Outward seen.Loot seen.Loot c p q = q
finds_on m kind.Line side.Inward seen.Idle seen.Idle c p q = q
finds_on m kind.Line side.Inward seen.Idle seen.Asked seen.Idle p q = absurd q
finds_on m kind.Line side.Inward seen.Idle seen.Asked seen.Asked p q = tt
finds_on m kind.Line side.Inward seen.Idle seen.Asked seen.Refused p q = absurd q
finds_on m kind.Line side.Inward seen.Idle seen.Asked seen.Loot p q = absurd q
finds_on m kind.Line side.Inward seen.Idle seen.Refused c p q = absurd p
finds_on m kind.Line side.Inward seen.Idle seen.Loot c p q = absurd p
finds_on m kind.Line side.Inward seen.Asked seen.Idle c p q = absurd p
finds_on m kind.Line side.Inward seen.Asked seen.Asked c p q = q
finds_on m kind.Line side.Inward seen.Asked seen.Refused c p q = absurd p
finds_on m kind.Line side.Inward seen.Asked seen.Loot c p q = absurd p
finds_on m kind.Line side.Inward seen.Refused seen.Idle c p q = absurd p
finds_on m kind.Line side.Inward seen.Refused seen.Asked c p q = absurd p
finds_on m kind.Line side.Inward seen.Refused seen.Refused c p q = q
finds_on m kind.Line side.Inward seen.Refused seen.Loot c p q = absurd p
finds_on m kind.Line side.Inward seen.Loot seen.Idle seen.Idle p q = tt
finds_on m kind.Line side.Inward seen.Loot seen.Idle seen.Asked p q = tt
finds_on m kind.Line side.Inward seen.Loot seen.Idle seen.Refused p q = absurd q
finds_on m kind.Line side.Inward seen.Loot seen.Idle seen.Loot p q = absurd q
finds_on m kind.Line side.Inward seen.Loot seen.Asked seen.Idle p q = absurd q
finds_on m kind.Line side.Inward seen.Loot seen.Asked seen.Asked p q = tt
finds_on m kind.Line side.Inward seen.Loot seen.Asked seen.Refused p q = absurd q
finds_on m kind.Line side.Inward seen.Loot seen.Asked seen.Loot p q = absurd q
finds_on m kind.Line side.Inward seen.Loot seen.Refused c p q = absurd p
finds_on m kind.Line side.Inward seen.Loot seen.Loot c p q = q
finds_on m kind.Line side.Outward seen.Idle seen.Idle c p q = q
finds_on m kind.Line side.Outward seen.Idle seen.Asked c p q = absurd p
finds_on m kind.Line side.Outward seen.Idle seen.Refused c p q = absurd p
finds_on m kind.Line side.Outward seen.Idle seen.Loot c p q = absurd p
finds_on m kind.Line side.Outward seen.Asked seen.Idle c p q = absurd p
finds_on m kind.Line side.Outward seen.Asked seen.Asked c p q = q
finds_on m kind.Line side.Outward seen.Asked seen.Refused seen.Idle p q = absurd q
finds_on m kind.Line side.Outward seen.Asked seen.Refused seen.Asked p q = absurd q
finds_on m kind.Line side.Outward seen.Asked seen.Refused seen.Refused p q = tt
finds_on m kind.Line side.Outward seen.Asked seen.Refused seen.Loot p q = tt
finds_on m kind.Line side.Outward seen.Asked seen.Loot seen.Idle p q = absurd q
finds_on m kind.Line side.Outward seen.Asked seen.Loot seen.Asked p q = absurd q
finds_on m kind.Line side.Outward seen.Asked seen.Loot seen.Refused p q = absurd q
finds_on m kind.Line side.Outward seen.Asked seen.Loot seen.Loot p q = tt
finds_on m kind.Line side.Outward seen.Refused seen.Idle c p q = absurd p
finds_on m kind.Line side.Outward seen.Refused seen.Asked c p q = absurd p
finds_on m kind.Line side.Outward seen.Refused seen.Refused c p q = q
finds_on m kind.Line side.Outward seen.Refused seen.Loot seen.Idle p q = absurd q
finds_on m kind.Line side.Outward seen.Refused seen.Loot seen.Asked p q = absurd q
finds_on m kind.Line side.Outward seen.Refused seen.Loot seen.Refused p q = absurd q
finds_on m kind.Line side.Outward seen.Refused seen.Loot seen.Loot p q = tt
finds_on m kind.Line side.Outward seen.Loot seen.Idle c p q = absurd p
finds_on m kind.Line side.Outward seen.Loot seen.Asked c p q = absurd p
finds_on m kind.Line side.Outward seen.Loot seen.Refused c p q = absurd p
finds_on m kind.Line side.Outward seen.Loot seen.Loot c p q = q

module _ {I : Type 0} where
  -- nothing was looked at
  pub learns_same : (r : Record I) → Learns r r
  learns_same r = record {
    rest = refl;
    ins = λ k t. finds_same (mark_at r.local.marks k t) k side.Inward (known_at r.known k t r.place);
    outs = λ k v. finds_same (mark_at r.local.marks k v) k side.Outward
        (known_at r.known k r.place v);
    others = λ n t v. refl;
  }

  module _ (r : Record I) (k : Kind) (t : ℕ) (x : Edge) (other : t ≢ r.place) where
    -- the state that an edge is known to be in, where the test says whether it was looked at
    one_in : MayFind r t k side.Inward x → (j : Kind) (u : ℕ)
        → ((k ≡ j) × (t ≡ u)) ⊎ ((same_kind k j && (t == u)) ≡ false)
        → (b : Bool) → (same_kind k j && (t == u)) ≡ b
        → MayFind r u j side.Inward (cond b x (known_at r.known j u r.place))
    one_in f j u (inl h) true q = subst (λ i. MayFind r u i side.Inward x) h.0
        (subst (λ w. MayFind r w k side.Inward x) h.1 f)
    one_in f j u (inr n) true q = let e : false ≡ true = sym n ∙ q in absurd (cc)
    one_in f j u n false q = finds_same (mark_at r.local.marks j u) j side.Inward
        (known_at r.known j u r.place)

    -- a place looked at an in-edge
    pub learns_in : MayFind r t k side.Inward x → Learns r (known_row (name_of k t r.place) x r)
    learns_in f = record {
      rest = refl;
      ins = λ j u. subst (MayFind r u j side.Inward) (sym (in_known k t r.place x r.known j u))
          (one_in f j u (names_cases k j t u) (same_kind k j && (t == u)) refl);
      outs = λ j v. subst (MayFind r v j side.Outward)
          (sym (in_known_out k t r.place x r.known other j v))
          (finds_same (mark_at r.local.marks j v) j side.Outward (known_at r.known j r.place v));
      others = λ n a b. other_known (name_of k t r.place) x r.known n (inr (λ e. b (sym e)));
    }

    one_out : MayFind r t k side.Outward x → (j : Kind) (u : ℕ)
        → ((k ≡ j) × (t ≡ u)) ⊎ ((same_kind k j && (t == u)) ≡ false)
        → (b : Bool) → (same_kind k j && (t == u)) ≡ b
        → MayFind r u j side.Outward (cond b x (known_at r.known j r.place u))
    one_out f j u (inl h) true q = subst (λ i. MayFind r u i side.Outward x) h.0
        (subst (λ w. MayFind r w k side.Outward x) h.1 f)
    one_out f j u (inr n) true q = let e : false ≡ true = sym n ∙ q in absurd (cc)
    one_out f j u n false q = finds_same (mark_at r.local.marks j u) j side.Outward
        (known_at r.known j r.place u)

    -- or at an edge of its own
    pub learns_out : MayFind r t k side.Outward x → Learns r (known_row (name_of k r.place t) x r)
    learns_out f = record {
      rest = refl;
      ins = λ j u. subst (MayFind r u j side.Inward)
          (sym (out_known_in k t r.place x r.known other j u))
          (finds_same (mark_at r.local.marks j u) j side.Inward (known_at r.known j u r.place));
      outs = λ j v. subst (MayFind r v j side.Outward) (sym (out_known k t r.place x r.known j v))
          (one_out f j v (names_cases k j t v) (same_kind k j && (t == v)) refl);
      others = λ n a b. other_known (name_of k r.place t) x r.known n (inl (λ e. a (sym e)));
    }

  -- and then it looked on
  pub learns_on : (a b c : Record I) → Learns a b → Learns b c → Learns a c
  learns_on a b c f g = record {
    rest = g.rest ∙ ap (λ (x : Record I). record x { known = c.known }) f.rest;
    ins = λ k t. finds_on (mark_at a.local.marks k t) k side.Inward (known_at a.known k t a.place)
        (known_at b.known k t a.place)
        (known_at c.known k t a.place) (f.ins k t)
        (subst (λ (x : Record I). CanFind (mark_at x.local.marks k t) k side.Inward
        (known_at b.known k t x.place) (known_at c.known k t x.place)) f.rest (g.ins k t));
    outs = λ k v. finds_on (mark_at a.local.marks k v) k side.Outward (known_at a.known k a.place v)
        (known_at b.known k a.place v)
        (known_at c.known k a.place v) (f.outs k v)
        (subst (λ (x : Record I). CanFind (mark_at x.local.marks k v) k side.Outward
        (known_at b.known k x.place v) (known_at c.known k x.place v)) f.rest (g.outs k v));
    others = λ n t v.
        let p : b.place ≡ a.place = ap (λ (x : Record I). x.place) f.rest in
        g.others n (λ e. t (e ∙ p)) (λ e. v (e ∙ p)) ∙ f.others n t v;
  }
