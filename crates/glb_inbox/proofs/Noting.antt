-- Looks without a message, and lines that are denied or given up, change nothing that others count.
use Rattle.std.proofs.Common.{◌≡◌, ◌≢◌, ℕ, ◌<◌, Bool, true, false, cond, ◌&&◌, refl, sym, ap, inl}
use Rattle.std.proofs.Common.{inr, ⊎_elim, arith}
use Rattle.glb_rules.specs.World.{mark_at}
use Rattle.glb_rules.specs.Decision.{is_mark}
use Rattle.glb_rules.specs.Events.{name_of}
use Rattle.glb_rules.specs.declared.kinds.Kind.{Kind}
use Rattle.glb_rules.specs.declared.kinds.Kind.TheVariants as kind
use Rattle.glb_rules.specs.declared.kinds.Edge.{Edge}
use Rattle.glb_rules.specs.declared.kinds.Edge.TheVariants as seen
use Rattle.glb_rules.specs.declared.kinds.Mark.TheVariants as mark
use Rattle.glb_rules.specs.declared.kinds.Side.TheVariants as side
use Rattle.glb_rules.proofs.CallerLemmas.{apart}
use Rattle.glb_rules.proofs.CallerLemmas.{kind_cases}
use Rattle.glb_place.specs.declared.record.Record.{Record}
use Rattle.glb_place.specs.Records.{known_at}
use Rattle.glb_place.specs.Rows.{known_row, mark_row, deny_row, shrug_row}
use Rattle.glb_place.specs.Calls.{look_row, is_working}
use Rattle.glb_inbox.specs.declared.acts.Noted.{Noted}
use Rattle.glb_inbox.specs.declared.acts.Noted.TheVariants.{Look, DenyLine, ShrugLine}
use Rattle.glb_inbox.specs.inner.Acts.{noted, MayNote}
use Rattle.glb_inbox.specs.inner.Members.{held, wanted}
use Rattle.glb_inbox.specs.inner.Rule.{Job, own_setup}
use Rattle.glb_inbox.proofs.Knowing.{held_here, held_away}
use Rattle.glb_inbox.proofs.SoundThief.{sound_shrugged_line, like_asked}
use Rattle.glb_inbox.proofs.SoundVictim.{sound_denied, sound_looked_in, sound_looked_out}
use Rattle.glb_inbox.proofs.SeatSteps.{LooksLike, looked_same, proper_of, apart_in}
use Rattle.glb_inbox.proofs.Slips.{edge_alike}
use Rattle.glb_inbox.proofs.Calls.{Noting}

module _ {I : Type 0} (j : Job I) (r : Record I) where
  -- an in-edge is known as wanted as before: the requests that the place holds stay
  held_same : (k i : Kind) (t : ℕ) (x : Edge) → t < r.lines.places
      → wanted k x ≡ wanted k (known_at r.known k t r.place)
      → held i (known_row (name_of k t r.place) x r) ≡ held i r
  held_same k i t x l same = ⊎_elim
      (λ (a : i ≡ k). rw a (let e = held_here r.known k t r.place x r.lines.places (wanted k) l in
      omega arith))
      (λ (a : i ≢ k). held_away r.known k t r.place x r.lines.places (wanted i) i r.place (inl a))
      (kind_cases i k)

  looked_held : (k i : Kind) (t : ℕ) (x : Edge) → t < r.lines.places
      → x ≡ known_at r.known k t r.place
      → held i (look_row t k side.Inward x r) ≡ held i r
  looked_held k i t x l same =
      go (is_working r.local.phase && is_mark mark.Unseen (mark_at r.local.marks k t))
    where
      go : (b : Bool) → held i (cond b (mark_row t k x r) (known_row (name_of k t r.place) x r))
          ≡ held i r
      go true = held_same k i t x l (ap (wanted k) same)
      go false = held_same k i t x l (ap (wanted k) same)

  like_denied : (t : ℕ) → LooksLike r (deny_row t kind.Line r)
  like_denied t = record {
    place = refl;
    params = refl;
    lines = refl;
    count = ap (λ (n : ℕ). record (r.local.count) { denied = n }) (omega arith);
    credit_is = refl;
    part_done = refl;
    part_bag = refl;
    last = refl;
    over = refl;
    code = refl;
  }

  like_shrugged : (v : ℕ) → LooksLike r (shrug_row v kind.Line r)
  like_shrugged v = record {
    place = refl;
    params = refl;
    lines = refl;
    count = ap (λ (n : ℕ). record (r.local.count) { shrugs = n }) (omega arith);
    credit_is = refl;
    part_done = refl;
    part_bag = refl;
    last = refl;
    over = refl;
    code = refl;
  }

  pub noting : (w : Noted) → MayNote w r → Noting j (noted w) r
  noting (Look t k side.Inward x) m = record {
    like = looked_same t k side.Inward x r;
    sound = λ live items stop G F. sound_looked_in j.awake r F.sound t k x
        (λ e. apart (own_setup j.awake r) (proper_of j live items stop r G F) k t r.place
        (edge_alike j r k t r.place m.0.1) (sym e));
    held_is = λ live items stop G F i. looked_held k i t x m.0.0 m.1;
  }
  noting (Look v k side.Outward x) m = record {
    like = looked_same v k side.Outward x r;
    sound = λ live items stop G F. sound_looked_out j.awake r F.sound v k x m.0.0 m.1;
    held_is = λ live items stop G F i. held_away r.known k r.place v x r.lines.places (wanted i) i
        r.place
        (inr (apart (own_setup j.awake r) (proper_of j live items stop r G F) k r.place v
        (edge_alike j r k r.place v m.0.1)));
  }
  noting (DenyLine t) m = record {
    like = like_denied t;
    sound = λ live items stop G F. sound_denied j.awake r F.sound t kind.Line
        (apart_in j live items stop r G F kind.Line t (rw (like_asked _ m.2.0) (λ e. cc)));
    held_is = λ live items stop G F i. held_same kind.Line i t seen.Refused m.1.1
        (rw (like_asked _ m.2.0) refl);
  }
  noting (ShrugLine v) m = record {
    like = like_shrugged v;
    sound = λ live items stop G F. sound_shrugged_line j.awake r F.sound v m.2.0;
    held_is = λ live items stop G F i. refl;
  }
