-- What holds where live is 0.
use Rattle.std.specs.Prelude.{◌≡◌, ℕ, ◌+◌, Bool, List, []}
use Rattle.std.specs.List.{flat_map}
use Rattle.glb_rules.specs.Setups.{bit, degree}
use Rattle.glb_rules.specs.Lawful.{armed_at_start}
use Rattle.glb_rules.specs.declared.kinds.Kind.TheVariants as kind
use Rattle.glb_rules.specs.declared.kinds.Credit.TheVariants as credit
use Rattle.glb_place.specs.declared.record.Record.{Record}
use Rattle.glb_inbox.specs.declared.view.Member.{Member}
use Rattle.glb_inbox.specs.declared.view.Member.TheVariants.{Place, Request, Refusal, Parcel}
use Rattle.glb_inbox.specs.inner.Members.{total, Each, tally, requests, refusals, parcels, left_in}
use Rattle.glb_inbox.specs.inner.Rule.{own_setup, own_busy}

-- the balances of one place, which has no credit and knows none of its own steal edges as other
-- than Idle
pub record PlaceEnded {I : Type 0} (awake : ℕ → Bool) (r : Record I) : Type 0 where
  pub no_credit : r.local.credit ≡ credit.Zero
  pub empty : r.local.bag ≡ []
  pub own : own_busy kind.Steal r ≡ 0
  pub asks : r.local.count.asks ≡ r.local.count.shrugs + r.local.count.got
  pub lines : armed_at_start (own_setup awake r) r.place + r.local.count.line_asks
      ≡ r.local.count.line_got + degree (own_setup awake r) r.place
  pub naps : r.local.count.sleeps ≡ r.local.count.wakes + bit (awake r.place)

abbrev pub MemberEnded : {I : Type 0} → (ℕ → Bool) → Member I → Type 0
MemberEnded awake (Place x) = PlaceEnded awake x.kept
MemberEnded awake (Request k) = Unit {0}
MemberEnded awake Refusal = Unit {0}
MemberEnded awake (Parcel k xs) = ⊥

pub record Ended {I : Type 0} (awake : ℕ → Bool) (ms : List (Member I)) : Type 0 where
  pub each : Each (MemberEnded awake) ms
  pub nothing_left : flat_map left_in ms ≡ []
  pub no_requests : total (requests kind.Steal) ms ≡ 0
  pub no_refusals : total refusals ms ≡ 0
  pub no_parcels : (total (parcels kind.Steal) ms ≡ 0) × (total (parcels kind.Line) ms ≡ 0)
  pub given : total (tally (λ c. c.given)) ms ≡ total (tally (λ c. c.got)) ms
  pub line_given : total (tally (λ c. c.line_given)) ms ≡ total (tally (λ c. c.line_got)) ms
  pub units : total (tally (λ c. c.sent_units)) ms ≡ total (tally (λ c. c.got_units)) ms
  pub asks : total (tally (λ c. c.asks)) ms ≡ total (tally (λ c. c.denied)) ms + total
      (tally (λ c. c.given)) ms
