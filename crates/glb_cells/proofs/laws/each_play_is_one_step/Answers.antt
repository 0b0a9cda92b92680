use Rattle.std.proofs.Common.{◌-◌, ◌+◌, ◌++◌, ◌∷◌, [], Some, None, refl, ap}
use Rattle.glb_place.specs.Rows.{known_row, mint_row, burn_row, sleep_row, halt_row, halted_row, batch_row}
use Rattle.glb_cells.specs.Words.{read}
use Rattle.glb_cells.specs.Plays.{IsCounted, rest_of, asked_at, looked_at, denied_at, given_up_at, shrugged_line_at, read_live, gave_at, took_at}
use Rattle.glb_cells.proofs.StepLemmas.Counted.{counted, counted_of}
use Rattle.glb_cells.proofs.laws.each_play_is_one_step.Goals as goal

pub returns-clause-settle : goal.returns-clause-settle
returns-clause-settle g c = λ rest gains st m m' k r one p. counted_of m r p.0 one p.2
    (λ z. IsCounted k z m') (counted k (λ x. batch_row (k + st.first) p.1 rest x.own) (λ x. x.hand)
    m.1 (p.0 ∷ [], m.1) m' p.0 refl p.6)

pub returns-clause-ask : goal.returns-clause-ask
returns-clause-ask g c = λ n st m m' k r one p. counted k (λ x. asked_at n x.own) (λ x. x.hand) m.1
    m m' r one p.1

pub returns-clause-look : goal.returns-clause-look
returns-clause-look g c = λ n st m m' k r one p. counted k (λ x. looked_at n (read k) x.own)
    (λ x. x.hand) m.1 m m' r one p.0

pub returns-clause-learn : goal.returns-clause-learn
returns-clause-learn g c = λ n st m m' k r one p. counted k (λ x. known_row n (read k) x.own)
    (λ x. x.hand) m.1 m m' r one p.0

pub returns-clause-deny : goal.returns-clause-deny
returns-clause-deny g c = λ n st m m' k r one p. counted k (λ x. denied_at n x.own) (λ x. x.hand)
    m.1 m m' r one p.1

pub returns-clause-give_up : goal.returns-clause-give_up
returns-clause-give_up g c = λ n st m m' k r one p. counted k (λ x. given_up_at n x.own)
    (λ x. x.hand) m.1 m m' r one p.1

pub returns-clause-shrug : goal.returns-clause-shrug
returns-clause-shrug g c = λ n st m m' k r one p. counted k (λ x. shrugged_line_at n k x.own)
    (λ x. x.hand) m.1 m m' r one p.0

pub returns-clause-halt : goal.returns-clause-halt
returns-clause-halt g c = λ st m m' k r one p. counted k (λ x. halt_row st.first x.own)
    (λ x. x.hand) m.1 m m' r one p

pub returns-clause-stop : goal.returns-clause-stop
returns-clause-stop g c = λ st m m' k r one p. counted k (λ x. halted_row k x.own) (λ x. x.hand) m.1
    m m' r one p.0

pub returns-clause-mint : goal.returns-clause-mint
returns-clause-mint g c = λ st m m' k r one p. counted k (λ x. mint_row x.own) (λ x. x.hand) m.1 m
    m' r one p

pub returns-clause-begin : goal.returns-clause-begin
returns-clause-begin g c = λ part st m m' k r one p. counted k (λ x. x.own)
    (λ x. Some (st.word - 3, part)) ((st.word - 3, None) ∷ m.1) m m' r one p

pub returns-clause-hand : goal.returns-clause-hand
returns-clause-hand g c = λ n st m m' k r one p. counted_of m r p.0 one
    (ap (λ x. x.0) p.3) (λ z. IsCounted k z m') (counted k (λ x. gave_at n (g.B.Bag.items p.1) p.2 x.own)
    (λ x. None) (rest_of m.1) (p.0 ∷ [], m.1) m' p.0 refl p.6)

pub returns-clause-take : goal.returns-clause-take
returns-clause-take g c = λ n st m m' k r one p. counted_of m r p.0 one p.2
    (λ z. IsCounted k z m') (counted k (λ x. took_at n (g.B.Bag.items p.1)
    (g.B.Bag.items p.1 ++ x.own.local.bag) x.own) (λ x. Some (st.word - 3, g.B.Bag.items p.1))
    ((st.word - 3, Some p.1) ∷ m.1) (p.0 ∷ [], m.1) m' p.0 refl p.5)

pub returns-clause-clear : goal.returns-clause-clear
returns-clause-clear g c = λ st m m' k r one p. counted k (λ x. x.own) (λ x. None)
    (rest_of m.1) m m' r one p

pub returns-clause-burn : goal.returns-clause-burn
returns-clause-burn g c = λ st m m' k r one p. counted k (λ x. burn_row x.own) (λ x. x.hand) m.1 m
    m' r one p

pub returns-clause-sleep : goal.returns-clause-sleep
returns-clause-sleep g c = λ st m m' k r one p. counted k (λ x. sleep_row x.own) (λ x. x.hand) m.1 m
    m' r one p

pub returns-clause-over : goal.returns-clause-over
returns-clause-over g c = λ st m m' k r one p. counted k (λ x. read_live k x.own) (λ x. x.hand) m.1
    m m' r one p
