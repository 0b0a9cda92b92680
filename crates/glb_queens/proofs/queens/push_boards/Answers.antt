use Rattle.std.proofs.Common.{rules, ◌≡◌, ◌++◌, ◌∷◌, [], ℕ, map, length, w32, ap, sym, ◌∙◌, arith, append-nil}
use Rattle.std.specs.Int.{trailing_zeros}
use Rattle.glb_queens.specs.inner.Masks.{columns_in}
use Rattle.glb_queens.proofs.ColumnsOfMasks.{lowest, pushed_more, columns_few, columns_none}
use Rattle.glb_queens.proofs.queens.push_boards.Goals as goal

pub with_queen-requires-clause-column : goal.with_queen-requires-clause-column
with_queen-requires-clause-column c =
    (lowest c.columns.left (omega arith) (search rules)
    (λ k set. (c.columns.invariant.free k set).0)).small

pub with_queen-requires-clause-free : goal.with_queen-requires-clause-free
with_queen-requires-clause-free c =
    let low = lowest c.columns.left (omega arith) (search rules)
    (λ k set. (c.columns.invariant.free k set).0) in
    (c.columns.invariant.free _ low.set).1

pub columns-smaller : goal.columns-smaller
columns-smaller c =
    let low = lowest c.columns.left (omega arith) (search rules)
    (λ k set. (c.columns.invariant.free k set).0) in
    omega (arith, ap length low.first)

pub columns-preserved : goal.columns-preserved
columns-preserved c =
    let low = lowest c.columns.left (omega arith) (search rules)
    (λ k set. (c.columns.invariant.free k set).0) in
    let next = λ (column : ℕ). c.args.board.now ++ column ∷ [] in
    let t = trailing_zeros w32 c.columns.left in
    let after : c.push_reserved.new.self.items ≡ c.columns.out.items ++ next t ∷ [] =
    c.push_reserved.ensures.items ∙ ap (λ b. c.columns.out.items ++ b ∷ []) c.with_queen.ensures
    in
    record {
      free = λ k set. c.columns.invariant.free k (low.only k set);
      pushed = pushed_more next c.columns.out.items c.push_reserved.new.self.items
          (columns_in c.columns.left)
          (columns_in _) t _ low.first after c.columns.invariant.pushed;
      room = omega (
        arith,
        ap length low.first,
        c.columns.invariant.room,
        c.push_reserved.ensures.len,
        c.push_reserved.ensures.capacity,
      );
    }

pub push_reserved-requires : goal.push_reserved-requires
push_reserved-requires c =
    let low = lowest c.columns.left (omega arith) (search rules)
    (λ k set. (c.columns.invariant.free k set).0) in
    omega (arith, ap length low.first, c.columns.invariant.room)

pub returns-clause-appended : goal.returns-clause-appended
returns-clause-appended c =
    let next = λ (column : ℕ). c.args.board.now ++ column ∷ [] in
    let none : columns_in c.columns.left ≡ [] = ap columns_in c.columns-test.false ∙ columns_none in
    sym (append-nil c.columns.out.items) ∙ ap (λ l. c.columns.out.items ++ map next l) (sym none)
    ∙ c.columns.invariant.pushed

pub returns-then-left-eq0-clause-appended : goal.returns-then-left-eq0-clause-appended
returns-then-left-eq0-clause-appended c =
    let none : columns_in c.args.free ≡ [] = ap columns_in c.if-left-eq0.true ∙ columns_none in
    sym (append-nil c.args.out.now.items)
    ∙ ap (λ l. c.args.out.now.items ++ map (λ column. c.args.board.now ++ column ∷ []) l) (sym none)

pub columns-init : goal.columns-init
columns-init c =
    let same : c.take_room.new.out.items ≡ c.args.out.now.items = c.in_ok-take_room.ensures.items in
    record {
      free = c.requires.free;
      pushed = ap (λ l. l ++ map (λ column. c.args.board.now ++ column ∷ [])
          (columns_in c.args.free)) same;
      room = omega (arith, c.in_ok-take_room.ensures.room, columns_few c.args.free);
    }
