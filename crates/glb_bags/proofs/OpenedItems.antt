-- What is made, with items that are opened.
use Rattle.std.proofs.Common.{◌≡◌, ℕ, ◌+◌, ◌-◌, ◌<◌, ◌≤◌, Bool, true, false, ◌++◌, ◌∷◌, [], List, length, take, drop, map, cond, get_or, set, ap₂, take-append-drop, Some, slice_get, refl, sym, ap, subst, ◌∙◌, arith, append_assoc, append-nil, length-append, length-take}
use Rattle.std.proofs.lemmas.List.{take-map, map-append, take_more, take_at, drop_at, drop_more, set_at}
use Rattle.std.proofs.lemmas.Option.{slice_get_within, get_or_from_slice_get}
use Rattle.std.specs.List.{insert}
use Rattle.glb_bags.specs.declared.entry.Made.{Made}
use Rattle.glb_bags.specs.declared.entry.Entry.{Entry}
use Rattle.glb_bags.specs.Ranges.{IsKept, IsHeld, IsOpenBehind, with_item, all_closed, AllOpen, closed_item}
use Rattle.glb_bags.specs.inner.Entries.{opened_item, IsReady, IsLastReady, all_children, without_last}
use Rattle.glb_bags.proofs.RangesOfChildren.{IsTaken, taken, last_of, last_known, last_split, some_made}

module _ {X : Type 0} (children : X → List X) where
  pub all_closed-append : (before : List X) (ms ns : List (Made X))
      → all_closed children before (ms ++ ns)
      ≡ all_closed children (all_closed children before ms) ns
  all_closed-append before [] ns = refl
  all_closed-append before (m ∷ ms) ns = all_closed-append (with_item children before m) ms ns

  pub AllOpen-append : (before : List X) (ms ns : List (Made X)) → AllOpen children before ms
      → AllOpen children (all_closed children before ms) ns → AllOpen children before (ms ++ ns)
  AllOpen-append before [] ns g h = h
  AllOpen-append before (m ∷ ms) ns g h =
      (g.0, AllOpen-append (with_item children before m) ms ns g.1 h)

  pub AllOpen-left : (before : List X) (ms ns : List (Made X)) → AllOpen children before (ms ++ ns)
      → AllOpen children before ms
  AllOpen-left before [] ns h = tt
  AllOpen-left before (m ∷ ms) ns h =
      (h.0, AllOpen-left (with_item children before m) ms ns h.1)

  pub AllOpen-right : (before : List X) (ms ns : List (Made X))
      → AllOpen children before (ms ++ ns)
      → AllOpen children (all_closed children before ms) ns
  AllOpen-right before [] ns h = h
  AllOpen-right before (m ∷ ms) ns h = AllOpen-right (with_item children before m) ms ns h.1

  -- items that are not opened stand for themselves
  pub all_closed-closed : (before xs : List X)
      → all_closed children before (map closed_item xs) ≡ before ++ xs
  all_closed-closed before [] = sym (append-nil before)
  all_closed-closed before (x ∷ xs) =
      all_closed-closed (before ++ x ∷ []) xs ∙ append_assoc before (x ∷ []) xs

  pub AllOpen-closed : (before xs : List X) → AllOpen children before (map closed_item xs)
  AllOpen-closed before [] = tt
  AllOpen-closed before (x ∷ xs) = ((λ e. cc), AllOpen-closed (before ++ x ∷ []) xs)

  -- a list that ends with another one, without it
  cut_end : (xs ys : List X) → take (length (xs ++ ys) - length ys) (xs ++ ys) ≡ xs
  cut_end xs ys = take_at xs ys _ (omega (arith, length-append xs ys))

  -- what is put behind a longer list
  step_behind : (front before : List X) (m : Made X) → IsOpenBehind children before m
      → IsOpenBehind children (front ++ before) m
      × (with_item children (front ++ before) m ≡ front ++ with_item children before m)
  step_behind front before m h = step m.opened h
    where
      ch : List X
      ch = children m.item

      step : (b : Bool) → (b ≡ true → take (length before - length ch) before ++ ch ≡ before)
          → (b ≡ true
          → take (length (front ++ before) - length ch) (front ++ before) ++ ch ≡ front ++ before)
          × (cond b (take (length (front ++ before) - length ch) (front ++ before))
          (front ++ before)
          ++ m.item ∷ []
          ≡ front ++ (cond b (take (length before - length ch) before) before ++ m.item ∷ []))
      step false h = ((λ e. cc), append_assoc front before (m.item ∷ []))
      step true h =
          let rest : List X = take (length before - length ch) before in
          let whole : rest ++ ch ≡ before = h refl in
          let long : (front ++ rest) ++ ch ≡ front ++ before =
          append_assoc front rest ch ∙ ap (λ l. front ++ l) whole in
          let cut : take (length (front ++ before) - length ch) (front ++ before) ≡ front ++ rest =
          ap (λ l. take (length l - length ch) l) (sym long) ∙ cut_end (front ++ rest) ch in (
            (λ e. ap (λ l. l ++ ch) cut ∙ long),
            ap (λ l. l ++ m.item ∷ []) cut ∙ append_assoc front rest (m.item ∷ []),
          )

  pub AllOpen-behind : (front before : List X) (ms : List (Made X)) → AllOpen children before ms
      → AllOpen children (front ++ before) ms
  AllOpen-behind front before [] h = tt
  AllOpen-behind front before (m ∷ ms) h =
      let one = step_behind front before m h.0 in (
        one.0,
        subst (λ l. AllOpen children l ms) (sym one.1)
            (AllOpen-behind front (with_item children before m) ms h.1),
      )

  pub all_closed-behind : (front before : List X) (ms : List (Made X))
      → AllOpen children before ms
      → all_closed children (front ++ before) ms ≡ front ++ all_closed children before ms
  all_closed-behind front before [] h = refl
  all_closed-behind front before (m ∷ ms) h =
      let one = step_behind front before m h.0 in
      ap (λ l. all_closed children l ms) one.1
      ∙ all_closed-behind front (with_item children before m) ms h.1

  -- lists of made items joined
  pub joined_open : (ms ns : List (Made X)) → AllOpen children [] ms → AllOpen children [] ns
      → AllOpen children [] (ms ++ ns)
  joined_open ms ns g h =
      AllOpen-append [] ms ns g
      (subst (λ l. AllOpen children l ns) (append-nil (all_closed children [] ms))
      (AllOpen-behind (all_closed children [] ms) [] ns h))

  pub joined_closed : (ms ns : List (Made X)) → AllOpen children [] ns
      → all_closed children [] (ms ++ ns)
      ≡ all_closed children [] ms ++ all_closed children [] ns
  joined_closed ms ns h =
      all_closed-append [] ms ns
      ∙ ap (λ l. all_closed children l ns) (sym (append-nil (all_closed children [] ms)))
      ∙ all_closed-behind (all_closed children [] ms) [] ns h

  -- an item is opened
  pub record Opens (old new : List (Made X)) : Type 0 where
    pub all_open : AllOpen children [] new
    pub same : all_closed children [] new ≡ all_closed children [] old

  pub opens : (front back : List (Made X)) (x : X)
      → AllOpen children [] (front ++ closed_item x ∷ back)
      → Opens (front ++ closed_item x ∷ back)
      ((front ++ map closed_item (children x)) ++ opened_item x ∷ back)
  opens front back x h =
      let ys : List X = all_closed children [] front in
      let ch : List X = children x in
      let left = AllOpen-left [] front (closed_item x ∷ back) h in
      let right = AllOpen-right [] front (closed_item x ∷ back) h in
      let cut : take (length (ys ++ ch) - length ch) (ys ++ ch) ≡ ys = cut_end ys ch in
      let put : with_item children (ys ++ ch) (opened_item x) ≡ ys ++ x ∷ [] =
      ap (λ l. l ++ x ∷ []) cut in
      let mid : all_closed children [] (front ++ map closed_item ch) ≡ ys ++ ch =
      all_closed-append [] front (map closed_item ch) ∙ all_closed-closed ys ch in
      record {
        all_open = AllOpen-append [] (front ++ map closed_item ch) (opened_item x ∷ back)
            (AllOpen-append [] front (map closed_item ch) left (AllOpen-closed ys ch))
            (subst (λ l. AllOpen children l (opened_item x ∷ back)) (sym mid) (
              (λ e. ap (λ l. l ++ ch) cut),
              subst (λ l. AllOpen children l back) (sym put) right.1,
            ));
        same = all_closed-append [] (front ++ map closed_item ch) (opened_item x ∷ back)
            ∙ ap (λ l. all_closed children l (opened_item x ∷ back)) mid
            ∙ ap (λ l. all_closed children l back) put
            ∙ sym (all_closed-append [] front (closed_item x ∷ back));
      }

  -- the last made item is taken off
  pub record Popped (made front : List (Made X)) (m : Made X) : Type 0 where
    pub rest : List X
    pub made_is : all_closed children [] made ≡ rest ++ m.item ∷ []
    pub front_is : all_closed children [] front ≡ rest ++ cond m.opened (children m.item) []
    pub all_open : AllOpen children [] front

  pub popped : (made front : List (Made X)) (m : Made X) → AllOpen children [] made
      → made ≡ front ++ m ∷ [] → Popped made front m
  popped made front m h o =
      let ys = all_closed children [] front in
      let both = subst (AllOpen children []) o h in
      let last = (AllOpen-right [] front (m ∷ []) both).0 in
      let all : all_closed children [] made ≡ with_item children ys m =
      ap (all_closed children []) o ∙ all_closed-append [] front (m ∷ []) in
      record {
        rest = cond m.opened (take (length ys - length (children m.item)) ys) ys;
        made_is = all;
        front_is = parts m.opened ys (children m.item) last;
        all_open = AllOpen-left [] front (m ∷ []) both;
      }
    where
      parts : (b : Bool) (ys ch : List X)
          → (b ≡ true → take (length ys - length ch) ys ++ ch ≡ ys)
          → ys ≡ cond b (take (length ys - length ch) ys) ys ++ cond b ch []
      parts true ys ch e = sym (e refl)
      parts false ys ch e = sym (append-nil ys)

module _ {X : Type 0} (children : X → List X) where
  -- what is made, and not opened, is held
  pub held_closed : (es : List (Entry X)) (xs : List X) (ms : List (Made X))
      → IsKept children es xs → ms ≡ map closed_item xs → IsHeld children es ms
  held_closed es xs ms k e = record {
    kept = subst (IsKept children es)
        (sym (ap (all_closed children []) e ∙ all_closed-closed children [] xs)) k;
    all_open = subst (AllOpen children []) (sym e) (AllOpen-closed children [] xs);
  }

  -- items that are made are put behind
  pub held_more : (old new : List (Entry X)) (ms after : List (Made X)) (xs : List X)
      → AllOpen children [] ms → IsKept children new (all_closed children [] ms ++ xs)
      → after ≡ ms ++ map closed_item xs → IsHeld children new after
  held_more old new ms after xs h k e = record {
    kept = subst (IsKept children new)
        (sym (ap (all_closed children []) e ∙ all_closed-append children [] ms (map closed_item xs)
        ∙ all_closed-closed children (all_closed children [] ms) xs))
        k;
    all_open = subst (AllOpen children []) (sym e)
        (AllOpen-append children [] ms (map closed_item xs) h
        (AllOpen-closed children (all_closed children [] ms) xs));
  }

  -- where the last item is made, something is made
  pub some_held : (entries : List (Entry X)) (made : List (Made X)) → 0 < length entries
      → IsHeld children entries made → IsLastReady entries → 0 < length made
  some_held entries (m ∷ made) some held ready = omega arith
  some_held entries [] some held ready =
      let last = last_of entries some in
      some_made children entries (take (length entries - 1) entries) [] last.element held.kept
      last.split (ready last.element last.read)

  -- a bag before and after its last item was expanded
  pub record IsTakenHeld (entries after : List (Entry X)) (made_after : List (Made X)) (item : X)
      : Type 0 where
    pub taken : IsTaken children entries after (all_closed children [] made_after) item
    pub all_open : AllOpen children [] made_after

  pub taken_held : (entries front after : List (Entry X)) (made made_after : List (Made X))
      (e : Entry X) (m : Made X) (fan : ℕ) → IsHeld children entries made
      → entries ≡ front ++ e ∷ [] → IsReady e → 0 < length made
      → m ≡ get_or made (length made - 1) m → made_after ≡ take (length made - 1) made
      → fan ≡ length (children m.item)
      → after ≡ (front ++ without_last e) ++ all_children m.item fan m.opened
      → IsTakenHeld entries after made_after m.item
  taken_held entries front after made made_after e m fan held o ready some read cut wide n =
      let ms : List (Made X) = take (length made - 1) made in
      let p = popped children made ms m held.all_open (last_split made m some read) in
      let xs : List X = all_closed children [] made in
      let long : 0 < length xs =
      omega (arith, ap length p.made_is, length-append p.rest (m.item ∷ [])) in
      let last = last_of xs long in
      let known = last_known xs p.rest m.item last.element p.made_is last.read in
      record {
        taken = taken children entries front after xs (all_closed children [] made_after) e m.item
            fan m.opened held.kept o ready
            (subst (λ y. y ≡ get_or xs (length xs - 1) y) known.0 last.read)
            (ap (all_closed children []) cut ∙ p.front_is
            ∙ ap (λ l. l ++ cond m.opened (children m.item) []) (sym known.1))
            wide n;
        all_open = subst (AllOpen children []) (sym cut) p.all_open;
      }

module _ {X : Type 0} (children : X → List X) where
  -- a list of items that are not opened, one item on
  pub copy_step : (before : List X) (m : Made X) (old cut new : List (Made X))
      → old ≡ map closed_item before
      → (m.opened ≡ true → cut ≡ take (length before - length (children m.item)) old)
      → (m.opened ≡ false → cut ≡ old)
      → new ≡ cut ++ closed_item m.item ∷ []
      → new ≡ map closed_item (with_item children before m)
  copy_step before m old cut new o t f n = part m.opened t f
    where
      k : ℕ
      k = length before - length (children m.item)

      part : (b : Bool) → (b ≡ true → cut ≡ take k old) → (b ≡ false → cut ≡ old)
          → new ≡ map closed_item (cond b (take k before) before ++ m.item ∷ [])
      part true t f =
          n ∙ ap (λ l. l ++ closed_item m.item ∷ [])
          (t refl ∙ ap (take k) o ∙ take-map closed_item k before)
          ∙ sym (map-append closed_item (take k before) (m.item ∷ []))
      part false t f =
          n ∙ ap (λ l. l ++ closed_item m.item ∷ []) (f refl ∙ o)
          ∙ sym (map-append closed_item before (m.item ∷ []))

  -- the items before an opened one are as many as its children, at least
  pub enough_before : (before : List X) (m : Made X) → IsOpenBehind children before m
      → m.opened ≡ true → length (children m.item) ≤ length before
  enough_before before m h e =
      let rest : List X = take (length before - length (children m.item)) before in
      omega (arith, ap length (h e), length-append rest (children m.item))

  -- made items up to a place, and the one at that place
  pub all_closed-more : (made : List (Made X)) (i : ℕ) (m : Made X) → i < length made
      → m ≡ get_or made i m
      → all_closed children [] (take (i + 1) made)
      ≡ with_item children (all_closed children [] (take i made)) m
  all_closed-more made i m lt read =
      ap (all_closed children []) (take_more made i m lt)
      ∙ all_closed-append children [] (take i made) (get_or made i m ∷ [])
      ∙ ap (with_item children (all_closed children [] (take i made))) (sym read)

  pub open_at : (made : List (Made X)) (i : ℕ) (m : Made X) → AllOpen children [] made
      → i < length made → m ≡ get_or made i m
      → IsOpenBehind children (all_closed children [] (take i made)) m
  open_at made i m h lt read =
      let parts : made ≡ take i made ++ get_or made i m ∷ drop (i + 1) made =
      sym (take-append-drop i made) ∙ ap (λ l. take i made ++ l) (drop_more made i m lt) in
      subst (IsOpenBehind children (all_closed children [] (take i made))) (sym read)
      (AllOpen-right children [] (take i made) (get_or made i m ∷ drop (i + 1) made)
      (subst (AllOpen children []) parts h)).0

-- an element of a list is replaced
pub set_split : {X : Type 0} (xs : List X) (i : ℕ) (y : X) → i < length xs
    → set xs i y ≡ take i xs ++ y ∷ drop (i + 1) xs
set_split xs i y lt =
    let long : length (take i xs) ≡ i = omega (arith, length-take i xs) in
    ap (λ l. set l i y)
    (sym (take-append-drop i xs) ∙ ap (λ l. take i xs ++ l) (drop_more xs i y lt))
    ∙ set_at (take i xs) (get_or xs i y) (drop (i + 1) xs) y i long

-- an element that was read, with what stands before and behind it
pub read_split : {X : Type 0} (xs : List X) (i : ℕ) (x : X) → slice_get xs i ≡ Some x
    → xs ≡ take i xs ++ x ∷ drop (i + 1) xs
read_split xs i x read =
    sym (take-append-drop i xs)
    ∙ ap (λ l. take i xs ++ l) (drop_more xs i x (slice_get_within xs i x read))
    ∙ ap (λ y. take i xs ++ y ∷ drop (i + 1) xs) (get_or_from_slice_get xs i x x read)

-- an element is put between two parts of a list
pub insert_between : {X : Type 0} (front back xs : List X) (i : ℕ) (y : X) → xs ≡ front ++ back
    → length front ≡ i → insert xs i y ≡ (front ++ y ∷ []) ++ back
insert_between front back xs i y e long =
    ap (λ l. insert l i y) e
    ∙ ap₂ (λ l m. l ++ y ∷ m) (take_at front back i long) (drop_at front back i long)
    ∙ sym (append_assoc front (y ∷ []) back)
