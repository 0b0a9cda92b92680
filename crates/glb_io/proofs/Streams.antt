-- What an object tells through its adapter.
use Rattle.std.proofs.Common.{◌≡◌, ◌-◌, ℕ, ◌+◌, ◌⊎◌, inl, inr, Bool, true, false, if◌then◌else◌}
use Rattle.std.proofs.Common.{List, ◌++◌, length, take, drop, None, Some, IsSome}
use Rattle.std.proofs.Common.{refl, sym, ap, subst, ◌∙◌, append_assoc, take-add}
use Rattle.std.specs.declared.option.Option.{Option}
use Rattle.std.specs.Io.KnownBytes.{Consumes, Appends, IsAtEnd}
use Rattle.std.proofs.lemmas.List.{take_rest}
use Rattle.glb_io.specs.Bytes.{Takes, Gives, NoneLeft}

-- what std's readers say of bytes, in the words of sources
takes_from : (a b : Option (List ℕ)) (p : List ℕ) → (IsSome b → IsSome a) → Consumes a b p
    → Takes a b p
takes_from None None p s h = tt
takes_from None (Some y) p s h = let e = s refl in absurd (cc e)
takes_from (Some x) None p s h = tt
takes_from (Some x) (Some y) p s h = h

-- what std's writers say of bytes, in the words of sinks
gives_from : (a b : Option (List ℕ)) (p : List ℕ) → (IsSome b → IsSome a) → Appends a b p
    → Gives a b p
gives_from None None p s h = tt
gives_from None (Some y) p s h = let e = s refl in absurd (cc e)
gives_from (Some x) None p s h = tt
gives_from (Some x) (Some y) p s h = h

-- two pieces that were given one after the other are given together
gives_trans : (a b c : Option (List ℕ)) (p q : List ℕ) → Gives a b p → Gives b c q
    → Gives a c (p ++ q)
gives_trans a b None p q g h = tt
gives_trans a None (Some z) p q g h = absurd h
gives_trans None (Some y) (Some z) p q g h = absurd g
gives_trans (Some x) (Some y) (Some z) p q g h = h ∙ ap (λ l. l ++ q) g ∙ append_assoc x p q

-- what is told of s, where the adapter is not silent
abbrev pub told : {S : Type 0} → (S → Option (List ℕ)) → Bool → S → Option (List ℕ)
told bytes silent s = if silent then None else (bytes s)

module _ {S : Type 0} (bytes : S → Option (List ℕ))
    (steady : (s t : S) → IsSome (bytes s) → IsSome (bytes t)) where
  -- a read through the adapter takes what the reader gave
  pub read_taken : (first now after : S) (silent silent' : Bool) (p : List ℕ)
      → (silent' ≡ true) ⊎ ((silent' ≡ silent) × (now ≡ first))
      → Consumes (bytes now) (bytes after) p
      → Takes (told bytes silent first) (told bytes silent' after) p
  read_taken first now after silent true p quiet h = tt
  read_taken first now after true false p (inl e) h = absurd (cc e)
  read_taken first now after true false p (inr q) h = absurd (cc q.0)
  read_taken first now after false false p (inl e) h = absurd (cc e)
  read_taken first now after false false p (inr q) h =
      takes_from _ _ p (steady after first)
      (subst (λ s. Consumes (bytes s) (bytes after) p) q.1 h)

  -- the end of a reader is that of its adapter
  pub read_end : (after : S) (silent : Bool) → IsAtEnd (bytes after)
      → NoneLeft (told bytes silent after)
  read_end after true h = tt
  read_end after false h = at_end (bytes after) h
    where
      at_end : (a : Option (List ℕ)) → IsAtEnd a → NoneLeft a
      at_end None h = tt
      at_end (Some x) h = h

  -- a write through the adapter gives what the writer took
  write_given : (now after : S) (silent : Bool) (p : List ℕ)
      → Appends (bytes now) (bytes after) p
      → Gives (told bytes silent now) (told bytes silent after) p
  write_given now after true p h = tt
  write_given now after false p h = gives_from _ _ p (steady after now) h

  -- n bytes more of the piece were given
  pub write_more : (first now after : S) (silent silent' : Bool) (piece : List ℕ) (d n : ℕ)
      → Gives (told bytes silent first) (told bytes silent' now) (take d piece)
      → Appends (bytes now) (bytes after) (take n (take (length piece - d) (drop d piece)))
      → Gives (told bytes silent first) (told bytes silent' after) (take (d + n) piece)
  write_more first now after silent silent' piece d n g h =
      let before = told bytes silent first in
      let middle = told bytes silent' now in
      let last = told bytes silent' after in
      let whole : take (length piece - d) (drop d piece) ≡ drop d piece = take_rest piece d in
      let more : take d piece ++ take n (drop d piece) ≡ take (d + n) piece =
      sym (take-add d n piece) in
      let given = subst (λ l. Appends (bytes now) (bytes after) (take n l)) whole h in
      subst (Gives before last) more
      (gives_trans before middle last (take d piece) (take n (drop d piece)) g
      (write_given now after silent' (take n (drop d piece)) given))
