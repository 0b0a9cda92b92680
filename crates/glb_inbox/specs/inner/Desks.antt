-- What a desk and a post stand for.
use Rattle.std.specs.Prelude.{◌≡◌, ℕ, ◌<◌, List, Some, Option}
use Rattle.atomic_table.specs.Seated.{TableId}
use Rattle.glb_cube.specs.Lines.{Cube}
use Rattle.glb_rules.specs.declared.params.Params.{Params}
use Rattle.glb_place.specs.Records.{IsFirst}
use Rattle.glb_inbox.specs.declared.books.Books.{Books}
use Rattle.glb_inbox.specs.declared.message.Tie.{Tie}
use Rattle.glb_inbox.specs.declared.rule.Start.{Start}
use Rattle.glb_inbox.specs.Posts.{DeskView, home_at}
use Rattle.glb_inbox.specs.inner.Books.{AreBooks, AreWays}
use Rattle.glb_inbox.specs.inner.Begins.{bags_of}
use Rattle.glb_inbox.specs.inner.Posted.{tie}

module _ {P B I : Type 0} where
  pub record IsDesk (items : B → List I) (fits : B → P → Type 0) (id : TableId) (program : P)
      (lines : Cube) (params : Params) (b : Books B I) (own : Option (Tie P))
      (ways : List (Option (Tie P)))
      : Type 0 where
    pub books : AreBooks items fits id program lines params b
    pub all_ways : AreWays id program lines.places ways
    pub own_way : own ≡ Some (tie program id)

-- a desk is as its place is at the start
pub record IsBegun {P B I : Type 0} (children : P → I → List I) (items : B → List I) (id : TableId)
    (key : Start P B)
    (p : ℕ) (d : DeskView P I) : Type 0 where
  pub program : d.program ≡ key.program.value
  pub home : d.home ≡ home_at id p
  pub kept : IsFirst key.lines.value key.params p (bags_of children items key p) d.kept

-- the table has three words, and there is a place
pub record IsPost {P B : Type 0} (id : TableId) (key : Start P B) : Type 0 where
  pub words : 2 < id.words
  pub some : 0 < key.lines.value.places
