-- What the reader of graph text answers.
use Rattle.std.specs.Prelude.{◌≡◌, ℕ, List, length}
use Rattle.glb_graph.specs.Rows.{graph_of}
use Rattle.glb_graph.specs.GraphText.{BytesSay, Edges, Fault}
use Rattle.glb_graph.specs.GraphText as text
use Rattle.glb_graph.specs.declared.text.GraphFault.{GraphFault}
use Rattle.glb_graph.specs.declared.text.GraphFault.TheVariants as fault

-- the bytes are graph text of this graph
pub record IsTextOf (bytes : List ℕ) (rows : List (List ℕ)) : Type 0 where
  pub pairs : List (ℕ × ℕ)
  pub says : BytesSay bytes (Edges (length rows) pairs)
  pub graph_is : rows ≡ graph_of (length rows) pairs

-- the bytes have this fault; want of memory says nothing of them
abbrev pub HasTextFault : List ℕ → GraphFault → Type 0
HasTextFault bytes (fault.BadLine line) = BytesSay bytes (Fault text.BadLine line)
HasTextFault bytes (fault.TooLarge line) = BytesSay bytes (Fault text.TooLarge line)
HasTextFault bytes (fault.BadEnd line) = BytesSay bytes (Fault text.BadEnd line)
HasTextFault bytes fault.NoMemory = Unit {0}
