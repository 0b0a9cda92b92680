-- The answer for words that give no settings.
use Rattle.std.specs.Prelude.{◌≡◌, Result, Err}
use Rattle.glb_words.specs.declared.fault.WordFault.{WordFault}
use Rattle.glb_words.specs.declared.fault.OrderFault.{OrderFault}
use Rattle.glb_words.specs.declared.fault.OrderFault.TheVariants as order_fault

-- the fault is the one that the words have, or want of memory
abbrev pub IsFaultOf : {T : Type 0} → Result T WordFault → OrderFault → Type 0
IsFaultOf r (order_fault.Bad fault) = r ≡ Err fault
IsFaultOf r order_fault.NoMemory = Unit {0}
