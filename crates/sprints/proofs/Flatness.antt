-- Effects that make no cells, enter no body and place no mark. Assumes nothing.
use Rattle.std.specs.Prelude.{Option, Some, None}
use mathlib.Core.Bool.{Bool, true, false}
use Rattle.machine.specs.declared.Work.{Work}
use Rattle.machine.specs.declared.Work.TheVariants.{Nothing, Fetch, Element, Build, Spell, Utter, Compose, Repeat, Turn, Match, Report}
use Rattle.machine.specs.declared.Next.{Next}
use Rattle.machine.specs.declared.Next.TheVariants.{Works, Inline, Call, Store, Place, Remove, Tally}
use Rattle.machine.specs.declared.Effect.{Effect}
use Rattle.machine.specs.declared.Effect.TheVariants.{Gives, Gives2, Acts}

abbrev pub flat_work : Work → Bool
flat_work Nothing = true
flat_work (Fetch j) = true
flat_work (Element cell) = true
flat_work (Build lower n) = false
flat_work (Spell start) = false
flat_work (Utter start len) = true
flat_work (Compose start len) = false
flat_work (Repeat n) = true
flat_work (Turn n m) = true
flat_work (Match v u) = true
flat_work (Report v) = true

abbrev pub flat_next : Next → Bool
flat_next (Works x) = flat_work x
flat_next (Inline start len owes) = false
flat_next (Call origin start len first) = false
flat_next (Store j) = true
flat_next (Place n) = false
flat_next (Remove n) = true
flat_next Tally = true

abbrev pub flat : Option Effect → Bool
flat None = false
flat (Some (Gives a)) = true
flat (Some (Gives2 a b)) = true
flat (Some (Acts x)) = flat_next x
