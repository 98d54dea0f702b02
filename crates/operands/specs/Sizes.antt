-- What fits: of the values that are popped, so that GET's place in the cells is a word and SHAPE's numbers are inside the limits; of an
-- effect, so that the engine can do its part. Assumes nothing.
use Rattle.std.specs.Prelude.{◌+◌, ◌<◌, Option, Some, None}
use Rattle.machine.specs.declared.Value.{Value}
use Rattle.machine.specs.declared.Value.TheVariants.{Number, Identifier, Vector, Operator}
use Rattle.machine.specs.declared.Work.{Work}
use Rattle.machine.specs.declared.Work.TheVariants.{Nothing, Fetch, Element, Build, Spell, Utter, Compose, Repeat, Turn, Match, Report}
use Rattle.machine.specs.declared.Next.{Next}
use Rattle.machine.specs.declared.Next.TheVariants.{Works, Inline, Call, Store, Place, Remove, Tally}
use Rattle.machine.specs.declared.Effect.{Effect}
use Rattle.machine.specs.declared.Effect.TheVariants.{Gives, Gives2, Acts}

abbrev pub Small : Value → Type 0
Small (Number a) = Unit
Small (Identifier origin start len) = Unit
Small (Vector first lower count) = (first < 2147483648) × (lower < 2147483648) × (count < 2147483648)
Small (Operator origin start len first) = Unit

-- ---- an effect: the lower bound of a vector to build, and the end of a body to enter

abbrev pub SizedWork : Work → Type 0
SizedWork Nothing = Unit
SizedWork (Fetch j) = Unit
SizedWork (Element cell) = Unit
SizedWork (Build lower count) = lower < 2147483648
SizedWork (Spell start) = Unit
SizedWork (Utter start len) = Unit
SizedWork (Compose start len) = Unit
SizedWork (Repeat count) = Unit
SizedWork (Turn depth first) = Unit
SizedWork (Match x y) = Unit
SizedWork (Report v) = Unit

abbrev pub SizedNext : Next → Type 0
SizedNext (Works w) = SizedWork w
SizedNext (Inline start len owes) = start + len < 4294967296
SizedNext (Call origin start len first) = Unit
SizedNext (Store j) = Unit
SizedNext (Place count) = Unit
SizedNext (Remove count) = Unit
SizedNext Tally = Unit

abbrev pub Sized : Option Effect → Type 0
Sized None = Unit
Sized (Some (Gives a)) = Unit
Sized (Some (Gives2 a b)) = Unit
Sized (Some (Acts x)) = SizedNext x
