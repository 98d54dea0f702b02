use mathlib.Core.Path.{◌≡◌}
use Rattle.names.specs.Names.{both, data_at, same_text}
use Rattle.names.proofs.Letters.{comparing}
use Rattle.names.proofs.same_text.Given as goal

abbrev pub invariant-loop-i : goal.invariant-loop-i
invariant-loop-i l = comparing (data_at (both l.pre l.body) l.o1 l.s1) (data_at (both l.pre l.body) l.o2 l.s2) l.i ≡ same_text (both l.pre l.body) l.o1 l.s1 l.o2 l.s2
