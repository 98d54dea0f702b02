-- FGET and FSET of no Cardinal, and of one that is no element's. Assumes nothing.
use mathlib.Core.Path.{◌≡◌, ◌∙◌}
use Prim.Native.Nat.{ℕ, ◌≤◌}
use borrow.Author.Tests.{le-ltb}
use Rattle.std.specs.Prelude.{Option, Some, None}
use Rattle.machine.specs.declared.Value.{Value}
use Rattle.machine.specs.declared.FrameOp.{FrameOp}
use Rattle.machine.specs.declared.FrameOp.TheVariants.{Fget, Fset}
use Rattle.machine.specs.Operand.{cardinal?, only_if}
use Rattle.machine.specs.Ops.Frame.{frame_effect}
use Rattle.operands.proofs.Reading.{no_card, is_card, when_not}

pub frame_none : (o : FrameOp) (x : Value) {k : Option ℕ} → k ≡ cardinal? x → k ≡ None → None ≡ frame_effect o x
unfolding frame_effect
frame_none Fget x told e = no_card x _ told e
frame_none Fset x told e = no_card x _ told e

pub frame_far : (o : FrameOp) (x : Value) {k : Option ℕ} {j : ℕ} → k ≡ cardinal? x → k ≡ Some j → 50 ≤ j → None ≡ frame_effect o x
unfolding frame_effect only_if
frame_far Fget x told e h = when_not _ _ (le-ltb _ _ h) ∙ is_card x _ told e
frame_far Fset x told e h = when_not _ _ (le-ltb _ _ h) ∙ is_card x _ told e
