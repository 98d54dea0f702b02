-- IF in the words of the table, CORRECT and IFCOPY. Assumes nothing.
use Rattle.std.specs.Prelude.{Option, Some, None}
use Prim.Native.Nat.{ℕ, ◌+◌, ◌-◌, ◌≤◌, ◌<◌}
use native.Mathlib.Omega.{arith}
use mathlib.Core.Path.{◌≡◌, refl, sym, ◌∙◌}
use mathlib.Core.Bool.{true, false}
use mathlib.Core.Logic.{inl, inr}
use mathlib.Core.List.{List, [], ◌∷◌}
use borrow.Author.Tests.{eq-eqb, ne_eqb, le-leb}
use lib.ListN.{length}
use types.Run.{OneOf}
use Rattle.table.specs.Slots.{slots}
use Rattle.machine.specs.declared.Value.{Value}
use Rattle.machine.specs.declared.BodyOp.TheVariants.{If, PassOver}
use Rattle.machine.specs.declared.Work.TheVariants.{Nothing}
use Rattle.machine.specs.declared.Next.TheVariants.{Works, Inline}
use Rattle.machine.specs.declared.Effect.TheVariants.{Acts}
use Rattle.machine.specs.declared.Literal.TheVariants.{WithBody}
use Rattle.machine.specs.declared.Role.TheVariants as role
use Rattle.machine.specs.Skeleton.{solid, role_of, one_of}
use Rattle.machine.specs.Literal.{Code, bytes_of}
use Rattle.machine.specs.Operators.{body_op_of, popped, performed}
use Rattle.machine.specs.Operand.{cardinal?}
use Rattle.machine.specs.Ops.Control.{body_arity, body_effect}
use Rattle.machine.specs.State.{State}
use Rattle.machine.specs.Contexts.{above}
use Rattle.machine.specs.Engine.{limited, provided, pops, inline, worked, affected, does}
use Rattle.machine.specs.Step.{effect_at, execute}
use Rattle.operands.proofs.Reading.{no_card, is_card, when_so, when_not}
use Rattle.state.specs.declared.Registers.{Registers}
use Rattle.state.specs.declared.Tops.{Tops}
use Rattle.state.specs.Layout.{value_in, stack_of, Busy, Perhaps, Tried, Topmost}
use Rattle.state.specs.Operations as table
use Rattle.state.proofs.Trying.{trying, tried_no}
use Rattle.state.proofs.Cutting.{over_above}
use Rattle.effects.proofs.Acting.{is_acts, by_works, by_inline, nothing_done, is_fail}
use Rattle.effects.proofs.Executing.{busy_lower, holder_few, holder_done}
use Rattle.effects.proofs.Working.{inline_as}
use Rattle.sprints.specs.Swift.{origin}
use Rattle.sprints.proofs.Flatness.{flat}

-- ---- IF

pub inline_made : {w w' : List ℕ} {r : Registers} {r' : Perhaps} (code : Code) (b : List ℕ) (start end at e : ℕ) → b ≡ bytes_of code (origin w r.depth) → at ≡ solid b start → e ≡ end → start ≤ end → Tried (table.inline at e false) w r w' r' → Tried (inline code start (end - start) false) w r w' r'
inline_made {w} {w'} {r} {r'} code b start end at e eb ea ee h t =
    let z : e ≡ start + (end - start) = omega arith in
    inline_as code b start (origin w r.depth) refl eb (end - start) at false ea (rw z at t)

if_is : If ≡ body_op_of 239
unfolding body_op_of
if_is = refl

if_one : (1 ≡ body_arity If) × (1 ≤ 2)
unfolding body_arity
if_one = (refl, omega arith)

module _ {w : List ℕ} {r : Registers} (code : Code) (start len : ℕ) (t : Tops) (g : Busy w r) (et : Topmost (above (stack_of (slots w) r.height)) t) where
  pub if_few : {r' : Perhaps} → t.count < 1 → r' ≡ None → Tried (execute code (WithBody 239 start len)) w r w r'
  if_few {r'} h q = holder_few code 239 start len 1 If t g if_is if_one et h q

  module _ (h : 1 ≤ t.count) (x : Value) (ex : x ≡ value_in t.first) (c : Option ℕ) (ec : c ≡ cardinal? x) where
    pub if_fails : {r' : Perhaps} → c ≡ None → r' ≡ None → Tried (execute code (WithBody 239 start len)) w r w r'
    unfolding body_effect
    if_fails {r'} e q =
        let u = holder_done code 239 start len 1 If t g if_is if_one et x None h ex (no_card x _ ec e) refl (is_fail code None (busy_lower 1 g refl) refl refl) in
        tried_no {f = execute code (WithBody 239 start len)} (sym u.does) q

    module _ (i : ℕ) (e : c ≡ Some i) (q : Registers) (eq : q ≡ trying r (r.height - 1) r.depth r.used) where
      pub if_passes : {r' : Perhaps} → i ≡ 0 → r' ≡ Some (trying q q.height q.depth q.used) → Tried (execute code (WithBody 239 start len)) w r w r'
      unfolding body_effect
      if_passes {r'} z k =
          holder_done code 239 start len 1 If t g if_is if_one et x (Some (Acts (Works Nothing))) h ex (when_so _ _ (eq-eqb i 0 z) ∙ is_card x _ ec e) eq
          (is_acts code (Some (Acts (Works Nothing))) (Works Nothing) refl (by_works code (Works Nothing) Nothing refl (nothing_done code (busy_lower 1 g eq) k)))

      pub if_enters : {w' : List ℕ} {r' : Perhaps} → (i ≡ 0 → ⊥) → Tried (inline code start len false) w q w' r' → Tried (execute code (WithBody 239 start len)) w r w' r'
      unfolding body_effect
      if_enters {w'} {r'} z d =
          holder_done code 239 start len 1 If t g if_is if_one et x (Some (Acts (Inline start len false))) h ex (when_not _ _ (ne_eqb i 0 z) ∙ is_card x _ ec e) eq
          (is_acts code (Some (Acts (Inline start len false))) (Inline start len false) refl (by_inline code (Inline start len false) start len false refl d))

-- ---- CORRECT and IFCOPY

passes_over : (n : ℕ) → OneOf (110 ∷ 240 ∷ []) n → PassOver ≡ body_op_of n
unfolding body_op_of
passes_over n (inl e) = rw e
passes_over n (inr e) = rw e

-- they leave everything as it is, wherever their body goes on
module _ (code : Code) (n start len : ℕ) (s : State) (o : OneOf (110 ∷ 240 ∷ []) n) where
  pub over_flat : flat (effect_at (WithBody n start len) s) ≡ true
  unfolding effect_at performed body_effect
  over_flat = rw (← (passes_over n o))

  pub over_is : execute code (WithBody n start len) s ≡ limited s
  unfolding execute provided popped effect_at performed body_arity body_effect affected does pops worked
  over_is = rw (← (passes_over n o), le-leb 0 (length (above s.stack)) (omega arith), over_above s.stack)

-- ---- the literal at a place

pub over_role : (n : ℕ) → OneOf (110 ∷ 240 ∷ []) n → role_of n ≡ role.Holds
unfolding role_of one_of
over_role n (inl e) = rw e
over_role n (inr e) = rw e

pub if_role : (n : ℕ) → n ≡ 239 → role_of n ≡ role.Holds
unfolding role_of one_of
if_role n e = rw e
