-- Two codes with the same bytes at every origin run alike. So the preamble may run beside a page without bytes. Assumes nothing.
use Rattle.std.specs.Prelude.{Option, Some, None}
use Prim.Native.Nat.{ℕ, zero, suc}
use mathlib.Core.Path.{◌≡◌, refl, ap, ◌∙◌}
use mathlib.Core.Bool.{Bool, true, false}
use mathlib.Core.List.{List, [], ◌∷◌}
use Rattle.machine.specs.declared.Value.{Value}
use Rattle.machine.specs.declared.Value.TheVariants.{Number, Identifier, Vector, Operator}
use Rattle.machine.specs.declared.Work.{Work}
use Rattle.machine.specs.declared.Work.TheVariants.{Nothing, Fetch, Element, Build, Spell, Utter, Compose, Repeat, Turn, Match, Report}
use Rattle.machine.specs.declared.Next.{Next}
use Rattle.machine.specs.declared.Next.TheVariants.{Works, Inline, Call, Store, Place, Remove, Tally}
use Rattle.machine.specs.declared.Literal.{Literal}
use Rattle.machine.specs.declared.Effect.{Effect}
use Rattle.machine.specs.declared.Effect.TheVariants.{Gives, Gives2, Acts}
use Rattle.machine.specs.State.{State, running}
use Rattle.machine.specs.Literal.{Code, bytes_of, text_of}
use Rattle.machine.specs.Engine.{spell, worked, context_of, inline, kept, call, does, affected}
use Rattle.machine.specs.Step.{execute, literal_step, step_by, due_in, step, run, begin}
use Rattle.names.specs.Names.{both}

module _ (c d : Code) (same : (o : ℕ) → bytes_of c o ≡ bytes_of d o) where
  text_same : (v : Value) → text_of c v ≡ text_of d v
  unfolding text_of
  text_same (Number a) = refl
  text_same (Identifier origin start len) = rw (same origin)
  text_same (Vector first lower count) = refl
  text_same (Operator origin start len first) = refl

  worked_same : (w : Work) (s : State) → worked c w s ≡ worked d w s
  unfolding worked spell
  worked_same Nothing s = refl
  worked_same (Fetch j) s = refl
  worked_same (Element cell) s = refl
  worked_same (Build lower n) s = refl
  worked_same (Spell start) s = rw (same (running s.contexts).origin)
  worked_same (Utter start len) s = refl
  worked_same (Compose start len) s = refl
  worked_same (Repeat n) s = refl
  worked_same (Turn n m) s = refl
  worked_same (Match v w) s = rw (text_same v, text_same w)
  worked_same (Report v) s = refl

  does_same : (x : Next) (s : State) → does c x s ≡ does d x s
  unfolding does inline call kept context_of
  does_same (Works w) s = worked_same w s
  does_same (Inline start len owes) s = rw (same (running s.contexts).origin)
  does_same (Call origin start len first) s = rw (same origin)
  does_same (Store j) s = refl
  does_same (Place n) s = refl
  does_same (Remove n) s = refl
  does_same Tally s = refl

  affected_same : (e : Option Effect) (s : State) → affected c e s ≡ affected d e s
  unfolding affected
  affected_same None s = refl
  affected_same (Some (Gives a)) s = refl
  affected_same (Some (Gives2 a b)) s = refl
  affected_same (Some (Acts x)) s = does_same x s

  execute_same : (x : Literal) (s : State) → execute c x s ≡ execute d x s
  unfolding execute
  execute_same x s = rw (affected_same _ _)

  literal_same : (b : Bool) (x : Literal) (s : State) → literal_step c b x s ≡ literal_step d b x s
  unfolding literal_step
  literal_same true x s = refl
  literal_same false x s = rw (execute_same x s)

  step_same : (s : State) → step c s ≡ step d s
  unfolding step step_by due_in
  step_same s = rw (same (running s.contexts).origin) (literal_same _ _ _)

  run_same : (n : ℕ) (s : State) → run n c s ≡ run n d s
  unfolding run
  run_same zero s = refl
  run_same (suc n) s = rw (step_same s, run_same n (step d s))

  begin_same : (origin : ℕ) (frame cells : List Value) → begin c origin frame cells ≡ begin d origin frame cells
  unfolding begin
  begin_same origin frame cells = rw (same origin)

no_page : (pre : List ℕ) (o : ℕ) → bytes_of (both pre []) o ≡ bytes_of (pre ∷ []) o
no_page pre zero = refl
no_page pre (suc zero) = refl
no_page pre (suc (suc o)) = refl

-- the preamble, beside no page
pub preamble_alone : (pre : List ℕ) (n : ℕ) (frame cells : List Value) → run n (both pre []) (begin (both pre []) 0 frame cells) ≡ run n (pre ∷ []) (begin (pre ∷ []) 0 frame cells)
preamble_alone pre n frame cells =
    run_same (both pre []) (pre ∷ []) (no_page pre) n (begin (both pre []) 0 frame cells) ∙ ap (run n (pre ∷ [])) (begin_same (both pre []) (pre ∷ []) (no_page pre) 0 frame cells)
