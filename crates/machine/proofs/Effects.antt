-- The bodies that a literal's effect composes or enters are its own, and the one that it calls is the topmost value's: so a claim B of
-- bodies (origin, start, length) that these have is had by every body of the effect. Assumes nothing.
use Rattle.std.specs.Prelude.{Option, Some, None}
use Prim.Native.Nat.{ℕ}
use mathlib.Core.Path.{◌≡◌, subst}
use mathlib.Core.Bool.{Bool}
use Rattle.machine.specs.declared.Value.{Value}
use Rattle.machine.specs.declared.Value.TheVariants.{Number, Identifier, Vector, Operator}
use Rattle.machine.specs.declared.Literal.{Literal}
use Rattle.machine.specs.declared.Literal.TheVariants.{WithBody}
use Rattle.machine.specs.declared.Work.TheVariants.{Compose}
use Rattle.machine.specs.declared.Next.TheVariants.{Works, Inline, Call}
use Rattle.machine.specs.declared.Effect.{Effect}
use Rattle.machine.specs.declared.Effect.TheVariants.{Acts}
use Rattle.machine.specs.Operand.{as_operator}
use Rattle.machine.specs.Ops.Call.{called}
use Rattle.machine.specs.Operators.{performed}
use Rattle.machine.proofs.Comments.{never}
use Rattle.machine.proofs.Throughout.{Pointing}
use Rattle.machine.proofs.OperatorEffects.{Harmless, OfBody, performed_has}

-- in a running body of the origin o
pub record Bodies (B : ℕ → ℕ → ℕ → Type 0) (o : ℕ) (e : Option Effect) : Type 0 where
  pub composes : (start len : ℕ) → e ≡ Some (Acts (Works (Compose start len))) → B o start len
  pub enters : (start len : ℕ) (owes : Bool) → e ≡ Some (Acts (Inline start len owes)) → B o start len
  pub calls : (origin start len first : ℕ) → e ≡ Some (Acts (Call origin start len first)) → B origin start len

module _ (B : ℕ → ℕ → ℕ → Type 0) (o : ℕ) where
  harmless : (e : Option Effect) → Harmless e → Bodies B o e
  harmless e h = record {
    composes = λ start len z. absurd (subst Harmless z h);
    enters = λ start len owes z. absurd (subst Harmless z h);
    calls = λ origin start len first z. absurd (subst Harmless z h);
  }

  -- of a literal's own body
  own : (start len : ℕ) → B o start len → OfBody (Bodies B o) start len
  own start len h = (
    record {
      composes = λ s l z. let p : start ≡ s = cc in let q : len ≡ l = cc in rw (p, q) at h;
      enters = λ s l owes z. never (cc);
      calls = λ origin s l first z. never (cc);
    },
    λ owes. record {
      composes = λ s l z. never (cc);
      enters = λ s l w z. let p : start ≡ s = cc in let q : len ≡ l = cc in rw (p, q) at h;
      calls = λ origin s l first z. never (cc);
    },
  )

  called_on : (room : ℕ) (v : Value) → Pointing room (λ origin start len first. B origin start len) v → Bodies B o (called v)
  unfolding called as_operator
  called_on room (Number a) h = harmless None tt
  called_on room (Identifier origin start len) h = harmless None tt
  called_on room (Vector first lower count) h = harmless None tt
  called_on room (Operator origin start len first) h = record {
    composes = λ s l z. never (cc);
    enters = λ s l owes z. never (cc);
    calls = λ p s l f z. let a : origin ≡ p = cc in let b : start ≡ s = cc in let c : len ≡ l = cc in rw (a, b, c) at h;
  }

  pub performed_on : (x : Literal) (room : ℕ) (v w : Value) → ((n start len : ℕ) → x ≡ WithBody n start len → B o start len) → Pointing room (λ origin start len first. B origin start len) v
      → Bodies B o (performed x v w)
  performed_on x room v w h g = performed_has (Bodies B o) harmless x v w (λ n start len e. own start len (h n start len e)) (called_on room v g)
