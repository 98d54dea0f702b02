-- Operators whose bodies are readable, and bodies in progress of which the rest is: a claim of values and contexts. In order: what it says;
-- the claim; one more body in the code. Assumes nothing.
use Prim.Native.Nat.{ℕ, ◌+◌, ◌<◌}
use native.Mathlib.Omega.{arith}
use mathlib.Core.List.{[], ◌++◌}
use lib.ListN.{length, length-append, get_or-append}
use Rattle.machine.specs.Skeleton.{solid}
use Rattle.machine.specs.Literal.{Code, bytes_of}
use Rattle.machine.specs.Readable.{Readable}
use Rattle.machine.proofs.Held.{Claim}

-- ---- what it says

-- what is left of a body of the code
pub record Rest (code : Code) (origin at end : ℕ) : Type 0 where
  pub there : origin < length code
  pub readable : Readable (bytes_of code origin) at end

-- a body of the code, from its start
abbrev pub Body : Code → ℕ → ℕ → ℕ → Type 0
Body code origin start len = Rest code origin (solid (bytes_of code origin) start) (start + len)

-- ---- the claim

abbrev pub reading : (code : Code) → Claim code
reading code = record {
  OfOperator = λ cells origin start len first. Body code origin start len;
  OfBody = Body code;
  OfRest = Rest code;
  grows = λ cells new origin start len first h. h;
  made = λ cells frame origin start len e h. h;
  points = λ cells origin start len first h. h;
  opens = λ origin start len h. h;
}

-- ---- one more body in the code

pub stays : (code extra : Code) (origin start len : ℕ) → Body code origin start len → Body (code ++ extra) origin start len
stays code extra origin start len h = record {
  there = omega (arith, length-append code extra, h.there);
  readable = rw (get_or-append code extra [] origin h.there) h.readable;
}
