-- An operator value is kept where the frame that it keeps stands in the cells and its body in the bytes of its origin, a vector where its
-- elements are cells; at every moment every value is kept. In order: the claim; what is kept stays so; every moment. Assumes nothing.
use Prim.Native.Nat.{ℕ, zero, suc, ◌+◌, ◌≤◌, zero-le}
use native.Mathlib.Nat.{le_refl}
use native.Mathlib.Omega.{arith}
use mathlib.Core.Path.{◌≡◌, subst}
use mathlib.Core.Bool.{true}
use mathlib.Core.List.{List, [], ◌∷◌, ◌++◌}
use lib.Dec.{leb}
use lib.ListN.{length, length-append}
use borrow.Author.Tests.{leb-true, le-leb}
use Rattle.machine.specs.declared.Value.{Value}
use Rattle.machine.specs.declared.Value.TheVariants.{Vector, Operator}
use Rattle.machine.specs.Limits.{frame_size}
use Rattle.machine.specs.State.{State, running}
use Rattle.machine.specs.Literal.{Code, bytes_of}
use Rattle.machine.specs.Engine.{values, kept}
use Rattle.machine.specs.Step.{due_in}
use Rattle.machine.specs.Isolation.{code_at, moment}
use Rattle.machine.proofs.Inside.{HeldIn, found_inside}
use Rattle.machine.proofs.Throughout.{Pointing, All, Throughout, above_all}
use Rattle.machine.proofs.Held.{Claim}
use Rattle.machine.proofs.HeldRuns.{Passes}
use Rattle.machine.proofs.Moments.{moment_held}
use Rattle.numbers.proofs.Cond.{both, both_are}

-- ---- the claim

abbrev pub Kept : Code → List Value → Value → Type 0
Kept code cells v = Pointing (length cells) (λ origin start len first. kept code origin start len first cells ≡ true) v

-- wherever a value stands
abbrev pub Sound : Code → State → Type 0
Sound code s = Throughout (Kept code s.cells) s

-- ---- what is kept stays so

module _ (code : Code) (origin start len first : ℕ) (cells : List Value) where
  pub kept_in : first + frame_size ≤ length cells → start + len ≤ length (bytes_of code origin) → kept code origin start len first cells ≡ true
  unfolding kept
  kept_in h g = both_are _ _ (le-leb _ _ h) (le-leb _ _ g)

  pub kept_is : kept code origin start len first cells ≡ true → (first + frame_size ≤ length cells) × (start + len ≤ length (bytes_of code origin))
  unfolding kept
  kept_is k =
      let p = both (leb (first + frame_size) (length cells)) (leb (start + len) (length (bytes_of code origin))) k in
      (leb-true (first + frame_size) (length cells) p.0, leb-true (start + len) (length (bytes_of code origin)) p.1)

-- with no fewer cells, and no fewer bytes of each origin
module _ (code code' : Code) (cells cells' : List Value) (h : (origin : ℕ) → length (bytes_of code origin) ≤ length (bytes_of code' origin)) (g : length cells ≤ length cells') where
  pub still_kept : (origin start len first : ℕ) → kept code origin start len first cells ≡ true → kept code' origin start len first cells' ≡ true
  still_kept origin start len first k =
      let p = kept_is code origin start len first cells k in
      kept_in code' origin start len first cells' (omega (arith, p.0)) (omega (arith, h origin, p.1))

-- ---- every moment

-- a body ends inside the bytes of its origin
abbrev pub keeping : (code : Code) → Claim code
keeping code = record {
  OfOperator = λ cells origin start len first. kept code origin start len first cells ≡ true;
  OfBody = λ origin start len. start + len ≤ length (bytes_of code origin);
  OfRest = λ origin at end. Unit;
  grows = λ cells new. still_kept code code cells (cells ++ new) (λ origin. le_refl _) (omega (arith, length-append cells new));
  made = λ cells frame origin start len e h. kept_in code origin start len (length cells) (cells ++ frame) (omega (arith, length-append cells frame)) h;
  points = λ cells origin start len first k. (kept_is code origin start len first cells k).1;
  opens = λ origin start len h. tt;
}

-- the literal that is due holds its body inside the bytes of the running body's origin
passes : (code : Code) (s : State) → Passes code (keeping code) s
unfolding due_in
passes code s =
    let c = running s.contexts in
    record { own = λ n start len e. subst (HeldIn (length (bytes_of code c.origin))) e (found_inside (bytes_of code c.origin) c.at); past = tt }

-- a page's code has the preamble's bytes
more_code : (pre body : List ℕ) (origin : ℕ) → length (bytes_of (pre ∷ []) origin) ≤ length (bytes_of (pre ∷ body ∷ []) origin)
more_code pre body zero = le_refl _
more_code pre body (suc n) = zero-le

pub moment_sound : (allowance : ℕ) (bodies : List (List ℕ)) (n i : ℕ) → Sound (code_at bodies n) (moment allowance bodies n i)
moment_sound allowance bodies n i = (moment_held keeping (λ _. Unit) (record {
  more = λ pre body cells. still_kept (pre ∷ []) (pre ∷ body ∷ []) cells cells (more_code pre body) (le_refl _);
  steps = λ _ _ _ _. tt;
  passes = λ code s _ _ _. passes code s;
  begun = λ _ _ _ _. tt;
}) allowance bodies tt (λ _. tt) n i).0.values_are

-- the operator on top
pub top_kept : (code : Code) (s : State) (origin start len first : ℕ) (rest : List Value) → Sound code s → values s ≡ Operator origin start len first ∷ rest
    → kept code origin start len first s.cells ≡ true
top_kept code s origin start len first rest h e = (subst (All (Kept code s.cells)) e (above_all _ s.stack h.entries_are)).0

-- the vector under the topmost value
pub second_kept : (code : Code) (s : State) (v : Value) (first lower count : ℕ) (rest : List Value) → Sound code s → values s ≡ v ∷ Vector first lower count ∷ rest
    → first + count ≤ length s.cells
second_kept code s v first lower count rest h e = (subst (All (Kept code s.cells)) e (above_all _ s.stack h.entries_are)).1.0
