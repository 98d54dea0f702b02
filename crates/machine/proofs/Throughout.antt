-- A claim of every element of a list, of every value of a stack, of the frames of contexts and of a state: what taking, joining, recovery
-- and the end of bodies keep. In order: what it says; lists; the stack; contexts; a weaker claim. Assumes nothing.
use Prim.Native.Nat.{ℕ, zero, suc, ◌+◌, ◌≤◌}
use native.Mathlib.Omega.{arith}
use mathlib.Core.List.{List, [], ◌∷◌, ◌++◌, reverse, reverse_aux}
use lib.ListN.{take, drop, get_or, set, replicate}
use Rattle.machine.specs.declared.Value.{Value}
use Rattle.machine.specs.declared.Value.TheVariants.{Number, Identifier, Vector, Operator}
use Rattle.machine.specs.State.{Entry, val, mark, Context, State, running}
use Rattle.machine.specs.Contexts.{above, beneath, over}
use Rattle.machine.specs.Engine.{last_frame, store_in}

-- ---- what it says

-- of a value, where there are so many cells: a vector's elements are among them; a claim of the origin, start, length and kept frame of an
-- operator
abbrev pub Pointing : ℕ → (ℕ → ℕ → ℕ → ℕ → Type 0) → Value → Type 0
Pointing room Q (Number a) = Unit
Pointing room Q (Identifier origin start len) = Unit
Pointing room Q (Vector first lower count) = first + count ≤ room
Pointing room Q (Operator origin start len first) = Q origin start len first

abbrev pub All : {A : Type 0} → (A → Type 0) → List A → Type 0
All P [] = Unit
All P (a ∷ rest) = P a × All P rest

-- marks aside
abbrev pub OnStack : (Value → Type 0) → List Entry → Type 0
OnStack P [] = Unit
OnStack P (val v ∷ s) = P v × OnStack P s
OnStack P (mark k ∷ s) = OnStack P s

abbrev pub InFrames : (Value → Type 0) → List Context → Type 0
InFrames P cs = All (λ c. All P c.frame) cs

-- wherever a value stands
pub record Throughout (P : Value → Type 0) (s : State) : Type 0 where
  pub entries_are : OnStack P s.stack
  pub frames_are : InFrames P s.contexts
  pub frame_is : All P s.frame
  pub cells_are : All P s.cells

-- ---- lists

module _ {A : Type 0} (P : A → Type 0) where
  pub all_append : (vs ws : List A) → All P vs → All P ws → All P (vs ++ ws)
  all_append [] ws h g = g
  all_append (v ∷ vs) ws h g = (h.0, all_append vs ws h.1 g)

  pub all_take : (n : ℕ) (vs : List A) → All P vs → All P (take n vs)
  all_take zero vs h = tt
  all_take (suc n) [] h = tt
  all_take (suc n) (v ∷ vs) h = (h.0, all_take n vs h.1)

  pub all_drop : (n : ℕ) (vs : List A) → All P vs → All P (drop n vs)
  all_drop zero vs h = h
  all_drop (suc n) [] h = tt
  all_drop (suc n) (v ∷ vs) h = all_drop n vs h.1

  pub all_at : (vs : List A) (i : ℕ) (d : A) → All P vs → P d → P (get_or vs i d)
  all_at [] i d h g = g
  all_at (v ∷ vs) zero d h g = h.0
  all_at (v ∷ vs) (suc i) d h g = all_at vs i d h.1 g

  pub all_set : (vs : List A) (i : ℕ) (w : A) → All P vs → P w → All P (set vs i w)
  all_set [] i w h g = tt
  all_set (v ∷ vs) zero w h g = (g, h.1)
  all_set (v ∷ vs) (suc i) w h g = (h.0, all_set vs i w h.1 g)

  all_onto : (vs ws : List A) → All P vs → All P ws → All P (reverse_aux vs ws)
  all_onto [] ws h g = g
  all_onto (v ∷ vs) ws h g = all_onto vs (v ∷ ws) h.1 (h.0, g)

  pub all_reverse : (vs : List A) → All P vs → All P (reverse vs)
  all_reverse vs h = all_onto vs [] h tt

  pub all_replicate : (n : ℕ) (v : A) → P v → All P (replicate n v)
  all_replicate zero v h = tt
  all_replicate (suc n) v h = (h, all_replicate n v h)

-- ---- the stack

module _ (P : Value → Type 0) where
  pub above_all : (s : List Entry) → OnStack P s → All P (above s)
  unfolding above
  above_all [] h = tt
  above_all (val v ∷ s) h = (h.0, above_all s h.1)
  above_all (mark k ∷ s) h = tt

  pub beneath_on : (s : List Entry) → OnStack P s → OnStack P (beneath s)
  unfolding beneath
  beneath_on [] h = tt
  beneath_on (val v ∷ s) h = beneath_on s h.1
  beneath_on (mark k ∷ s) h = h

  pub over_on : (vs : List Value) (s : List Entry) → All P vs → OnStack P s → OnStack P (over vs s)
  unfolding over
  over_on [] s h g = g
  over_on (v ∷ vs) s h g = (h.0, over_on vs s h.1 g)

  -- ---- contexts

  pub running_all : (cs : List Context) → InFrames P cs → All P (running cs).frame
  unfolding running
  running_all [] h = tt
  running_all (c ∷ cs) h = h.0

  pub last_all : (f : List Value) (cs : List Context) → All P f → InFrames P cs → All P (last_frame f cs)
  unfolding last_frame
  last_all f [] h g = h
  last_all f (c ∷ cs) h g = last_all c.frame cs g.0 g.1

  pub stored_frames : (j : ℕ) (v : Value) (cs : List Context) → P v → InFrames P cs → InFrames P (store_in j v cs)
  unfolding store_in
  stored_frames j v [] h g = tt
  stored_frames j v (c ∷ cs) h g = (all_set P c.frame j v g.0 h, g.1)

-- ---- a weaker claim

pub pointing_weaker : (n m : ℕ) → n ≤ m → (P Q : ℕ → ℕ → ℕ → ℕ → Type 0) → ((origin start len first : ℕ) → P origin start len first → Q origin start len first)
    → (v : Value) → Pointing n P v → Pointing m Q v
pointing_weaker n m g P Q weaker (Number a) h = tt
pointing_weaker n m g P Q weaker (Identifier origin start len) h = tt
pointing_weaker n m g P Q weaker (Vector first lower count) h = omega (arith, g, h)
pointing_weaker n m g P Q weaker (Operator origin start len first) h = weaker origin start len first h

pub all_weaker : {A : Type 0} (P Q : A → Type 0) → ((a : A) → P a → Q a) → (l : List A) → All P l → All Q l
all_weaker P Q weaker [] h = tt
all_weaker P Q weaker (a ∷ rest) h = (weaker a h.0, all_weaker P Q weaker rest h.1)

module _ (P Q : Value → Type 0) (weaker : (v : Value) → P v → Q v) where
  pub stack_weaker : (s : List Entry) → OnStack P s → OnStack Q s
  stack_weaker [] h = tt
  stack_weaker (val v ∷ s) h = (weaker v h.0, stack_weaker s h.1)
  stack_weaker (mark k ∷ s) h = stack_weaker s h

  pub frames_weaker : (cs : List Context) → InFrames P cs → InFrames Q cs
  frames_weaker cs h = all_weaker (λ (c : Context). All P c.frame) (λ (c : Context). All Q c.frame) (λ c. all_weaker P Q weaker c.frame) cs h
