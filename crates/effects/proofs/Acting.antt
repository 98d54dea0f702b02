-- The engine's part of an operator, arm by arm. Assumes nothing.
use Rattle.std.specs.Prelude.{Option, Some, None}
use Prim.Native.Nat.{ℕ, ◌+◌, ◌<◌, ◌≤◌}
use native.Mathlib.Omega.{arith}
use mathlib.Core.Path.{◌≡◌, refl}
use mathlib.Core.Bool.{Bool, true, false, cond}
use mathlib.Core.List.{List, [], ◌∷◌}
use mir.Val.{bool_byte}
use lib.ListN.{length, take, drop}
use Rattle.numbers.specs.declared.Number as num
use Rattle.table.specs.declared.Slot.{Slot}
use Rattle.table.specs.Slots.{slots}
use Rattle.tokens.specs.Text.{lowered}
use Rattle.tokens.specs.Joined.{data_of, joined_at}
use Rattle.tokens.proofs.Copying.{none_past}
use Rattle.machine.specs.declared.Value.{Value}
use Rattle.machine.specs.declared.Value.TheVariants.{Number, Identifier, Vector, Operator}
use Rattle.machine.specs.declared.Work.{Work}
use Rattle.machine.specs.declared.Work.TheVariants.{Nothing, Fetch, Element, Build, Spell, Utter, Compose, Repeat, Turn, Match, Report}
use Rattle.machine.specs.declared.Next.{Next}
use Rattle.machine.specs.declared.Next.TheVariants.{Works, Inline, Call, Store, Place, Remove, Tally}
use Rattle.machine.specs.declared.Effect.{Effect}
use Rattle.machine.specs.declared.Effect.TheVariants.{Gives, Gives2, Acts}
use Rattle.machine.specs.State.{Entry, val, mark}
use Rattle.machine.specs.Literal.{Code, text_of}
use Rattle.machine.specs.Operand.{natural}
use Rattle.machine.specs.Contexts.{beneath}
use Rattle.machine.specs.Engine.{provided, push, all_cardinals, elements_of, bit, build, spell, compose, repeat, turn, worked, store, place, remove, tally, inline, call, does, affected}
use Rattle.operands.proofs.Reading.{NoIdentifier, NoVector}
use Rattle.operands.specs.Sizes.{SizedWork, SizedNext, Sized}
use Rattle.names.specs.Names.{both, data_at, same_text}
use Rattle.state.specs.declared.Place as at
use Rattle.state.specs.declared.Registers.{Registers}
use Rattle.state.specs.Layout.{values_at, stack_of, Busy, Perhaps, Tried}
use Rattle.state.specs.Operations as table
use Rattle.state.proofs.Parts.{length_stack}
use Rattle.state.proofs.Trying.{trying, tried_no, tried_yes, tried_as, fits_abs}
use Rattle.origins.proofs.ByOrigin.{empty}

-- ---- texts

pub no_text : (p : at.Place) → p ≡ record { origin = 2; start = 0 } → (pre body : List ℕ) → lowered (data_at (both pre body) p.origin p.start) ≡ []
unfolding lowered
no_text p e pre body = rw (e, empty (data_of (joined_at [] 0)) (none_past [] 0 (omega arith)))

pub name_place : (v : Value) (o s l : ℕ) → v ≡ Identifier o s l → (pre body : List ℕ) → lowered (data_at (both pre body) o s) ≡ text_of (both pre body) v
unfolding text_of
name_place v o s l e pre body = rw e

pub no_place : (v : Value) (p : at.Place) → NoIdentifier v → p ≡ record { origin = 2; start = 0 } → (pre body : List ℕ) → lowered (data_at (both pre body) p.origin p.start) ≡ text_of (both pre body) v
unfolding text_of
no_place (Number a) p n e = no_text p e
no_place (Identifier o s l) p n e = absurd (n o s l refl)
no_place (Vector f l c) p n e = no_text p e
no_place (Operator o s l f) p n e = no_text p e

pub bit_is : (b : Bool) {n : ℕ} {a : num.Number} → n ≡ bool_byte b → a ≡ natural n → a ≡ cond b (natural 1) (natural 0)
bit_is true e h = rw (h, e)
bit_is false e h = rw (h, e)

pub matched : {w w' : List ℕ} {r : Registers} {r' : Perhaps} (pre body : List ℕ) (v u : Value) (p q : at.Place) (b : Bool) (a : num.Number)
    → ((x y : List ℕ) → lowered (data_at (both x y) p.origin p.start) ≡ text_of (both x y) v) → ((x y : List ℕ) → lowered (data_at (both x y) q.origin q.start) ≡ text_of (both x y) u)
    → b ≡ same_text (both pre body) p.origin p.start q.origin q.start → a ≡ cond b (natural 1) (natural 0) → Tried (push (Number a)) w r w' r' → Tried (worked (both pre body) (Match v u)) w r w' r'
unfolding worked bit
matched pre body v u p q b a f g e h t = tried_as (rw (← (f pre body), ← (g pre body), ← e, ← h)) t

-- ---- nothing, and a report

no_elements : (v : Value) (cells : List Value) → NoVector v → elements_of v cells ≡ []
unfolding elements_of
no_elements (Number a) cells n = refl
no_elements (Identifier o s l) cells n = refl
no_elements (Vector f l c) cells n = absurd (n f l c refl)
no_elements (Operator o s l f) cells n = refl

pub nothing_done : {w : List ℕ} {r : Registers} {r' : Perhaps} (code : Code) → Busy w r → r' ≡ Some (trying r r.height r.depth r.used) → Tried (worked code Nothing) w r w r'
unfolding worked
nothing_done {w} {r} {r'} code g q = rw q (tried_yes (omega arith) refl refl (fits_abs w r g.stack_fits g.depth_fits g.cells_fit))

module _ {w : List ℕ} {r : Registers} {r' : Perhaps} (v : Value) (g : Busy w r) where
  module _ (f l c : ℕ) (i : v ≡ Vector f l c) (f' c' : ℕ) (ef : f' ≡ f) (ec : c' ≡ c) (b : Bool) (e : b ≡ all_cardinals (take c' (drop f' (values_at (slots w) 728 r.used)))) where
    pub report_all : b ≡ true → r' ≡ Some (trying r r.height r.depth r.used) → (code : Code) → Tried (worked code (Report v)) w r w r'
    unfolding worked provided elements_of
    report_all h q code =
        rw q (tried_yes (omega arith) refl refl (rw (i, ← ef, ← ec, ← e, h) (fits_abs w r g.stack_fits g.depth_fits g.cells_fit)))

    pub report_other : b ≡ false → r' ≡ None → (code : Code) → Tried (worked code (Report v)) w r w r'
    unfolding worked provided elements_of
    report_other h q code = tried_no (rw (i, ← ef, ← ec, ← e, h)) q

  none_there : (code : Code) → elements_of v (values_at (slots w) 728 r.used) ≡ [] → r' ≡ Some (trying r r.height r.depth r.used) → Tried (worked code (Report v)) w r w r'
  unfolding worked provided all_cardinals
  none_there code e q = rw q (tried_yes (omega arith) refl refl (rw e (fits_abs w r g.stack_fits g.depth_fits g.cells_fit)))

  pub report_none : NoVector v → r' ≡ Some (trying r r.height r.depth r.used) → (code : Code) → Tried (worked code (Report v)) w r w r'
  report_none n q code = none_there code (no_elements v _ n) q

-- ---- what fits

pub sized_build : (x : Work) (l c : ℕ) → SizedWork x → x ≡ Build l c → l < 2147483648
sized_build x l c h e = rw e at h

pub sized_works : (x : Next) (k : Work) → SizedNext x → x ≡ Works k → SizedWork k
sized_works x k h e = rw e at h

pub sized_inline : (x : Next) (s l : ℕ) (o : Bool) → SizedNext x → x ≡ Inline s l o → s + l < 4294967296
sized_inline x s l o h e = rw e at h

pub sized_acts : (e : Option Effect) (x : Next) → Sized e → e ≡ Some (Acts x) → SizedNext x
sized_acts e x h i = rw i at h

-- ---- the works

module _ {w w' : List ℕ} {r : Registers} {r' : Perhaps} (code : Code) (x : Work) where
  pub at_nothing : x ≡ Nothing → Tried (worked code Nothing) w r w' r' → Tried (worked code x) w r w' r'
  at_nothing e t = rw e t

  pub at_fetch : (j n : ℕ) → x ≡ Fetch j → n ≡ j → Tried (table.fetch n) w r w' r' → Tried (worked code x) w r w' r'
  unfolding worked table.fetch
  at_fetch j n e f t = rw (e, ← f) t

  pub at_element : (j n : ℕ) → x ≡ Element j → n ≡ j → Tried (table.element n) w r w' r' → Tried (worked code x) w r w' r'
  unfolding worked table.element
  at_element j n e f t = rw (e, ← f) t

  pub at_build : (l c n : ℕ) → x ≡ Build l c → n ≡ c → Tried (build l n) w r w' r' → Tried (worked code x) w r w' r'
  unfolding worked
  at_build l c n e f t = rw (e, ← f) t

  pub at_spell : (s n : ℕ) → x ≡ Spell s → n ≡ s → Tried (spell code n) w r w' r' → Tried (worked code x) w r w' r'
  unfolding worked
  at_spell s n e f t = rw (e, ← f) t

  pub at_utter : (s l : ℕ) → x ≡ Utter s l → Tried (table.utter s l) w r w' r' → Tried (worked code x) w r w' r'
  unfolding worked table.utter
  at_utter s l e t = rw e t

  pub at_compose : (s l : ℕ) → x ≡ Compose s l → Tried (compose s l) w r w' r' → Tried (worked code x) w r w' r'
  unfolding worked
  at_compose s l e t = rw e t

  pub at_repeat : (c n : ℕ) → x ≡ Repeat c → n ≡ c → Tried (repeat n) w r w' r' → Tried (worked code x) w r w' r'
  unfolding worked
  at_repeat c n e f t = rw (e, ← f) t

  pub at_turn : (d f n m : ℕ) → x ≡ Turn d f → n ≡ d → m ≡ f → Tried (turn n m) w r w' r' → Tried (worked code x) w r w' r'
  unfolding worked
  at_turn d f n m e g h t = rw (e, ← g, ← h) t

  pub at_match : (v u : Value) → x ≡ Match v u → Tried (worked code (Match v u)) w r w' r' → Tried (worked code x) w r w' r'
  at_match v u e t = rw e t

  pub at_report : (v : Value) → x ≡ Report v → Tried (worked code (Report v)) w r w' r' → Tried (worked code x) w r w' r'
  at_report v e t = rw e t

-- ---- the engine's parts

module _ {w w' : List ℕ} {r : Registers} {r' : Perhaps} (code : Code) (x : Next) where
  pub by_works : (k : Work) → x ≡ Works k → Tried (worked code k) w r w' r' → Tried (does code x) w r w' r'
  unfolding does
  by_works k e t = rw e t

  pub by_inline : (s l : ℕ) (o : Bool) → x ≡ Inline s l o → Tried (inline code s l o) w r w' r' → Tried (does code x) w r w' r'
  unfolding does
  by_inline s l o e t = rw e t

  pub by_call : (o s l f : ℕ) → x ≡ Call o s l f → Tried (call code o s l f) w r w' r' → Tried (does code x) w r w' r'
  unfolding does
  by_call o s l f e t = rw e t

  pub by_store : (j n : ℕ) → x ≡ Store j → n ≡ j → Tried (store n) w r w' r' → Tried (does code x) w r w' r'
  unfolding does
  by_store j n e f t = rw (e, ← f) t

  pub by_place : (c n : ℕ) → x ≡ Place c → n ≡ c → Tried (place n) w r w' r' → Tried (does code x) w r w' r'
  unfolding does
  by_place c n e f t = rw (e, ← f) t

  pub by_remove : (c n : ℕ) → x ≡ Remove c → n ≡ c → Tried (remove n) w r w' r' → Tried (does code x) w r w' r'
  unfolding does
  by_remove c n e f t = rw (e, ← f) t

  pub by_tally : x ≡ Tally → Tried tally w r w' r' → Tried (does code x) w r w' r'
  unfolding does
  by_tally e t = rw e t

-- ---- an effect

module _ {w : List ℕ} {r : Registers} (code : Code) (e : Option Effect) where
  pub is_fail : {r' : Perhaps} → Busy w r → e ≡ None → r' ≡ None → Tried (affected code e) w r w r'
  unfolding affected
  is_fail {r'} g i q = tried_no (rw i) q

  module _ {w' : List ℕ} {r' : Perhaps} where
    pub is_gives : (a : num.Number) → e ≡ Some (Gives a) → Tried (push (Number a)) w r w' r' → Tried (affected code e) w r w' r'
    unfolding affected
    is_gives a i t = rw i t

    pub is_gives2 : (a b : num.Number) → e ≡ Some (Gives2 a b) → Tried (table.push_two (Number a) (Number b)) w r w' r' → Tried (affected code e) w r w' r'
    unfolding affected table.push_two
    is_gives2 a b i t = rw i t

    pub is_acts : (x : Next) → e ≡ Some (Acts x) → Tried (does code x) w r w' r' → Tried (affected code e) w r w' r'
    unfolding affected
    is_acts x i t = rw i t

    -- the same effect, told by its parts
    pub is_told : (f : Option Effect) → e ≡ f → Tried (affected code f) w r w' r' → Tried (affected code e) w r w' r'
    is_told f i t = rw i t

-- ---- marks stand within the stack

pub beneath_few : (s : List Entry) → length (beneath s) ≤ length s
unfolding beneath
beneath_few [] = omega arith
beneath_few (val v ∷ s) = omega (arith, beneath_few s)
beneath_few (mark k ∷ s) = omega arith

pub marks_low : (m : List Slot) (height : ℕ) → length (beneath (stack_of m height)) ≤ height
marks_low m height = omega (arith, beneath_few (stack_of m height), length_stack m height)
