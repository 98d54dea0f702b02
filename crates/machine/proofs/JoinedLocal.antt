-- The data of a sequence that ends inside a slice are the same bytes when read in the slice. In order: a slice as a view; pieces; joined
-- data. Assumes nothing.
use Rattle.std.specs.Prelude.{Option, Some, None}
use Rattle.tokens.specs.Joined.{piece_from, Joined, whole, cut_at, length_bytes, within, piece_at, continued, on_piece, joined_from, joined_at}
use Prim.Native.Nat.{ℕ, zero, suc, ◌+◌, ◌-◌, ◌<◌, ◌≤◌}
use native.Mathlib.Omega.{arith}
use mathlib.Core.Path.{◌≡◌, refl, sym, ap, ◌∙◌}
use mathlib.Core.Bool.{true, false}
use mathlib.Core.List.{List, ◌++◌}
use lib.Dec.{leb}
use lib.ListN.{length, get_or, take}
use lib.Seq.{slice, length-slice, get_or-drop, get_or-take, take-take, drop-drop}
use Rattle.tokens.specs.declared.Piece.{Piece}
use Rattle.tokens.specs.Bytes.{value_of}
use Rattle.numbers.proofs.Cond.{either, by_test, split}
use Rattle.tokens.proofs.Pieces.{length_bounds, within_data, piece_is, inside, Inside, joined_data, joined_missing}
use Rattle.tokens.proofs.Summaries.{take_drop}
use Rattle.tokens.proofs.Turns.{at_end_lem, turn}

-- ---- a slice

-- b is the bytes of s from a up to e
pub record View (s : List ℕ) (a e : ℕ) (b : List ℕ) : Type 0 where
  pub inside : e ≤ length s
  pub size : length b ≡ e - a
  pub byte : (i x : ℕ) → x ≡ a + i → x < e → get_or b i 0 ≡ get_or s x 0
  pub part : (f t x y : ℕ) → x ≡ a + f → y ≡ a + t → y ≤ e → slice f t b ≡ slice x y s

pub view : (s : List ℕ) (a e : ℕ) → e ≤ length s → View s a e (slice a e s)
view s a e h = record {
  inside = h;
  size = length-slice a e s h;
  byte = λ i x p l. rw (p, get_or-drop a (take e s) i 0, get_or-take e s (a + i) 0 (omega arith));
  part = λ f t x y p q l. rw (p, q, take_drop t a (take e s), take-take (a + t) e s (omega arith), drop-drop f a (take (a + t) s));
}

-- ---- pieces and joined data

-- a piece that is there
within_is : (s : List ℕ) (x v f n : ℕ) → within s x v ≡ Some (piece_from f n) → (x ≡ f) × (v ≡ n)
unfolding within
within_is s x v f n = either (λ w. w ≡ Some (piece_from f n) → (x ≡ f) × (v ≡ n)) (leb (x + v) (length s)) (Some (piece_from x v)) None
    (λ _ e. let p : piece_from x v ≡ piece_from f n = cc in (ap (λ (y : Piece). y.start) p, ap (λ (y : Piece). y.len) p)) (λ _ e. (cc, cc))

-- joined data end where they begin or later
abbrev Later : ℕ → Joined → Type 0
Later at (whole d next) = at ≤ next
Later at (cut_at place) = Unit

later_piece : (at : ℕ) (w : Option Piece) (n : ℕ) (F : ℕ → ℕ → Joined) → Inside n at w → ((f m : ℕ) → Later (f + m) (F f m))
    → Later at (on_piece w (cut_at at) F)
unfolding on_piece
later_piece at (Some p) n F i g = weaker (F p.start p.len) (g p.start p.len)
  where
    weaker : (J : Joined) → Later (p.start + p.len) J → Later at J
    weaker (whole d next) h = omega (arith, i.0)
    weaker (cut_at place) h = tt
later_piece at None n F i g = tt

later : (k : ℕ) (s : List ℕ) (at : ℕ) (d : List ℕ) → Later at (joined_from k s at d)
unfolding joined_from
later zero s at d = omega arith
later (suc k) s at d =
    either (Later at) (continued (get_or s at 0)) _ (whole d at)
    (λ _. later_piece at (piece_at s at) (length s) _ (inside s at) (λ f m. later k s (f + m) (d ++ slice f (f + m) s)))
    (λ _. omega arith)

-- a piece, and where it lies in the slice
record Moved (s : List ℕ) (a : ℕ) (b : List ℕ) (x at f n : ℕ) : Type 0 where
  piece : piece_at b at ≡ Some (piece_from (f - a) n)
  bytes : slice (f - a) (f - a + n) b ≡ slice f (f + n) s
  past : x < f
  place : f + n ≡ a + (f - a + n)

module _ (s : List ℕ) (a e : ℕ) (b : List ℕ) (v : View s a e b) where
  -- a piece of the whole that ends inside the slice
  moved : (x at f n : ℕ) → x ≡ a + at → piece_at s x ≡ Some (piece_from f n) → f + n ≤ e → Moved s a b x at f n
  unfolding piece_at
  moved x at f n p h l =
      let k : ℕ = length_bytes (get_or s x 0) in
      let w : ℕ = value_of (slice (x + 1) (x + 1 + k) s) in
      let r : (x + 1 + k ≡ f) × (w ≡ n) = within_is s (x + 1 + k) w f n h in
      let r0 : x + 1 + k ≡ f = r.0 in
      let k0 : 1 ≤ k = (length_bounds (get_or s x 0)).0 in
      let c : get_or b at 0 ≡ get_or s x 0 = v.byte at x p (omega arith) in
      let g : slice (at + 1) (at + 1 + k) b ≡ slice (x + 1) (x + 1 + k) s = v.part (at + 1) (at + 1 + k) (x + 1) (x + 1 + k) (omega arith) (omega arith) (omega arith) in
      let z : at + 1 + k ≡ f - a = omega arith in
      record {
        piece = piece_is b at k w (ap length_bytes (sym c)) (ap value_of (sym g)) ∙ (within_data b (at + 1 + k) w (omega (arith, v.size, r.1)) ∙ rw (z, r.1));
        bytes = v.part (f - a) (f - a + n) f (f + n) (omega arith) (omega arith) l;
        past = omega arith;
        place = omega arith;
      }

  -- where nothing continues in the whole, nothing does in the slice
  stops : (m x at : ℕ) (d j : List ℕ) (next : ℕ) → x ≡ a + at → length b ≤ at + m → whole d x ≡ whole j next → next ≤ e → continued (get_or s x 0) ≡ false → joined_from m b at d ≡ whole j (next - a)
  stops m x at d j next p g r l h =
      let y : x ≡ next = cc in
      let c : d ≡ j = cc in
      let z : at ≡ next - a = omega arith in
      let u : continued (get_or b at 0) ≡ false = split x e (λ i. ap continued (v.byte at x p i) ∙ h) (λ i. at_end_lem b at (omega (arith, v.size))) in
      turn m b at d g ∙ rw (u, c, z)

  from_local : (k m x at : ℕ) (d j : List ℕ) (next : ℕ) → x ≡ a + at → length s ≤ x + k → length b ≤ at + m → joined_from k s x d ≡ whole j next → next ≤ e
      → joined_from m b at d ≡ whole j (next - a)
  unfolding joined_from on_piece
  from_local zero m x at d j next p h g q l = stops m x at d j next p g q l (at_end_lem s x (omega arith))
  from_local (suc k) m x at d j next p h g q l =
      by_test (continued (get_or s x 0)) (λ t. goes (λ y i c. from_local k (m - 1) y i c j next) t (piece_at s x) refl) (λ t. stops m x at d j next p g (rw t at q) l t)
    where
      goes : ((y i : ℕ) (c : List ℕ) → y ≡ a + i → length s ≤ y + k → length b ≤ i + (m - 1) → joined_from k s y c ≡ whole j next → next ≤ e → joined_from (m - 1) b i c ≡ whole j (next - a))
          → continued (get_or s x 0) ≡ true → (w : Option Piece) → piece_at s x ≡ w → joined_from m b at d ≡ whole j (next - a)
      goes ih t (Some got) w =
          let f : ℕ = got.start in
          let n : ℕ = got.len in
          let r : joined_from k s (f + n) (d ++ slice f (f + n) s) ≡ whole j next = rw (t, w) at q in
          let y : f + n ≤ next = rw r at (later k s (f + n) (d ++ slice f (f + n) s)) in
          let o : Moved s a b x at f n = moved x at f n p w (omega arith) in
          let c : continued (get_or b at 0) ≡ true = ap continued (v.byte at x p (omega arith)) ∙ t in
          turn m b at d g ∙ rw (c, o.piece, o.bytes) (ih (f + n) (f - a + n) (d ++ slice f (f + n) s) o.place (omega arith) (omega arith) r l)
      goes ih t None w = let r : cut_at x ≡ whole j next = rw (t, w) at q in let z : ◌≡◌ {A = ℕ} 0 1 = cc in absurd (omega arith)

  pub joined_in : (x at : ℕ) (d : List ℕ) (next : ℕ) → x ≡ a + at → joined_at s x ≡ whole d next → next ≤ e → joined_at b at ≡ whole d (next - a)
  joined_in x at d next p q l = by_piece (piece_at s x) refl
    where
      by_piece : (w : Option Piece) → piece_at s x ≡ w → joined_at b at ≡ whole d (next - a)
      by_piece (Some got) w =
          let f : ℕ = got.start in
          let n : ℕ = got.len in
          let r : joined_from (length s) s (f + n) (slice f (f + n) s) ≡ whole d next = sym (joined_data s x f n w) ∙ q in
          let y : f + n ≤ next = rw r at (later (length s) s (f + n) (slice f (f + n) s)) in
          let o : Moved s a b x at f n = moved x at f n p w (omega arith) in
          joined_data b at (f - a) n o.piece ∙
          rw o.bytes (from_local (length s) (length b) (f + n) (f - a + n) (slice f (f + n) s) d next o.place (omega arith) (omega arith) r l)
      by_piece None w = let z : ◌≡◌ {A = ℕ} 0 1 = cc (joined_missing s x w) in absurd (omega arith)

-- the same of a slice, by places of the whole
pub joined_local : (s : List ℕ) (a e p : ℕ) (d : List ℕ) (next : ℕ) → e ≤ length s → a ≤ p → joined_at s p ≡ whole d next → next ≤ e → joined_at (slice a e s) (p - a) ≡ whole d (next - a)
joined_local s a e p d next l h = joined_in s a e (slice a e s) (view s a e l) p (p - a) d next (omega arith)
