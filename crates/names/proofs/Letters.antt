-- A byte of the joined data of a sequence, found a piece at a time; two texts compared byte by byte in lower case. In order: the pieces;
-- the first piece; the bytes by their origin; the comparison; the text of an identifier. Assumes nothing.
use Rattle.std.specs.Prelude.{Option, Some, None}
use Rattle.tokens.specs.Joined.{piece_from}
use mathlib.Core.Path.{◌≡◌, refl, sym, ap, subst, ◌∙◌}
use mathlib.Core.Bool.{Bool, true, false, cond, ◌&&◌}
use mathlib.Core.List.{List, [], ◌∷◌, ◌++◌}
use Prim.Native.Nat.{ℕ, zero, suc, ◌+◌, ◌-◌, ◌<◌, ◌≤◌}
use native.Mathlib.Omega.{arith}
use borrow.Author.Tests.{eq-eqb, ne_eqb}
use lib.Dec.{eqb}
use lib.ListN.{length, get_or, take, drop, length-append, get_or-append, drop_of_length-le}
use lib.Seq.{slice, drop-cons, get_or-append-add, get_or-take, get_or-drop}
use Rattle.numbers.proofs.Cond.{no_left, no_right}
use Rattle.tokens.specs.declared.Piece.{Piece}
use Rattle.tokens.specs.Text.{lower_of, lowered}
use Rattle.tokens.specs.Joined.{Joined, whole, cut_at, piece_at, continued, on_piece, joined_from, joined_at, data_of, continuing}
use Rattle.tokens.proofs.Pieces.{Inside, inside, joined_data, joined_missing}
use Rattle.tokens.proofs.Summaries.{part_length}
use Rattle.tokens.proofs.Turns.{turn, went}
use Rattle.tokens.proofs.Copying.{none_past}
use Rattle.machine.specs.declared.Value.TheVariants.{Identifier}
use Rattle.machine.specs.Literal.{Code, text_of, same_bytes}
use Rattle.names.specs.Names.{both, data_at, same_text}

-- ---- the pieces that continue

not_cut : (i place : ℕ) → i < length (data_of (cut_at place)) → ⊥
unfolding data_of
not_cut i place h = omega arith

-- byte i of J is x, if J has one
abbrev Byte : ℕ → ℕ → Joined → Type 0
Byte i x J = i < length (data_of J) → get_or (data_of J) i 0 ≡ x

byte_next : (i x at : ℕ) (d : List ℕ) (c : Bool) (w : Option Piece) (more : ℕ → ℕ → Joined) → get_or d i 0 ≡ x → ((f n : ℕ) → Byte i x (more f n)) → Byte i x (cond c (on_piece w (cut_at at) more) (whole d at))
unfolding on_piece data_of
byte_next i x at d true (Some p) more e g = g p.start p.len
byte_next i x at d true None more e g = λ h. absurd (not_cut i at h)
byte_next i x at d false w more e g = λ h. e

-- what was joined so far stands in front
front : (k : ℕ) (s : List ℕ) (at : ℕ) (d : List ℕ) (i x : ℕ) → i < length d → get_or d i 0 ≡ x → Byte i x (joined_from k s at d)
unfolding joined_from data_of
front zero s at d i x l e = λ h. e
front (suc k) s at d i x l e =
    byte_next i x at d (continued (get_or s at 0)) (piece_at s at) _ e
    (λ f n. let p = slice f (f + n) s in front k s (f + n) (d ++ p) i x (omega (arith, length-append d p)) (get_or-append d p 0 i l ∙ e))

-- byte i of J is byte `left` of the n that lie from f on, or one after them; the data d stand before them
pub record Reached (J : Joined) (s : List ℕ) (i k f n left : ℕ) (d : List ℕ) : Type 0 where
  pub within : f + n ≤ length s
  pub room : length s ≤ f + n + k
  pub place : left + length d ≡ i
  pub rest : joined_from k s (f + n) (d ++ slice f (f + n) s) ≡ J

module _ {J : Joined} {s : List ℕ} {i k f n left : ℕ} {d : List ℕ} (R : Reached J s i k f n left d) (has : i < length (data_of J)) where
  part : List ℕ
  part = slice f (f + n) s

  size : length (d ++ part) ≡ length d + n
  unfolding part
  size = length-append d part ∙ ap (λ (m : ℕ). length d + m) (part_length s f n R.within)

  pub byte_here : left < n → get_or s (f + left) 0 ≡ get_or (data_of J) i 0
  unfolding part
  byte_here h =
      let e : i ≡ length d + left = omega (arith, R.place) in
      let at_part : get_or (d ++ part) i 0 ≡ get_or s (f + left) 0 =
      ap (λ (m : ℕ). get_or (d ++ part) m 0) e ∙ get_or-append-add d part left 0 ∙ get_or-drop f (take (f + n) s) left 0 ∙ get_or-take (f + n) s (f + left) 0 (omega arith) in
      let known : i < length (data_of (joined_from k s (f + n) (d ++ part))) = subst (λ (K : Joined). i < length (data_of K)) (sym R.rest) has in
      sym (ap (λ (K : Joined). get_or (data_of K) i 0) (sym R.rest) ∙ front k s (f + n) (d ++ part) i _ (omega (arith, size)) at_part known)

  ends_by : (c : Bool) → continued (get_or s (f + n) 0) ≡ c → continuing s (f + n) ≡ None → n ≤ left → ⊥
  unfolding on_piece data_of part
  ends_by true e h l =
      let p : piece_at s (f + n) ≡ None = rw e at h in
      let g : J ≡ cut_at (f + n) = sym R.rest ∙ turn k s (f + n) (d ++ part) R.room ∙ rw (e, p) in
      not_cut i (f + n) (subst (λ (K : Joined). i < length (data_of K)) g has)
  ends_by false e h l =
      let g : J ≡ whole (d ++ part) (f + n) = sym R.rest ∙ turn k s (f + n) (d ++ part) R.room ∙ rw e in
      let b : i < length (d ++ part) = subst (λ (K : Joined). i < length (data_of K)) g has in
      omega (arith, size, R.place)

  -- the byte is not past the last piece
  pub byte_left : continuing s (f + n) ≡ None → n ≤ left → ⊥
  byte_left h l = ends_by (continued (get_or s (f + n) 0)) refl h l

  module _ {f' n' : ℕ} (here : continuing s (f + n) ≡ Some (piece_from f' n')) where
    goes_by : (c : Bool) → continued (get_or s (f + n) 0) ≡ c → (continued (get_or s (f + n) 0) ≡ true) × (piece_at s (f + n) ≡ Some (piece_from f' n'))
    goes_by true e = (e, rw e at here)
    goes_by false e = absurd (let p = rw e at here in let z : ◌≡◌ {A = ℕ} 0 1 = cc in omega arith)

    pub piece_in : (f + n < f') × (f' + n' ≤ length s)
    piece_in = subst (Inside (length s) (f + n)) (goes_by (continued (get_or s (f + n) 0)) refl).1 (inside s (f + n))

    pub byte_on : n ≤ left → Reached J s i (k - 1) f' n' (left - n) (d ++ slice f (f + n) s)
    unfolding part
    byte_on l =
        let g = goes_by (continued (get_or s (f + n) 0)) refl in
        record {
          within = piece_in.1;
          room = omega (arith, R.room, piece_in.0);
          place = omega (arith, size, R.place);
          rest = went 0 J k s (f + n) (d ++ part) R.room R.rest f' n' g.0 g.1;
        }

-- ---- the first piece

module _ (s : List ℕ) (at i : ℕ) (has : i < length (data_of (joined_at s at))) where
  pub byte_inside : length s ≤ at → ⊥
  byte_inside h = omega (arith, none_past s at h)

  pub byte_there : piece_at s at ≡ None → ⊥
  byte_there p = not_cut i at (subst (λ (K : Joined). i < length (data_of K)) (joined_missing s at p) has)

  pub byte_first : {f n : ℕ} → piece_at s at ≡ Some (piece_from f n) → Reached (joined_at s at) s i (length s) f n i []
  byte_first {f} {n} p = record {
    within = (subst (Inside (length s) at) p (inside s at)).1;
    room = omega arith;
    place = omega arith;
    rest = sym (joined_data s at f n p);
  }

-- ---- the bytes by their origin

module _ (pre body : List ℕ) (origin : ℕ) (n₀ : origin ≡ 0 → ⊥) (n₁ : origin ≡ 1 → ⊥) where
  no_bytes : (k : ℕ) → origin ≡ k → get_or (both pre body) k [] ≡ []
  no_bytes zero e = absurd (n₀ e)
  no_bytes (suc zero) e = absurd (n₁ e)
  no_bytes (suc (suc k)) e = refl

  pub no_data : (start : ℕ) → 0 ≡ length (data_at (both pre body) origin start)
  no_data start = rw (no_bytes origin refl) (none_past [] start (omega arith))

-- ---- the comparison

lowered_long : (d : List ℕ) → length (lowered d) ≡ length d
unfolding lowered
lowered_long [] = refl
lowered_long (b ∷ d) = ap suc (lowered_long d)

lowered_at : (d : List ℕ) (i : ℕ) → i < length d → get_or (lowered d) i 0 ≡ lower_of (get_or d i 0)
unfolding lowered
lowered_at [] i h = absurd (omega arith)
lowered_at (b ∷ d) zero h = refl
lowered_at (b ∷ d) (suc i) h = lowered_at d i (omega arith)

sizes_differ : (l m : List ℕ) → (length l ≡ length m → ⊥) → same_bytes l m ≡ false
unfolding same_bytes
sizes_differ [] [] h = absurd (h refl)
sizes_differ [] (b ∷ m) h = refl
sizes_differ (a ∷ l) [] h = refl
sizes_differ (a ∷ l) (b ∷ m) h = no_right (eqb a b) (same_bytes l m) (sizes_differ l m (λ e. h (ap suc e)))

module _ (d e : List ℕ) where
  -- what is left to compare from byte i on
  abbrev pub comparing : ℕ → Bool
  comparing i = same_bytes (drop i (lowered d)) (drop i (lowered e))

  pub other_size : (length d ≡ length e → ⊥) → false ≡ comparing 0
  other_size h = sym (sizes_differ (lowered d) (lowered e) (λ p. h (sym (lowered_long d) ∙ p ∙ lowered_long e)))

  module _ (n i : ℕ) (ld : n ≡ length d) (le : n ≡ length e) where
    pub all_compared : n ≤ i → comparing i ≡ true
    unfolding same_bytes
    all_compared h = rw (drop_of_length-le (lowered d) {i = i} (omega (arith, lowered_long d)), drop_of_length-le (lowered e) {i = i} (omega (arith, lowered_long e)))

    module _ (h : i < n) (a b : ℕ) (ea : a ≡ lower_of (get_or d i 0)) (eb : b ≡ lower_of (get_or e i 0)) where
      heads : comparing i ≡ (eqb a b && comparing (suc i))
      unfolding same_bytes
      heads =
          rw (drop-cons (lowered d) i 0 (omega (arith, lowered_long d)), drop-cons (lowered e) i 0 (omega (arith, lowered_long e)), lowered_at d i (omega arith), lowered_at e i (omega arith), ea, eb)

      pub same_byte : a ≡ b → comparing i ≡ comparing (suc i)
      same_byte p = heads ∙ ap (λ (t : Bool). t && comparing (suc i)) (eq-eqb a b p)

      pub other_byte : (a ≡ b → ⊥) → comparing i ≡ false
      other_byte p = heads ∙ no_left (eqb a b) (comparing (suc i)) (ne_eqb a b p)

-- ---- the text of an identifier

pub texts_same : (code : Code) (o s l o' s' l' : ℕ) → same_text code o s o' s' ≡ same_bytes (text_of code (Identifier o s l)) (text_of code (Identifier o' s' l'))
unfolding text_of
texts_same code o s l o' s' l' = refl
