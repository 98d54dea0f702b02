-- Joined data: where they end, how long they are, and that each of them is a byte. Assumes nothing.
use Rattle.std.specs.Prelude.{Option, Some, None}
use mathlib.Core.Path.{◌≡◌, refl, sym, ◌∙◌}
use mathlib.Core.Bool.{Bool, true, false, false≢true}
use mathlib.Core.List.{List, [], ◌∷◌, ◌++◌}
use Prim.Native.Nat.{ℕ, zero, suc, ◌+◌, ◌<◌, ◌≤◌}
use native.Mathlib.Omega.{arith}
use lib.Dec.{lit<, ltb}
use lib.ListN.{length, get_or, take, length-append}
use lib.Seq.{slice, get_or-drop}
use Rattle.tokens.specs.declared.Piece.{Piece}
use Rattle.tokens.specs.Joined.{Joined, whole, cut_at, piece_at, continued, on_piece, joined_from, joined_at}
use Rattle.numbers.proofs.Cond.{either}
use Rattle.table.proofs.WordLists.{Bytes}
use Rattle.tokens.proofs.Pieces.{Inside, inside}
use Rattle.tokens.proofs.Summaries.{part_length}
use Rattle.tokens.proofs.Turns.{at_end_lem}
use Rattle.tokens.proofs.Judged.{AllBytes}
use borrow.Author.Tests.{ltb-true, ltb-false}

-- ---- bytes

append_bytes : (d e : List ℕ) → Bytes d → Bytes e → Bytes (d ++ e)
append_bytes [] e f g i = g i
append_bytes (b ∷ d) e f g zero = f 0
append_bytes (b ∷ d) e f g (suc i) = append_bytes d e (λ j. f (suc j)) g i

take_bytes : (n : ℕ) (d : List ℕ) → Bytes d → Bytes (take n d)
take_bytes zero d f i = lit< tt
take_bytes (suc n) [] f i = lit< tt
take_bytes (suc n) (b ∷ d) f zero = f 0
take_bytes (suc n) (b ∷ d) f (suc i) = take_bytes n d (λ j. f (suc j)) i

pub slice_bytes : (s : List ℕ) (a e : ℕ) → Bytes s → Bytes (slice a e s)
slice_bytes s a e f i = rw (get_or-drop a (take e s) i 0) (take_bytes e s f (a + i))

on_bytes : (at : ℕ) (w : Option Piece) (F : ℕ → ℕ → Joined) → ((f m : ℕ) → AllBytes (F f m)) → AllBytes (on_piece w (cut_at at) F)
unfolding on_piece
on_bytes at (Some p) F g = g p.start p.len
on_bytes at None F g = tt

from_bytes : (k : ℕ) (s : List ℕ) (at : ℕ) (d : List ℕ) → Bytes s → Bytes d → AllBytes (joined_from k s at d)
unfolding joined_from
from_bytes zero s at d f g = g
from_bytes (suc k) s at d f g =
    either AllBytes (continued (get_or s at 0)) _ (whole d at)
    (λ _. on_bytes at (piece_at s at) (λ a m. joined_from k s (a + m) (d ++ slice a (a + m) s)) (λ a m. from_bytes k s (a + m) (d ++ slice a (a + m) s) f (append_bytes d (slice a (a + m) s) g (slice_bytes s a (a + m) f))))
    (λ _. g)

pub joined_bytes : (s : List ℕ) (at : ℕ) → Bytes s → AllBytes (joined_at s at)
unfolding joined_at
joined_bytes s at f =
    on_bytes at (piece_at s at) (λ a m. joined_from (length s) s (a + m) (slice a (a + m) s))
    (λ a m. from_bytes (length s) s (a + m) (slice a (a + m) s) f (slice_bytes s a (a + m) f))

-- ---- ends

-- data that begin past low end inside the n bytes, and take no more bytes than there are between; a token that is cut off lies there
abbrev pub Ends : ℕ → ℕ → Joined → Type 0
Ends n low (whole d next) = (low + length d < next) × (next ≤ n)
Ends n low (cut_at place) = (low ≤ place) × (place < n)

on_ends : (n low at : ℕ) (w : Option Piece) (F : ℕ → ℕ → Joined) → low ≤ at → at < n → Inside n at w → ((f m : ℕ) → at < f → f + m ≤ n → Ends n low (F f m)) → Ends n low (on_piece w (cut_at at) F)
unfolding on_piece
on_ends n low at (Some p) F h k i g = g p.start p.len i.0 i.1
on_ends n low at None F h k i g = (h, k)

longer : (s d : List ℕ) (a m : ℕ) → a + m ≤ length s → length (d ++ slice a (a + m) s) ≡ length d + m
longer s d a m h = omega (arith, length-append d (slice a (a + m) s), part_length s a m h)

-- where a token continues, it is inside the input
started : (s : List ℕ) (at : ℕ) → continued (get_or s at 0) ≡ true → at < length s
started s at e = inside_or (ltb at (length s)) refl
  where
    inside_or : (t : Bool) → ltb at (length s) ≡ t → at < length s
    inside_or true h = ltb-true at (length s) h
    inside_or false h = absurd (false≢true (sym (at_end_lem s at (ltb-false at (length s) h)) ∙ e))

from_ends : (k : ℕ) (s : List ℕ) (low at : ℕ) (d : List ℕ) → low + length d < at → at ≤ length s → Ends (length s) low (joined_from k s at d)
unfolding joined_from
from_ends zero s low at d h l = (h, l)
from_ends (suc k) s low at d h l =
    either (Ends (length s) low) (continued (get_or s at 0)) _ (whole d at)
    (λ e. on_ends (length s) low at (piece_at s at) (λ a m. joined_from k s (a + m) (d ++ slice a (a + m) s)) (omega arith) (started s at e) (inside s at)
    (λ a m g i. from_ends k s low (a + m) (d ++ slice a (a + m) s) (omega (arith, longer s d a m i)) i))
    (λ _. (h, l))

pub joined_ends : (s : List ℕ) (at : ℕ) → at < length s → Ends (length s) at (joined_at s at)
unfolding joined_at
joined_ends s at h =
    on_ends (length s) at at (piece_at s at) (λ a m. joined_from (length s) s (a + m) (slice a (a + m) s)) (omega arith) h (inside s at)
    (λ a m g i. from_ends (length s) s at (a + m) (slice a (a + m) s) (omega (arith, part_length s a m i)) i)
