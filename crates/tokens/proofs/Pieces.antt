-- Where a sequence token's data lie. Assumes nothing.
use Rattle.std.specs.Prelude.{Option, Some, None}
use Rattle.tokens.specs.Joined.{piece_from}
use mathlib.Core.Path.{◌≡◌}
use mathlib.Core.List.{List}
use Prim.Native.Nat.{ℕ, ◌+◌, ◌<◌, ◌≤◌}
use native.Mathlib.Omega.{arith}
use lib.Dec.{ltb, leb}
use lib.ListN.{length, get_or}
use lib.Seq.{slice}
use borrow.Author.Tests.{le-leb, lt-leb, leb-true}
use Rattle.tokens.specs.declared.Piece.{Piece}
use Rattle.tokens.specs.Bytes.{value_after}
use Rattle.tokens.specs.Joined.{cut_at, length_bytes, within, piece_at, on_piece, joined_from, joined_at}
use Rattle.numbers.proofs.Cond.{either}

pub length_bounds : (b : ℕ) → (1 ≤ length_bytes b) × (length_bytes b ≤ 3)
length_bounds b = either (λ k. (1 ≤ k) × (k ≤ 3)) (ltb b 224) 1 3 (λ e. (omega arith, omega arith)) (λ e. (omega arith, omega arith))

pub within_missing : (s : List ℕ) (start n : ℕ) → length s < start + n → within s start n ≡ None
unfolding within
within_missing s start n h = rw (lt-leb (start + n) (length s) h)

pub within_data : (s : List ℕ) (start n : ℕ) → start + n ≤ length s → within s start n ≡ Some (piece_from start n)
unfolding within
within_data s start n h = rw (le-leb (start + n) (length s) h)

-- the piece, from the number of length bytes and their value
pub piece_is : (s : List ℕ) (at k n : ℕ) → k ≡ length_bytes (get_or s at 0) → n ≡ value_after 0 (slice (at + 1) (at + 1 + k) s) → piece_at s at ≡ within s (at + 1 + k) n
unfolding piece_at
piece_is s at k n e f = rw (f, e)

-- a piece that the input has lies past its token's start and inside the input
abbrev pub Inside : ℕ → ℕ → Option Piece → Type 0
Inside n at (Some p) = (at < p.start) × (p.start + p.len ≤ n)
Inside n at None = Unit

pub inside : (s : List ℕ) (at : ℕ) → Inside (length s) at (piece_at s at)
unfolding piece_at within
inside s at =
    let k = length_bytes (get_or s at 0) in
    let f : ℕ = at + 1 + k in
    let n : ℕ = value_after 0 (slice (at + 1) f s) in
    either (Inside (length s) at) (leb (f + n) (length s)) (Some (piece_from f n)) None (λ e. (omega arith, leb-true (f + n) (length s) e)) (λ e. tt)

-- the joined data begin with the sequence's own piece
pub joined_data : (s : List ℕ) (at f n : ℕ) → piece_at s at ≡ Some (piece_from f n) → joined_at s at ≡ joined_from (length s) s (f + n) (slice f (f + n) s)
unfolding joined_at on_piece
joined_data s at f n p = rw p

pub joined_missing : (s : List ℕ) (at : ℕ) → piece_at s at ≡ None → joined_at s at ≡ cut_at at
unfolding joined_at on_piece
joined_missing s at p = rw p
