-- The text of an identifier in lower case, and of a string as it is, byte by byte. Assumes nothing.
use mathlib.Core.Path.{◌≡◌, refl, sym, ap, ap₂, ◌∙◌}
use mathlib.Core.Bool.{Bool, true, false}
use mathlib.Core.List.{List, [], ◌∷◌, ◌++◌, map}
use Prim.Native.Nat.{ℕ, suc, ◌+◌, ◌≤◌}
use lib.ListN.{length, take}
use lib.Seq.{sets, paste}
use borrow.Rule.Slice.PartMut.{put_mid}
use native.Mathlib.Omega.{arith}
use Rattle.std.specs.Char.{to_ascii_lowercase}
use Rattle.std.specs.List.{between}
use Rattle.std.proofs.lemmas.Bool.Decides.{nat_tests}
use Rattle.std.proofs.lemmas.Slice.{put_mid-paste, take-put_mid_below, drop-put_mid, between-put_mid}
use Rattle.table.proofs.Stores.{stored}
use Rattle.tokens.specs.Text.{lower_of, lowered}
use Rattle.std.specs.Prelude.{Option, Some, None, IsSome}
use Rattle.tokens.specs.declared.Piece.{Piece}
use Rattle.tokens.specs.Joined.{piece_at, joined_at, FitsText}
use Rattle.tokens.proofs.Copying.{Shows, not_missing}
use Rattle.filling.specs.Filling.{shown}

pub shown_length : (lower : Bool) (d : List ℕ) → length (shown lower d) ≡ length d
unfolding shown lowered
shown_length true [] = refl
shown_length true (b ∷ d) = ap suc (shown_length true d)
shown_length false d = refl

shown_append : (lower : Bool) (d e : List ℕ) → shown lower (d ++ e) ≡ shown lower d ++ shown lower e
unfolding shown lowered
shown_append true [] e = refl
shown_append true (b ∷ d) e = ap (λ (l : List ℕ). lower_of b ∷ l) (shown_append true d e)
shown_append false d e = refl

-- `make_ascii_lowercase` makes it
one : (b : ℕ) → to_ascii_lowercase b ≡ lower_of b
unfolding lower_of
one b = grind (arith, nat_tests)

lowers : (d : List ℕ) → map to_ascii_lowercase d ≡ lowered d
unfolding lowered
lowers [] = refl
lowers (b ∷ d) = ap₂ ◌∷◌ (one b) (lowers d)

-- k bytes stored, and then others in their place
module _ (l : List ℕ) (at k : ℕ) (ys : List ℕ) (n : length ys ≡ k) (h : at + k ≤ length l) where
  put_in : sets l at ys ≡ put_mid at k l ys
  put_in = sym (stored l at k ys ys refl n h)

  between_is : between at (at + k) (sets l at ys) ≡ ys
  between_is = rw put_in (between-put_mid at k l ys (at + k) (omega arith) (omega arith))

  over : (zs : List ℕ) → length zs ≡ k → put_mid at k (sets l at ys) zs ≡ sets l at zs
  over zs m =
      rw put_in (put_mid-paste at k (put_mid at k l ys) zs zs k refl refl (sym m) ∙ pasted ∙ sym (put_mid-paste at k l zs zs k refl refl (sym m))) ∙
      stored l at k zs zs refl m h
    where
      pasted : paste (put_mid at k l ys) at zs k ≡ paste l at zs k
      pasted =
          ap₂ (λ (p q : List ℕ). p ++ take k zs ++ q)
          (take-put_mid_below at k l ys at (omega arith) (omega arith))
          (drop-put_mid at k l ys (at + k) (omega arith) (omega arith) n)

  pub lowered_over : (out new : List ℕ) → out ≡ sets l at ys → new ≡ map to_ascii_lowercase (between at (at + k) out) → put_mid at k out new ≡ sets l at (shown true ys)
  unfolding shown
  lowered_over out new e f =
      let g : new ≡ lowered ys = f ∙ ap (λ (t : List ℕ). map to_ascii_lowercase (between at (at + k) t)) e ∙ ap (map to_ascii_lowercase) between_is ∙ lowers ys in
      ap₂ (put_mid at k) e g ∙ over (lowered ys) (shown_length true ys ∙ n)

shown_none : (lower : Bool) → shown lower [] ≡ []
unfolding shown lowered
shown_none true = refl
shown_none false = refl

pub shows : (lower : Bool) → Shows (shown lower)
shows lower = record { none = shown_none lower; all = shown_append lower; each = shown_length lower }

-- the first piece of a text that fits is there
pub there : (s : List ℕ) (at n o : ℕ) → FitsText n o (joined_at s at) → {r : Option Piece} → r ≡ piece_at s at → IsSome r
there s at n o f {r = Some p} e = refl
there s at n o f {r = None} e = absurd (not_missing s at n o f (sym e))
