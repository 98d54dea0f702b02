-- A row as four words. Assumes nothing.
use Prim.Native.Nat.{ℕ, ◌+◌, ◌-◌, ◌≤◌, ◌<◌}
use native.Mathlib.Omega.{arith}
use mathlib.Core.Path.{◌≡◌, refl, sym, ap, ◌∙◌}
use mathlib.Core.Bool.{true, false}
use mathlib.Core.List.{List, [], ◌++◌, append-nil}
use lib.Seq.{sets}
use Rattle.table.specs.Slots.{slots}
use Rattle.table.specs.Words.{word_bytes}
use Rattle.table.proofs.SlotLists.{word_then}
use Rattle.machine.specs.Step.{ended, outcome}
use Rattle.machine.specs.Page.{bytes_in, row_words, result_of, row_bytes}
use Rattle.state.specs.declared.Registers.{Registers}
use Rattle.state.specs.Layout.{contexts_of, abs}
use Rattle.state.proofs.Parts.{length_values, contexts_top}

module _ (q : Registers) where
  pub still_going : 0 < q.depth → (w : List ℕ) → 3 ≡ outcome (abs w q)
  unfolding outcome ended
  still_going h w = rw (contexts_top (slots w) q.depth h)

  pub by_recovery : q.depth ≤ 0 → q.skipping ≡ true → (w : List ℕ) → 2 ≡ outcome (abs w q)
  unfolding outcome ended contexts_of
  by_recovery h e w = let z : q.depth ≡ 0 = omega arith in rw (z, e)

  pub normally : q.depth ≤ 0 → q.skipping ≡ false → (w : List ℕ) → 1 ≡ outcome (abs w q)
  unfolding outcome ended contexts_of
  normally h e w = let z : q.depth ≡ 0 = omega arith in rw (z, e)

row_is : (before : ℕ) (q : Registers) (w : List ℕ) → row_bytes (result_of before (abs w q)) ≡ word_bytes (outcome (abs w q)) ++ (word_bytes q.errors ++ (word_bytes q.steps ++ (word_bytes (q.used - before) ++ [])))
unfolding row_bytes result_of row_words bytes_in
row_is before q w = rw (length_values (slots w) 728 q.used) refl

pub row_put : (t t₁ t₂ t₃ t₄ : List ℕ) (p before : ℕ) (q : Registers) (o e s c : ℕ) → ((w : List ℕ) → o ≡ outcome (abs w q)) → t₁ ≡ sets t p (word_bytes o) → e ≡ q.errors → t₂ ≡ sets t₁ (p + 4) (word_bytes e) → s ≡ q.steps → t₃ ≡ sets t₂ (p + 8) (word_bytes s)
    → c ≡ q.used - before → t₄ ≡ sets t₃ (p + 12) (word_bytes c) → (w : List ℕ) → t₄ ≡ sets t p (row_bytes (result_of before (abs w q)))
row_put t t₁ t₂ t₃ t₄ p before q o e s c eo p₁ ee p₂ es p₃ ec p₄ w =
    (rw (p₃, p₂, p₁) at p₄) ∙
    ap (sets (sets (sets (sets t p (word_bytes o)) (p + 4) (word_bytes e)) (p + 8) (word_bytes s)) (p + 12)) (sym (append-nil (word_bytes c))) ∙
    word_then _ (p + 8) (p + 12) s _ (omega arith) ∙
    word_then _ (p + 4) (p + 8) e _ (omega arith) ∙
    word_then t p (p + 4) o _ refl ∙
    ap (sets t p) (words ∙ sym (row_is before q w))
  where
    words : word_bytes o ++ (word_bytes e ++ (word_bytes s ++ (word_bytes c ++ []))) ≡ word_bytes (outcome (abs w q)) ++ (word_bytes q.errors ++ (word_bytes q.steps ++ (word_bytes (q.used - before) ++ [])))
    words = rw (eo w, ee, es, ec)
