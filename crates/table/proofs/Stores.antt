-- Bytes stored one after another, words among them. Assumes nothing.
use mathlib.Core.Path.{◌≡◌, refl, sym, ap, ◌∙◌}
use mathlib.Core.List.{List, [], ◌∷◌, ◌++◌}
use Prim.Native.Nat.{ℕ, suc, ◌+◌, ◌*◌, ◌/◌, ◌%◌, ◌^◌, ◌<◌, ◌≤◌}
use native.Mathlib.Nat.{add-zero, zero-add, div-add-mod', div-div-eq-div-mul}
use native.Mathlib.Omega.{arith}
use lib.ListN.{length, get_or, set, drop}
use lib.Seq.{slice, slice-cons, sets, sets-eq, set_comm, get_or-append-add}
use borrow.Rule.Slice.PartMut.{put_mid}
use Rattle.std.proofs.Common.{append_assoc}
use Rattle.std.proofs.lemmas.Slice.{put_mid-paste}
use Rattle.std.proofs.lemmas.List.Edits.{paste_all}
use Rattle.table.specs.Words.{word_at, word_bytes}

pub sets_append : {A : Type 0} (l : List A) (at : ℕ) (xs ys : List A) → sets (sets l at xs) (at + length xs) ys ≡ sets l at (xs ++ ys)
sets_append l at [] ys = rw add-zero
sets_append l at (x ∷ xs) ys =
    let e : at + suc (length xs) ≡ suc at + length xs = omega arith in
    rw e (sets_append (set l at x) (suc at) xs ys)

-- the last byte may be stored first
pub sets_snoc : (l : List ℕ) (at : ℕ) (xs : List ℕ) (b : ℕ) → sets l at (xs ++ (b ∷ [])) ≡ sets (set l (at + length xs) b) at xs
sets_snoc l at [] b = rw add-zero
sets_snoc l at (x ∷ xs) b =
    let e : suc at + length xs ≡ at + suc (length xs) = omega arith in
    sets_snoc (set l at x) (suc at) xs b ∙
    ap (λ (m : List ℕ). sets m (suc at) xs) (rw e (set_comm l at (at + suc (length xs)) x b (λ h. omega arith)))

-- stored from the front on: the rest is as found
pub front : (l b : List ℕ) → length b ≤ length l → sets l 0 b ≡ b ++ drop (length b) l
front l b h = sets-eq b l 0 (rw (zero-add (length b)) h) ∙ rw (zero-add (length b))

-- the byte at f is stored next
pub slice_next : (l : List ℕ) (at : ℕ) (x : List ℕ) (f t : ℕ) → f < t → t ≤ length x → sets l at (slice f t x) ≡ sets (set l at (get_or x f 0)) (suc at) (slice (suc f) t x)
slice_next l at x f t h k = ap (sets l at) (slice-cons f t x 0 h k)

pub word_length : (w : ℕ) → length (word_bytes w) ≡ 4
unfolding word_bytes
word_length w = refl

-- four bytes joined again
join : (w a b c x y z : ℕ) → a * 256 + x ≡ w → b * 256 + y ≡ a → c * 256 + z ≡ b → x + y * 256 + z * 65536 + c * 16777216 ≡ w
join w a b c x y z e f g = omega arith

top : (w : ℕ) → w < 2 ^ 32 → w / 16777216 % 256 ≡ w / 16777216
top w h = omega arith

pub word_joined : (w : ℕ) → w < 2 ^ 32 → w % 256 + w / 256 % 256 * 256 + w / 65536 % 256 * 65536 + w / 16777216 % 256 * 16777216 ≡ w
word_joined w h =
    let f : w / 65536 ≡ w / 256 / 256 = sym (div-div-eq-div-mul w 256 256) in
    let g : w / 16777216 ≡ w / 256 / 256 / 256 = sym (div-div-eq-div-mul w 65536 256) ∙ ap (λ (n : ℕ). n / 256) f in
    rw (top w h, g, f)
    (join w (w / 256) (w / 256 / 256) (w / 256 / 256 / 256) (w % 256) (w / 256 % 256) (w / 256 / 256 % 256) (div-add-mod' w 256) (div-add-mod' (w / 256) 256) (div-add-mod' (w / 256 / 256) 256))

-- a word that stands after p
pub word_back : (p r : List ℕ) (w : ℕ) → w < 2 ^ 32 → word_at (p ++ (word_bytes w ++ r)) (length p) ≡ w
unfolding word_at word_bytes
word_back p r w h =
    let b : List ℕ = (w % 256) ∷ (w / 256 % 256) ∷ (w / 65536 % 256) ∷ (w / 16777216 % 256) ∷ r in
    let e : get_or (p ++ b) (length p) 0 ≡ w % 256 = rw (add-zero (length p)) at (get_or-append-add p b 0 0) in
    rw (e, get_or-append-add p b 1 0, get_or-append-add p b 2 0, get_or-append-add p b 3 0) (word_joined w h)

-- a copy into the k bytes from at on stores them
pub stored : (l : List ℕ) (at k : ℕ) (ys zs : List ℕ) → ys ≡ zs → length zs ≡ k → at + k ≤ length l → put_mid at k l ys ≡ sets l at zs
stored l at k ys zs e n h =
    put_mid-paste at k l ys zs k e refl (sym n) ∙ (paste_all l at zs k (sym n) ∙ sym (rw (n, append_assoc) at (sets-eq zs l at (rw n h))))
