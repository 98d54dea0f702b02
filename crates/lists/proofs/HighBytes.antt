-- k bytes of a value, high byte first: how many they are, and what value they have. Assumes nothing.
use Rattle.std.proofs.Common.{◌≡◌, ℕ, zero, suc, ◌+◌, ◌*◌, ◌/◌, ◌%◌, ◌^◌, ◌<◌, List, [], ◌∷◌, ◌++◌, length, refl, arith, length-append, pow-add}
use Rattle.tokens.specs.Bytes.{value_after}
use Rattle.lists.specs.Written.{bytes_of}

pub bytes_length : (k v : ℕ) → length (bytes_of k v) ≡ k
unfolding bytes_of
bytes_length zero v = refl
bytes_length (suc k) v = rw (length-append, bytes_length k (v / 256)) (omega arith)

value_snoc : (a : ℕ) (xs : List ℕ) (b : ℕ) → value_after a (xs ++ (b ∷ [])) ≡ value_after a xs * 256 + b
unfolding value_after
value_snoc a [] b = refl
value_snoc a (x ∷ xs) b = value_snoc (a * 256 + x) xs b

pub bytes_value : (k v : ℕ) → v < 2 ^ (8 * k) → value_after 0 (bytes_of k v) ≡ v
unfolding bytes_of value_after
bytes_value zero v h = omega arith
bytes_value (suc k) v h =
    let e : 8 * suc k ≡ 8 * k + 8 = omega arith in
    let g = rw (e, pow-add 2 (8 * k) 8) at h in
    let q : v / 256 < 2 ^ (8 * k) = omega (arith, g) in
    rw (value_snoc 0 (bytes_of k (v / 256)) (v % 256), bytes_value k (v / 256) q) (omega arith)
