-- A table of bytes as a list of slots of five words, from the front. Bytes after the last whole slot are no part of it. In order: words;
-- slots; parts of the list; moves. Assumes nothing.
use Rattle.std.specs.Prelude.{ℕ, zero, suc, ◌+◌, ◌-◌, List, [], ◌∷◌, ◌++◌, get_or, set, replicate, drop}
use Rattle.table.specs.declared.Slot.{Slot}
use Rattle.table.specs.Words.{word_of, word_bytes}

unfoldable pub words_of : List ℕ → List ℕ
words_of [] = []
words_of (a ∷ []) = []
words_of (a ∷ b ∷ []) = []
words_of (a ∷ b ∷ c ∷ []) = []
words_of (a ∷ b ∷ c ∷ d ∷ w) = word_of a b c d ∷ words_of w

-- ---- slots

abbrev pub mk : ℕ → ℕ → ℕ → ℕ → ℕ → Slot
mk k a b c d = record { kind = k; a = a; b = b; c = c; d = d }

abbrev pub nil : Slot
nil = mk 0 0 0 0 0

unfoldable pub slots_of : List ℕ → List Slot
slots_of [] = []
slots_of (k ∷ []) = []
slots_of (k ∷ a ∷ []) = []
slots_of (k ∷ a ∷ b ∷ []) = []
slots_of (k ∷ a ∷ b ∷ c ∷ []) = []
slots_of (k ∷ a ∷ b ∷ c ∷ d ∷ w) = mk k a b c d ∷ slots_of w

unfoldable pub slots : List ℕ → List Slot
slots w = slots_of (words_of w)

-- the bytes of one
unfoldable pub slot_bytes : Slot → List ℕ
slot_bytes v = word_bytes v.kind ++ (word_bytes v.a ++ (word_bytes v.b ++ (word_bytes v.c ++ word_bytes v.d)))

-- ---- parts of the list

-- the n slots from b on, in order
unfoldable pub asc : List Slot → ℕ → ℕ → List Slot
asc m b zero = []
asc m b (suc n) = get_or m b nil ∷ asc m (suc b) n

-- the same, the last first: a stack with its top in front
unfoldable pub desc : List Slot → ℕ → ℕ → List Slot
desc m b zero = []
desc m b (suc n) = get_or m (b + n) nil ∷ desc m b n

-- ---- moves

-- the slots at s, s + 1, .. put to d, d + 1, .., one after the other
unfoldable pub copied : List Slot → ℕ → ℕ → ℕ → List Slot
copied m s d zero = m
copied m s d (suc n) = set (copied m s d n) (d + n) (get_or (copied m s d n) (s + n) nil)

-- the top n of what ends at a + n rolled, by way of the part at t: all n there, then the top j under the rest
abbrev pub rolled : List Slot → ℕ → ℕ → ℕ → ℕ → List Slot
rolled m a n j t = copied (copied (copied m a t n) (t + (n - j)) a j) t (a + j) (n - j)

-- n zeros in front
unfoldable pub zeroed : ℕ → List ℕ → List ℕ
zeroed n w = replicate n 0 ++ drop n w
