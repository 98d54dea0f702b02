-- Reading a token is local: a token that ends inside a slice is read in the slice as in the whole, its places counted from the slice's
-- start. What stands after it need not be known: a sequence that ended is not continued. Assumes nothing.
use Rattle.std.specs.Prelude.{Result, Ok, Err}
use Rattle.tokens.specs.Refusal.{refusal_at}
use Rattle.tokens.specs.declared.Refused.{Refused}
use Prim.Native.Nat.{ℕ, ◌+◌, ◌-◌, ◌*◌, ◌%◌, ◌<◌, ◌≤◌}
use native.Mathlib.Omega.{arith}
use mathlib.Core.Path.{◌≡◌, refl, sym, ◌∙◌}
use mathlib.Core.Bool.{Bool, true, false, cond}
use mathlib.Core.List.{List}
use lib.Dec.{ltb, eqb}
use lib.IntN.{pos, ◌-ℤ◌}
use lib.ListN.{length, get_or}
use lib.Seq.{slice}
use borrow.Author.Tests.{ltb-true, lt-ltb}
use Rattle.numbers.specs.declared.Number as num
use Rattle.numbers.specs.Fraction.{Answer}
use Rattle.numbers.specs.declared.NoNumber.TheVariants.{TooLarge, ByZero}
use Rattle.tokens.specs.declared.Read.{Read}
use Rattle.tokens.specs.declared.Read.TheVariants.{Number, Identifier, String, Operator, Comment}
use Rattle.tokens.specs.declared.Refusal.{Refusal}
use Rattle.tokens.specs.declared.Refusal.TheVariants.{CutOff, BadData, TypeNotRead, NothingContinued}
use Rattle.tokens.specs.declared.Rule.TheVariants.{Plain, Named}
use Rattle.tokens.specs.Format.{bias}
use Rattle.tokens.specs.Text.{every, is_name}
use Rattle.tokens.specs.Joined.{Joined, whole, cut_at, joined_at}
use Rattle.tokens.specs.Token.{number_read, integer_size, rational_size, judged, sequence, pair, token_of, token_at}
use Rattle.numbers.proofs.Cond.{either}
use Rattle.tokens.proofs.Ends.{Ends, joined_ends}
use Rattle.machine.proofs.Inside.{EndsIn, token_inside}
use Rattle.machine.proofs.JoinedLocal.{View, view, joined_in}

-- the token with its places counted from a
unfoldable pub back : ℕ → Result Read Refused → Result Read Refused
back a (Ok (Number value next)) = Ok (Number value (next - a))
back a (Ok (Identifier len next)) = Ok (Identifier len (next - a))
back a (Ok (String count next)) = Ok (String count (next - a))
back a (Ok (Operator n next)) = Ok (Operator n (next - a))
back a (Ok (Comment next)) = Ok (Comment (next - a))
back a (Err w) = Err (refusal_at w.refusal (w.place - a))

-- it was read, and ends at e or before
abbrev pub EndsBy : ℕ → Result Read Refused → Type 0
EndsBy e (Ok (Number value next)) = next ≤ e
EndsBy e (Ok (Identifier len next)) = next ≤ e
EndsBy e (Ok (String count next)) = next ≤ e
EndsBy e (Ok (Operator n next)) = next ≤ e
EndsBy e (Ok (Comment next)) = next ≤ e
EndsBy e (Err w) = ⊥

back_cond : (a : ℕ) (c : Bool) (t u : Result Read Refused) → back a (cond c t u) ≡ cond c (back a t) (back a u)
back_cond a true t u = refl
back_cond a false t u = refl

back_number : (a at next : ℕ) (r : Answer) → back a (number_read at next r) ≡ number_read (at - a) (next - a) r
unfolding back number_read
back_number a at next (Ok value) = refl
back_number a at next (Err TooLarge) = refl
back_number a at next (Err ByZero) = refl

back_judged : (a k at : ℕ) (d : List ℕ) (next : ℕ) → back a (judged k at d next) ≡ judged k (at - a) d (next - a)
unfolding judged back
back_judged a k at d next = simp (back_cond, back_number)

-- a fact of every token that data up to `next` can be
number_all : (P : Result Read Refused → Type 0) (at next : ℕ) (r : Answer) → ((w : Refusal) → P (Err (refusal_at w at)))
    → ((value : num.Number) → P (Ok (Number value next))) → P (number_read at next r)
unfolding number_read
number_all P at next (Ok value) no_read f = f value
number_all P at next (Err TooLarge) no_read f = no_read BadData
number_all P at next (Err ByZero) no_read f = no_read BadData

pub judged_all : (P : Result Read Refused → Type 0) (k at : ℕ) (d : List ℕ) (next : ℕ) → ((w : Refusal) → P (Err (refusal_at w at)))
    → ((value : num.Number) → P (Ok (Number value next))) → ((n : ℕ) → P (Ok (Identifier n next)))
    → ((n : ℕ) → P (Ok (String n next))) → P (Ok (Comment next)) → P (judged k at d next)
unfolding judged
judged_all P k at d next none number name text comment =
    either P (eqb k 1) _ _ (λ _. either P (every Plain d) _ _ (λ _. text (length d)) (λ _. none BadData))
    (λ _. either P (eqb k 2) _ _ (λ _. either P (integer_size (length d)) _ _ (λ _. number_all P at next _ none number) (λ _. none BadData))
    (λ _. either P (eqb k 4) _ _ (λ _. either P (rational_size (length d)) _ _ (λ _. number_all P at next _ none number) (λ _. none BadData))
    (λ _. either P (eqb k 5) _ _ (λ _. either P (is_name Named d) _ _ (λ _. name (length d)) (λ _. none BadData))
    (λ _. either P (eqb k 6) _ _ (λ _. comment)
    (λ _. either P (eqb k 7) _ _ (λ _. none NothingContinued) (λ _. none TypeNotRead))))))

judged_ends : (e k at : ℕ) (d : List ℕ) (next : ℕ) → EndsBy e (judged k at d next) → next ≤ e
judged_ends e k at d next = judged_all (λ t. EndsBy e t → next ≤ e) k at d next (λ w h. absurd h) (λ value h. h) (λ n h. h) (λ n h. h) (λ h. h)

-- a token that ends by e begins before it
pub begins_before : (s : List ℕ) (at e : ℕ) → EndsBy e (token_at s at) → at < e
begins_before s at e = by_token (token_at s at) (token_inside s at)
  where
    by_token : (t : Result Read Refused) → EndsIn (length s) at t → EndsBy e t → at < e
    by_token (Ok (Number value next)) g h = omega (arith, g.0)
    by_token (Ok (Identifier len next)) g h = omega (arith, g.0)
    by_token (Ok (String count next)) g h = omega (arith, g.0)
    by_token (Ok (Operator n next)) g h = omega (arith, g.0)
    by_token (Ok (Comment next)) g h = omega (arith, g.0)
    by_token (Err w) g h = absurd h

module _ (s : List ℕ) (a e : ℕ) (b : List ℕ) (v : View s a e b) where
  pub token_in : (x at : ℕ) → x ≡ a + at → EndsBy e (token_at s x) → token_at b at ≡ back a (token_at s x)
  unfolding token_at token_of sequence back
  token_in x at p = either P (ltb x (length s)) _ _ (λ i. by_first (ltb-true x (length s) i)) (λ _ h. absurd h)
    where
      P : Result Read Refused → Type 0
      P t = EndsBy e t → token_at b at ≡ back a t

      c : ℕ
      c = get_or s x 0

      first : x < e → token_at b at ≡ token_of b at (get_or s x 0) (get_or b (at + 1) 0)
      first l = rw (lt-ltb at (length b) (omega (arith, v.size)), v.byte at x p l)

      two : x + 2 ≤ e → token_at b at ≡ token_of b at (get_or s x 0) (get_or s (x + 1) 0)
      two l = first (omega arith) ∙ rw (v.byte (at + 1) (x + 1) (omega arith) (omega arith))

      second : x + 2 ≤ e → ltb (at + 1) (length b) ≡ true
      second l = lt-ltb (at + 1) (length b) (omega (arith, v.size))

      past : (n : ℕ) → at + n ≡ x + n - a
      past n = omega arith

      by_joined : x < length s → (J : Joined) → joined_at s x ≡ J → ltb c 128 ≡ false → ltb c 160 ≡ false → ltb c 192 ≡ false → P (sequence (c % 32) x J)
      by_joined i (whole d next) q c1 c2 c3 h =
          let n : next ≤ e = judged_ends e (c % 32) x d next h in
          let g : Ends (length s) x (whole d next) = rw q at (joined_ends s x i) in
          let z : at ≡ x - a = omega arith in
          first (omega (arith, g.0)) ∙ (rw (c1, c2, c3, joined_in s a e b v x at d next p q n, z) (sym (back_judged a (c % 32) x d next)))
      by_joined i (cut_at place) q c1 c2 c3 h = absurd h

      paired : (t : Result Read Refused) → P t → P (pair s x t)
      paired t f = either P (ltb (x + 1) (length s)) t (Err (refusal_at CutOff x)) (λ _. f) (λ _ h. absurd h)

      short : ltb c 128 ≡ true → P (Ok (Number (record { num = pos (c % 128 * 256 + get_or s (x + 1) 0) -ℤ pos bias; den = 1 }) (x + 2)))
      short k h = two h ∙ rw (k, second h, past 2)

      by_first : x < length s → P (token_of s x c (get_or s (x + 1) 0))
      by_first i =
          either P (ltb c 128) _ _ (λ k. paired _ (short k))
          (λ j. either P (ltb c 160) (Ok (Operator (c % 32) (x + 1))) _ (λ k h. first (omega (arith, h)) ∙ rw (j, k, past 1))
          (λ k. either P (ltb c 192) _ _ (λ l. paired (Ok (Operator (c % 32 * 256 + get_or s (x + 1) 0) (x + 2))) (λ h. two h ∙ rw (j, k, l, second h, past 2)))
          (λ l. by_joined i (joined_at s x) refl j k l)))

-- the same of a slice, by places of the whole
pub token_local : (s : List ℕ) (a e p : ℕ) → e ≤ length s → a ≤ p → EndsBy e (token_at s p) → token_at (slice a e s) (p - a) ≡ back a (token_at s p)
token_local s a e p l h = token_in s a e (slice a e s) (view s a e l) p (p - a) (omega arith)
