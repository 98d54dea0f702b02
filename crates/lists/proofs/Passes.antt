-- The two passes over a list, a token at a turn. In order: one more token; counting up to a limit; a turn of
-- either pass; the first pass; the written form only grows; the second pass. Assumes nothing.
use Rattle.std.specs.Prelude.{Ok, Err, Option, Some, None, IsSome}
use Rattle.tokens.specs.Refusal.{refusal_at}
use Rattle.tokens.specs.declared.Refusal.TheVariants.{NotWritable}
use Rattle.std.proofs.Common.{◌≡◌, ℕ, zero, suc, ◌+◌, ◌-◌, ◌/◌, ◌<◌, ◌≤◌, cond, ltb, leb, List, [], ◌∷◌, ◌++◌, length, sym, refl, ap, ◌∙◌, subst, append_assoc, append-nil, le_refl, arith, length-append, le-ltb, lt-ltb, le-leb}
use lib.Seq.{sets}
use borrow.Author.Tests.{lt-leb}
use Rattle.tokens.specs.Format.{header}
use Rattle.numbers.proofs.Cond.{either, split}
use Rattle.items.specs.declared.Item.{Item}
use Rattle.items.specs.declared.Item.TheVariants.{Number, Identifier, String, Operator}
use Rattle.items.specs.Tokens.{Token}
use Rattle.lists.specs.Written.{token_bytes, tokens_bytes, written_of}
use Rattle.items.specs.Listing.{Entry, writes, bad, entry_at, Listed, all, wrong, on_entry, listed_from, listed}
use Rattle.items.specs.Judged.{entry_is, GoodItem, Judged}
use Rattle.lists.specs.Inner.{Room, Put, entry_tokens, entry_bytes, capped, measured_of, Fits, tokens_in}
use Rattle.lists.proofs.Storing.{put_then}
use Rattle.lists.proofs.SameTables.{list_turn}
use Rattle.lists.proofs.ReadWrite.{written_length}

-- ---- one more token

on_item : (at : ℕ) (ts : List Token) (more : List Token → Listed) (x : List ℕ) (i : Item)
    → on_entry at ts (entry_is x (Some i)) more ≡ more (ts ++ entry_tokens (entry_is x (Some i)))
unfolding entry_is entry_tokens on_entry
on_item at ts more x (Number a b) = refl
on_item at ts more x (Identifier s n) = refl
on_item at ts more x (String s n) = refl
on_item at ts more x (Operator n) = refl

tokens_more : (ts : List Token) (e : Entry) → tokens_bytes (ts ++ entry_tokens e) ≡ tokens_bytes ts ++ entry_bytes e
unfolding tokens_bytes entry_tokens entry_bytes
tokens_more [] (writes t) = append-nil (token_bytes t)
tokens_more [] bad = refl
tokens_more (u ∷ ts) e = ap (λ (b : List ℕ). token_bytes u ++ b) (tokens_more ts e) ∙ sym (append_assoc (token_bytes u) (tokens_bytes ts) (entry_bytes e))

more_length : (ts : List Token) (e : Entry) → length (written_of (ts ++ entry_tokens e)) ≡ length (written_of ts) + length (entry_bytes e)
more_length ts e =
    omega (arith, written_length (ts ++ entry_tokens e), written_length ts, ap length (tokens_more ts e) ∙ length-append (tokens_bytes ts) (entry_bytes e))

written_none : length (written_of []) ≡ 21
unfolding tokens_bytes
written_none = written_length []

-- ---- counting up to a limit

capped_add : (a b : ℕ) → capped (capped a + b) ≡ capped (a + b)
unfolding capped
capped_add a b =
    split 16777216 a
    (λ h. rw (lt-leb a 16777216 h, lt-leb (a + b) 16777216 (omega arith)) (go b))
    (λ h. rw (le-leb a 16777216 h))
  where
    go : (b : ℕ) → cond (leb (16777216 + b) 16777216) (16777216 + b) 16777216 ≡ 16777216
    go b = split 16777216 (16777216 + b) (λ h. rw (lt-leb (16777216 + b) 16777216 h)) (λ h. rw (le-leb (16777216 + b) 16777216 h) (omega arith))

counted : (ts : List Token) (e : Entry) (total n t : ℕ) → n ≡ length (entry_bytes e) → total ≡ capped (length (written_of ts)) → t ≡ capped (total + n) → t ≡ capped (length (written_of (ts ++ entry_tokens e)))
counted ts e total n t f c d = d ∙ rw (c, capped_add (length (written_of ts)) n, more_length ts e, f)

-- ---- a turn

-- ts are the tokens before byte `at`: with the rest of the list, at most k tokens, they are the whole list J
pub record Before (l x : List ℕ) (J : Listed) (at k : ℕ) (ts : List Token) : Type 0 where
  pub room : length l ≤ at + k
  pub rest : listed_from k l x at ts ≡ J

before_start : (l x : List ℕ) → Before l x (listed l x) 0 (length l) []
unfolding listed
before_start l x = record { room = omega arith; rest = refl }

module _ (l x : List ℕ) (J : Listed) (at k : ℕ) (ts : List Token) (b : Before l x J at k ts) where
  ended : length l ≤ at → J ≡ all ts
  ended h = sym b.rest ∙ list_turn k l x at ts b.room ∙ rw (le-ltb at (length l) h)

  module _ (h : at < length l) where
    stopped : Judged x (entry_at l x at) None → J ≡ wrong (at / 16)
    unfolding entry_is on_entry
    stopped j = sym b.rest ∙ list_turn k l x at ts b.room ∙ rw (lt-ltb at (length l) h, ← j.is)

    went : (i : Item) → Judged x (entry_at l x at) (Some i) → Before l x J (at + 16) (k - 1) (ts ++ entry_tokens (entry_at l x at))
    went i j = record {
      room = omega (arith, b.room);
      rest = sym (list_turn k l x at ts b.room ∙ rw (lt-ltb at (length l) h, ← j.is) (on_item at ts (listed_from (k - 1) l x (at + 16)) x i)) ∙ b.rest;
    }

-- ---- the first pass: the list before byte `at` is judged and measured

pub record Measuring (l x : List ℕ) (at total : ℕ) : Type 0 where
  pub k : ℕ
  pub ts : List Token
  pub before : Before l x (listed l x) at k ts
  pub sum : total ≡ capped (length (written_of ts))
  pub low : total ≤ 16777216

pub measuring_start : (l x : List ℕ) → Measuring l x 0 21
unfolding capped
measuring_start l x = record { k = length l; ts = []; before = before_start l x; sum = rw written_none refl; low = omega arith }

module _ (l x : List ℕ) (at total : ℕ) (m : Measuring l x at total) where
  pub measuring_end : length l ≤ at → Ok total ≡ measured_of (listed l x)
  unfolding measured_of
  measuring_end h = rw (ended l x (listed l x) at m.k m.ts m.before h, m.sum)

  module _ (h : at < length l) where
    pub measuring_wrong : Judged x (entry_at l x at) None → Err (refusal_at NotWritable (at / 16)) ≡ measured_of (listed l x)
    unfolding measured_of
    measuring_wrong j = rw (stopped l x (listed l x) at m.k m.ts m.before h j)

    -- the item i is judged there, and n is its size
    pub measuring_on : (i : Item) → Judged x (entry_at l x at) (Some i) → (n : ℕ)
        → ((y : List ℕ) → GoodItem y (Some i) → n ≡ length (entry_bytes (entry_is y (Some i))))
        → (t : ℕ) → (t ≡ capped (total + n)) × (t ≤ 16777216) → Measuring l x (at + 16) t
    measuring_on i j n f t c = record {
      k = m.k - 1;
      ts = m.ts ++ entry_tokens (entry_at l x at);
      before = went l x (listed l x) at m.k m.ts m.before h i j;
      sum = counted m.ts (entry_at l x at) total n t (f x j.good ∙ ap (λ (d : Entry). length (entry_bytes d)) j.is) m.sum c.0;
      low = c.1;
    }

-- ---- the written form only grows

abbrev Above : ℕ → Listed → Type 0
Above m (all ts) = m ≤ length (written_of ts)
Above m (wrong i) = Unit

above_less : (m n : ℕ) (J : Listed) → m ≤ n → Above n J → Above m J
above_less m n (all ts) h a = omega arith
above_less m n (wrong i) h a = tt

on_above : (at : ℕ) (ts : List Token) (e : Entry) (more : List Token → Listed) → ((us : List Token) → Above (length (written_of us)) (more us)) → Above (length (written_of ts)) (on_entry at ts e more)
unfolding on_entry entry_tokens
on_above at ts (writes t) more f = above_less (length (written_of ts)) _ (more (ts ++ (t ∷ []))) (omega (arith, more_length ts (writes t))) (f (ts ++ (t ∷ [])))
on_above at ts bad more f = tt

above : (k : ℕ) (l x : List ℕ) (at : ℕ) (ts : List Token) → Above (length (written_of ts)) (listed_from k l x at ts)
unfolding listed_from
above zero l x at ts = le_refl (length (written_of ts))
above (suc k) l x at ts =
    either (Above (length (written_of ts))) (ltb at (length l)) _ (all ts)
    (λ _. on_above at ts (entry_at l x at) (listed_from k l x (at + 16)) (λ us. above k l x (at + 16) us))
    (λ _. le_refl (length (written_of ts)))

within : (J : Listed) (m n : ℕ) → Above m J → Fits J n → m ≤ n
within (all ts) m n a f = omega arith
within (wrong i) m n a f = absurd f

-- ---- the second pass: the list before byte `at` is put behind the header, which is there already

pub record Putting (l x out₀ out : List ℕ) (at o : ℕ) : Type 0 where
  pub k : ℕ
  pub ts : List Token
  pub before : Before l x (listed l x) at k ts
  pub put : Put out₀ out 21 (tokens_bytes ts) o
  pub kept : length out ≡ length out₀

pub putting_start : (l x out₀ : List ℕ) → Putting l x out₀ out₀ 0 21
unfolding tokens_bytes
putting_start l x out₀ = record { k = length l; ts = []; before = before_start l x; put = record { next = refl; stored = refl }; kept = refl }

module _ (l x out₀ out : List ℕ) (at o : ℕ) (m : Putting l x out₀ out at o) where
  pub putting_end : length l ≤ at → (e₀ : List ℕ) → out₀ ≡ sets e₀ 0 header → out ≡ sets e₀ 0 (written_of (tokens_in (listed l x)))
  unfolding tokens_in written_of header
  putting_end h e₀ f =
      rw (ended l x (listed l x) at m.k m.ts m.before h)
      (put_then _ header (tokens_bytes m.ts) refl e₀ out₀ out 0 21 o (record { next = refl; stored = f }) m.put).stored

  -- the list fits, and an item is judged there
  pub putting_some : at < length l → (n : ℕ) → Fits (listed l x) n → (r : Option Item) → Judged x (entry_at l x at) r → IsSome r
  putting_some h n f (Some i) j = refl
  putting_some h n f None j = absurd (subst (λ (J : Listed). Fits J n) (stopped l x (listed l x) at m.k m.ts m.before h j) f)

  -- the item i
  module _ (h : at < length l) (n : ℕ) (f : Fits (listed l x) n) (i : Item) (j : Judged x (entry_at l x at) (Some i)) where
    next : Before l x (listed l x) (at + 16) (m.k - 1) (m.ts ++ entry_tokens (entry_at l x at))
    next = went l x (listed l x) at m.k m.ts m.before h i j

    pub putting_room : length out₀ ≡ n → (Room out o (entry_bytes (entry_is x (Some i)))) × GoodItem x (Some i)
    putting_room g =
        let us = m.ts ++ entry_tokens (entry_at l x at) in
        let a = within (listed l x) (length (written_of us)) n (subst (λ (J : Listed). Above (length (written_of us)) J) next.rest (above (m.k - 1) l x (at + 16) us)) f in
        (rw j.is (omega (arith, a, more_length m.ts (entry_at l x at), written_length m.ts, m.put.next, m.kept, g)), j.good)

    pub putting_on : (out' : List ℕ) (r : ℕ) → Put out out' o (entry_bytes (entry_is x (Some i))) r → length out' ≡ length out
        → Putting l x out₀ out' (at + 16) r
    putting_on out' r p g = record {
      k = m.k - 1;
      ts = m.ts ++ entry_tokens (entry_at l x at);
      before = next;
      put = put_then _ (tokens_bytes m.ts) (entry_bytes (entry_at l x at)) (tokens_more m.ts (entry_at l x at)) out₀ out out' 21 o r m.put (rw j.is at p);
      kept = g ∙ m.kept;
    }

pub fits_start : (J : Listed) (n : ℕ) → Fits J n → 21 ≤ n
fits_start (all ts) n f = omega (arith, written_length ts)
fits_start (wrong i) n f = absurd f
