-- The loop that fills the two tables, a token at a turn. In order: the tables only grow; a turn; the end. Assumes nothing.
use Rattle.std.specs.Prelude.{Result, Ok, Err, IsOk}
use Rattle.tokens.specs.Refusal.{refusal_at}
use Rattle.tokens.specs.declared.Refused.{Refused}
use mathlib.Core.Path.{◌≡◌, refl, sym, subst, ◌∙◌}
use mathlib.Core.List.{List, ◌++◌}
use Prim.Native.Nat.{ℕ, zero, suc, ◌+◌, ◌-◌, ◌<◌, ◌≤◌}
use native.Mathlib.Omega.{arith}
use native.Mathlib.Nat.{le_refl, zero-add}
use lib.Dec.{ltb}
use lib.ListN.{length, length-append}
use lib.Seq.{sets}
use Rattle.table.proofs.Stores.{sets_append}
use Rattle.tokens.specs.declared.Read.{Read}
use Rattle.tokens.specs.declared.Read.TheVariants.{Number, Identifier, String, Operator, Comment}
use Rattle.tokens.specs.declared.Refusal.{Refusal}
use Rattle.tokens.specs.Token.{token_at}
use Rattle.points.specs.Point.{next_of}
use Rattle.numbers.proofs.Cond.{either}
use Rattle.tokens.proofs.Told.{Told}
use Rattle.filling.specs.declared.Place.{Place}
use Rattle.items.specs.Tokens.{Token}
use Rattle.lists.specs.Reading.{Got, got, refused, on_read, read_from}
use Rattle.lists.specs.Promise.{texts_of, list_of}
use Rattle.filling.specs.Filling.{added, Holds, tokens_got, Whole, Put, Room, Fills}
use Rattle.filling.proofs.Surveying.{texts_append, list_append, reaches, on_go, read_ended, read_stop, read_went}

-- ---- the tables only grow

-- the tokens ts and what follows them: the words and the texts, in bytes
words_texts : (ts us : List Token) → (length (list_of 0 (ts ++ us)) ≡ length (list_of 0 ts) + length (list_of (length (texts_of ts)) us)) × (length (texts_of (ts ++ us)) ≡ length (texts_of ts) + length (texts_of us))
words_texts ts us =
    (rw (list_append 0 ts us, zero-add (length (texts_of ts))) (length-append (list_of 0 ts) (list_of (length (texts_of ts)) us)), rw (texts_append ts us) (length-append (texts_of ts) (texts_of us)))

-- what was read takes no fewer bytes of words and of text than ts
abbrev Above : List Token → Got → Type 0
Above ts (got us) = (length (list_of 0 ts) ≤ length (list_of 0 us)) × (length (texts_of ts) ≤ length (texts_of us))
Above ts (refused refusal place) = Unit

more_tokens : (ts us : List Token) (G : Got) → Above (ts ++ us) G → Above ts G
more_tokens ts us (got vs) h = let e = words_texts ts us in (omega (arith, h.0, e.0), omega (arith, h.1, e.1))
more_tokens ts us (refused refusal place) h = tt

above_same : (ts : List Token) → Above ts (got ts)
above_same ts = (le_refl (length (list_of 0 ts)), le_refl (length (texts_of ts)))

-- a token is whole or a refusal
by_whole : {A : Type 0} (t : Result Read Refused) → (Whole t → A) → ((refusal : Refusal) (place : ℕ) → t ≡ Err (refusal_at refusal place) → A) → A
by_whole (Ok (Number value next)) f g = f tt
by_whole (Ok (Identifier len next)) f g = f tt
by_whole (Ok (String count next)) f g = f tt
by_whole (Ok (Operator n next)) f g = f tt
by_whole (Ok (Comment next)) f g = f tt
by_whole (Err w) f g = g w.refusal w.place refl

whole_read : (t : Result Read Refused) → Whole t → IsOk t
whole_read (Ok t) w = refl
whole_read (Err w) v = absurd v

on_above : (s : List ℕ) (at : ℕ) (ts : List Token) (t : Result Read Refused) (more : ℕ → List Token → Got)
    → ((n : ℕ) (us : List Token) → Above us (more n us)) → Above ts (on_read s at ts t more)
unfolding on_read
on_above s at ts t more f =
    by_whole t
    (λ w. subst (Above ts) (sym (on_go s at ts t more w)) (more_tokens ts (added s at t) (more (next_of at t) (ts ++ added s at t)) (f (next_of at t) (ts ++ added s at t))))
    (λ refusal place e. subst (λ (u : Result Read Refused). Above ts (on_read s at ts u more)) (sym e) tt)

above : (k : ℕ) (s : List ℕ) (at : ℕ) (ts : List Token) → Above ts (read_from k s at ts)
unfolding read_from
above zero s at ts = above_same ts
above (suc k) s at ts =
    either (Above ts) (ltb at (length s)) (on_read s at ts (token_at s at) (read_from k s)) (got ts)
    (λ _. on_above s at ts (token_at s at) (read_from k s) (λ n us. above k s n us))
    (λ _. above_same ts)

within : (G : Got) (ts : List Token) (n m : ℕ) → Above ts G → Holds G n m → (length (list_of 0 ts) ≤ n) × (length (texts_of ts) ≤ m)
within (got us) ts n m l h = (omega (arith, l.0, h.0), omega (arith, l.1, h.1))
within (refused refusal place) ts n m l h = absurd h

-- ---- a turn

-- the tokens ts fill both tables, up to p and to o, and what is left of G starts at `at`
pub record Filled (G : Got) (s list₀ list text₀ text : List ℕ) (k at p o : ℕ) (ts : List Token) : Type 0 where
  pub room : length s ≤ at + k
  pub place : p ≡ length (list_of 0 ts)
  pub texts : o ≡ length (texts_of ts)
  pub before : o ≤ at
  pub list_same : length list ≡ length list₀
  pub text_same : length text ≡ length text₀
  pub list_is : list ≡ sets list₀ 0 (list_of 0 ts)
  pub text_is : text ≡ sets text₀ 0 (texts_of ts)
  pub rest : read_from k s at ts ≡ G

-- b is stored after a, which begins at 0
stored_on : (l₀ l l' a b ab : List ℕ) (n : ℕ) → n ≡ length a → ab ≡ a ++ b → l ≡ sets l₀ 0 a → l' ≡ sets l n b → l' ≡ sets l₀ 0 ab
stored_on l₀ l l' a b ab n e f g h = h ∙ rw (g, e, f) (rw (zero-add (length a)) at (sets_append l₀ 0 a b))

module _ {G : Got} {s list₀ list text₀ text : List ℕ} {k at p o : ℕ} {ts : List Token} (F : Filled G s list₀ list text₀ text k at p o ts)
    (small : length s ≤ 16777215) (fits : Holds G (length list₀) (length text₀)) (h : at < length s) {t : Result Read Refused} (e : t ≡ token_at s at) where
  t_whole : Whole t
  t_whole = by_whole t (λ w. w) (λ refusal place f. absurd (subst (λ (K : Got). Holds K (length list₀) (length text₀)) (read_stop G k s at ts F.room F.rest h refusal place (sym e ∙ f)) fits))

  -- a token was read
  pub filled_read : IsOk t
  filled_read = whole_read t t_whole

  t_rest : read_from (k - 1) s (next_of at t) (ts ++ added s at t) ≡ G
  t_rest = rw e (read_went G k s at ts F.room F.rest h (rw (← e) t_whole))

  -- where the words and the texts of the token go
  words_on : list_of 0 (ts ++ added s at t) ≡ list_of 0 ts ++ list_of o (added s at t)
  words_on = rw F.texts (rw (zero-add (length (texts_of ts))) at (list_append 0 ts (added s at t)))

  sizes_on : (length (list_of 0 (ts ++ added s at t)) ≡ p + length (list_of o (added s at t))) × (length (texts_of (ts ++ added s at t)) ≡ o + length (texts_of (added s at t)))
  sizes_on = let n = words_texts ts (added s at t) in (rw (F.place, F.texts) n.0, rw F.texts n.1)

  pub filled_room : Room s at t p o list text
  filled_room =
      let us = added s at t in
      let w = within G (ts ++ us) (length list₀) (length text₀) (subst (Above (ts ++ us)) t_rest (above (k - 1) s (next_of at t) (ts ++ us))) fits in
      record {
        inside = h;
        small = small;
        is_whole = t_whole;
        is_there = e;
        before = F.before;
        list_room = omega (arith, w.0, sizes_on.0, F.list_same);
        text_room = omega (arith, w.1, sizes_on.1, F.text_same);
      }

  pub filled_next : Told s at (token_at s at) → {list' text' : List ℕ} {r : Place} → Put s at t p o list list' text text' r → length list' ≡ length list → length text' ≡ length text
      → Filled G s list₀ list' text₀ text' (k - 1) r.at r.p r.o (ts ++ added s at t) × (at < r.at)
  filled_next known {list'} {text'} P l x =
      let us = added s at t in
      let q = reaches s at t (subst (Told s at) (sym e) known) t_whole in (
        record {
          room = omega (arith, F.room, q, P.to);
          place = P.list_place ∙ sym sizes_on.0;
          texts = P.text_place ∙ sym sizes_on.1;
          before = omega (arith, P.text_place, P.to, q, F.before);
          list_same = l ∙ F.list_same;
          text_same = x ∙ F.text_same;
          list_is = stored_on list₀ list list' (list_of 0 ts) (list_of o us) (list_of 0 (ts ++ us)) p F.place words_on F.list_is P.list_is;
          text_is = stored_on text₀ text text' (texts_of ts) (texts_of us) (texts_of (ts ++ us)) o F.texts (texts_append ts us) F.text_is P.text_is;
          rest = rw P.to t_rest;
        },
        omega (arith, q, P.to),
      )

-- ---- the end

pub filled_end : {G : Got} {s list₀ list text₀ text : List ℕ} {k at p o : ℕ} {ts : List Token} → Filled G s list₀ list text₀ text k at p o ts → length s ≤ at → Fills (tokens_got G) list₀ list text₀ text
unfolding tokens_got
filled_end {G} {s} {k = k} {at = at} {ts = ts} F h = rw (read_ended G k s at ts F.room F.rest h) (record { list_is = F.list_is; text_is = F.text_is })
