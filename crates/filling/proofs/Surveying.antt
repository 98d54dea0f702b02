-- The tokens of a list that is read back, one at a turn: what a token adds, and the survey that counts them. In order: texts and words
-- of two lists; what a token adds; the rest of the list after it; the survey. Assumes nothing.
use Rattle.std.specs.Prelude.{Result, Ok, Err}
use Rattle.tokens.specs.Refusal.{refusal_at}
use Rattle.tokens.specs.declared.Refused.{Refused}
use Rattle.filling.specs.Filling.{survey}
use mathlib.Core.Path.{◌≡◌, refl, sym, ap, subst, ◌∙◌}
use mathlib.Core.Bool.{Bool, true, false}
use mathlib.Core.List.{List, [], ◌∷◌, ◌++◌, append_assoc, append-nil}
use Prim.Native.Nat.{ℕ, ◌+◌, ◌-◌, ◌<◌, ◌≤◌}
use native.Mathlib.Omega.{arith}
use lib.ListN.{length, length-append}
use borrow.Author.Tests.{lt-ltb, le-ltb}
use Rattle.tokens.specs.declared.Read.{Read}
use Rattle.tokens.specs.declared.Read.TheVariants.{Number, Identifier, String, Operator, Comment}
use Rattle.tokens.specs.declared.Refusal.{Refusal}
use Rattle.tokens.specs.Joined.{joined_at}
use Rattle.tokens.specs.Token.{token_at}
use Rattle.points.specs.Point.{next_of}
use Rattle.tokens.proofs.Told.{Told, Text}
use Rattle.filling.specs.declared.Step.{Step}
use Rattle.items.specs.Tokens.{Token}
use Rattle.lists.specs.Reading.{Got, got, refused, on_read, read_from}
use Rattle.tokens.specs.Joined.{data_of}
use Rattle.lists.specs.Promise.{text_of, texts_of, words_of, list_of}
use Rattle.filling.specs.Filling.{step_of, survey_of, shown, text_token, added, Whole}
use Rattle.lists.proofs.ReadWrite.{read_turn}
use Rattle.filling.proofs.Copying.{shown_length}

-- ---- texts and words

pub texts_append : (ts us : List Token) → texts_of (ts ++ us) ≡ texts_of ts ++ texts_of us
unfolding texts_of
texts_append [] us = refl
texts_append (t ∷ ts) us = ap (λ (b : List ℕ). text_of t ++ b) (texts_append ts us) ∙ sym (append_assoc (text_of t) (texts_of ts) (texts_of us))

pub list_append : (o : ℕ) (ts us : List Token) → list_of o (ts ++ us) ≡ list_of o ts ++ list_of (o + length (texts_of ts)) us
unfolding list_of texts_of
list_append o [] us = ap (λ (n : ℕ). list_of n us) (omega arith)
list_append o (t ∷ ts) us =
    let e : o + length (text_of t) + length (texts_of ts) ≡ o + length (text_of t ++ texts_of ts) = omega (arith, length-append (text_of t) (texts_of ts)) in
    ap (λ (b : List ℕ). words_of o t ++ b) (rw e at (list_append (o + length (text_of t)) ts us)) ∙ sym (append_assoc (words_of o t) (list_of (o + length (text_of t)) ts) _)

pub text_one : (t : Token) → texts_of (t ∷ []) ≡ text_of t
unfolding texts_of
text_one t = append-nil (text_of t)

pub text_of_lem : (lower : Bool) (d : List ℕ) → text_of (text_token lower d) ≡ d
unfolding text_of text_token
text_of_lem true d = refl
text_of_lem false d = refl

-- a text in the table has as many bytes as the token says
pub text_length : (lower : Bool) {s : List ℕ} {at len next : ℕ} {rule : List ℕ → Bool} → Text s at len next rule → length (text_of (text_token lower (shown lower (data_of (joined_at s at))))) ≡ len
unfolding data_of
text_length lower k = rw (text_of_lem lower (shown lower (data_of (joined_at _ _))), k.joined, shown_length lower k.data_are) (sym k.counted)

texts_length : (lower : Bool) {s : List ℕ} {at len next : ℕ} {rule : List ℕ → Bool} → Text s at len next rule → length (texts_of (text_token lower (shown lower (data_of (joined_at s at))) ∷ [])) ≡ len
texts_length lower {s} {at} k = ap length (text_one (text_token lower (shown lower (data_of (joined_at s at))))) ∙ text_length lower k

-- ---- what a token adds

-- a token that adds a tokens and m bytes of text, and ends at n
pub record Goes (s : List ℕ) (at : ℕ) (t : Result Read Refused) (a m n : ℕ) : Type 0 where
  pub is_whole : Whole t
  pub to_next : next_of at t ≡ n
  pub adds : length (added s at t) ≡ a
  pub text : length (texts_of (added s at t)) ≡ m
  pub few : a ≤ 1
  pub later : at + m < n
  pub inside : n ≤ length s

abbrev pub Steps : List ℕ → ℕ → Result Read Refused → Result Step Refused → Type 0
Steps s at t (Ok p) = Goes s at t p.adds p.text p.next
Steps s at t (Err w) = t ≡ Err w

pub steps : (s : List ℕ) (at : ℕ) (t : Result Read Refused) → Told s at t → Steps s at t (step_of t)
unfolding added texts_of text_of text_token shown
steps s at (Ok (Number value next)) k =
    record { is_whole = tt; to_next = refl; adds = refl; text = refl; few = omega arith; later = omega (arith, k.1.0); inside = k.1.1 }
steps s at (Ok (Identifier len next)) k =
    record { is_whole = tt; to_next = refl; adds = refl; text = texts_length true k; few = omega arith; later = k.longer; inside = k.inside }
steps s at (Ok (String count next)) k =
    record { is_whole = tt; to_next = refl; adds = refl; text = texts_length false k; few = omega arith; later = k.longer; inside = k.inside }
steps s at (Ok (Operator n next)) k =
    record { is_whole = tt; to_next = refl; adds = refl; text = refl; few = omega arith; later = omega (arith, k.1.0); inside = k.1.1 }
steps s at (Ok (Comment next)) k =
    record { is_whole = tt; to_next = refl; adds = refl; text = refl; few = omega arith; later = omega (arith, k.0); inside = k.1 }
steps s at (Err w) k = refl

-- a token ends past its text
pub reaches : (s : List ℕ) (at : ℕ) (t : Result Read Refused) → Told s at t → Whole t → at + length (texts_of (added s at t)) < next_of at t
reaches s at t k w = by_step (step_of t) (steps s at t k)
  where
    by_step : (p : Result Step Refused) → Steps s at t p → at + length (texts_of (added s at t)) < next_of at t
    by_step (Ok p) g = omega (arith, g.later, g.to_next, g.text)
    by_step (Err why) g = absurd (subst Whole g w)

pub on_go : (s : List ℕ) (at : ℕ) (ts : List Token) (t : Result Read Refused) (more : ℕ → List Token → Got) → Whole t
    → on_read s at ts t more ≡ more (next_of at t) (ts ++ added s at t)
unfolding on_read added
on_go s at ts (Ok (Number value next)) more w = refl
on_go s at ts (Ok (Identifier len next)) more w = refl
on_go s at ts (Ok (String count next)) more w = refl
on_go s at ts (Ok (Operator n next)) more w = refl
on_go s at ts (Ok (Comment next)) more w = ap (more next) (sym (append-nil ts))
on_go s at ts (Err why) more w = absurd w

-- ---- the rest of the list

module _ (G : Got) (k : ℕ) (s : List ℕ) (at : ℕ) (ts : List Token) (room : length s ≤ at + k) (e : read_from k s at ts ≡ G) where
  pub read_ended : length s ≤ at → G ≡ got ts
  read_ended h = sym e ∙ read_turn k s at ts room ∙ rw (le-ltb at (length s) h)

  pub read_stop : at < length s → (refusal : Refusal) (place : ℕ) → token_at s at ≡ Err (refusal_at refusal place) → G ≡ refused refusal place
  unfolding on_read
  read_stop h refusal place f = sym e ∙ read_turn k s at ts room ∙ rw (lt-ltb at (length s) h, f)

  pub read_went : at < length s → Whole (token_at s at) → read_from (k - 1) s (next_of at (token_at s at)) (ts ++ added s at (token_at s at)) ≡ G
  read_went h w = sym (read_turn k s at ts room ∙ rw (lt-ltb at (length s) h) (on_go s at ts (token_at s at) (read_from (k - 1) s) w)) ∙ e

-- ---- the survey

-- the tokens ts are counted, and what is left of G starts at `at`
pub record Surveyed (G : Got) (s : List ℕ) (k at c x : ℕ) (ts : List Token) : Type 0 where
  pub room : length s ≤ at + k
  pub count : c ≡ length ts
  pub texts : x ≡ length (texts_of ts)
  pub count_in : c ≤ at
  pub texts_in : x ≤ at
  pub rest : read_from k s at ts ≡ G

module _ {G : Got} {s : List ℕ} {k at c x : ℕ} {ts : List Token} (v : Surveyed G s k at c x ts) where
  pub survey_end : length s ≤ at → Ok (survey c x) ≡ survey_of G
  unfolding survey_of
  survey_end h = rw (read_ended G k s at ts v.room v.rest h, v.count, v.texts)

  pub survey_stop : at < length s → {w : Refused} → token_at s at ≡ Err w → Err w ≡ survey_of G
  unfolding survey_of
  survey_stop h {w} f = rw (read_stop G k s at ts v.room v.rest h w.refusal w.place f)

  pub survey_next : at < length s → {a m n : ℕ} → Goes s at (token_at s at) a m n → Surveyed G s (k - 1) n (c + a) (x + m) (ts ++ added s at (token_at s at))
  survey_next h g =
      let t = token_at s at in
      record {
        room = omega (arith, v.room, g.later);
        count = rw (length-append ts (added s at t)) (omega (arith, v.count, g.adds));
        texts = rw (texts_append ts (added s at t), length-append (texts_of ts) (texts_of (added s at t))) (omega (arith, v.texts, g.text));
        count_in = omega (arith, v.count_in, g.few, g.later);
        texts_in = omega (arith, v.texts_in, g.later);
        rest = rw g.to_next at (read_went G k s at ts v.room v.rest h g.is_whole);
      }
