-- What `read_back` answers and leaves, by its tests. Assumes nothing.
use Rattle.std.specs.Prelude.{Ok, Err}
use Rattle.tokens.specs.Refusal.{refusal_at}
use Rattle.filling.specs.declared.Survey.{Survey}
use Rattle.filling.specs.Filling.{survey}
use mathlib.Core.Path.{◌≡◌, refl, ap, ◌∙◌}
use mathlib.Core.Bool.{true, false}
use mathlib.Core.List.{List}
use Prim.Native.Nat.{ℕ, ◌*◌, ◌/◌, ◌<◌, ◌≤◌}
use native.Mathlib.Omega.{arith}
use lib.Dec.{leb}
use lib.ListN.{length}
use borrow.Author.Tests.{le-leb, lt-leb}
use Rattle.numbers.proofs.Cond.{no_left, no_right}
use Rattle.table.proofs.Stores.{front}
use Rattle.tokens.specs.declared.Refusal.{Refusal}
use Rattle.tokens.specs.declared.Refused.{Refused}
use Rattle.tokens.specs.declared.Refusal.TheVariants.{BadHeader, TooLong, TableTooShort}
use Rattle.tokens.specs.Format.{header, starts}
use Rattle.items.specs.Tokens.{Token}
use Rattle.lists.specs.Reading.{Got, got, refused, read_list}
use Rattle.lists.specs.Promise.{over, texts_of, list_of, holds, read_answer, list_leaves, text_leaves, ReadsBack}
use Rattle.filling.specs.Filling.{tokens_in, survey_of, Holds, tokens_got, Fills}
use Rattle.lists.proofs.SameTables.{list_length}

-- ---- the survey's answer

broken_is : (G : Got) (w : Refused) → Err w ≡ survey_of G → G ≡ refused w.refusal w.place
unfolding survey_of
broken_is (got ts) w e = absurd cc
broken_is (refused r p) w e = let f : w ≡ refusal_at r p = cc in rw f

sound_is : (G : Got) (c x : ℕ) → Ok (survey c x) ≡ survey_of G → (ts : List Token) × (G ≡ got ts) × (c ≡ length ts) × (x ≡ length (texts_of ts))
unfolding survey_of
sound_is (got ts) c x e =
    let f : survey c x ≡ survey (length ts) (length (texts_of ts)) = cc in
    (ts, refl, ap (λ (v : Survey). v.count) f, ap (λ (v : Survey). v.texts) f)
sound_is (refused w q) c x e = absurd (let z : ◌≡◌ {A = ℕ} 0 1 = cc in omega arith)

-- ---- the answer

-- the bytes s are a list of c tokens with x bytes of text
pub record Sounds (s : List ℕ) (c x : ℕ) : Type 0 where
  pub small : length s ≤ 16777215
  pub headed : starts header s ≡ true
  pub surveyed : Ok (survey c x) ≡ survey_of (tokens_in s)

module _ (s list text : List ℕ) where
  unread : (refusal : Refusal) (place : ℕ) → read_list s ≡ refused refusal place → ReadsBack s list list text text (Err (refusal_at refusal place))
  unfolding read_answer list_leaves text_leaves
  unread refusal place e = record { answer = rw e; list_left = rw e; text_left = rw e }

  pub end_long : 16777215 < length s → ReadsBack s list list text text (Err (refusal_at TooLong 0))
  unfolding read_list
  end_long h = unread TooLong 0 (rw (lt-leb (length s) 16777215 h))

  pub end_header : length s ≤ 16777215 → starts header s ≡ false → ReadsBack s list list text text (Err (refusal_at BadHeader 0))
  unfolding read_list
  end_header h f = unread BadHeader 0 (rw (le-leb (length s) 16777215 h, f))

  goes_on : length s ≤ 16777215 → starts header s ≡ true → read_list s ≡ tokens_in s
  unfolding read_list
  goes_on h f = rw (le-leb (length s) 16777215 h, f)

  pub end_broken : length s ≤ 16777215 → starts header s ≡ true → {w : Refused} → Err w ≡ survey_of (tokens_in s) → ReadsBack s list list text text (Err w)
  end_broken h f {w} e = unread w.refusal w.place (goes_on h f ∙ broken_is (tokens_in s) w e)

  module _ {c x : ℕ} (S : Sounds s c x) where
    ts : List Token
    ts = (sound_is (tokens_in s) c x S.surveyed).0

    is_got : tokens_in s ≡ got ts
    unfolding ts
    is_got = (sound_is (tokens_in s) c x S.surveyed).1

    count : c ≡ length ts
    unfolding ts
    count = (sound_is (tokens_in s) c x S.surveyed).2

    texts : x ≡ length (texts_of ts)
    unfolding ts
    texts = (sound_is (tokens_in s) c x S.surveyed).3

    words : length (list_of 0 ts) ≡ 16 * c
    words = omega (arith, list_length 0 ts, count)

    on : read_list s ≡ got ts
    on = goes_on S.small S.headed ∙ is_got

    too_short : holds ts (length list) (length text) ≡ false → ReadsBack s list list text text (Err (refusal_at TableTooShort 0))
    unfolding read_answer list_leaves text_leaves
    too_short m = record { answer = rw (on, m); list_left = rw (on, m); text_left = rw (on, m) }

    pub end_list : length list / 16 < c → ReadsBack s list list text text (Err (refusal_at TableTooShort 0))
    end_list k = too_short (no_left (leb (length (list_of 0 ts)) (length list)) (leb (length (texts_of ts)) (length text)) (lt-leb (length (list_of 0 ts)) (length list) (omega (arith, words))))

    pub end_text : length text < x → ReadsBack s list list text text (Err (refusal_at TableTooShort 0))
    end_text k = too_short (no_right (leb (length (list_of 0 ts)) (length list)) (leb (length (texts_of ts)) (length text)) (lt-leb (length (texts_of ts)) (length text) (omega (arith, texts))))

    module _ (a : c ≤ length list / 16) (b : x ≤ length text) where
      pub end_holds : Holds (tokens_in s) (length list) (length text)
      end_holds = rw is_got (omega (arith, words), omega (arith, texts))

      pub end_done : {list' text' : List ℕ} → Fills (tokens_got (tokens_in s)) list list' text text' → ReadsBack s list list' text text' (Ok c)
      unfolding read_answer list_leaves text_leaves tokens_got over
      end_done {list'} {text'} m =
          let n : Fills ts list list' text text' = rw is_got at m in
          let l : length (list_of 0 ts) ≤ length list = omega (arith, words) in
          let t : length (texts_of ts) ≤ length text = omega (arith, texts) in
          let u = le-leb (length (list_of 0 ts)) (length list) l in
          let v = le-leb (length (texts_of ts)) (length text) t in
          record {
            answer = rw (on, u, v) (ap Ok count);
            list_left = rw (on, u, v) (n.list_is ∙ front list (list_of 0 ts) l);
            text_left = rw (on, u, v) (n.text_is ∙ front text (texts_of ts) t);
          }
