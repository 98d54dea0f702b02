-- What each kind of token puts into the two tables. Assumes nothing.
use Rattle.std.specs.Prelude.{Result, Ok}
use Rattle.tokens.specs.declared.Refused.{Refused}
use mathlib.Core.Path.{◌≡◌, refl, sym, ap, subst, ◌∙◌}
use mathlib.Core.Bool.{Bool, true, false}
use mathlib.Core.List.{List, [], ◌∷◌, ◌++◌, append_assoc, append-nil}
use Prim.Native.Nat.{ℕ, ◌+◌, ◌^◌, ◌<◌, ◌≤◌}
use native.Mathlib.Omega.{arith}
use lib.ListN.{length, length-append}
use lib.Seq.{sets}
use mir.Syntax.{w32}
use mir.Val.{of_z}
use Rattle.numbers.specs.declared.Number as numbers
use Rattle.table.specs.Words.{word_bytes}
use Rattle.table.proofs.Stores.{sets_append, word_length}
use Rattle.tokens.specs.declared.Read.{Read}
use Rattle.tokens.specs.declared.Read.TheVariants.{Number, Identifier, String, Operator, Comment}
use Rattle.tokens.specs.Joined.{joined_at, FitsText}
use Rattle.points.specs.Point.{next_of}
use Rattle.tokens.specs.Text.{every, is_name}
use Rattle.tokens.specs.declared.Rule.TheVariants.{Plain, Named}
use Rattle.tokens.proofs.Told.{Told, Text}
use Rattle.items.specs.Tokens.{Token, number, operator}
use Rattle.tokens.specs.Joined.{data_of}
use Rattle.lists.specs.Promise.{four_words, text_of, texts_of, words_of, list_of}
use Rattle.filling.specs.Filling.{shown, text_token, added, Put, Room}
use Rattle.lists.proofs.SameTables.{words_length}
use Rattle.filling.proofs.Surveying.{text_one, text_of_lem, text_length}

-- a token's four words, stored one after another
pub four_put : (l l₁ l₂ l₃ l₄ : List ℕ) (i k a b : ℕ) → l₁ ≡ sets l i (word_bytes k) → l₂ ≡ sets l₁ (i + 4) (word_bytes a) → l₃ ≡ sets l₂ (i + 8) (word_bytes b) → l₄ ≡ sets l₃ (i + 12) (word_bytes 0)
    → l₄ ≡ sets l i (four_words k a b)
four_put l l₁ l₂ l₃ l₄ i k a b e₁ e₂ e₃ e₄ =
    let K = word_bytes k in
    let A = word_bytes a in
    let B = word_bytes b in
    let Z = word_bytes 0 in
    let n₁ : i + 4 ≡ i + length K = rw (word_length k) in
    let n₂ : i + 8 ≡ i + length (K ++ A) = omega (arith, length-append K A, word_length k, word_length a) in
    let n₃ : i + 12 ≡ i + length ((K ++ A) ++ B) = omega (arith, length-append (K ++ A) B, length-append K A, word_length k, word_length a, word_length b) in
    let f₂ : l₂ ≡ sets l i (K ++ A) = e₂ ∙ rw (e₁, n₁) (sets_append l i K A) in
    let f₃ : l₃ ≡ sets l i ((K ++ A) ++ B) = e₃ ∙ rw (f₂, n₂) (sets_append l i (K ++ A) B) in
    let g : ((K ++ A) ++ B) ++ Z ≡ K ++ (A ++ (B ++ Z)) = simp append_assoc in
    e₄ ∙ rw (f₃, n₃) (sets_append l i ((K ++ A) ++ B) Z ∙ ap (sets l i) g)

-- ---- the words and the text of one token

list_one : (o : ℕ) (t : Token) → list_of o (t ∷ []) ≡ words_of o t
unfolding list_of
list_one o t = append-nil (words_of o t)

-- the token t at `at` is an identifier or a string of len bytes, with the words of its kind
pub record IsText (s : List ℕ) (at : ℕ) (t : Result Read Refused) (lower : Bool) (kind len next : ℕ) : Type 0 where
  pub rule : List ℕ → Bool
  pub adds : added s at t ≡ text_token lower (shown lower (data_of (joined_at s at))) ∷ []
  pub ends : next_of at t ≡ next
  pub told : Text s at len next rule
  pub words : (o : ℕ) (d : List ℕ) → words_of o (text_token lower d) ≡ four_words kind o (length d)

module _ (s : List ℕ) (at : ℕ) (t : Result Read Refused) (known : Told s at t) {len next : ℕ} where
  pub identifier_is : t ≡ Ok (Identifier len next) → IsText s at t true 2 len next
  unfolding added text_token shown words_of
  identifier_is e = record { rule = is_name Named; adds = rw e; ends = rw e; told = subst (Told s at) e known; words = λ o d. refl }

  pub string_is : t ≡ Ok (String len next) → IsText s at t false 3 len next
  unfolding added text_token shown words_of
  string_is e = record { rule = every Plain; adds = rw e; ends = rw e; told = subst (Told s at) e known; words = λ o d. refl }

-- ---- what is put

module _ {s : List ℕ} {at : ℕ} {t : Result Read Refused} {p o : ℕ} {list text : List ℕ} (R : Room s at t p o list text) where
  one_room : (tok : Token) → added s at t ≡ tok ∷ [] → (p + 16 ≤ length list) × (o + length (text_of tok) ≤ length text)
  one_room tok e =
      let a = rw (e, list_one o tok, words_length o tok) at R.list_room in
      let b = rw (e, text_one tok) at R.text_room in
      (a, b)

  made : (list' text' : List ℕ) (tok : Token) (next q : ℕ) → added s at t ≡ tok ∷ [] → next_of at t ≡ next → list' ≡ sets list p (words_of o tok) → text' ≡ sets text o (text_of tok) → q ≡ o + length (text_of tok)
      → Put s at t p o list list' text text' (record { at = next; p = p + 16; o = q })
  made list' text' tok next q e n l x f =
      record {
        to = sym n;
        list_place = rw (e, list_one o tok, words_length o tok);
        text_place = rw (e, text_one tok) f;
        list_is = rw (e, list_one o tok) l;
        text_is = rw (e, text_one tok) x;
      }

  pub number_room : {value : numbers.Number} {next : ℕ} → t ≡ Ok (Number value next) → p + 16 ≤ length list
  unfolding added
  number_room {value} e = (one_room (number value) (rw e)).0

  pub number_put : {value : numbers.Number} {next : ℕ} → t ≡ Ok (Number value next) → {list' : List ℕ}
      → list' ≡ sets list p (four_words 1 (of_z w32 value.num) value.den) → Put s at t p o list list' text text (record { at = next; p = p + 16; o = o + 0 })
  unfolding added text_of words_of
  number_put {value} {next} e {list'} l = made list' text (number value) next (o + 0) (rw e) (rw e) l refl refl

  pub operator_room : {n next : ℕ} → t ≡ Ok (Operator n next) → p + 16 ≤ length list
  unfolding added
  operator_room {n} e = (one_room (operator n) (rw e)).0

  pub operator_put : {n next : ℕ} → t ≡ Ok (Operator n next) → {list' : List ℕ} → list' ≡ sets list p (four_words 4 n 0)
      → Put s at t p o list list' text text (record { at = next; p = p + 16; o = o + 0 })
  unfolding added text_of words_of
  operator_put {n} {next} e {list'} l = made list' text (operator n) next (o + 0) (rw e) (rw e) l refl refl

  pub comment_put : {next : ℕ} → t ≡ Ok (Comment next) → Put s at t p o list list text text (record { at = next; p = p; o = o })
  unfolding added list_of texts_of
  comment_put e = record { to = rw e; list_place = rw e (omega arith); text_place = rw e (omega arith); list_is = rw e; text_is = rw e }

  module _ {lower : Bool} {kind len next : ℕ} (T : IsText s at t lower kind len next) where
    pub text_end : o + len ≤ length text
    text_end = omega (arith, (one_room _ T.adds).1, text_length lower T.told)

    pub text_ok : (at < length s) × (p + 16 ≤ length list) × (o < 2 ^ 32) × (len < 2 ^ 32) × FitsText (length text) o (joined_at s at)
    text_ok =
        let k = T.told in
        (R.inside, (one_room _ T.adds).0, omega (arith, R.before, R.inside, R.small), omega (arith, k.longer, k.inside, R.small), rw k.joined (omega (arith, text_end, k.counted)))

    pub text_put : {list' text' : List ℕ} → (list' ≡ sets list p (four_words kind o len)) × (text' ≡ sets text o (shown lower (data_of (joined_at s at)))) → Put s at t p o list list' text text' (record { at = next; p = p + 16; o = o + len })
    text_put {list'} {text'} x =
        let d = shown lower (data_of (joined_at s at)) in
        let m : length d ≡ len = ap length (sym (text_of_lem lower d)) ∙ text_length lower T.told in
        made list' text' (text_token lower d) next (o + len) T.adds T.ends (x.0 ∙ rw (T.words o d, m)) (x.1 ∙ rw (text_of_lem lower d)) (rw (text_of_lem lower d, m))
