-- The data of a sequence with all that continues it, stored a piece at a time into a list of elements, each byte as one of them. In
-- order: data joined before others; the pieces that continue; the whole; how many bytes. Assumes nothing.
use Rattle.std.specs.Prelude.{Result, Ok, Err, Option, Some, None}
use Rattle.tokens.specs.declared.Refused.{Refused}
use Rattle.tokens.specs.Joined.{piece_from}
use Rattle.tokens.specs.Inner.{gathered}
use mathlib.Core.Path.{◌≡◌, refl, sym, ap, subst, ◌∙◌}
use mathlib.Core.Bool.{Bool, true, false, cond}
use mathlib.Core.List.{List, [], ◌∷◌, ◌++◌, append_assoc, append-nil}
use Prim.Native.Nat.{ℕ, zero, suc, ◌+◌, ◌-◌, ◌<◌, ◌≤◌}
use native.Mathlib.Omega.{arith}
use borrow.Author.Tests.{lt-leb}
use lib.ListN.{length, get_or, take, drop, length-append}
use lib.Seq.{slice, sets}
use Rattle.table.proofs.Stores.{sets_append}
use Rattle.table.proofs.WordLists.{Bytes, bytes_take}
use Rattle.tokens.specs.declared.Piece.{Piece}
use Rattle.tokens.specs.declared.Summary.{Summary}
use Rattle.tokens.specs.declared.Gathered.{Gathered}
use Rattle.tokens.specs.Bytes.{value_of}
use Rattle.tokens.specs.Inner.{summary_of, gathered_of}
use Rattle.tokens.specs.Joined.{Joined, whole, cut_at, length_bytes, within, piece_at, continued, on_piece, joined_from, joined_at, data_of, continuing, continuations, FitsText}
use Rattle.tokens.proofs.Pieces.{Inside, inside, joined_data, joined_missing}
use Rattle.tokens.proofs.Summaries.{part_length}
use Rattle.tokens.proofs.Turns.{at_end_lem, turn, went}

-- ---- data joined before others

abbrev before : List ℕ → Joined → Joined
before f (whole d next) = whole (f ++ d) next
before f (cut_at place) = cut_at place

before_cond : (f : List ℕ) (b : Bool) (x y x' y' : Joined) → x ≡ before f x' → y ≡ before f y' → cond b x y ≡ before f (cond b x' y')
before_cond f true x y x' y' e g = e
before_cond f false x y x' y' e g = g

before_piece : (f : List ℕ) (at : ℕ) (w : Option Piece) (g g' : ℕ → ℕ → Joined) → ((a m : ℕ) → g a m ≡ before f (g' a m)) → on_piece w (cut_at at) g ≡ before f (on_piece w (cut_at at) g')
unfolding on_piece
before_piece f at (Some p) g g' e = e p.start p.len
before_piece f at None g g' e = refl

from_before : (k : ℕ) (s : List ℕ) (at : ℕ) (f d : List ℕ) → joined_from k s at (f ++ d) ≡ before f (joined_from k s at d)
unfolding joined_from
from_before zero s at f d = refl
from_before (suc k) s at f d =
    before_cond f (continued (get_or s at 0)) _ _ _ (whole d at)
    (before_piece f at (piece_at s at) _ (λ a m. joined_from k s (a + m) (d ++ slice a (a + m) s))
    (λ a m. ap (joined_from k s (a + m)) (append_assoc f d (slice a (a + m) s)) ∙ from_before k s (a + m) f (d ++ slice a (a + m) s)))
    refl

from_none : (k : ℕ) (s : List ℕ) (at : ℕ) (f : List ℕ) → joined_from k s at f ≡ before f (joined_from k s at [])
from_none k s at f = ap (joined_from k s at) (sym (append-nil f)) ∙ from_before k s at f []

fits_before : (n o : ℕ) (f : List ℕ) (J : Joined) → FitsText n o (before f J) → (o + length f ≤ n) × FitsText n (o + length f) J × (data_of (before f J) ≡ f ++ data_of J)
unfolding data_of
fits_before n o f (whole d next) h = (omega (arith, length-append f d), omega (arith, length-append f d), refl)
fits_before n o f (cut_at place) h = absurd h

-- there is room for what was joined so far
fits_so_far : (J : Joined) (n o k : ℕ) (s : List ℕ) (at : ℕ) (d : List ℕ) → joined_from k s at d ≡ J → FitsText n o J → o + length d ≤ n
fits_so_far J n o k s at d e f = (fits_before n o d (joined_from k s at []) (subst (FitsText n o) (sym e ∙ from_none k s at d) f)).0

-- ---- the pieces that continue

pub none_left : (s : List ℕ) (at : ℕ) → length s ≤ at → continuing s at ≡ None
none_left s at h = rw (at_end_lem s at h)

-- how bytes are stored: one element each
pub record Shows {A : Type 0} (sh : List ℕ → List A) : Type 0 where
  pub none : sh [] ≡ []
  pub all : (d e : List ℕ) → sh (d ++ e) ≡ sh d ++ sh e
  pub each : (d : List ℕ) → length (sh d) ≡ length d

pub as_found : {A : Type 0} (sh : List ℕ → List A) → Shows sh → (l : List A) (o : ℕ) → l ≡ sets l o (sh [])
as_found sh S l o = ap (sets l o) (sym S.none)

-- the data e are stored after the data d, which end at q
stored_after : {A : Type 0} (sh : List ℕ → List A) (S : Shows sh) (l l₁ l₂ : List A) (o q : ℕ) (d e : List ℕ) → q ≡ o + length d → l₁ ≡ sets l o (sh d) → l₂ ≡ sets l₁ q (sh e) → l₂ ≡ sets l o (sh (d ++ e))
stored_after sh S l l₁ l₂ o q d e p f g =
    let n : q ≡ o + length (sh d) = omega (arith, S.each d) in
    g ∙ rw (f, n, S.all d e) (sets_append l o (sh d) (sh e))

-- the data d are copied from o to q, and what is left of J starts at `at`
pub record Copied {A : Type 0} (sh : List ℕ → List A) (J : Joined) (s : List ℕ) (text₀ text : List A) (o k at q : ℕ) (d : List ℕ) : Type 0 where
  pub room : length s ≤ at + k
  pub place : q ≡ o + length d
  pub same : length text ≡ length text₀
  pub text_is : text ≡ sets text₀ o (sh d)
  pub rest : joined_from k s at d ≡ J

module _ {A : Type 0} {sh : List ℕ → List A} {J : Joined} {s : List ℕ} {text₀ text : List A} {o k at q : ℕ} {d : List ℕ} (S : Shows sh) (C : Copied sh J s text₀ text o k at q d) (fits : FitsText (length text₀) o J) where
  ends_by : (c : Bool) → continued (get_or s at 0) ≡ c → continuing s at ≡ None → J ≡ whole d at
  unfolding on_piece
  ends_by true e h =
      let p : piece_at s at ≡ None = rw e at h in
      let g : J ≡ cut_at at = sym C.rest ∙ turn k s at d C.room ∙ rw (e, p) in
      absurd (subst (FitsText (length text₀) o) g fits)
  ends_by false e h = sym C.rest ∙ turn k s at d C.room ∙ rw e

  pub copied_end : continuing s at ≡ None → text ≡ sets text₀ o (sh (data_of J))
  unfolding data_of
  copied_end h = rw (ends_by (continued (get_or s at 0)) refl h) C.text_is

  module _ {f m : ℕ} (here : continuing s at ≡ Some (piece_from f m)) where
    goes_by : (c : Bool) → continued (get_or s at 0) ≡ c → (continued (get_or s at 0) ≡ true) × (piece_at s at ≡ Some (piece_from f m))
    goes_by true e = (e, rw e at here)
    goes_by false e = absurd (let p = rw e at here in let z : ◌≡◌ {A = ℕ} 0 1 = cc in omega arith)

    piece : piece_at s at ≡ Some (piece_from f m)
    piece = (goes_by (continued (get_or s at 0)) refl).1

    piece_in : (at < f) × (f + m ≤ length s)
    piece_in = subst (Inside (length s) at) piece (inside s at)

    part_size : length (slice f (f + m) s) ≡ m
    part_size = part_length s f m piece_in.1

    rest_is : joined_from (k - 1) s (f + m) (d ++ slice f (f + m) s) ≡ J
    rest_is = went 0 J k s at d C.room C.rest f m (goes_by (continued (get_or s at 0)) refl).0 piece

    -- a piece that continues lies inside, and there is room for it
    pub piece_fits : (at < f) × (f + m ≤ length s) × (q + m ≤ length text)
    piece_fits =
        let e = slice f (f + m) s in
        (piece_in.0, piece_in.1, omega (arith, fits_so_far J (length text₀) o (k - 1) s (f + m) (d ++ e) rest_is fits, length-append d e, part_size, C.place, C.same))

    pub copied_next : {text' : List A} → length text' ≡ length text → text' ≡ sets text q (sh (slice f (f + m) s)) → Copied sh J s text₀ text' o (k - 1) (f + m) (q + m) (d ++ slice f (f + m) s)
    copied_next {text'} n e =
        let part = slice f (f + m) s in
        record {
          room = omega (arith, C.room, piece_in.0);
          place = omega (arith, C.place, length-append d part, part_size);
          same = n ∙ C.same;
          text_is = stored_after sh S text₀ text text' o q d part C.place C.text_is e;
          rest = rest_is;
        }

-- ---- the whole text

module _ (s : List ℕ) (at n o : ℕ) (fits : FitsText n o (joined_at s at)) where
  pub not_missing : piece_at s at ≡ None → ⊥
  not_missing p = subst (FitsText n o) (joined_missing s at p) fits

  module _ {f m : ℕ} (p : piece_at s at ≡ Some (piece_from f m)) where
    abbrev first : List ℕ
    first = slice f (f + m) s

    abbrev rest : Joined
    rest = continuations s (f + m)

    first_in : f + m ≤ length s
    first_in = (subst (Inside (length s) at) p (inside s at)).1

    joined_is : joined_at s at ≡ before first rest
    joined_is = joined_data s at f m p ∙ from_none (length s) s (f + m) first

    apart : (o + length first ≤ n) × FitsText n (o + length first) rest × (data_of (before first rest) ≡ first ++ data_of rest)
    apart = fits_before n o first rest (subst (FitsText n o) joined_is fits)

    -- the first piece fits, and the rest after it
    pub first_fits : (o + m ≤ n) × (f + m ≤ length s) × FitsText n (o + m) (continuations s (f + m))
    first_fits = let e = part_length s f m first_in in (omega (arith, apart.0), first_in, rw e at apart.1)

    pub text_whole : {A : Type 0} (sh : List ℕ → List A) → Shows sh → (l : List A) {l₁ l₂ : List A} → l₁ ≡ sets l o (sh (slice f (f + m) s)) → l₂ ≡ sets l₁ (o + m) (sh (data_of (continuations s (f + m))))
        → l₂ ≡ sets l o (sh (data_of (joined_at s at)))
    text_whole sh S l {l₁} {l₂} g h =
        let e = part_length s f m first_in in
        rw (joined_is, apart.2) (stored_after sh S l l₁ l₂ o (o + m) first (data_of rest) (omega (arith, e)) g h)

-- ---- how many, and that they are bytes

pub none_past : (s : List ℕ) (at : ℕ) → length s ≤ at → 0 ≡ length (data_of (joined_at s at))
unfolding joined_at on_piece piece_at within data_of
none_past s at h =
    let k = length_bytes (get_or s at 0) in
    let n = value_of (slice (at + 1) (at + 1 + k) s) in
    rw (lt-leb (at + 1 + k + n) (length s) (omega arith))

pub none_missing : (s : List ℕ) (at : ℕ) → piece_at s at ≡ None → 0 ≡ length (data_of (joined_at s at))
unfolding data_of
none_missing s at p = rw (joined_missing s at p)

size_of : (t : ℕ) (J : Joined) (g : Summary) (next : ℕ) → gathered_of t J ≡ Ok (gathered g next) → g.len ≡ length (data_of J)
unfolding gathered_of summary_of data_of
size_of t (whole d n) g next e = let f : gathered (summary_of t d) n ≡ gathered g next = cc in ap (λ (x : Gathered). x.sum.len) (sym f)
size_of t (cut_at place) g next e = let z : ◌≡◌ {A = ℕ} 0 1 = cc in absurd (omega arith)

none_cut : (t : ℕ) (J : Joined) (w : Refused) → gathered_of t J ≡ Err w → 0 ≡ length (data_of J)
unfolding gathered_of data_of
none_cut t (whole d n) w e = let z : ◌≡◌ {A = ℕ} 0 1 = cc in absurd (omega arith)
none_cut t (cut_at p) w e = refl

-- in one piece
module _ (s : List ℕ) (at f n : ℕ) (p : piece_at s at ≡ Some (piece_from f n)) (h : continued (get_or s (f + n) 0) ≡ false) where
  pub joined_one : joined_at s at ≡ whole (slice f (f + n) s) (f + n)
  joined_one = joined_data s at f n p ∙ turn (length s) s (f + n) (slice f (f + n) s) (omega arith) ∙ rw h

  pub size_one : f + n ≤ length s → n ≡ length (data_of (joined_at s at))
  unfolding data_of
  size_one i = rw joined_one (sym (part_length s f n i))

module _ (s : List ℕ) (at f n t : ℕ) (r : Result Gathered Refused) (p : piece_at s at ≡ Some (piece_from f n)) (e : r ≡ gathered_of t (joined_from (length s) s (f + n) (slice f (f + n) s))) where
  pub size_whole : {g : Summary} {next : ℕ} → r ≡ Ok (gathered g next) → g.len ≡ length (data_of (joined_at s at))
  size_whole {g} {next} h = rw (joined_data s at f n p) (size_of t _ g next (sym e ∙ h))

  pub size_cut : {w : Refused} → r ≡ Err w → 0 ≡ length (data_of (joined_at s at))
  size_cut {w} h = rw (joined_data s at f n p) (none_cut t _ w (sym e ∙ h))

bytes_append : (d e : List ℕ) → Bytes d → Bytes e → Bytes (d ++ e)
bytes_append [] e f g i = g i
bytes_append (b ∷ d) e f g zero = f 0
bytes_append (b ∷ d) e f g (suc i) = bytes_append d e (λ j. f (suc j)) g i

bytes_drop : (n : ℕ) (s : List ℕ) → Bytes s → Bytes (drop n s)
bytes_drop zero s f i = f i
bytes_drop (suc n) [] f i = omega arith
bytes_drop (suc n) (b ∷ s) f i = bytes_drop n s (λ j. f (suc j)) i

bytes_slice : (a b : ℕ) (s : List ℕ) → Bytes s → Bytes (slice a b s)
bytes_slice a b s f i = bytes_drop a (take b s) (bytes_take b s f) i

bytes_piece : (w : Option Piece) (at : ℕ) (g : ℕ → ℕ → Joined) → ((a m : ℕ) → Bytes (data_of (g a m))) → Bytes (data_of (on_piece w (cut_at at) g))
unfolding on_piece data_of
bytes_piece (Some p) at g h i = h p.start p.len i
bytes_piece None at g h i = omega arith

bytes_cond : (b : Bool) (x y : Joined) → Bytes (data_of x) → Bytes (data_of y) → Bytes (data_of (cond b x y))
bytes_cond true x y f g i = f i
bytes_cond false x y f g i = g i

bytes_from : (k : ℕ) (s : List ℕ) (at : ℕ) (d : List ℕ) → Bytes s → Bytes d → Bytes (data_of (joined_from k s at d))
unfolding joined_from data_of
bytes_from zero s at d f g i = g i
bytes_from (suc k) s at d f g i =
    bytes_cond (continued (get_or s at 0)) _ (whole d at)
    (bytes_piece (piece_at s at) at _ (λ a m. bytes_from k s (a + m) (d ++ slice a (a + m) s) f (bytes_append d (slice a (a + m) s) g (bytes_slice a (a + m) s f))))
    g i

-- the joined data of bytes are bytes
pub data_bytes : (s : List ℕ) (at : ℕ) → Bytes s → Bytes (data_of (joined_at s at))
unfolding joined_at
data_bytes s at f i = bytes_piece (piece_at s at) at _ (λ a m. bytes_from (length s) s (a + m) (slice a (a + m) s) f (bytes_slice a (a + m) s f)) i
