-- Reading a body is local: a body that ends inside a slice is read in the slice as in the whole, its places counted from the slice's
-- start, also where more bodies may be open. Assumes nothing.
use Rattle.std.specs.Prelude.{Result, Ok, Err}
use Rattle.tokens.specs.declared.Refused.{Refused}
use Prim.Native.Nat.{ℕ, zero, suc, ◌+◌, ◌-◌, ◌<◌, ◌≤◌}
use native.Mathlib.Omega.{arith}
use mathlib.Core.Path.{◌≡◌}
use mathlib.Core.List.{List}
use lib.ListN.{length}
use lib.Seq.{slice, take-length}
use Rattle.tokens.specs.declared.Read.{Read}
use Rattle.tokens.specs.declared.Read.TheVariants.{Number, Identifier, String, Operator, Comment}
use Rattle.tokens.specs.Token.{token_at}
use Rattle.machine.specs.Skeleton.{opening, closing, solid, due, literals_from, body_at, literal_at}
use Rattle.machine.proofs.JoinedLocal.{View, view}
use Rattle.machine.proofs.Inside.{token_inside}
use Rattle.machine.proofs.TokenLocal.{EndsBy, back, begins_before, token_in}
use Rattle.machine.specs.Readable.{NoComment}
use Rattle.machine.proofs.Comments.{operator_beyond, Comments, none_at, one_at, comments_later, solid_is, comments_are}
use Rattle.machine.proofs.Bodies.{Passing, figure, name, text, comment, plain, holding, Passes, stop, more, Parts, due_of, due_is, literals_parts, literals_of, passing_later, passes_later, parts_of, no_body, body_later, body_ends, body_of}

no_comment_back : (a : ℕ) (t : Result Read Refused) → NoComment t → NoComment (back a t)
unfolding back
no_comment_back a (Ok (Number value next)) h = tt
no_comment_back a (Ok (Identifier len next)) h = tt
no_comment_back a (Ok (String count next)) h = tt
no_comment_back a (Ok (Operator n next)) h = tt
no_comment_back a (Ok (Comment next)) h = absurd h
no_comment_back a (Err w) h = tt

module _ (s : List ℕ) (a e : ℕ) (b : List ℕ) (v : View s a e b) where
  -- a token that is known
  token_back : (x at : ℕ) (t : Result Read Refused) → x ≡ a + at → token_at s x ≡ t → EndsBy e t → token_at b at ≡ back a t
  token_back x at t p q h = rw q at (token_in s a e b v x at p (rw q h))

  comments_in : (x at q : ℕ) → x ≡ a + at → Comments s x q → EndsBy e (token_at s q) → Comments b at (q - a)
  unfolding back
  comments_in x at q p (none_at h) k =
      let z : x - a ≡ at = omega arith in
      rw z (none_at {at = at} (rw (token_in s a e b v x at p k) (no_comment_back a (token_at s x) h)))
  comments_in x at q p (one_at {next = next} h c) k =
      let l : q < e = begins_before s q e k in
      let i : next ≤ q = comments_later s next q c in
      let g : (x < next) × (next ≤ length s) = rw h at (token_inside s x) in
      let g0 : x < next = g.0 in
      one_at (token_back x at (Ok (Comment next)) p h (omega arith)) (comments_in next (next - a) q (omega arith) c k)

  operator_in : (x at n next : ℕ) → x ≡ a + at → token_at s x ≡ Ok (Operator n next) → next ≤ e → token_at b at ≡ Ok (Operator n (next - a))
  unfolding back
  operator_in x at n next p q h = token_back x at (Ok (Operator n next)) p q h

  module _ (k m : ℕ) (inner : (x at next : ℕ) → x ≡ a + at → body_at k s x ≡ Ok next → next ≤ e → body_at m b at ≡ Ok (next - a)) where
    passing_in : (x at next : ℕ) → x ≡ a + at → Passing s k x next → next ≤ e → Passing b m at (next - a)
    unfolding back
    passing_in x at next p (figure value q) h = figure value (token_back x at (Ok (Number value next)) p q h)
    passing_in x at next p (name len q) h = name len (token_back x at (Ok (Identifier len next)) p q h)
    passing_in x at next p (text count q) h = text count (token_back x at (Ok (String count next)) p q h)
    passing_in x at next p (comment q) h = comment (token_back x at (Ok (Comment next)) p q h)
    passing_in x at next p (plain n q r) h = plain n (operator_in x at n next p q h) r
    passing_in x at next p (holding n y q r i) h =
        let l : y < next = body_later k s y next i in
        let g : x < y = (operator_beyond s x n y q).0 in
        holding n (y - a) (operator_in x at n y p q (omega arith)) r (inner y (y - a) next (omega arith) i h)

    passes_in : (x at end : ℕ) → x ≡ a + at → Passes s k x end → end ≤ e → Passes b m at (end - a)
    passes_in x at end p stop h = let z : x - a ≡ at = omega arith in rw z stop
    passes_in x at end p (more {next = next} i q) h =
        let l : next ≤ end = passes_later s k next end q in
        let g : x < next = (passing_later s k x next i).0 in
        more (passing_in x at next p i (omega arith)) (passes_in next (next - a) end (omega arith) q h)

    parts_in : (x at next : ℕ) → x ≡ a + at → Parts s k x next → next ≤ e → Parts b m at (next - a)
    parts_in x at next p r h =
        let c : x ≤ r.begins = comments_later s x r.begins r.comments in
        let l : r.begins + 2 ≤ r.ends = passes_later s k (r.begins + 2) r.ends r.literals in
        let g : r.ends < next = (operator_beyond s r.ends closing next r.closes).0 in
        let z : r.begins + 2 - a ≡ r.begins - a + 2 = omega arith in
        record {
          begins = r.begins - a;
          ends = r.ends - a;
          comments = comments_in x at r.begins p r.comments (rw r.opens (omega arith));
          opens = rw z at (operator_in r.begins (r.begins - a) opening (r.begins + 2) (omega arith) r.opens (omega arith));
          literals = passes_in (r.begins + 2) (r.begins - a + 2) r.ends (omega arith) r.literals (omega arith);
          closes = operator_in r.ends (r.ends - a) closing next (omega arith) r.closes h;
        }

  pub body_in : (k m x at next : ℕ) → k ≤ m → x ≡ a + at → body_at k s x ≡ Ok next → next ≤ e → body_at m b at ≡ Ok (next - a)
  body_in zero m x at next l p h i = no_body s x next h
  body_in (suc k) zero x at next l p h i = absurd (omega arith)
  body_in (suc k) (suc m) x at next l p h i =
      body_of m b at (next - a) (parts_in k m (λ y j n. body_in k m y j n (omega arith)) x at next p (parts_of k s x next h) i)

  pub literals_in : (k m x at end : ℕ) → k ≤ m → x ≡ a + at → Passes s k x end → end ≤ e → Passes b m at (end - a)
  literals_in k m x at end l = passes_in k m (λ y j n. body_in k m y j n l) x at end

-- ---- the same of a slice, by places of the whole

module _ (s : List ℕ) (a e p : ℕ) (inside : e ≤ length s) (begins : a ≤ p) where
  abbrev b : List ℕ
  b = slice a e s

  v : View s a e b
  v = view s a e inside

  pub solid_local : EndsBy e (token_at s (solid s p)) → solid (slice a e s) (p - a) ≡ solid s p - a
  solid_local h = solid_is b (p - a) (solid s p - a) (comments_in s a e b v p (p - a) (solid s p) (omega arith) (comments_are s p) h)

  pub due_local : (n next : ℕ) → due n s p ≡ Ok next → next ≤ e → due n (slice a e s) (p - a) ≡ Ok (next - a)
  due_local n next h l =
      let q : ℕ = solid s p in
      let o : token_at s q ≡ Ok (Operator n next) = due_of n s p next h in
      let g : q < next = (operator_beyond s q n next o).0 in
      let c : p ≤ q = comments_later s p q (comments_are s p) in
      due_is n b (p - a) (q - a) (next - a) (comments_in s a e b v p (p - a) q (omega arith) (comments_are s p) (rw o l)) (operator_in s a e b v q (q - a) n next (omega arith) o l)

  pub literals_local : (k m next : ℕ) → k ≤ m → literals_from (length s) (literal_at k s) p ≡ Ok next → next ≤ e
      → literals_from (length (slice a e s)) (literal_at m (slice a e s)) (p - a) ≡ Ok (next - a)
  literals_local k m next few h l =
      let r = literals_parts s k (length s) p next h in
      let g : r.0 < next = (operator_beyond s r.0 closing next r.2).0 in
      let c : p ≤ r.0 = passes_later s k p r.0 r.1 in
      literals_of b m (length b) (p - a) (r.0 - a) (next - a) (omega arith) (literals_in s a e b v k m p (p - a) r.0 few (omega arith) r.1 (omega arith))
      (operator_in s a e b v r.0 (r.0 - a) closing next (omega arith) r.2 l)

  pub body_local : (k m next : ℕ) → k ≤ m → body_at k s p ≡ Ok next → next ≤ e → body_at m (slice a e s) (p - a) ≡ Ok (next - a)
  body_local k m next few = body_in s a e b v k m p (p - a) next few (omega arith)

-- a body that is read is read where more bodies may be open
pub body_more : (s : List ℕ) (k m at next : ℕ) → k ≤ m → body_at k s at ≡ Ok next → body_at m s at ≡ Ok next
body_more s k m at next few h =
    let z : next - 0 ≡ next = omega arith in
    let y : at - 0 ≡ at = omega arith in
    rw (take-length, z, y) at (body_local s 0 (length s) at (omega arith) (omega arith) k m next few h (body_ends k s at next h))
