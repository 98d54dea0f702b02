-- Every body of a sound skeleton is readable in its own bytes. In order: bodies inside; the bodies of a master. Assumes nothing.
use Rattle.std.specs.Prelude.{Result, Ok, Err}
use Rattle.tokens.specs.declared.Refused.{Refused}
use Prim.Native.Nat.{ℕ, zero, suc, ◌+◌, ◌-◌, ◌<◌, ◌≤◌}
use native.Mathlib.Omega.{arith}
use mathlib.Core.Path.{◌≡◌, refl}
use mathlib.Core.List.{List, [], ◌∷◌}
use lib.Dec.{eqb, leb, lit≤}
use lib.ListN.{length}
use lib.Seq.{slice}
use Rattle.tokens.specs.declared.Read.{Read}
use Rattle.tokens.specs.declared.Read.TheVariants as read
use Rattle.tokens.specs.Format.{header, starts}
use Rattle.tokens.specs.Token.{token_at}
use Rattle.numbers.proofs.Cond.{either}
use Rattle.machine.specs.declared.Literal.{Literal}
use Rattle.machine.specs.declared.Literal.TheVariants.{Figure, Name, Text, Plain, WithBody}
use Rattle.machine.specs.Limits.{most_open, most_pages}
use Rattle.machine.specs.Skeleton.{beginning, ending, opening, closing, solid, due, body_at, Span, Skeleton, sound, refused, onward, span_of, ended_at, page_at, outer_by, pages_from, preamble_at, skeleton_of}
use Rattle.machine.specs.Literal.{found, holding_by, holding_at, operator_by, found_by, found_at}
use Rattle.machine.proofs.Throughout.{All, all_append}
use Rattle.machine.proofs.JoinedLocal.{View, view}
use Rattle.tokens.proofs.Theorems.{token_end}
use Rattle.machine.specs.Readable.{NoComment, IsLiteral, a_number, an_identifier, a_string, an_operator, a_holder, Readable, at_its_end, literal, Whole}
use Rattle.machine.proofs.Comments.{never, operator_beyond, two_bytes, none_at, one_at, solid_is, comments_are}
use Rattle.machine.proofs.Bodies.{Passing, figure, name, text, comment, plain, holding, Passes, stop, more, passing_later, passes_later, parts_of, no_body, body_long}
use Rattle.machine.proofs.BodyLocal.{body_more, literals_in}

-- ---- bodies inside

module _ (b : List ℕ) where
  -- the body that the literal holds, if it holds one
  abbrev Inside : Literal → Type 0
  Inside x = (n start len : ℕ) → x ≡ WithBody n start len → Readable b (solid b start) (start + len)

  -- a literal, and what is readable past it
  here : (at next end : ℕ) (x : Literal) → NoComment (token_at b at) → found_at b at ≡ found b x next → at < end → IsLiteral b at (found b x next) → Inside x → Readable b (solid b next) end
      → Readable b (solid b at) end
  here at next end x c e l i w r = rw (solid_is b at at (none_at c)) (literal l (rw e i) (rw e w) (rw e r))

  module _ (k : ℕ) (few : k ≤ most_open)
      (inner : (at next : ℕ) → body_at k b at ≡ Ok next → Readable b (solid b (solid b at + 2)) (solid b at + 2 + (next - 2 - (solid b at + 2)))) where
    readable_from : (at end : ℕ) → NoComment (token_at b end) → Passes b k at end → Readable b (solid b at) end
    unfolding found_at found_by operator_by holding_at holding_by
    readable_from at end c stop = rw (solid_is b at at (none_at c)) at_its_end
    readable_from at end c (more {next = next} p q) = by_literal p (readable_from next end c q)
      where
        l : at < end
        l = omega (arith, (passing_later b k at next p).0, passes_later b k next end q)

        by_literal : Passing b k at next → Readable b (solid b next) end → Readable b (solid b at) end
        by_literal (figure value e) r = here at next end (Figure value) (rw e tt) (rw e) l (a_number value next e) (λ n start len z. never (cc)) r
        by_literal (name len e) r = here at next end (Name at len) (rw e tt) (rw e) l (an_identifier len next e) (λ n start m z. never (cc)) r
        by_literal (text count e) r = here at next end (Text at) (rw e tt) (rw e) l (a_string count next e) (λ n start len z. never (cc)) r
        by_literal (comment e) r = rw (solid_is b at (solid b next) (one_at e (comments_are b next))) r
        by_literal (plain n e i) r = here at next end (Plain n) (rw e tt) (rw (e, i)) l (an_operator n next e i) (λ m start len z. never (cc)) r
        by_literal (holding n x e i h) r =
            let g : body_at most_open b x ≡ Ok next = body_more b k most_open x next few h in
            here at next end (WithBody n (solid b x + 2) (next - 2 - (solid b x + 2))) (rw e tt) (rw (e, i, g)) l (a_holder n x next e i g)
            (λ m start len z. let u : solid b x + 2 ≡ start = cc in let y : next - 2 - (solid b x + 2) ≡ len = cc in rw (← u, ← y) (inner x next h)) r

  -- the body that is read from a place on
  pub inside_readable : (k : ℕ) → k ≤ most_open → (at next : ℕ) → body_at k b at ≡ Ok next
      → Readable b (solid b (solid b at + 2)) (solid b at + 2 + (next - 2 - (solid b at + 2)))
  inside_readable zero few at next h = no_body b at next h
  inside_readable (suc k) few at next h =
      let p = parts_of k b at next h in
      let z : next ≡ p.ends + 2 = two_bytes b p.ends closing next (lit≤ tt) p.closes in
      let l : p.begins + 2 ≤ p.ends = passes_later b k (p.begins + 2) p.ends p.literals in
      let y : p.begins + 2 + (next - 2 - (p.begins + 2)) ≡ p.ends = omega arith in
      rw (solid_is b at p.begins p.comments, y) (readable_from k (omega arith) (inside_readable k (omega arith)) (p.begins + 2) p.ends (rw p.closes tt) p.literals)

-- ---- the bodies of a master

-- a body of s, in its own bytes
pub body_readable : (s : List ℕ) (k at next : ℕ) → k ≤ most_open → body_at k s at ≡ Ok next → Whole (slice (solid s at + 2) (next - 2) s)
body_readable s zero at next few h = no_body s at next h
body_readable s (suc k) at next few h =
    let p = parts_of k s at next h in
    let z : next ≡ p.ends + 2 = two_bytes s p.ends closing next (lit≤ tt) p.closes in
    let g : (p.ends < next) × (next ≤ length s) = operator_beyond s p.ends closing next p.closes in
    let g1 : next ≤ length s = g.1 in
    let y : next - 2 ≡ p.ends = omega arith in
    let b : List ℕ = slice (p.begins + 2) p.ends s in
    let v : View s (p.begins + 2) p.ends b = view s (p.begins + 2) p.ends (omega arith) in
    rw (solid_is s at p.begins p.comments, y, v.size)
    (readable_from b k (omega arith) (inside_readable b k (omega arith)) 0 (p.ends - (p.begins + 2)) (rw (token_end b (p.ends - (p.begins + 2)) (omega (arith, v.size))) tt)
    (literals_in s (p.begins + 2) p.ends b v k k (p.begins + 2) 0 p.ends (omega arith) (omega arith) p.literals (omega arith)))

abbrev pub bytes_at : List ℕ → Span → List ℕ
bytes_at s p = slice p.start (p.start + p.len) s

abbrev pub AllWhole : List ℕ → List Span → Type 0
AllWhole s ps = All (λ p. Whole (bytes_at s p)) ps

span_readable : (s : List ℕ) (k at next : ℕ) → k ≤ most_open → body_at k s at ≡ Ok next → Whole (bytes_at s (span_of (solid s at) next))
unfolding span_of
span_readable s k at next few h =
    let y : solid s at + 2 + (next - 2 - (solid s at + 2)) ≡ next - 2 = omega (arith, body_long k s at next h) in
    rw y (body_readable s k at next few h)

-- of a skeleton that is sound
abbrev Sound : List ℕ → Skeleton → Type 0
Sound s (sound spans) = AllWhole s spans
Sound s (refused refusal place) = Unit

onward_sound : (s : List ℕ) (w : Result ℕ Refused) (rest : ℕ → Skeleton) → ((next : ℕ) → w ≡ Ok next → Sound s (rest next)) → Sound s (onward w rest)
unfolding onward
onward_sound s (Ok next) rest f = f next refl
onward_sound s (Err w) rest f = tt

pages_sound : (k : ℕ) (s : List ℕ) (at : ℕ) (spans : List Span) → AllWhole s spans → Sound s (pages_from k s at spans)
unfolding pages_from outer_by page_at ended_at
pages_sound zero s at spans h = tt
pages_sound (suc k) s at spans h = by_token (λ x ps. pages_sound k s x ps) (token_at s at) refl
  where
    by_token : ((x : ℕ) (ps : List Span) → AllWhole s ps → Sound s (pages_from k s x ps)) → (t : Result Read Refused) → token_at s at ≡ t
        → Sound s (outer_by s spans at t (pages_from k s))
    by_token ih (Ok (read.Number value next)) e = tt
    by_token ih (Ok (read.Identifier len next)) e = tt
    by_token ih (Ok (read.String count next)) e = tt
    by_token ih (Ok (read.Operator n next)) e =
        either (Sound s) (eqb n opening) _ _
        (λ _. either (Sound s) (leb (length spans) most_pages) _ _
        (λ _. onward_sound s (body_at most_open s at) _ (λ x q. ih x _ (all_append _ spans (span_of at x ∷ []) h (rw (solid_is s at at (none_at (rw e tt))) at (span_readable s most_open at x (omega arith) q), tt)))) (λ _. tt))
        (λ _. either (Sound s) (eqb n ending) _ _ (λ _. either (Sound s) (eqb next (length s)) _ _ (λ _. h) (λ _. tt)) (λ _. tt))
    by_token ih (Ok (read.Comment next)) e = ih next spans h
    by_token ih (Err w) e = tt

-- every body of a sound skeleton is readable
pub bodies_readable : (s : List ℕ) (spans : List Span) → skeleton_of s ≡ sound spans → AllWhole s spans
unfolding skeleton_of preamble_at
bodies_readable s spans e = rw e at is_sound
  where
    is_sound : Sound s (skeleton_of s)
    is_sound =
        either (Sound s) (starts header s) _ _
        (λ _. onward_sound s (due beginning s 21) (preamble_at s)
        (λ at _. onward_sound s (body_at most_open s at) _ (λ next q. pages_sound (length s) s next _ (span_readable s most_open at next (omega arith) q, tt)))) (λ _. tt)
