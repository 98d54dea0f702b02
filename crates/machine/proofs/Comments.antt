-- Tokens at the ends of what is read: after comments (`solid` is where they end), in two bytes. Assumes nothing.
use Rattle.std.specs.Prelude.{Result, Ok, Err}
use Rattle.tokens.specs.Refusal.{refusal_at}
use Rattle.tokens.specs.declared.Refused.{Refused}
use Prim.Native.Nat.{ℕ, zero, suc, ◌+◌, ◌*◌, ◌%◌, ◌<◌, ◌≤◌}
use native.Mathlib.Nat.{mod-lt}
use native.Mathlib.Omega.{arith}
use mathlib.Core.Path.{◌≡◌, refl}
use mathlib.Core.List.{List}
use lib.Dec.{ltb, lit<}
use lib.ListN.{length, get_or}
use Rattle.tokens.specs.declared.Read.{Read}
use Rattle.tokens.specs.declared.Read.TheVariants.{Number, Identifier, String, Operator, Comment}
use Rattle.tokens.specs.declared.Refusal.TheVariants.{CutOff}
use Rattle.tokens.specs.Joined.{Joined, whole, cut_at, joined_at}
use Rattle.tokens.specs.Token.{sequence, pair, token_of, token_at}
use Rattle.numbers.proofs.Cond.{either}
use Rattle.tokens.proofs.Theorems.{token_end}
use Rattle.machine.specs.Skeleton.{past_comment, solid_from, solid}
use Rattle.machine.specs.Readable.{NoComment}
use Rattle.machine.proofs.Inside.{token_inside}
use Rattle.machine.proofs.TokenLocal.{judged_all}

-- nothing holds where 0 is 1
pub never : {X : Type 0} → ◌≡◌ {A = ℕ} 0 1 → X
never e = absurd (omega arith)

-- an operator that is read ends past its place, inside the input
pub operator_beyond : (s : List ℕ) (at n next : ℕ) → token_at s at ≡ Ok (Operator n next) → (at < next) × (next ≤ length s)
operator_beyond s at n next e = rw e at (token_inside s at)

-- ---- comments

-- from the place on, comments up to q, where there is none
pub data Comments (s : List ℕ) : ℕ → ℕ → Type 0 where
  none_at : {at : ℕ} → NoComment (token_at s at) → Comments s at at
  one_at : {at next q : ℕ} → token_at s at ≡ Ok (Comment next) → Comments s next q → Comments s at q

pub comments_later : (s : List ℕ) (at q : ℕ) → Comments s at q → at ≤ q
comments_later s at q (none_at h) = omega arith
comments_later s at q (one_at {next = next} h c) =
    let g : (at < next) × (next ≤ length s) = rw h at (token_inside s at) in
    omega (arith, comments_later s next q c, g.0)

-- a comment, or none
by_comment : {X : Type 0} (t : Result Read Refused) → ((next : ℕ) → t ≡ Ok (Comment next) → X) → (NoComment t → X) → X
by_comment (Ok (Number value next)) f g = g tt
by_comment (Ok (Identifier len next)) f g = g tt
by_comment (Ok (String count next)) f g = g tt
by_comment (Ok (Operator n next)) f g = g tt
by_comment (Ok (Comment next)) f g = f next refl
by_comment (Err w) f g = g tt

pub stays : (t : Result Read Refused) (at : ℕ) (rest : ℕ → ℕ) → NoComment t → past_comment t at rest ≡ at
unfolding past_comment
stays (Ok (Number value next)) at rest h = refl
stays (Ok (Identifier len next)) at rest h = refl
stays (Ok (String count next)) at rest h = refl
stays (Ok (Operator n next)) at rest h = refl
stays (Ok (Comment next)) at rest h = absurd h
stays (Err w) at rest h = refl

-- `solid` is where the comments end
from_comments : (k : ℕ) (s : List ℕ) (at q : ℕ) → length s ≤ at + k → Comments s at q → solid_from k s at ≡ q
unfolding solid_from past_comment
from_comments zero s at q l (none_at h) = refl
from_comments zero s at q l (one_at h c) = never (cc (token_end s at (omega arith)))
from_comments (suc k) s at q l (none_at h) = stays (token_at s at) at (solid_from k s) h
from_comments (suc k) s at q l (one_at {next = next} h c) =
    let g : (at < next) × (next ≤ length s) = rw h at (token_inside s at) in
    rw h (from_comments k s next q (omega (arith, g.0)) c)

comments_from : (k : ℕ) (s : List ℕ) (at : ℕ) → length s ≤ at + k → Comments s at (solid_from k s at)
unfolding solid_from past_comment
comments_from zero s at l = none_at {at = at} (rw (token_end s at (omega arith)) tt)
comments_from (suc k) s at l =
    by_comment (token_at s at)
    (λ next e. let g : (at < next) × (next ≤ length s) = rw e at (token_inside s at) in one_at e (rw e (comments_from k s next (omega (arith, g.0)))))
    (λ h. rw (stays (token_at s at) at (solid_from k s) h) (none_at h))

pub solid_is : (s : List ℕ) (at q : ℕ) → Comments s at q → solid s at ≡ q
unfolding solid
solid_is s at q c = from_comments (length s) s at q (omega arith) c

pub comments_are : (s : List ℕ) (at : ℕ) → Comments s at (solid s at)
unfolding solid
comments_are s at = comments_from (length s) s at (omega arith)

-- ---- two bytes

-- an operator's number past 31 stands in two bytes
pub two_bytes : (s : List ℕ) (at n next : ℕ) → 32 ≤ n → token_at s at ≡ Ok (Operator n next) → next ≡ at + 2
unfolding token_at token_of sequence
two_bytes s at n next l = either P (ltb at (length s)) _ _ (λ _. by_first) (λ _ e. never (cc))
  where
    P : Result Read Refused → Type 0
    P t = t ≡ Ok (Operator n next) → next ≡ at + 2

    by_joined : (k : ℕ) (J : Joined) → P (sequence k at J)
    by_joined k (whole d x) = judged_all P k at d x (λ w e. never (cc)) (λ value e. never (cc)) (λ m e. never (cc)) (λ m e. never (cc)) (λ e. never (cc))
    by_joined k (cut_at place) = λ e. never (cc)

    paired : (t : Result Read Refused) → P t → P (pair s at t)
    paired t f = either P (ltb (at + 1) (length s)) t (Err (refusal_at CutOff at)) (λ _. f) (λ _ e. never (cc))

    by_first : P (token_of s at (get_or s at 0) (get_or s (at + 1) 0))
    by_first =
        either P (ltb (get_or s at 0) 128) _ _ (λ _. paired _ (λ e. never (cc)))
        (λ _. either P (ltb (get_or s at 0) 160) (Ok (Operator (get_or s at 0 % 32) (at + 1))) _
        (λ _ e. let z : get_or s at 0 % 32 ≡ n = cc in absurd (omega (arith, mod-lt (get_or s at 0) {m = 32} (lit< tt))))
        (λ _. either P (ltb (get_or s at 0) 192) _ _ (λ _. paired (Ok (Operator (get_or s at 0 % 32 * 256 + get_or s (at + 1) 0) (at + 2))) (λ e. cc))
        (λ _. by_joined _ (joined_at s at))))
