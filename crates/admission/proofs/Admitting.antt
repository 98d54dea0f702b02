-- What is judged before anything runs. In order: numbers from outside; refusals; a master that may run. Assumes nothing.
use Rattle.std.specs.Prelude.{Ok, Err}
use Rattle.tokens.specs.Refusal.{refusal_at, Outcome}
use Prim.Native.Nat.{ℕ, ◌-◌, ◌<◌, ◌≤◌}
use native.Mathlib.Omega.{arith}
use mathlib.Core.Path.{◌≡◌, refl, sym, ap, ◌∙◌}
use mathlib.Core.Bool.{Bool, true, false, ◌&&◌, false≢true}
use mathlib.Core.List.{List}
use lib.Dec.{T}
use lib.IntN.{ℤ, pos, negsuc, nat_abs}
use lib.Signed.{le_z, non_neg, pos-nat_abs}
use lib.ListN.{length}
use borrow.Author.Tests.{lt-leb, le-leb, leb-true}
use Rattle.numbers.proofs.Cond.{both}
use Rattle.tokens.specs.Format.{longest}
use Rattle.tokens.specs.declared.Refusal.{Refusal}
use Rattle.tokens.specs.declared.Refused.{Refused}
use Rattle.tokens.specs.declared.Refusal.TheVariants.{TooLong, TableTooShort, BadAllowance}
use Rattle.machine.specs.Limits.{most_steps}
use Rattle.machine.specs.Skeleton.{Skeleton, sound, refused, skeleton_of}
use Rattle.machine.specs.Page.{bodies_of}
use Rattle.machine.specs.Promise.{Verdict, halted, on_sound, allowed, admitted, pages_in}
use Rattle.machine.proofs.Comments.{never}
use Rattle.machine.proofs.Readable.{bodies_readable}
use Rattle.machine.proofs.Literals.{all_whole}
use Rattle.skeleton.specs.Spans.{Surveyed}
use Rattle.skeleton.proofs.PageTurns.{length_bodies}
use Rattle.admission.specs.Judged.{Admitted}

-- ---- numbers from outside

pub not_negative : (z : ℤ) → le_z (pos 0) z ≡ true → T (non_neg z)
not_negative (pos n) e = tt
not_negative (negsuc n) e = absurd (false≢true e)

pub natural_is : (z : ℤ) → le_z (pos 0) z ≡ true → z ≡ pos (nat_abs z)
natural_is z e = sym (pos-nat_abs z (not_negative z e))

-- a number of steps that may be allowed
pub steps_fit : (z : ℤ) → allowed z ≡ true → (le_z (pos 0) z ≡ true) × (nat_abs z ≤ most_steps)
unfolding allowed
steps_fit (pos n) e = (le-leb 0 n (omega arith), leb-true n most_steps (both (le_z (pos 1) (pos n)) _ e).1)
steps_fit (negsuc n) e = absurd (false≢true e)

-- what was asked of numbers as they stand in memory holds of the numbers
pub asked : {x z h k : ℤ} {r b : Bool} (low : ℤ) → x ≡ z → h ≡ k → r ≡ (le_z low x && le_z x h) → r ≡ b → le_z low z && le_z z k ≡ b
asked low e f g i = rw (← e, ← f) (sym g ∙ i)

-- ---- refusals

refused_one : {w v : Refused} → ◌≡◌ {A = Outcome} (Err w) (Err v) → (w.refusal ≡ v.refusal) × (w.place ≡ v.place)
refused_one {w} {v} e = let f : w ≡ v = cc in (ap (λ (x : Refused). x.refusal) f, ap (λ (x : Refused). x.place) f)

refused_done : {X : Type 0} {w : Refused} {n : ℕ} → Err w ≡ Ok n → X
refused_done e = never (cc)

done_one : {m n : ℕ} → ◌≡◌ {A = Outcome} (Ok m) (Ok n) → m ≡ n
done_one e = cc

done_refused : {X : Type 0} {w : Refused} {n : ℕ} → Ok n ≡ Err w → X
done_refused e = never (cc)

module _ (s : List ℕ) (allowance : ℤ) (enough : Bool) (t : List ℕ) where
  refuses : (w : Refusal) (p : ℕ) (r : Outcome) → r ≡ Err (refusal_at w p)
      → ((rest : List (List ℕ) → Verdict) → admitted s allowance enough rest ≡ halted w p) → Admitted s allowance enough t r
  refuses w p r e f = record {
    halts = λ v q g rest. let z = refused_one (sym e ∙ g) in rw (← z.0, ← z.1) (f rest);
    goes = λ n g. refused_done (sym e ∙ g);
  }

  pub too_long : (r : Outcome) → r ≡ Err (refusal_at TooLong 0) → longest < length s → Admitted s allowance enough t r
  unfolding admitted
  too_long r e h = refuses TooLong 0 r e (λ rest. rw (lt-leb (length s) longest h))

  pub too_short : (r : Outcome) → r ≡ Err (refusal_at TableTooShort 0) → length s ≤ longest → enough ≡ false → Admitted s allowance enough t r
  unfolding admitted
  too_short r e h k = refuses TableTooShort 0 r e (λ rest. rw (le-leb (length s) longest h, k))

  pub not_allowed : (r : Outcome) → r ≡ Err (refusal_at BadAllowance 0) → length s ≤ longest → enough ≡ true → allowed allowance ≡ false
      → Admitted s allowance enough t r
  unfolding admitted
  not_allowed r e h k a = refuses BadAllowance 0 r e (λ rest. rw (le-leb (length s) longest h, k, a))

  -- ---- a master that may run

  module _ (h : length s ≤ longest) (k : enough ≡ true) (a : allowed allowance ≡ true) where
    judged : (rest : List (List ℕ) → Verdict) → admitted s allowance enough rest ≡ on_sound s (skeleton_of s) rest
    unfolding admitted
    judged rest = rw (le-leb (length s) longest h, k, a)

    by_skeleton : (x : Skeleton) → skeleton_of s ≡ x → (r : Outcome) → Surveyed s t x r → Admitted s allowance enough t r
    unfolding pages_in on_sound
    by_skeleton (sound spans) e r v = record {
      halts = λ w p g. done_refused (sym v.answer ∙ g);
      goes = λ n g. let d = v.placed spans refl in record {
        short = h;
        tables = k;
        steps = a;
        bodies = bodies_of s spans;
        placed = d;
        many = let z : length spans - 1 ≡ n = done_one (sym v.answer ∙ g) in omega (arith, z, d.some, length_bodies s spans);
        whole = all_whole s spans (bodies_readable s spans e);
        verdict = λ rest. judged rest ∙ ap (λ (x : Skeleton). on_sound s x rest) e;
      };
    }
    by_skeleton (refused w p) e r v = refuses w p r v.answer (λ rest. judged rest ∙ ap (λ (x : Skeleton). on_sound s x rest) e)

    pub surveyed : (r : Outcome) → Surveyed s t (skeleton_of s) r → Admitted s allowance enough t r
    surveyed r v = by_skeleton (skeleton_of s) refl r v
