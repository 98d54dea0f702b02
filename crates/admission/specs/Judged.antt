-- A master that may run, and what is judged before anything runs: for contracts of inner functions alone. Assumes nothing.
use Rattle.std.specs.Prelude.{Ok, Err, ℕ, ◌+◌, ◌≤◌, ◌≡◌, Bool, true, List, [], ℤ, length, get_or}
use Rattle.tokens.specs.Refusal.{refusal_at, Outcome}
use Rattle.tokens.specs.Format.{longest}
use Rattle.tokens.specs.declared.Refusal.{Refusal}
use Rattle.machine.specs.Promise.{Verdict, halted, allowed, admitted}
use Rattle.machine.specs.Readable.{Whole}
use Rattle.skeleton.specs.Spans.{Placed}

-- a master that may run, with its last page's number: its bodies stand where t says and are readable, and the verdict is by them
pub record Goes (s : List ℕ) (allowance : ℤ) (enough : Bool) (t : List ℕ) (last : ℕ) : Type 0 where
  pub short : length s ≤ longest
  pub tables : enough ≡ true
  pub steps : allowed allowance ≡ true
  pub bodies : List (List ℕ)
  pub placed : Placed s t bodies
  pub many : length bodies ≡ last + 1
  pub whole : (i : ℕ) → Whole (get_or bodies i [])
  pub verdict : (rest : List (List ℕ) → Verdict) → admitted s allowance enough rest ≡ rest bodies

-- what is judged before anything runs
pub record Admitted (s : List ℕ) (allowance : ℤ) (enough : Bool) (t : List ℕ) (r : Outcome) : Type 0 where
  pub halts : (w : Refusal) (place : ℕ) → r ≡ Err (refusal_at w place) → (rest : List (List ℕ) → Verdict) → admitted s allowance enough rest ≡ halted w place
  pub goes : (n : ℕ) → r ≡ Ok n → Goes s allowance enough t n
