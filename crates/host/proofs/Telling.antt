-- An answer that tells an outcome of `run` or `reprint`. A callee's promise is of a number as it comes out of 64 bits, which is the one that
-- was put in. Assumes nothing.
use Prim.Native.Nat.{ℕ}
use mathlib.Core.Path.{◌≡◌}
use mathlib.Core.List.{List}
use lib.IntN.{ℤ}
use Rattle.tokens.specs.Refusal.{Outcome, answer_number, answer_value}
use Rattle.machine.specs.Promise.{Runs, Reprints}
use Rattle.host.specs.declared.Answer.{Answer}
use Rattle.host.specs.Told.{Told}

pub run_told : {s scratch scratch' rows rows' : List ℕ} {a a' : ℤ} {outcome : Outcome} {r : Answer} → Runs s a' scratch scratch' rows rows' outcome → a' ≡ a
    → r.no ≡ answer_number outcome → r.value ≡ answer_value outcome → Told (Runs s a scratch scratch' rows rows') r
run_told {outcome = outcome} k e n v = record { outcome = outcome; kept = rw e at k; number = n; value = v }

pub reprint_told : {s scratch scratch' rows rows' sections sections' : List ℕ} {a a' page page' : ℤ} {outcome : Outcome} {r : Answer}
    → Reprints s a' page' scratch scratch' rows rows' sections sections' outcome → a' ≡ a → page' ≡ page
    → r.no ≡ answer_number outcome → r.value ≡ answer_value outcome → Told (Reprints s a page scratch scratch' rows rows' sections sections') r
reprint_told {outcome = outcome} k e f n v = record { outcome = outcome; kept = rw (e, f) at k; number = n; value = v }
