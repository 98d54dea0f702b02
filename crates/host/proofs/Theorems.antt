-- The theorems of the calls for a C host: what each tells, and what it leaves in each lent table, is one. Assumes nothing.
use Prim.Native.Nat.{ℕ}
use mathlib.Core.Path.{◌≡◌, sym, ap, ap₂, ◌∙◌}
use mathlib.Core.List.{List}
use lib.IntN.{ℤ}
use Rattle.tokens.specs.Refusal.{Outcome, answer_number, answer_value}
use Rattle.lists.specs.Promise.{Writes, ReadsBack}
use Rattle.lists.proofs.Theorems.{write_one, read_back_one}
use Rattle.machine.specs.Promise.{Loads, Runs, Reprints}
use Rattle.machine.proofs.Theorems.{load_one, run_one, reprint_one}
use Rattle.host.specs.declared.Answer.{Answer}
use Rattle.host.specs.Told.{Told}

-- one outcome is told in one way
told_one : {P Q : Outcome → Type 0} {a b : Answer} (p : Told P a) (q : Told Q b) → p.outcome ≡ q.outcome → a ≡ b
told_one p q e =
    ap₂ (λ (n v : ℕ). record { no = n; value = v }) (p.number ∙ ap answer_number e ∙ sym q.number) (p.value ∙ ap answer_value e ∙ sym q.value)

-- THEOREM (demand 1). `pz_load` has one answer.
pub load_answer_one : {s : List ℕ} {a b : Answer} → Told (Loads s) a → Told (Loads s) b → a ≡ b
load_answer_one p q = told_one p q (load_one p.kept q.kept)

-- THEOREM (demand 1). `pz_run` has one answer and leaves one content of each table.
pub run_answer_one : {s : List ℕ} {n : ℤ} {scratch scr₁ scr₂ rows rows₁ rows₂ : List ℕ} {a b : Answer}
    → Told (Runs s n scratch scr₁ rows rows₁) a → Told (Runs s n scratch scr₂ rows rows₂) b → (a ≡ b) × (scr₁ ≡ scr₂) × (rows₁ ≡ rows₂)
run_answer_one p q = let one = run_one p.kept q.kept in (told_one p q one.0, one.1, one.2)

-- THEOREM (demand 1). `pz_reprint` has one answer and leaves one content of each table.
pub reprint_answer_one : {s : List ℕ} {n page : ℤ} {scratch scr₁ scr₂ rows rows₁ rows₂ sections sec₁ sec₂ : List ℕ} {a b : Answer}
    → Told (Reprints s n page scratch scr₁ rows rows₁ sections sec₁) a → Told (Reprints s n page scratch scr₂ rows rows₂ sections sec₂) b
    → (a ≡ b) × (scr₁ ≡ scr₂) × (rows₁ ≡ rows₂) × (sec₁ ≡ sec₂)
reprint_answer_one p q = let one = reprint_one p.kept q.kept in (told_one p q one.0, one.1, one.2, one.3)

-- THEOREM (demand 1). `pz_write` has one answer and leaves one content of the buffer.
pub write_answer_one : {l x out out₁ out₂ : List ℕ} {a b : Answer} → Told (Writes l x out out₁) a → Told (Writes l x out out₂) b → (a ≡ b) × (out₁ ≡ out₂)
write_answer_one p q = let one = write_one p.kept q.kept in (told_one p q one.0, one.1)

-- THEOREM (demand 1). `pz_read_back` has one answer and leaves one content of each table.
pub read_back_answer_one : {s list l₁ l₂ text t₁ t₂ : List ℕ} {a b : Answer}
    → Told (ReadsBack s list l₁ text t₁) a → Told (ReadsBack s list l₂ text t₂) b → (a ≡ b) × (l₁ ≡ l₂) × (t₁ ≡ t₂)
read_back_answer_one p q = let one = read_back_one p.kept q.kept in (told_one p q one.0, one.1, one.2)
