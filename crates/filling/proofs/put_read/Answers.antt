-- `put_read` meets its contract, kind by kind. Assumes nothing.
use Rattle.std.specs.Prelude.{Result, Ok}
use Rattle.tokens.specs.declared.Refused.{Refused}
use Prim.Native.Nat.{ℕ, ◌<◌, ◌≤◌}
use lib.ListN.{length, get_or}
use mathlib.Core.List.{List}
use Rattle.tokens.specs.declared.Read.{Read}
use Rattle.tokens.specs.Token.{token_at}
use mathlib.Core.Path.{◌≡◌, sym, ap, subst}
use mathlib.Core.Bool.{true, false}
use native.Mathlib.Omega.{arith}
use Rattle.tokens.proofs.Theorems.{token_says}
use Rattle.tokens.proofs.Told.{Told}
use Rattle.filling.proofs.Placing.{IsText, identifier_is, string_is, number_room, number_put, operator_room, operator_put, comment_put, text_end}
use Rattle.filling.proofs.Placing.{text_ok, text_put}
use Rattle.filling.proofs.put_read.Goals as goal
use Rattle.filling.proofs.put_read.Goals.{In-Identifier, In-String}

known : (s : List ℕ) (at : ℕ) (t : Result Read Refused) → ((i : ℕ) → get_or s i 0 < 256) → at ≤ length s → t ≡ token_at s at → Told s at t
known s at t b h e = subst (Told s at) (sym e) (token_says s at b h)

name : (c : In-Identifier) → let a = c.args in IsText a.s.now a.place.at (Ok a.t) true 2 c.in-Identifier.len c.in-Identifier.next
name c =
    let a = c.args in
    identifier_is a.s.now a.place.at (Ok a.t) (known _ _ _ (λ i. omega (arith, c.type_inv.s i)) (omega (arith, c.requires.inside)) c.requires.is_there)
    (ap Ok c.in-Identifier.is)

text : (c : In-String) → let a = c.args in IsText a.s.now a.place.at (Ok a.t) false 3 c.in-String.count c.in-String.next
text c =
    let a = c.args in
    string_is a.s.now a.place.at (Ok a.t) (known _ _ _ (λ i. omega (arith, c.type_inv.s i)) (omega (arith, c.requires.inside)) c.requires.is_there)
    (ap Ok c.in-String.is)

pub put_number-requires : goal.put_number-requires
put_number-requires c = number_room c.requires (ap Ok c.in-Number.is)

pub returns-in-Number : goal.returns-in-Number
returns-in-Number c = rw c.past.ensures (number_put c.requires (ap Ok c.in-Number.is) c.put_number.ensures)

pub put_text-requires : goal.put_text-requires
put_text-requires c = text_ok c.requires (name (goal.at.put_text-requires c).In-Identifier)

pub past-requires-in-Identifier : goal.past-requires-in-Identifier
past-requires-in-Identifier c = (
  omega (arith, (text_ok c.requires (name (goal.at.past-requires-in-Identifier c).In-Identifier)).1),
  omega (arith, text_end c.requires (name (goal.at.past-requires-in-Identifier c).In-Identifier)),
)

pub returns-in-Identifier : goal.returns-in-Identifier
returns-in-Identifier c =
    rw c.past-in-Identifier.ensures (text_put c.requires (name (goal.at.returns-in-Identifier c).In-Identifier) c.put_text.ensures)

pub put_text-requires-in-String : goal.put_text-requires-in-String
put_text-requires-in-String c = text_ok c.requires (text (goal.at.put_text-requires-in-String c).In-String)

pub past-requires-in-String : goal.past-requires-in-String
past-requires-in-String c = (
  omega (arith, (text_ok c.requires (text (goal.at.past-requires-in-String c).In-String)).1),
  omega (arith, text_end c.requires (text (goal.at.past-requires-in-String c).In-String)),
)

pub returns-in-String : goal.returns-in-String
returns-in-String c =
    rw c.past-in-String.ensures (text_put c.requires (text (goal.at.returns-in-String c).In-String) c.put_text-in-String.ensures)

pub put_words-requires : goal.put_words-requires
put_words-requires c = operator_room c.requires (ap Ok c.in-Operator.is)

pub returns-in-Operator : goal.returns-in-Operator
returns-in-Operator c = rw c.past-in-Operator.ensures (operator_put c.requires (ap Ok c.in-Operator.is) c.put_words.ensures)

pub returns-in-Comment : goal.returns-in-Comment
returns-in-Comment c = comment_put c.requires (ap Ok c.in-Comment.is)
