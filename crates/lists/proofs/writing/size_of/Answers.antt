-- `writing::size_of` meets its contract. Assumes nothing.
use mathlib.Core.Logic.{inl, inr}
use Rattle.std.proofs.Common.{length, sym, ap, ◌∙◌, arith}
use Rattle.lists.proofs.Storing.{text_size}
use Rattle.lists.proofs.OperatorBack.{operator_short, operator_long}
use Rattle.lists.proofs.Sizes.{number_bytes, identifier_bytes, string_bytes, operator_bytes_lem}
use Rattle.lists.proofs.writing.size_of.Goals as goal
use Rattle.lists.proofs.writing.size_of.Goals.{In-Identifier}

pub returns-in-Number : goal.returns-in-Number
returns-in-Number c =
    (λ x g. c.number_size.ensures.0 ∙ sym (ap length (number_bytes x c.args.item _ _ c.in-Number.is)), omega (arith, c.number_size.ensures.1))

pub text_size-requires : goal.text_size-requires
text_size-requires c = elim c.in-Identifier.is [ inl p ↦ rw p.1 at c.requires | inr p ↦ rw p.1 at c.requires ]

pub returns-in-Identifier : goal.returns-in-Identifier
returns-in-Identifier c = (
  λ x g. elim c.in-Identifier.is [
    | inl p ↦ c.text_size.ensures.0 5 ∙ sym (ap length (identifier_bytes x c.args.item _ _ p.1) ∙ text_size x _ _ 5 (rw p.1 at g).0)
    | inr p ↦ c.text_size.ensures.0 1 ∙ sym (ap length (string_bytes x c.args.item _ _ p.1) ∙ text_size x _ _ 1 (rw p.1 at g).0)
  ],
  omega (arith, c.text_size.ensures.1, text_size-requires (goal.at.returns-in-Identifier c).In-Identifier),
)

pub returns-then-number-lt32 : goal.returns-then-number-lt32
returns-then-number-lt32 c =
    (λ x g. sym (ap length (operator_bytes_lem x c.args.item _ c.in-Operator.is ∙ operator_short _ c.if-number-lt32.true)), omega arith)

pub returns-else-number-lt32 : goal.returns-else-number-lt32
returns-else-number-lt32 c =
    (λ x g. sym (ap length (operator_bytes_lem x c.args.item _ c.in-Operator.is ∙ operator_long _ c.if-number-lt32.false)), omega arith)
