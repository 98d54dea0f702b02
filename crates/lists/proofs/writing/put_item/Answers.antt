-- `writing::put_item` meets its contract. Assumes nothing.
use Rattle.std.proofs.Common.{arith}
use Rattle.std.proofs.Common.{◌+◌}
use Rattle.std.proofs.lemmas.Slice.{between_is}
use Rattle.lists.proofs.Sizes.{number_bytes, identifier_bytes, string_bytes, operator_bytes_lem}
use Rattle.lists.proofs.writing.put_item.Goals as goal

pub put_number-requires : goal.put_number-requires
put_number-requires c =
    let e = c.in-Number.is in let r = rw (number_bytes c.args.x.now c.args.item _ _ e) at c.requires.0 in r

pub returns-in-Number : goal.returns-in-Number
returns-in-Number c =
    let a = c.args in rw (number_bytes a.x.now a.item _ _ c.in-Number.is) c.put_number.ensures

pub put_text-requires : goal.put_text-requires
put_text-requires c =
    let e = c.in-Identifier.is in let r = rw (identifier_bytes c.args.x.now c.args.item _ _ e) at c.requires.0 in (rw (between_is c.args.x.now c.in-Identifier.start (c.in-Identifier.start + c.in-Identifier.len)) r, omega arith)

pub returns-in-Identifier : goal.returns-in-Identifier
returns-in-Identifier c =
    let a = c.args in rw (identifier_bytes a.x.now a.item _ _ c.in-Identifier.is, ← between_is a.x.now c.in-Identifier.start (c.in-Identifier.start + c.in-Identifier.len)) c.put_text.ensures

pub put_text-requires-in-String : goal.put_text-requires-in-String
put_text-requires-in-String c =
    let e = c.in-String.is in let r = rw (string_bytes c.args.x.now c.args.item _ _ e) at c.requires.0 in (rw (between_is c.args.x.now c.in-String.start (c.in-String.start + c.in-String.len)) r, omega arith)

pub returns-in-String : goal.returns-in-String
returns-in-String c =
    let a = c.args in rw (string_bytes a.x.now a.item _ _ c.in-String.is, ← between_is a.x.now c.in-String.start (c.in-String.start + c.in-String.len)) c.put_text-in-String.ensures

pub put_operator-requires : goal.put_operator-requires
put_operator-requires c =
    let e = c.in-Operator.is in let r = rw (operator_bytes_lem c.args.x.now c.args.item _ e) at c.requires.0 in (r, rw e at c.requires.1)

pub returns-in-Operator : goal.returns-in-Operator
returns-in-Operator c =
    let a = c.args in rw (operator_bytes_lem a.x.now a.item _ c.in-Operator.is) c.put_operator.ensures
