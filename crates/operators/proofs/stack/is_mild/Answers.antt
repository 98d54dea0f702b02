-- `stack::is_mild` meets its contract. Assumes nothing.
use Rattle.operators.proofs.Testing.{mild_code_lem, harsh_code}
use Rattle.operators.proofs.stack.is_mild.Goals as goal

pub returns-in-10 : goal.returns-in-10
returns-in-10 c = mild_code_lem _ c.in-10.is

pub returns-in_default : goal.returns-in_default
returns-in_default c = harsh_code _ c.in_default.in_default-own.rest.1
