-- `cells::put_vector` meets its contract. Assumes nothing.
use borrow.Author.Rules.{rules}
use Rattle.store.proofs.Charging.{vector_put}
use Rattle.store.proofs.cells.put_vector.Goals as goal

pub returns : goal.returns
returns c = search (rules, vector_put)
