-- `letters::spell` meets its contract. Assumes nothing.
use borrow.Author.Rules.{rules}
use Rattle.store.proofs.Charging.{spell_full, spell_over, spell_yes}
use native.Mathlib.Omega.{arith}
use Rattle.store.proofs.letters.spell.Goals as goal

pub returns-then-height-ge128 : goal.returns-then-height-ge128
returns-then-height-ge128 c = search (rules, spell_full)

pub returns-then-n-used : goal.returns-then-n-used
returns-then-n-used c = search (rules, spell_over)

pub put_letters-requires : goal.put_letters-requires
put_letters-requires c = (c.data_size-n.ensures, omega arith)

pub returns : goal.returns
returns c =
    spell_yes _ _ _ c.requires c.data_size-n.ensures c.if-height-ge128.false c.if-n-used.false (λ i. omega (arith, c.type_inv.b i)) _ c.put_letters.ensures c.put_vector.ensures
