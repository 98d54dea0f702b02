-- `writing::text_size` meets its contract. Assumes nothing.
use Rattle.std.proofs.Common.{◌+◌, sym, ap, arith}
use Rattle.lists.proofs.Sizes.{short_length, long_length}
use Rattle.lists.proofs.writing.text_size.Goals as goal

pub returns-then-len-le-SHORT : goal.returns-then-len-le-SHORT
returns-then-len-le-SHORT c =
    let n = c.args.len in (λ k. ap (λ m. m + n) (sym (short_length k n c.if-len-le-SHORT.true)), omega arith)

pub returns : goal.returns
returns c =
    let n = c.args.len in (λ k. ap (λ m. m + n) (sym (long_length k n c.if-len-le-SHORT.false)), omega arith)
