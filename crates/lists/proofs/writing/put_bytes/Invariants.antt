use Rattle.std.proofs.Common.{◌≡◌, ◌+◌, ◌-◌, ◌≤◌, length}
use lib.Seq.{sets}
use Rattle.lists.specs.Written.{bytes_of}
use Rattle.lists.proofs.writing.put_bytes.Given as goal

abbrev pub invariant-loop-i : goal.invariant-loop-i
invariant-loop-i l = (length l.out ≡ length l.initial.out) × (sets l.out l.o (bytes_of (l.k - l.i) l.w) ≡ sets l.initial.out l.o (bytes_of l.k l.v)) × (l.o + l.k ≤ length l.initial.out)
