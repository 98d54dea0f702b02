-- The measure of Euclid's rule is the second number, which falls. Assumes nothing.
use Rattle.numbers.proofs.euclid.+gcd.Given as goal

abbrev pub decreases-gcd : goal.decreases-gcd
decreases-gcd l = l.b
