-- The measure of `places::write_digits` is the number of digits that there is room for. Assumes nothing.
use Rattle.places.proofs.+write_digits.Given as goal

abbrev pub decreases-write_digits : goal.decreases-write_digits
decreases-write_digits l = l.k
