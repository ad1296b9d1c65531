-- The measure of the recursion of `records::put_number`: the number of digits at most.
use Rattle.records.proofs.+put_number.Given as goal

abbrev pub decreases-put_number : goal.decreases-put_number
decreases-put_number l = l.most
