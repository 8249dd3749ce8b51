-- `numbers::writing::put` meets its contract: the bytes of a number are its lowest seven bits and the bytes of the rest. The measure is the value.
use Rattle.numbers.proofs.writing.+put.Given as goal

abbrev pub decreases-put : goal.decreases-put
decreases-put l = l.value
