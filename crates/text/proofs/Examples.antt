-- The lines that the document prints, and what two of them are refused for, are those of the definitions, by computation.
use mathlib.Core.Path.{◌≡◌, refl}
use mathlib.Core.List.{[], ◌∷◌, ◌++◌}
use Rattle.std.specs.Prelude.{None, Some}
use Rattle.words.specs.Text.{bytes, digits, decimal, fields, line, note}
use Rattle.text.specs.Listing.{facts_line, possible_line, refused_line, bytes_line, accepted_line, claim_refused_line}
use Rattle.text.specs.Reasons.{reasons, reason_line}

-- the true/false mutex, and empty input
mutex : possible_line 0 0 (0 ∷ 6 ∷ []) ≡ bytes "verdict possible 0 0 0 6\n"
unfolding digits decimal fields line
mutex = refl

empty_input : refused_line 1 0 ≡ bytes "refused 1 0\n"
unfolding digits decimal fields line
empty_input = refl

-- the largest room, and the largest number of 64 bits
largest : facts_line 2360320 ++ facts_line 18446744073709551615 ≡ bytes "facts 2360320\nfacts 18446744073709551615\n"
unfolding digits decimal fields line
largest = refl

-- the recursion table's claims: the facts written, accepted; position 23 lacking; a claim of the version alone
claims : bytes_line 7 ++ accepted_line 5 ++ claim_refused_line 10 23 0 ++ claim_refused_line 1 1 1
    ≡ bytes "bytes 7\naccepted 5\nrefused 10 23 0\nrefused 1 1 1\n"
unfolding digits decimal fields line
claims = refl

-- what the last two are refused for; 0 and a number above 12 have no line
refused_for : (reason_line 10 23 0 ≡ Some (bytes "position 23: a rule gives this fact, and the claim lacks it\n"))
    × (reason_line 1 1 1 ≡ Some (bytes "claim byte 1: the file ends here, and more is due\n"))
    × (reason_line 0 5 0 ≡ None)
    × (reason_line 13 0 0 ≡ None)
unfolding digits decimal note reasons
refused_for = (refl, refl, refl, refl)
