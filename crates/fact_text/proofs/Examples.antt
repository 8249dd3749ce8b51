-- The lines of facts that the document prints are those of the definitions, by computation.
use mathlib.Core.Path.{◌≡◌, refl}
use mathlib.Core.List.{◌++◌}
use Rattle.model.specs.Rules.{G, P, Q}
use Rattle.words.specs.Text.{bytes, digits, decimal, fields, line}
use Rattle.text.specs.Listing.{facts_line, safe_line}
use Rattle.fact_text.specs.FactLines.{fact_line}

-- the recursion table
recursion : facts_line 5
    ++ safe_line
    ++ fact_line (G 0 0 1)
    ++ fact_line (P 0 0 0 0 0)
    ++ fact_line (P 0 0 0 1 1)
    ++ fact_line (Q 0 0 0 0 0 0)
    ++ fact_line (Q 0 0 0 0 1 1)
    ≡ bytes "facts 5\nverdict safe\nG 0 0 1\nP 0 0 0 0 0\nP 0 0 0 1 1\nQ 0 0 0 0 0 0\nQ 0 0 0 0 1 1\n"
unfolding digits decimal fields line
recursion = refl
