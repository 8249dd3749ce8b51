-- The position of a fact and the fact at a position (01, "Working memory and claims").
use Rattle.std.proofs.Math.Logic.{ite}
use Rattle.std.specs.Prelude.{ℕ, ◌+◌, ◌-◌, ◌*◌, ◌/◌, ◌%◌, ◌<◌}
use Rattle.std.proofs.Math.Decide.{dec_lt}
use Rattle.files.specs.Table.{Table}
use Rattle.model.specs.Rules.{Fact, G, P, Q}

-- every number of a fact is in its range
abbrev pub Fits : Table → Fact → Type 0
Fits T (G t g g') = (t < T.n) × (g < T.G) × (g' < T.G)
Fits T (P t g l g' l') = (t < T.n) × (g < T.G) × (l < T.L) × (g' < T.G) × (l' < T.L)
Fits T (Q t g l f g' l') = (t < T.n) × (g < T.G) × (l < T.L) × (f < T.F) × (g' < T.G) × (l' < T.L)

-- where the P facts begin, and where the Q facts begin
unfoldable pub base_p : Table → ℕ
base_p T = T.n * (T.G * T.G)

unfoldable pub base_q : Table → ℕ
base_q T = T.n * (T.G * T.G) + T.n * (T.G * T.G) * (T.L * T.L)

-- the position of a fact, by the three formulas of the document
unfoldable pub pos : Table → Fact → ℕ
pos T (G t g g') = (t * T.G + g) * T.G + g'
pos T (P t g l g' l') = base_p T + ((((t * T.G + g) * T.L + l) * T.G + g') * T.L + l')
pos T (Q t g l f g' l') = base_q T + (((((t * T.G + g) * T.L + l) * T.F + f) * T.G + g') * T.L + l')

-- the fact of each kind by its number among its kind: the digits of the number, taken off from the right
unfoldable pub at_g : Table → ℕ → Fact
at_g T p = G (p / T.G / T.G) (p / T.G % T.G) (p % T.G)

unfoldable pub at_p : Table → ℕ → Fact
at_p T p =
    P (p / T.L / T.G / T.L / T.G) (p / T.L / T.G / T.L % T.G) (p / T.L / T.G % T.L) (p / T.L % T.G) (p % T.L)

unfoldable pub at_q : Table → ℕ → Fact
at_q T p =
    Q (p / T.L / T.G / T.F / T.L / T.G) (p / T.L / T.G / T.F / T.L % T.G) (p / T.L / T.G / T.F % T.L)
    (p / T.L / T.G % T.F) (p / T.L % T.G) (p % T.L)

-- the fact at a position below W
unfoldable pub fact_at : Table → ℕ → Fact
fact_at T p = ite (dec_lt p (base_p T)) (at_g T p) (ite (dec_lt p (base_q T)) (at_p T (p - base_p T)) (at_q T (p - base_q T)))
