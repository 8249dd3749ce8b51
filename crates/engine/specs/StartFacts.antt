-- Where the start facts stand (01, "The rules", rule 1: "for each t, P from its initial pair to that same pair").
use Rattle.std.specs.Prelude.{List, ℕ, ◌+◌, ◌*◌, get_or}
use Rattle.positions.specs.Plans.{Plan, pair, p_at}

-- the start fact of t, whose initial stores are g and a number of locals
abbrev pub start_at : Plan → ℕ → List ℕ → ℕ → ℕ
start_at s g locals t = p_at s t (pair s g (get_or locals t 0)) + pair s g (get_or locals t 0) * s.k
