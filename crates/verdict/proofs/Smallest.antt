-- Each thread's smallest store for its cell makes the smallest list. If a list has a store for each cell, that is so thread by thread. In row 0
-- the cell of the picked thread u asks for the failed store k, and a list is allowed if any thread v is in k. Compare the two at a place before
-- which they agree. Every thread but u is in its smallest store, so let the place be u. If k is u's own smallest store, the list has none
-- smaller there. Else k is no thread's smallest, and u is the last that reaches it. So v is not after u. It is not before u either: there the
-- lists agree, and ours has smallest stores. So v is u, and the list has k there.
use mathlib.Core.Path.{◌≡◌, sym, ap, subst, ◌∙◌}
use mathlib.Core.Logic.{inl}
use mathlib.Core.List.{List}
use Prim.Native.Nat.{ℕ, suc, ◌≤◌, ◌<◌}
use native.Mathlib.Decide.{dec_lt, ℕ_discrete}
use native.Mathlib.Omega.{arith}
use Rattle.std.proofs.Common.{Some}
use lib.ListN.{length, get_or}
use Rattle.model.specs.Verdict.{◌≼◌}
use Rattle.model.specs.Claims.{First}
use Rattle.reaching.specs.Reaching.{Choice, Picked, already, forced}
use Rattle.verdict.proofs.Lists.{Agree, ≼-where_agree}
use Rattle.reaching.proofs.Numbers.{first_le}
use Rattle.reaching.proofs.CellLaws.{cell_one}

module _ {n : ℕ} {R : ℕ → ℕ → Type 0} (C : ℕ → ℕ) (ls : List ℕ) (count : length ls ≡ n)
    (all : (t : ℕ) → t < n → First (Choice (R t) (C t)) (get_or ls t 0)) where
  -- a list in which each thread's store is one for its cell
  pub each_least : (vs : List ℕ) → length vs ≡ n → ((t : ℕ) → t < n → Choice (R t) (C t) (get_or vs t 0)) → ls ≼ vs
  each_least vs c each =
      ≼-where_agree ls vs (count ∙ sym c) (λ t l same. let tl : t < n = omega arith in first_le (all t tl) (each t tl))

  -- the store k is asked of thread u, and any store of the others
  module _ {k u : ℕ} (own : C u ≡ suc k) (others : (t : ℕ) → ¬ (t ≡ u) → C t ≡ 0) (ul : u < n) where
    pub own_fails : get_or ls u 0 ≡ k
    own_fails = cell_one own (all u ul).here.fits

    other_smallest : (t : ℕ) → t < n → ¬ (t ≡ u) → First (R t) (get_or ls t 0)
    other_smallest t tl ne =
        let x = all t tl in
        record { here = x.here.reached; none = λ q l h. x.none q l (record { fits = inl (others t ne); reached = h }) }

    -- a list in which some thread v is in k
    module _ (p : Picked R n k (Some u)) (vs : List ℕ) (reached : (t : ℕ) → t < n → R t (get_or vs t 0)) (v : ℕ) (vl : v < n)
        (fails : get_or vs v 0 ≡ k) where
      own_le : Picked R n k (Some u) → Agree ls vs u → k ≤ get_or vs u 0
      own_le (already t e l f none) same = let own : u ≡ t = cc in first_le (subst (λ t. First (R t) k) (sym own) f) (reached u ul)
      own_le (forced none (l, a, h)) same = go (dec_lt u v) (dec_lt v u)
        where
          go : Dec (u < v) → Dec (v < u) → k ≤ get_or vs u 0
          go (yes x) y = absurd (h v x vl (rw fails at (reached v vl)))
          go (no x) (yes y) = absurd (none v vl (rw (same v y, fails) at (other_smallest v vl (omega arith))))
          go (no x) (no y) = let e : v ≡ u = omega arith in omega (arith, fails, ap (λ (i : ℕ). get_or vs i 0) e)

      pub fails_least : length vs ≡ n → ls ≼ vs
      fails_least c = ≼-where_agree ls vs (count ∙ sym c) (λ t l same. go t (omega arith) same (ℕ_discrete t u))
        where
          go : (t : ℕ) → t < n → Agree ls vs t → Dec (t ≡ u) → get_or ls t 0 ≤ get_or vs t 0
          go t tl same (no ne) = first_le (other_smallest t tl ne) (reached t tl)
          go t tl same (yes e) = rw e (omega (arith, own_fails, own_le p (λ i l. same i (omega arith))))
