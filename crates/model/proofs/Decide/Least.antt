-- Whether a list of facts is exactly the least relations of a table. A list that holds the start facts and is closed has every derivable
-- fact. Its facts are derivable if passes through it find them all: a fact is found if it is a start fact or follows from facts that are found
-- already, and what it yields is worked out once. If the facts stand in position order, the length of the list is the number of facts.
use mathlib.Core.Path.{◌≡◌, sym, ap, subst, subst⁻¹, ◌∙◌}
use mathlib.Core.Logic.Dec
use mathlib.Core.Option.{Option}
use mathlib.Core.List.Memᴰ
use mathlib.Core.List.{List, [], ◌∷◌, ◌++◌, map, Memᴰ}
use Prim.Native.Nat.{ℕ, zero, suc, ◌<◌}
use native.Mathlib.Decide.{dec_le, dec_lt, map_dec}
use lib.ListN.{length, length-map}
use Rattle.files.specs.Table.{Table, W}
use Rattle.model.specs.Rules.{Fact, start_fact, ClosedWithStarts, Derives, start}
use Rattle.model.specs.Errors.{Witness}
use Rattle.model.specs.Verdict.{Verdict}
use Rattle.model.specs.Positions.{pos, base_p, base_q, at_g, at_p, at_q, fact_at}
use Rattle.model.specs.Memory.{FactCount}
use Rattle.model.proofs.Lists.{from_append, from_cons}
use Rattle.model.proofs.Monotone.{yields_mono, verdict_cast}
use Rattle.model.proofs.Least.{derives_closed, least}
use Rattle.model.proofs.Positions.{stands}
use Rattle.model.proofs.Counting.{Between, listed_counts}
use Rattle.model.proofs.Decide.{each?, member?, up_to, up_to_lt, Enumerates}
use Rattle.model.proofs.Decide.Yields.{fact?, further, further_yields, closed?}

-- ---- the facts that are found

-- facts that are known to be derivable, and what they yield, with the start facts
record Search : Type 0 where
  known : List Fact
  yielded : List Fact

module _ (T : Table) where
  begun : Search
  begun = record { known = []; yielded = map (start_fact T) (up_to T.n) }

  -- a fact that is yielded and was not known is known
  looked : (f : Fact) (s : Search) → Dec (Memᴰ f s.known) → Dec (Memᴰ f s.yielded) → Search
  looked f s (yes _) _ = s
  looked f s (no _) (no _) = s
  looked f s (no _) (yes _) = record { known = f ∷ s.known; yielded = further T f s.known ++ s.yielded }

  -- a look at each fact of a list
  pass : List Fact → Search → Search
  pass [] s = s
  pass (f ∷ fs) s = pass fs (looked f s (member? fact? f s.known) (member? fact? f s.yielded))

  passes : ℕ → List Fact → Search
  passes zero fs = begun
  passes (suc k) fs = pass fs (passes k fs)

  record Derived (s : Search) : Type 0 where
    known : (f : Fact) → Memᴰ f s.known → Derives T f
    yielded : (f : Fact) → Memᴰ f s.yielded → Derives T f

  begun_derived : Derived begun
  unfolding begun
  begun_derived =
      record {
        known = λ f m. elim m [ ];
        yielded = λ f m. let (t, i, e) = Memᴰ.of_map (start_fact T) (up_to T.n) m in subst (Derives T) e (start t (up_to_lt T.n i));
      }

  looked_derived : (f : Fact) (s : Search) (d : Dec (Memᴰ f s.known)) (e : Dec (Memᴰ f s.yielded))
      → Derived s → Derived (looked f s d e)
  unfolding looked
  looked_derived f s (yes _) e h = h
  looked_derived f s (no _) (no _) h = h
  looked_derived f s (no _) (yes m) h =
      let all : (g : Fact) → Memᴰ g (f ∷ s.known) → Derives T g = λ g n. from_cons (Derives T) (h.yielded f m) h.known n in
      record {
        known = all;
        yielded = λ g n.
            from_append (Derives T) (further T f s.known) s.yielded
            (λ g o. derives_closed T g (yields_mono all g (further_yields T f s.known g o))) h.yielded n;
      }

  pass_derived : (fs : List Fact) (s : Search) → Derived s → Derived (pass fs s)
  unfolding pass
  pass_derived [] s h = h
  pass_derived (f ∷ fs) s h = pass_derived fs _ (looked_derived f s _ _ h)

  passes_derived : (k : ℕ) (fs : List Fact) → Derived (passes k fs)
  unfolding passes
  passes_derived zero fs = begun_derived
  passes_derived (suc k) fs = pass_derived fs _ (passes_derived k fs)

module _ (T : Table) (fs : List Fact) where
  -- the facts of the list that k passes find
  pub found : ℕ → List Fact
  found k = (passes T k fs).known

  found_derives : (k : ℕ) (f : Fact) → Memᴰ f (found k) → Derives T f
  unfolding found
  found_derives k = (passes_derived T k fs).known

-- ---- exactness

-- fs is exact: closed with the start facts, found whole by k passes, in position order, and each fact the one at its position. With too
-- few passes the test says no.
pub record Exact (T : Table) (k : ℕ) (fs : List Fact) : Type 0 where
  pub closed : ClosedWithStarts T (λ f. Memᴰ f fs)
  pub whole : (f : Fact) → Memᴰ f fs → Memᴰ f (found T fs k)
  pub order : Between 0 (W T) (map (pos T) fs)
  pub facts : (f : Fact) → Memᴰ f fs → fact_at T (pos T f) ≡ f
  pub sizes : (0 < T.G) × (0 < T.L)

between? : (lo hi : ℕ) (ps : List ℕ) → Dec (Between lo hi ps)
unfolding dec_le Dec.and
between? lo hi [] = dec_le lo hi
between? lo hi (p ∷ ps) = Dec.and (dec_le lo p) (between? (suc p) hi ps)

unfoldable pub exact? : (T : Table) (k : ℕ) (fs : List Fact) → Dec (Exact T k fs)
unfolding each? member? closed? up_to further begun looked pass passes found between? dec_lt W pos base_p base_q at_g at_p at_q fact_at
exact? T k fs =
    map_dec (λ (c, (r, (o, (f, s)))). record { closed = c; whole = r; order = o; facts = f; sizes = s })
    (λ e. (e.closed, (e.whole, (e.order, (e.facts, e.sizes)))))
    (Dec.and (closed? T fs) (Dec.and (each? (λ f. member? fact? f (found T fs k)) fs) (Dec.and (between? 0 (W T) (map (pos T) fs))
    (Dec.and (each? (λ f. fact? (fact_at T (pos T f)) f) fs) (Dec.and (dec_lt 0 T.G) (dec_lt 0 T.L))))))

module _ {T : Table} {k : ℕ} {fs : List Fact} (e : Exact T k fs) where
  -- the derivable facts are those of the list
  pub exact_listed : Enumerates (Derives T) fs
  exact_listed f = (least e.closed f, λ m. found_derives T fs k f (e.whole f m))

  -- and their number is its length
  pub exact_count : FactCount T (length fs)
  exact_count =
      rw (← (length-map fs (pos T)))
      (listed_counts (W T) (map (pos T) fs) e.order
      (λ p l d. Memᴰ.cast (sym (stands T e.sizes.0 e.sizes.1 p l).here) (Memᴰ.map (pos T) ((exact_listed (fact_at T p)).0 d)))
      (λ p m.
      let (f, i, q) = Memᴰ.of_map (pos T) fs m in
      let same : fact_at T p ≡ f = ap (fact_at T) (sym q) ∙ e.facts f i in
      subst⁻¹ (Derives T) same ((exact_listed f).1 i)))

  -- so the verdict on the list is the verdict on the least relations
  pub exact_verdict : {v : Option Witness} → Verdict T (λ f. Memᴰ f fs) v → Verdict T (Derives T) v
  exact_verdict = verdict_cast (λ f. (exact_listed f).1) (λ f. (exact_listed f).0)
